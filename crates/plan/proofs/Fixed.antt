-- The demands fix what they are asked of. Of all that comes back: which refusal fits is known from the input, the bits of
-- the detail of 4 fix the number, CHAIN's choices fix the route, and ascending rows are fixed by what stands among them.
use mathlib.Core.Path.{◌≡◌, refl, sym, ◌∙◌, ap}
use mathlib.Core.Logic.{◌⊎◌, inl, inr, ◌↔◌}
use mathlib.Core.List.{List, [], ◌++◌, map}
use mathlib.Core.Option.{Option, none, some}
use Prim.Native.Nat.{ℕ, ◌-◌, ◌*◌, ◌≤◌, ◌<◌}
use native.Mathlib.Omega.{arith}
use lib.ListN.{length, drop, replicate}
use lib.Dec.{leb, eqb}
use borrow.Author.Tests.{leb-true, leb-false, eqb-true, eqb-false}
use Rattle.plan.specs.Lists.{Sub, padded}
use Rattle.plan.specs.Request.{Row, Request, row_words, flat}
use Rattle.plan.specs.Reader.{fault_number, Read, got, bad}
use Rattle.plan.specs.Sheet.{Sheet, columns_of, read_sheet}
use Rattle.plan.specs.RowData.{Part, parts, part_rows, request_of}
use Rattle.plan.specs.Route.{total_from}
use Rattle.plan.specs.Grow.{calls, charge_of}
use Rattle.plan.specs.declared.Setting.{Setting}
use Rattle.plan.specs.Answer.{Outcome, steps_from, room, no_step, refusal, Whole}
use Rattle.plan.specs.Answer.{Answer}
use Rattle.plan.specs.Answer.{Checked}
use Rattle.plan.specs.Answer.{Counted}
use Rattle.plan.specs.Demands.{NoRoute, OverAt, NeverBits, Long, Priced, Ready, Meets}
use Rattle.plan.specs.Demands.{DemandCheck, CountsDifferent}
use Rattle.plan.proofs.Lists.{by_test}
use Rattle.plan.proofs.Faults.{number_positive}
use Rattle.plan.proofs.Counts.{shown_list}
use Rattle.plan.proofs.Order.{ascending_equal}
use Rattle.plan.proofs.Sets.{bits_fix}
use Rattle.plan.proofs.Outcomes.{chain-once, Comes, without, over, within, comes}
use Rattle.plan.proofs.Demands.{ready-sound}

-- a demand fixes the result: any two results that meet it are equal
unfoldable pub Fixes : {A : Type 0} → (A → Type 0) → Type 0
Fixes {A} demand = (back back' : A) → demand back → demand back' → back ≡ back'

-- ---- equal in each part, equal in all

answers_equal : (a b : Answer) → a.number ≡ b.number → a.detail ≡ b.detail → a.steps ≡ b.steps
    → a.made ≡ b.made → a.calls ≡ b.calls → a.charge ≡ b.charge → a.rows ≡ b.rows → a ≡ b
answers_equal a b n d s m c h r =
    λ t. record { number = n t; detail = d t; steps = s t; made = m t; calls = c t; charge = h t; rows = r t }

wholes_equal : (w w' : Whole) → w.answer ≡ w'.answer → w.first ≡ w'.first → w.second ≡ w'.second → w ≡ w'
wholes_equal w w' a f s = λ t. record { answer = a t; first = f t; second = s t }

checks_equal : (c c' : Checked) → c.number ≡ c'.number → c.detail ≡ c'.detail → c ≡ c'
checks_equal c c' n d = λ t. record { number = n t; detail = d t }

counts_equal : (c c' : Counted) → c.number ≡ c'.number → c.values ≡ c'.values → c ≡ c'
counts_equal c c' n v = λ t. record { number = n t; values = v t }

-- what each follows from the other of a third follows each from the other
both_ways : {P Q R : Type 0} → (P ↔ R) → (Q ↔ R) → P ↔ Q
both_ways p q = (λ x. q.1 (p.0 x), λ y. p.1 (q.0 y))

-- ---- all that comes back

module _ (tool : Setting) (sheet words first second : List ℕ) (b b' : Whole)
    (m : Meets tool sheet words first second b) (m' : Meets tool sheet words first second b') where
  -- two refusals of the same number leave the same tables
  tables_same : (b.answer.number ≡ 0 → ⊥) → b.answer.number ≡ b'.answer.number
      → (b.first ≡ b'.first) × (b.second ≡ b'.second)
  tables_same n e =
      let n' : b'.answer.number ≡ 0 → ⊥ = λ z. n (e ∙ z) in
      by_test
      (eqb b.answer.number 5)
      (λ t.
      let z = m.demand1.zeroed (eqb-true _ _ t) in
      let z' = m'.demand1.zeroed (sym e ∙ eqb-true _ _ t) in
      (z.0 ∙ sym z'.0, z.1 ∙ sym z'.1))
      (λ f.
      let u = m.demand1.untouched n (eqb-false _ _ f) in
      let u' = m'.demand1.untouched n' (λ z. eqb-false _ _ f (e ∙ z)) in
      (u.0 ∙ sym u'.0, u.1 ∙ sym u'.1))

  -- two refusals of the same number and detail are the same
  refusals_same : (b.answer.number ≡ 0 → ⊥) → b.answer.number ≡ b'.answer.number
      → b.answer.detail ≡ b'.answer.detail → b ≡ b'
  refusals_same n e d =
      let (s, k, c, h, r) = m.demand1.nothing n in
      let (s', k', c', h', r') = m'.demand1.nothing (λ z. n (e ∙ z)) in
      let (f, g) = tables_same n e in
      wholes_equal b b'
      (answers_equal b.answer b'.answer e d (s ∙ sym s') (k ∙ sym k') (c ∙ sym c') (h ∙ sym h') (r ∙ sym r'))
      f g

  -- a refusal that both must give
  refusal-same : (number detail : ℕ) → 1 ≤ number → b.answer ≡ refusal number detail → b'.answer ≡ refusal number detail
      → b ≡ b'
  unfolding refusal
  refusal-same number detail l e e' =
      let a : b.answer ≡ b'.answer = e ∙ sym e' in
      let n : b.answer.number ≡ number = ap (λ (x : Answer). x.number) e in
      refusals_same (λ z. omega arith) (ap (λ (x : Answer). x.number) a) (ap (λ (x : Answer). x.detail) a)

  module _ (q : Request) (r : Ready tool sheet words first second q) where
    -- the bits of the detail of 4 fix it
    four_same : NoRoute q → b ≡ b'
    unfolding NeverBits
    four_same h =
        let (n, d) = (m.demand1.request q r).no_route h in
        let (n', d') = (m'.demand1.request q r).no_route h in
        refusals_same (λ z. omega arith) (n ∙ sym n')
        (bits_fix b.answer.detail b'.answer.detail (λ i. both_ways (d i) (d' i)))

    -- CHAIN's choices fix the route, and ascending rows are fixed by what stands among them
    answer-same : b.answer.number ≡ 0 → b'.answer.number ≡ 0 → b ≡ b'
    unfolding Sub
    answer-same n n' =
        let d = m.demand2 q r n in
        let d' = m'.demand2 q r n' in
        let there : Sub d.rows d'.rows = λ x i. (d'.exactly x).1 ((d.exactly x).0 i) in
        let here : Sub d'.rows d.rows = λ x i. (d.exactly x).1 ((d'.exactly x).0 i) in
        let rows : d.rows ≡ d'.rows = ascending_equal d.rows d'.rows d.ascending d'.ascending there here in
        let route : d.route ≡ d'.route = chain-once tool q d.route d'.route d.is_chain d'.is_chain in
        let held : List Row → List ℕ = λ l. flat l ++ replicate (room tool - length (flat l)) 0 ++ drop (room tool) first in
        wholes_equal b b'
        (answers_equal b.answer b'.answer
        (n ∙ sym n')
        (d.plain ∙ sym d'.plain)
        (d.steps ∙ ap (λ p. padded 12 no_step (steps_from tool q [] p)) route ∙ sym d'.steps)
        (d.made ∙ sym d'.made)
        (d.total ∙ ap (total_from (calls q) []) route ∙ sym d'.total)
        (d.charged ∙ ap (total_from (charge_of tool q) []) route ∙ sym d'.charged)
        (d.counted ∙ ap length rows ∙ sym d'.counted))
        (d.first_table ∙ ap held rows ∙ sym d'.first_table)
        (d.second_table ∙ sym d'.second_table)

    -- a request's outcome fits one number
    ready-same : (o : Outcome) → Comes tool q o → b ≡ b'
    ready-same o (without n) = four_same n
    ready-same o (over p route k a) =
        refusal-same 5 k (omega arith) ((m.demand1.request q r).too_many p route k a) ((m'.demand1.request q r).too_many p route k a)
    ready-same o (within p route f) =
        let few : (k : ℕ) → OverAt tool.limit q p k → ⊥ = λ k a. omega (arith, f k a.low a.high, a.many) in
        answer-same ((m.demand1.request q r).answers p route few) ((m'.demand1.request q r).answers p route few)

  -- the row data is refused, or makes a request
  data_same : Long tool first second → Priced tool → (s : Sheet) (end : ℕ) → read_sheet sheet ≡ got s end
      → (ps : Option (List Part)) → parts (columns_of s.registers) words ≡ ps → b ≡ b'
  data_same long priced s end e none d =
      refusal-same 3 0 (omega arith) (m.demand1.bad_data long priced s end e d) (m'.demand1.bad_data long priced s end e d)
  data_same long priced s end e (some ps) d =
      let q = request_of s (map (part_rows words) ps) in
      let r : Ready tool sheet words first second q =
      record { long = long; priced = priced; said = s; end = end; read = e; places = ps; data_read = d; asks = refl } in
      ready-same q r _ (comes tool q (ready-sound tool sheet words first second q r))

  -- the sheet is refused, or read
  sheet-same : Long tool first second → Priced tool → (x : Read Sheet) → read_sheet sheet ≡ x → b ≡ b'
  sheet-same long priced (bad fault detail) e =
      refusal-same (fault_number fault) detail (number_positive fault) ((m.demand1.bad_sheet long priced fault detail).1 e)
      ((m'.demand1.bad_sheet long priced fault detail).1 e)
  sheet-same long priced (got s end) e = data_same long priced s end e _ refl

  -- p or q is out of range, or both are in it
  price_same : Long tool first second → b ≡ b'
  price_same long =
      let out : (1000 < tool.call) ⊎ (1000 < tool.row) → b ≡ b' =
      λ h. refusal-same 17 0 (omega arith) (m.demand1.bad_price long h) (m'.demand1.bad_price long h) in
      by_test
      (leb tool.call 1000)
      (λ t.
      by_test
      (leb tool.row 1000)
      (λ u. sheet-same long (record { call = leb-true _ _ t; row = leb-true _ _ u }) _ refl)
      (λ f. out (inr (leb-false _ _ f))))
      (λ f. out (inl (leb-false _ _ f)))

  short-same : (length first < room tool) ⊎ (length second < room tool) → b ≡ b'
  short-same h = refusal-same 1 0 (omega arith) (m.demand1.short h) (m'.demand1.short h)

  -- a table is too short, or both are long enough
  all_same : b ≡ b'
  all_same =
      by_test
      (leb (room tool) (length first))
      (λ t.
      by_test
      (leb (room tool) (length second))
      (λ u. price_same (record { one = leb-true _ _ t; two = leb-true _ _ u }))
      (λ f. short-same (inr (leb-false _ _ f))))
      (λ f. short-same (inl (leb-false _ _ f)))

-- nothing else than what the definitions give meets demands 1 and 2: they fix all that comes back
pub demands_fix : (tool : Setting) (sheet words first second : List ℕ) → Fixes (Meets tool sheet words first second)
unfolding Fixes
demands_fix = all_same

-- ---- the route check

module _ (sheet : List ℕ) (c c' : Checked) (d : DemandCheck sheet c) (d' : DemandCheck sheet c') where
  -- of a sheet that is read: there is no route for both, or there is one
  read_same : (s : Sheet) (end : ℕ) → read_sheet sheet ≡ got s end → c ≡ c'
  unfolding NeverBits
  read_same s end e =
      let four = both_ways (d.exactly_four s end e []) (d'.exactly_four s end e []) in
      by_test
      (eqb c.number 4)
      (λ t.
      let n = eqb-true _ _ t in
      let n' = four.0 n in
      checks_equal c c' (n ∙ sym n')
      (bits_fix c.detail c'.detail (λ i. both_ways (d.never s end e n [] i) (d'.never s end e n' [] i))))
      (λ f.
      let p = d.plain s end e (eqb-false _ _ f) in
      let p' = d'.plain s end e (λ n'. eqb-false _ _ f (four.1 n')) in
      checks_equal c c' (p.0 ∙ sym p'.0) (p.1 ∙ sym p'.1))

  check_same : (x : Read Sheet) → read_sheet sheet ≡ x → c ≡ c'
  check_same (bad fault detail) e =
      let p = (d.bad_sheet fault detail).1 e in
      let p' = (d'.bad_sheet fault detail).1 e in
      checks_equal c c' (p.0 ∙ sym p'.0) (p.1 ∙ sym p'.1)
  check_same (got s end) e = read_same s end e

-- the demand fixes what the route check gives
pub check_fixed : (sheet : List ℕ) → Fixes (DemandCheck sheet)
unfolding Fixes
check_fixed sheet c c' d d' = check_same sheet c c' d d' (read_sheet sheet) refl

-- ---- the count

-- the demand fixes the count
pub count_fixed : (table : List ℕ) (rows variable : ℕ) → Fixes (CountsDifferent table rows variable)
unfolding Fixes
count_fixed table rows variable c c' d d' =
    let refused : (15 < variable) ⊎ ((512 < rows) ⊎ (length table < row_words * rows)) → c ≡ c' =
    λ h. let (n, v) = d.refuses h in let (n', v') = d'.refuses h in counts_equal c c' (n ∙ sym n') (v ∙ sym v') in
    by_test
    (leb variable 15)
    (λ t.
    by_test
    (leb rows 512)
    (λ u.
    by_test
    (leb (row_words * rows) (length table))
    (λ w.
    let (ys, once, same) = shown_list table rows variable in
    let (n, v) = d.answers (leb-true _ _ t) (leb-true _ _ u) (leb-true _ _ w) in
    let (n', v') = d'.answers (leb-true _ _ t) (leb-true _ _ u) (leb-true _ _ w) in
    counts_equal c c' (n ∙ sym n') (v ys once same ∙ sym (v' ys once same)))
    (λ f. refused (inr (inr (leb-false _ _ f)))))
    (λ f. refused (inr (inl (leb-false _ _ f)))))
    (λ f. refused (inl (leb-false _ _ f)))
