-- What the contracts say to callers: the look-ups that are answered, and the rows of a list that holds together.
use mathlib.Core.Path.{◌≡◌, sym, ◌∙◌, ap}
use mathlib.Core.Logic.{⊎_elim}
use mathlib.Core.Bool.{true, false, ◌&&◌, ◌||◌}
use mathlib.Core.List.{List, [], ◌∷◌}
use Prim.Native.Nat.{ℕ, ◌≤◌, ◌<◌}
use native.Mathlib.Omega.{arith}
use lib.Dec.{eqb, leb}
use lib.ListN.{length, get_or}
use borrow.Author.Tests.{eqb-true, leb-true}
use Rattle.plan.specs.Lists.{In, has, every, numbers, Ascending, lt_row, in_set, set_of, vars_in}
use Rattle.plan.specs.Request.{Row, Request, row_words, rows_by}
use Rattle.plan.specs.Grow.{known}
use Rattle.plan.specs.Apart.{answered_in, done_in, is_ascending, is_blank, is_list, list_rows}
use Rattle.plan.specs.declared.State.{State}
use Rattle.plan.proofs.Lists.{by_test, and_left, and_right, or_cases, every_in, every_of, tests_same, has_in, eqb_faithful, in_those, those_in}
use Rattle.plan.proofs.Numbers.{in_numbers, numbers_in}
use Rattle.plan.proofs.Order.{lt_row_trans}
use Rattle.plan.proofs.Sets.{set-has, vars-has}
use Rattle.sheet.specs.declared.Fields.{Fields}
use Rattle.choose.specs.Held.{route_request}
use Rattle.choose.proofs.HeldLaws.{tells-held}
use Rattle.choose.proofs.States.{InState}
use Rattle.stand.specs.Held.{Asks, DoneBy}
use Rattle.stand.specs.declared.Done.{Done}
use Rattle.stand.proofs.RowsLaws.{rows_all, rows_none}

-- ---- look-ups answered

-- what is answered of n look-ups is below n, and in the set
pub in_answered : (set n i : ℕ) → In i (answered_in set n) → (i < n) × (in_set set i ≡ true)
unfolding answered_in
in_answered set n i h =
    let (j, t) = in_those (in_set set) (numbers 0 n) i h in
    (omega (arith, in_numbers 0 n i j), t)

-- and the other way round
pub answered_in_lem : (set n i : ℕ) → i < n → in_set set i ≡ true → In i (answered_in set n)
unfolding answered_in
answered_in_lem set n i h t = those_in (in_set set) (numbers 0 n) i (numbers_in 0 n i (omega arith) (omega arith)) t

-- the look-ups that are answered in a state, by the fields of its sheet
pub done_in_lem : (st : State) (f : Fields) → Asks st f → done_in st ≡ answered_in st.answered f.lookups
unfolding done_in
done_in_lem st f asks =
    ap (answered_in st.answered)
    (ap (λ (q : Request). length q.goals) asks.asks ∙ (tells-held f asks.small []).size)

-- the sets stand for what is answered
pub done-state : (f : Fields) (set : ℕ) (d : Done) → DoneBy f set d
    → InState (route_request f) (answered_in set f.lookups) d.known d.answered
done-state f set d done = record { known_is = done.knows; answered-is = done.answers }

-- ---- rows of a list

-- rows of which each comes before the next ascend
ascending_of : (rows : List Row) → is_ascending rows ≡ true → Ascending rows
unfolding is_ascending Ascending In
ascending_of [] h = tt
ascending_of (r ∷ []) h = (λ s i. absurd i, tt)
ascending_of (r ∷ s ∷ rs) h =
    let first : lt_row r s ≡ true = and_left (lt_row r s) (is_ascending (s ∷ rs)) h in
    let rest : Ascending (s ∷ rs) = ascending_of (s ∷ rs) (and_right (lt_row r s) (is_ascending (s ∷ rs)) h) in
    (λ t i. ⊎_elim (λ e. rw e first) (λ j. lt_row_trans r s t first (rest.0 t j)) i, rest)

-- whether a row is 0 at unknown variables is said by which of the variables below 16 are known
blank_same : (ks ls : List ℕ) → ((v : ℕ) → v < 16 → has eqb v ks ≡ has eqb v ls) → (r : Row) → is_blank ks r ≡ is_blank ls r
unfolding is_blank
blank_same ks ls same r =
    tests_same _ _ (go ks ls same) (go ls ks (λ v h. sym (same v h)))
  where
    go : (ks ls : List ℕ) → ((v : ℕ) → v < 16 → has eqb v ks ≡ has eqb v ls)
        → every (λ v. has eqb v ks || eqb (get_or r v 0) 0) (numbers 0 row_words) ≡ true
        → every (λ v. has eqb v ls || eqb (get_or r v 0) 0) (numbers 0 row_words) ≡ true
    go ks ls same h =
        every_of _ (numbers 0 row_words)
        (λ v i.
        ap (λ b. b || eqb (get_or r v 0) 0) (sym (same v (omega (arith, in_numbers 0 row_words v i))))
        ∙ every_in _ (numbers 0 row_words) h v i)

-- so the set of the known variables is enough
pub rows-known : (q : Request) (A : List ℕ) (knows : ℕ) → knows ≡ set_of (known q A)
    → (rows : ℕ) (t : List ℕ) → list_rows (vars_in knows) rows t ≡ list_rows (known q A) rows t
unfolding list_rows is_list
rows-known q A knows e rows t =
    let same : (r : Row) → is_blank (vars_in knows) r ≡ is_blank (known q A) r =
    blank_same (vars_in knows) (known q A) (λ v h. vars-has knows v h ∙ ap (λ m. in_set m v) e ∙ set-has (known q A) v h) in
    let rs : List Row = rows_by row_words rows t in
    λ k. elim (leb rows 512 && (is_ascending rs && every (λ r. same r k) rs)) [ true ↦ rows | false ↦ 0 ]

-- a list has 512 rows at most
pub rows_few : (ks : List ℕ) (rows : ℕ) (t : List ℕ) → list_rows ks rows t ≤ 512
rows_few ks rows t =
    by_test (leb rows 512 && is_list ks (rows_by row_words rows t))
    (λ y. rw (rows_all ks rows t y) (leb-true rows 512 (and_left (leb rows 512) _ y)))
    (λ n. rw (rows_none ks rows t n) (omega arith))

-- a row that passes is 0 at each variable that is not known
blank_at : (ks : List ℕ) (r : Row) → is_blank ks r ≡ true → (v : ℕ) → v < 16 → (In v ks → ⊥) → get_or r v 0 ≡ 0
unfolding is_blank
blank_at ks r h v low new =
    ⊎_elim (λ y. absurd (new (has_in eqb eqb_faithful v ks y))) (eqb-true (get_or r v 0) 0)
    (or_cases (has eqb v ks) (eqb (get_or r v 0) 0)
    (every_in _ (numbers 0 row_words) h v (numbers_in 0 row_words v (omega arith) (omega arith))))

-- they ascend, and are 0 at variables that are not known
pub rows-hold : (ks : List ℕ) (rows : ℕ) (t : List ℕ)
    → Ascending (rows_by row_words (list_rows ks rows t) t)
    × ((r : Row) → In r (rows_by row_words (list_rows ks rows t) t) → (v : ℕ) → v < 16 → (In v ks → ⊥) → get_or r v 0 ≡ 0)
unfolding is_list Ascending In rows_by
rows-hold ks rows t =
    by_test (leb rows 512 && is_list ks rs)
    (λ y.
    let list = and_right (leb rows 512) (is_list ks rs) y in
    let up : Ascending rs = ascending_of rs (and_left (is_ascending rs) (every (is_blank ks) rs) list) in
    let blank = every_in (is_blank ks) rs (and_right (is_ascending rs) (every (is_blank ks) rs) list) in
    rw (rows_all ks rows t y) (up, λ r i. blank_at ks r (blank r i)))
    (λ n. rw (rows_none ks rows t n) (tt, λ r i. absurd i))
  where
    rs : List Row
    rs = rows_by row_words rows t
