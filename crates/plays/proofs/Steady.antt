-- What holds of choosing and taking in every state and for all tables, sound or not.
use mathlib.Core.Path.{◌≡◌, refl, sym, ◌∙◌, ap, ap₂, subst}
use mathlib.Core.Logic.{inl, inr}
use mathlib.Core.Bool.{true, ◌&&◌}
use mathlib.Core.List.{List, [], ◌∷◌}
use mathlib.Core.Option.{Option, none, some}
use Prim.Native.Nat.{ℕ, zero, suc, ◌≤◌}
use native.Mathlib.Omega.{arith}
use lib.ListN.{length}
use lib.Dec.{leb}
use borrow.Author.Tests.{le-leb, leb-true}
use Rattle.plan.specs.Lists.{In}
use Rattle.plan.specs.Request.{Row, holding}
use Rattle.plan.specs.Reader.{Read, got, bad}
use Rattle.plan.specs.Sheet.{Sheet, read_sheet}
use Rattle.plan.specs.Route.{Pick}
use Rattle.plan.specs.Grow.{gives, combinations}
use Rattle.plan.specs.Answer.{route_check}
use Rattle.plan.specs.Apart.{case_number, asked_in, done_in, list_in, started, next_pick, call_list, with_choice, Choosing, stays_choosing, choose_next}
use Rattle.plan.specs.Apart.{pick_in, is_taken, is_chosen, with_taken, Taking, stays_taking, zeroes_taking, take_next}
use Rattle.plan.specs.Answer.{Checked}
use Rattle.plan.specs.declared.State.{State}
use Rattle.plan.specs.declared.Step.{Step}
use Rattle.plan.specs.declared.Case.{Case}
use Rattle.plan.specs.declared.Case.TheVariants.{Calls, AllTaken, Taken, Already, Refused}
use Rattle.plan.specs.Demands.{Steady}
use Rattle.plan.proofs.Lists.{by_test, and_left, and_right, and_of}
use Rattle.plan.proofs.Faults.{fault_numbers}
use Rattle.plan.proofs.Check.{check_bad, demand_check}
use Rattle.plan.proofs.Picks.{picks_offered, picks-below}
use Rattle.plays.proofs.Tables.{held-long, held-over, none_fits}
use Rattle.plays.proofs.Done.{taking_length, open_says}
use Rattle.plays.proofs.Called.{list-few, called-ascending, called-are, called_count, called-words}
use Rattle.plays.proofs.Turns.{chosen_by, chooses_over, is_long, choose_short_lem, choose_long, choose_over_lem, choose_none}
use Rattle.plays.proofs.Turns.{choose_some, Chooses, has_short, has-over, has_none, has_some, chooses}
use Rattle.plays.proofs.Turns.{chosen-says, take_long, take_within, take-already}
use Rattle.plays.proofs.Turns.{Takes, stays-short, told_over, stays-already}
use Rattle.plays.proofs.Turns.{stays-unchosen, stays-broken, stays-unasked, grows_over, is-taken, takes, taken_only}
use Rattle.plan.specs.Refusals.{number_of, refused_with}
use Rattle.plan.specs.declared.Refused as Why
use Rattle.plan.specs.declared.Refusal.TheVariants.{ShortTable, TooManyRows}

-- ---- starting

-- where the route check gives 0, its detail is 0
check_plain : (sheet : List ℕ) (r : Read Sheet) → read_sheet sheet ≡ r → (route_check sheet).number ≡ 0
    → (route_check sheet).detail ≡ 0
unfolding In
check_plain sheet (got s end) e z = ((demand_check sheet).plain s end e (λ four. let f : ⊥ = omega arith in f)).1
check_plain sheet (bad fault detail) e z =
    absurd (fault_numbers.own fault (inl (sym (ap (λ (c : Checked). c.number) (check_bad sheet fault detail e)) ∙ z)))

-- starting refuses as the route check
starts : (sheet : List ℕ)
    → ((started sheet).number ≡ (route_check sheet).number) × ((started sheet).detail ≡ (route_check sheet).detail)
unfolding started
starts sheet = go (route_check sheet).number refl
  where
    go : (n : ℕ) → (route_check sheet).number ≡ n
        → ((started sheet).number ≡ (route_check sheet).number) × ((started sheet).detail ≡ (route_check sheet).detail)
    go zero e = rw (e, started) (refl, sym (check_plain sheet (read_sheet sheet) refl e))
    go (suc n) e = rw (e, started) (refl, refl)

-- ---- choosing

-- what choosing comes to, chosen again
abbrev Again : Choosing → Type 0
Again c = choose_next c.turn.state c.first c.second c.calls ≡ c

module _ (st : State) (first second cs : List ℕ) where
  -- where nothing is written and the state stays, it is the same
  again-stays : (c : Case) → choose_next st first second cs ≡ stays_choosing c st first second cs
      → Again (choose_next st first second cs)
  unfolding stays_choosing
  again-stays c e = subst Again (sym e) e

  module _ (a : 8192 ≤ length first) (b : 8192 ≤ length second) (c : 3072 ≤ length cs) where
    -- an earlier 5 zeroes both tables again
    again-over : (k : ℕ) → st.over ≡ suc k → Again (choose_next st first second cs)
    again-over k e =
        let f = holding 8192 [] first in
        let s = holding 8192 [] second in
        let once : Again (chooses_over st (suc k) first second cs) =
        choose_long st f s cs (held-long 8192 [] first) (held-long 8192 [] second) c
        ∙ choose_over_lem st f s cs k e
        ∙ ap₂ (λ x y. record { turn = record { case = refused_with TooManyRows (suc k); state = st }; first = x; second = y; calls = cs })
        (held-over 8192 [] [] first none_fits) (held-over 8192 [] [] second none_fits) in
        subst Again (sym (choose_long st first second cs a b c ∙ choose_over_lem st first second cs k e)) once

    -- a step that is chosen is chosen again, and its calls are written again
    again-some : st.over ≡ 0 → (s : Pick)
        → next_pick (asked_in st) (done_in st) (list_in (asked_in st) (done_in st) st.rows first) ≡ some s
        → Again (choose_next st first second cs)
    unfolding with_choice asked_in done_in
    again-some e s n =
        let q = asked_in st in
        let l = list_in q (done_in st) st.rows first in
        let rows = call_list q s l in
        let told = holding 3072 rows cs in
        let once : Again (chosen_by st q l s first second cs) =
        choose_long (with_choice st s) first second told a b (held-long 3072 rows cs)
        ∙ choose_some (with_choice st s) first second told e s n
        ∙ ap (λ x. record { turn = (chosen_by st q l s first second cs).turn; first = first; second = second; calls = x })
        (held-over 3072 rows rows cs (called-words st s l (list-few q (done_in st) st.rows first))) in
        subst Again (sym (choose_long st first second cs a b c ∙ choose_some st first second cs e s n)) once

    -- with nothing to choose, nothing is written
    again-here : st.over ≡ 0 → (o : Option Pick)
        → next_pick (asked_in st) (done_in st) (list_in (asked_in st) (done_in st) st.rows first) ≡ o
        → Again (choose_next st first second cs)
    again-here e none n = again-stays AllTaken (choose_long st first second cs a b c ∙ choose_none st first second cs e n)
    again-here e (some s) n = again-some e s n

    again-long : (n : ℕ) → st.over ≡ n → Again (choose_next st first second cs)
    again-long zero e = again-here e (next_pick (asked_in st) (done_in st) (list_in (asked_in st) (done_in st) st.rows first)) refl
    again-long (suc k) e = again-over k e

  -- choosing twice is choosing once
  again : Again (choose_next st first second cs)
  again =
      let two = leb 8192 (length first) && leb 8192 (length second) in
      by_test
      (is_long first second cs)
      (λ t.
      let tables = and_left two (leb 3072 (length cs)) t in
      again-long
      (leb-true 8192 (length first) (and_left (leb 8192 (length first)) (leb 8192 (length second)) tables))
      (leb-true 8192 (length second) (and_right (leb 8192 (length first)) (leb 8192 (length second)) tables))
      (leb-true 3072 (length cs) (and_right two (leb 3072 (length cs)) t))
      st.over
      refl)
      (λ f. again-stays (refused_with ShortTable 0) (choose_short_lem st first second cs f))

module _ (st : State) (first second cs : List ℕ) where
  -- calls that are told are those of the pick, and stand in the list of calls
  lists_by : (t : Choosing) → Chooses st first second cs t → (i j n : ℕ) → t.turn.case ≡ Calls i j n
      → (let q = asked_in st in
      let s : Pick = record { lookup = i; rule = j } in
      let asked = call_list q s (list_in q (done_in st) st.rows first) in
      (n ≡ length asked)
      × (t
      ≡ record {
        turn = record { case = Calls i j n; state = with_choice st s };
        first = first;
        second = second;
        calls = holding 3072 asked cs;
      }))
  unfolding stays_choosing
  lists_by t has_short i j n e = absurd (let z : ◌≡◌ {A = ℕ} 0 1 = cc in let f : ⊥ = omega arith in f)
  lists_by t (has-over k) i j n e = absurd (let z : ◌≡◌ {A = ℕ} 0 1 = cc in let f : ⊥ = omega arith in f)
  lists_by t has_none i j n e = absurd (let z : ◌≡◌ {A = ℕ} 0 1 = cc in let f : ⊥ = omega arith in f)
  lists_by t (has_some s) i j n e =
      let q = asked_in st in
      let l = list_in q (done_in st) st.rows first in
      let a : s.lookup ≡ i = cc in
      let b : s.rule ≡ j = cc in
      let c : combinations (gives q s) l ≡ n = cc in
      let p : Pick = record { lookup = i; rule = j } in
      let same : s ≡ p = λ x. record { lookup = a x; rule = b x } in
      let many : n ≡ combinations (gives q p) l = sym c ∙ ap (λ s. combinations (gives q s) l) same in (
        many ∙ sym (called_count q p l),
        ap (λ s. chosen_by st q l s first second cs) same
            ∙ ap (λ m.
            record {
              turn = record { case = Calls i j m; state = with_choice st p };
              first = first;
              second = second;
              calls = holding 3072 (call_list q p l) cs;
            }) (sym many),
      )

-- ---- taking

-- a step that was taken is told as taken already, whatever is delivered
taken_late : (st : State) (step : ℕ) (late first second : List ℕ) → is_chosen st (asked_in st) (done_in st) step ≡ true
    → (joined : List Row)
    → (let after = with_taken st (pick_in st) (length joined) in
    let f = holding 8192 joined first in
    let s = holding 8192 [] second in
    take_next after step late f s ≡ stays_taking Already after f s)
unfolding with_taken is_taken
taken_late st step late first second c joined =
    let after = with_taken st (pick_in st) (length joined) in
    let f = holding 8192 joined first in
    let s = holding 8192 [] second in
    let (next, still_open, can) = chosen-says st (asked_in st) (done_in st) step c in
    let low = picks-below (asked_in st) (pick_in st) (picks_offered (asked_in st) (done_in st) (pick_in st) can) in
    let more = taking_length st (pick_in st) (length joined) low (open_says (done_in st) (pick_in st) still_open) in
    let long = and_of (le-leb 8192 (length f) (held-long 8192 joined first)) (le-leb 8192 (length s) (held-long 8192 [] second)) in
    take_long after step late f s long
    ∙ take_within after step late f s refl
    ∙ take-already after step late f s
    (and_of (le-leb 1 step (omega arith)) (le-leb step (length (done_in after)) (omega arith)))

-- 5 is none of 1, 15, 32 and 16
five_other : (r : Why.Refused) (d : ℕ) → ◌≡◌ {A = Case} (refused_with TooManyRows d) (Refused r) → In (number_of r.refusal) (1 ∷ 15 ∷ 32 ∷ 16 ∷ []) → ⊥
unfolding In case_number
five_other r d e (inl f) = let z : 5 ≡ number_of r.refusal = ap case_number e in omega arith
five_other r d e (inr (inl f)) = let z : 5 ≡ number_of r.refusal = ap case_number e in omega arith
five_other r d e (inr (inr (inl f))) = let z : 5 ≡ number_of r.refusal = ap case_number e in omega arith
five_other r d e (inr (inr (inr (inl f)))) = let z : 5 ≡ number_of r.refusal = ap case_number e in omega arith
five_other r d e (inr (inr (inr (inr f)))) = f

module _ (st : State) (step : ℕ) (sent first second : List ℕ) where
  -- taking a step that was taken is the identity, whatever is delivered
  taken_by : (t : Taking) → Takes st step sent first second t → (s : Step) → t.turn.case ≡ Taken s → (late : List ℕ)
      → take_next t.turn.state step late t.first t.second ≡ stays_taking Already t.turn.state t.first t.second
  taken_by t x s e late =
      taken_only st step sent first second (λ (t : Taking).
      take_next t.turn.state step late t.first t.second ≡ stays_taking Already t.turn.state t.first t.second)
      t x s e (λ c made joined. taken_late st step late first second c joined)

  -- a refusal with one of these leaves the state and both tables
  kept_by : (t : Taking) → Takes st step sent first second t → (r : Why.Refused) → t.turn.case ≡ Refused r
      → In (number_of r.refusal) (1 ∷ 15 ∷ 32 ∷ 16 ∷ []) → t ≡ stays_taking (Refused r) st first second
  unfolding stays_taking zeroes_taking
  kept_by t stays-short r e i = ap (λ c. stays_taking c st first second) e
  kept_by t (told_over j f) r e i = absurd (five_other r (suc j) e i)
  kept_by t stays-already r e i = ap (λ c. stays_taking c st first second) e
  kept_by t stays-unchosen r e i = ap (λ c. stays_taking c st first second) e
  kept_by t stays-broken r e i = ap (λ c. stays_taking c st first second) e
  kept_by t stays-unasked r e i = ap (λ c. stays_taking c st first second) e
  kept_by t (grows_over c) r e i = absurd (five_other r step e i)
  kept_by t (is-taken c made joined) r e i =
      absurd (let z : ◌≡◌ {A = ℕ} 0 1 = cc in let f : ⊥ = omega arith in f)

-- what holds of every state and all tables
pub steady : Steady
steady =
    record {
      starts = starts;
      again = again;
      combine = λ q s l. (called-ascending q s l, called-are q s l, called_count q s l);
      lists = λ st first second cs. lists_by st first second cs _ (chooses st first second cs);
      taken = λ st step sent first second s. taken_by st step sent first second _ (takes st step sent first second) s;
      kept = λ st step sent first second. kept_by st step sent first second _ (takes st step sent first second);
    }
