-- One step, apart: in the state of CHAIN's route choosing gives the next step, and taking a right delivery for it joins the next
-- list.
use mathlib.Core.Path.{◌≡◌, refl, ◌∙◌, ap, ap₂}
use mathlib.Core.Bool.{true, false, and-false}
use mathlib.Core.List.{List, ◌∷◌}
use Prim.Native.Nat.{ℕ, ◌+◌, ◌≤◌, ◌<◌}
use native.Mathlib.Omega.{arith}
use lib.ListN.{length}
use lib.Dec.{leb}
use borrow.Author.Tests.{le-leb, lt-leb}
use Rattle.plan.specs.Lists.{In, Sub}
use Rattle.plan.specs.Request.{Row, Request, goal_at, holding}
use Rattle.plan.specs.Route.{Pick, Chosen}
use Rattle.plan.specs.Grow.{known, usable, listed, calls, charge_of}
use Rattle.plan.specs.Answer.{step_in, full}
use Rattle.plan.specs.Apart.{asked_in, done_in, next_pick, call_list, with_choice, stays_choosing, choose_next}
use Rattle.plan.specs.Apart.{is_taken, is_chosen, is_whole, delivered_rows, all_asked, joined_with, step_taken}
use Rattle.plan.specs.Apart.{take_joined, take_rows, take_next}
use Rattle.plan.specs.declared.State.{State}
use Rattle.plan.specs.declared.Case.TheVariants.{Calls, AllTaken}
use Rattle.plan.specs.Demands.{RightDelivery}
use Rattle.plan.proofs.Words.{Sound, SameRoutes}
use Rattle.plan.proofs.Lists.{and_of}
use Rattle.plan.proofs.Rows.{join-known}
use Rattle.plan.proofs.Listed.{known_same, gives_same, known-sub}
use Rattle.plan.proofs.Charges.{charge-calls}
use Rattle.plays.proofs.Done.{open_of}
use Rattle.plays.proofs.Choice.{usable-here, calls-here, next_some, next_none}
use Rattle.plays.proofs.Turns.{chosen_by, choose_long, choose_none, choose_some, chosen_of}
use Rattle.plays.proofs.Turns.{take_long, take_within, take-chosen, take_whole, take-asked}
use Rattle.plays.proofs.AtStep.{Here}
use Rattle.plays.proofs.Stored.{Fits}
use Rattle.plays.proofs.Right.{right_whole, right_rows, right_asked, right_sent, right_joined}

-- the calls of a pick are the same without the rows
called_same : (e q : Request) → SameRoutes e q → (s : Pick) (l : List Row) → call_list e s l ≡ call_list q s l
unfolding call_list
called_same e q same s l = rw (gives_same e q same s)

module _ (q : Request) (A : List ℕ) (k : ℕ) (first₀ second₀ : List ℕ) (st : State) (first second : List ℕ)
    (here : Here q A k first₀ second₀ st first second) where
  -- the request without its rows, and the look-ups answered
  abbrev e : Request
  e = asked_in st

  abbrev D : List ℕ
  D = done_in st

  -- the two have the same routes
  same : SameRoutes e q
  same = here.without.routes

  -- ---- choosing

  module _ (cs : List ℕ) (long : 3072 ≤ length cs) where
    -- CHAIN's choice is chosen, with its exact calls
    pub step-chooses : (s : Pick) → Chosen (usable q) (charge_of full q) A s
        → choose_next st first second cs
        ≡ record {
          turn = record { case = Calls s.lookup s.rule (calls q A s); state = with_choice st s };
          first = first;
          second = second;
          calls = holding 3072 (call_list q s (listed q A)) cs;
        }
    step-chooses s c =
        let pick = ap (next_pick e D) here.list ∙ next_some e q same D A here.there here.back s c in
        choose_long st first second cs here.first-long here.second-long long
        ∙ choose_some st first second cs here.within s pick
        ∙ ap (λ l. chosen_by st e l s first second cs) here.list
        ∙ ap₂ (λ n x. record {
          turn = record { case = Calls s.lookup s.rule n; state = with_choice st s };
          first = first;
          second = second;
          calls = holding 3072 x cs;
        }) (calls-here e q same D A here.there here.back s) (called_same e q same s (listed q A))

    -- with all look-ups answered nothing is
    pub all-taken : ((i : ℕ) → i < length e.goals → In i D)
        → choose_next st first second cs ≡ stays_choosing AllTaken st first second cs
    all-taken all =
        let pick = ap (next_pick e D) here.list ∙ next_none e q same D A here.there here.back all in
        choose_long st first second cs here.first-long here.second-long long
        ∙ choose_none st first second cs here.within pick

  -- ---- taking

  module _ (sound : Sound q) (s : Pick) (c : Chosen (usable q) (charge_of full q) A s) (fits : Fits (goal_at q s.lookup))
      (sent : List ℕ) (d : RightDelivery q A s sent) where
    -- the look-up has the same columns
    columns-same : length (goal_at e s.lookup).vars ≡ length (goal_at q s.lookup).vars
    columns-same = ap length (same.vars s.lookup)

    -- each row was asked for
    asked_here : all_asked e s (listed q A) d.rows ≡ true
    unfolding all_asked
    asked_here = rw (same.rules s.lookup, same.vars s.lookup) (right_asked q A s sent d)

    -- the rows joined with the list give the next one
    joined-here : joined_with e D s d.rows (listed q A) ≡ listed q (s.lookup ∷ A)
    unfolding joined_with
    joined-here =
        let vs = (goal_at q s.lookup).vars in
        rw (known_same e q same D, same.vars s.lookup, here.without.never)
        (join-known vs (known q D) (known q A) (known-sub q D A here.there) (known-sub q A D here.back) _ (listed q A)
        ∙ right_joined q A s sent d sound c.can)

    -- the step that is told is the one of the whole answer
    pub step_same : step_taken e s (listed q A) d.rows (listed q (s.lookup ∷ A)) ≡ step_in full q A s
    unfolding step_taken step_in full
    step_same =
        rw (
          calls-here e q same D A here.there here.back s,
          right_sent q A s sent d,
          charge-calls q full refl refl A s,
        )

    -- it is not taken yet
    taken_not : is_taken (length D) (1 + k) ≡ false
    unfolding is_taken
    taken_not = rw (lt-leb (1 + k) (length D) (omega (arith, here.count))) (and-false (leb 1 (1 + k)))

    -- it is chosen
    chosen_there : is_chosen (with_choice st s) e D (1 + k) ≡ true
    unfolding with_choice Sub
    chosen_there =
        chosen_of (with_choice st s) e D (1 + k) (omega (arith, here.count)) refl
        (open_of D s (λ i. c.still_open (here.there s.lookup i)))
        (usable-here e q same D A here.there here.back s ∙ c.can)

    -- taking comes to the joined list
    pub takes-joined : take_next (with_choice st s) (1 + k) sent first second
        ≡ take_joined (with_choice st s) e s (1 + k) (listed q A) d.rows (listed q (s.lookup ∷ A)) first second
    unfolding with_choice asked_in done_in
    takes-joined =
        let on = with_choice st s in
        let n = 1 + k in
        let long = and_of (le-leb 8192 (length first) here.first-long) (le-leb 8192 (length second) here.second-long) in
        let whole = ap (λ w. is_whole w (length sent)) columns-same ∙ right_whole q A s sent d fits in
        let rows = ap (λ w. delivered_rows w sent) columns-same ∙ right_rows q A s sent d fits in
        take_long on n sent first second long
        ∙ take_within on n sent first second here.within
        ∙ take-chosen on n sent first second taken_not chosen_there
        ∙ take_whole on n sent first second e D s whole
        ∙ ap₂ (λ l xs. take_rows on e D s n l xs first second) here.list rows
        ∙ take-asked on n sent first second e D s (listed q A) d.rows asked_here
        ∙ ap (λ joined. take_joined on e s n (listed q A) d.rows joined first second) joined-here
