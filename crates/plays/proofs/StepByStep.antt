-- Choosing and taking, apart, step by step: the state before the first step, choosing, taking a right delivery, refusal 5, and the
-- end, in the states of CHAIN's route.
use mathlib.Core.Path.{◌≡◌, refl, sym, ◌∙◌, ap, subst}
use mathlib.Core.Logic.{inl, inr, ⊎_elim}
use mathlib.Core.List.{List, [], ◌∷◌, ◌++◌}
use Prim.Native.Nat.{ℕ, suc, ◌+◌, ◌≤◌, ◌<◌}
use native.Mathlib.Omega.{arith}
use lib.ListN.{length, get_or, take}
use lib.Seq.{take-suc, take_all}
use Rattle.plan.specs.Lists.{In, Sub}
use Rattle.plan.specs.Request.{Row, Request, holding}
use Rattle.plan.specs.Route.{Pick, lookups, Chosen}
use Rattle.plan.specs.Grow.{known, usable, listed, calls, charge_of}
use Rattle.plan.specs.Answer.{answered_from, list_after, step_in, full}
use Rattle.plan.specs.Apart.{asked_in, done_in, list_in, call_list, with_choice, stays_choosing, choose_next}
use Rattle.plan.specs.Apart.{with_taken, Taking, zeroes_taking, take_joined, take_next}
use Rattle.plan.specs.declared.State.{State}
use Rattle.plan.specs.declared.Case.{Case}
use Rattle.plan.specs.declared.Case.TheVariants.{Calls, AllTaken, Taken}
use Rattle.plan.specs.Demands.{size, RouteOf, ChainRoute, Ready, no_pick, RightDelivery, AtStep}
use Rattle.plan.proofs.Lists.{in_head}
use Rattle.plan.proofs.Picks.{picks_offered, picks-below}
use Rattle.plan.proofs.Listed.{known_same, known-sub, listed_satisfies, listed-ascending}
use Rattle.plan.proofs.Greedy.{answered-lookups}
use Rattle.plan.proofs.Steps.{answered_snoc, list_snoc}
use Rattle.plan.proofs.Demands.{ready-sound}
use Rattle.plays.proofs.Done.{taking_says, taking_of}
use Rattle.plays.proofs.Held.{list_held}
use Rattle.plays.proofs.Turns.{take-many, take-few}
use Rattle.plays.proofs.Stored.{ready-fits}
use Rattle.plays.proofs.AtStep.{Here, ready-wide, step_there, step-chosen, here}
use Rattle.plays.proofs.Step.{step-chooses, all-taken, step_same, takes-joined}
use Rattle.plan.specs.Refusals.{refused_with}
use Rattle.plan.specs.declared.Refusal.TheVariants.{TooManyRows}

module _ (sheet words first second : List ℕ) (q : Request) (r : Ready full sheet words first second q)
    (p : List Pick) (c : ChainRoute full q p) (k : ℕ) where
  -- the look-ups that are answered after k steps
  abbrev after : List ℕ
  after = answered_from [] (take k p)

  -- step k + 1
  abbrev next : Pick
  next = get_or p k no_pick

  -- the list after it
  abbrev joined : List Row
  joined = listed q (next.lookup ∷ after)

  module _ (h : k < size q) where
    -- the first k + 1 steps are the first k and this one
    pub one_more : take (1 + k) p ≡ take k p ++ (next ∷ [])
    one_more =
        ap (λ n. take n p) (let e : 1 + k ≡ suc k = omega arith in e)
        ∙ take-suc p k no_pick (step_there sheet words first second q r p c k h)

    -- so the look-ups answered after them are these
    pub more-answered : answered_from [] (take (1 + k) p) ≡ next.lookup ∷ after
    more-answered = ap (answered_from []) one_more ∙ answered_snoc [] (take k p) next

    -- and this is the list
    more-listed : list_after q (take (1 + k) p) ≡ joined
    more-listed = ap (list_after q) one_more ∙ list_snoc q (take k p) next

    -- the step is CHAIN's choice
    chosen : Chosen (usable q) (charge_of full q) after next
    chosen = step-chosen sheet words first second q r p c k h

    -- its look-up is one of the request
    low : next.lookup < size q
    unfolding size
    low = picks-below q next (picks_offered q after next chosen.can)

    module _ (st : State) (t u : List ℕ) (at : AtStep sheet q p first second k st t u) where
      -- the state and the tables
      now : Here q after k first second st t u
      now =
          let l : k ≤ length p = omega (arith, step_there sheet words first second q r p c k h) in
          here sheet words first second q r p c k st t u at l

      -- choosing gives the step, with its exact calls
      pub chooses : (cs : List ℕ) → 3072 ≤ length cs
          → choose_next st t u cs
          ≡ record {
            turn = record { case = Calls next.lookup next.rule (calls q after next); state = with_choice st next };
            first = t;
            second = u;
            calls = holding 3072 (call_list q next (listed q after)) cs;
          }
      chooses cs long = step-chooses q after k first second st t u now cs long next chosen

      -- the state after it
      abbrev then : State
      then = with_taken (with_choice st next) next (length joined)

      -- the look-up is one of those asked
      low-here : next.lookup < length (asked_in (with_choice st next)).goals
      unfolding with_choice asked_in size
      low-here = omega (arith, low, now.without.routes.count)

      -- the look-ups answered then
      then_says : (i : ℕ) → In i (done_in then) → In i (next.lookup ∷ after)
      unfolding with_choice done_in asked_in In Sub
      then_says i j = ⊎_elim inl (λ x. inr (now.there i x)) (taking_says (with_choice st next) next (length joined) low-here i j)

      then_of : (i : ℕ) → In i (next.lookup ∷ after) → In i (done_in then)
      unfolding with_choice done_in asked_in In Sub
      then_of i j = taking_of (with_choice st next) next (length joined) low-here i (⊎_elim inl (λ x. inr (now.back i x)) j)

      -- so the variables of the list are known then
      then_known : Sub (known q (next.lookup ∷ after)) (known (asked_in then) (done_in then))
      unfolding with_taken with_choice asked_in Sub
      then_known v i =
          subst (In v) (sym (known_same (asked_in st) q now.without.routes (done_in then)))
          (known-sub q (next.lookup ∷ after) (done_in then) then_of v i)

      -- the list then
      then_list : length joined ≤ 512 → list_in (asked_in then) (done_in then) (length joined) (holding 8192 joined t) ≡ joined
      unfolding Sub
      then_list few =
          let sound = ready-sound full sheet words first second q r in
          list_held (asked_in then) (done_in then) next.lookup (then_of next.lookup (in_head next.lookup after)) joined t few
          (ready-wide sheet words first second q r (next.lookup ∷ after)) (listed-ascending q (next.lookup ∷ after))
          (λ x i v n. (listed_satisfies q sound (next.lookup ∷ after) x i).zeros v (λ m. n (then_known v m)))

      -- the state and the tables are those after k + 1 steps
      then_at : length joined ≤ 512 → AtStep sheet q p first second (1 + k) then (holding 8192 joined t) (holding 8192 [] u)
      unfolding with_taken with_choice
      then_at few =
          record {
            asked = at.asked;
            done = λ i. (
              λ j. (answered-lookups (take (1 + k) p) i).0 (subst (In i) (sym more-answered) (then_says i j)),
              λ j. then_of i (subst (In i) more-answered ((answered-lookups (take (1 + k) p) i).1 j)),
            );
            rows = ap length (sym more-listed);
            within = refl;
            list = then_list few ∙ sym more-listed;
            before = λ z. absurd (let f : ⊥ = omega arith in f);
            after = λ l. (now.holds joined ∙ ap (λ x. holding 8192 x first) (sym more-listed), now.clears);
          }

      module _ (sent : List ℕ) (d : RightDelivery q after next sent) where
        -- taking it comes to the joined list
        comes : take_next (with_choice st next) (1 + k) sent t u
            ≡ take_joined (with_choice st next) (asked_in st) next (1 + k) (listed q after) d.rows joined t u
        comes =
            takes-joined q after k first second st t u now (ready-sound full sheet words first second q r) next chosen
            (ready-fits full sheet words first second q r next.lookup low) sent d

        -- taking a right delivery gives the step of the whole answer, and the state and the tables after it
        pub takes : length (list_after q (take (1 + k) p)) ≤ 512
            → (let b = take_next (with_choice st next) (1 + k) sent t u in
            (b.turn.case ≡ Taken (step_in full q after next))
            × AtStep sheet q p first second (1 + k) b.turn.state b.first b.second)
        takes l =
            let few : length joined ≤ 512 = omega (arith, ap length more-listed) in
            let on = with_choice st next in
            let is = comes ∙ take-few on (1 + k) sent t u (asked_in st) (done_in st) next (listed q after) d.rows joined few in
            let told =
            step_same q after k first second st t u now (ready-sound full sheet words first second q r) next chosen
            (ready-fits full sheet words first second q r next.lookup low) sent d in
            subst (λ (b : Taking).
            (b.turn.case ≡ Taken (step_in full q after next))
            × AtStep sheet q p first second (1 + k) b.turn.state b.first b.second)
            (sym is) (ap {B = Case} Taken told, then_at few)

        -- or refusal 5, where it yields over 512 rows
        pub exceeds : 512 < length (list_after q (take (1 + k) p))
            → (let b = take_next (with_choice st next) (1 + k) sent t u in
            (b.turn.case ≡ refused_with TooManyRows (1 + k)) × (b.first ≡ holding 8192 [] first) × (b.second ≡ holding 8192 [] second))
        unfolding zeroes_taking
        exceeds l =
            let many : 512 < length joined = omega (arith, ap length more-listed) in
            let on = with_choice st next in
            let is = comes ∙ take-many on (1 + k) sent t u (asked_in st) (done_in st) next (listed q after) d.rows joined many in
            subst (λ (b : Taking).
            (b.turn.case ≡ refused_with TooManyRows (1 + k)) × (b.first ≡ holding 8192 [] first) × (b.second ≡ holding 8192 [] second))
            (sym is) (refl, now.holds [], now.clears)

module _ (sheet words first second : List ℕ) (q : Request) (r : Ready full sheet words first second q)
    (p : List Pick) (c : ChainRoute full q p) where
  -- after the last step choosing says that all are taken
  pub ends : (st : State) (t u cs : List ℕ) → AtStep sheet q p first second (size q) st t u → 3072 ≤ length cs
      → choose_next st t u cs ≡ stays_choosing AllTaken st t u cs
  unfolding RouteOf size
  ends st t u cs at long =
      let places : size q ≡ length p = sym c.is_route.whole.places in
      let now = here sheet words first second q r p c (size q) st t u at (omega arith) in
      all-taken q (answered_from [] (take (size q) p)) (size q) first second st t u now cs long
      (λ i l.
      (at.done i).1
      (subst (λ (x : List Pick). In i (lookups x)) (sym (take_all (size q) p (omega arith)))
      (c.is_route.whole.each i (omega (arith, l, now.without.routes.count)))))
