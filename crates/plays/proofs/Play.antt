-- A whole play comes to the whole answer: with a right delivery for each step of CHAIN's route, field by field and word by word.
use mathlib.Core.Path.{◌≡◌, refl, sym, ◌∙◌, ap, ap₂, subst}
use mathlib.Core.List.{List, [], ◌∷◌, ◌++◌}
use Prim.Native.Nat.{ℕ, suc, ◌+◌, ◌≤◌, ◌<◌}
use native.Mathlib.Omega.{arith}
use lib.ListN.{length, get_or, take, drop, replicate, length-map, length-replicate, drop_of_length-le}
use lib.Seq.{drop-cons, take_all, length-take-le}
use lib.Dec.{leb, ltb, eqb}
use borrow.Author.Tests.{ltb-true, ltb-false, leb-true, leb-false, eqb-true, eqb-false}
use Rattle.plan.specs.Request.{Request}
use Rattle.plan.specs.Route.{Pick}
use Rattle.plan.specs.RowData.{request_of}
use Rattle.plan.specs.Answer.{answered_from, list_after, step_in, steps_from, refusal, Whole, full, whole}
use Rattle.plan.specs.Apart.{with_choice, Choosing, Taking, choose_next, take_next, started, answer_with, play_from}
use Rattle.plan.specs.declared.State.{State}
use Rattle.plan.specs.declared.Step.{Step}
use Rattle.plan.specs.declared.Case.{Case}
use Rattle.plan.specs.declared.Case.TheVariants.{Calls, AllTaken, Taken, Already, Refused}
use Rattle.plan.specs.Demands.{size, RouteOf, ChainRoute, OverAt, Ready, no_pick, RightDelivery, RightFrom, AtStep, StepByStep}
use Rattle.plan.proofs.Lists.{by_test}
use Rattle.plan.proofs.Steps.{steps_snoc, steps-length}
use Rattle.sheet.proofs.Fine.{read-fine}
use Rattle.plays.proofs.StepByStep.{one_more, more-answered, chooses, takes, exceeds, ends}
use Rattle.plays.proofs.Start.{begins}
use Rattle.plan.specs.Refusals.{number_of}
use Rattle.plays.proofs.Whole.{answer-same, answers_by, whole-over, whole-within}

-- ---- a turn of a play

-- what a play comes to, by the case of a delivery
abbrev on_case : State → List Step → List (List ℕ) → Taking → Case → Whole
on_case st made more t c =
    elim c [
      | Calls lookup rule calls ↦ record { answer = answer_with made st.rows; first = t.first; second = t.second }
      | AllTaken ↦ record { answer = answer_with made st.rows; first = t.first; second = t.second }
      | Taken step ↦ play_from t.turn.state (made ++ (step ∷ [])) more t.first t.second
      | Already ↦ record { answer = answer_with made st.rows; first = t.first; second = t.second }
      | Refused r ↦ record { answer = refusal (number_of r.refusal) r.detail; first = t.first; second = t.second }
    ]

-- a turn: the delivery is taken for what is chosen
abbrev turn_by : State → List Step → List ℕ → List (List ℕ) → Choosing → ℕ → Whole
turn_by st made sent more x n =
    let t = take_next x.turn.state n sent x.first x.second in
    on_case st made more t t.turn.case

-- a play with a delivery left begins with a turn
play_more : (st : State) (made : List Step) (sent : List ℕ) (more : List (List ℕ)) (first second : List ℕ)
    → play_from st made (sent ∷ more) first second
    ≡ turn_by st made sent more (choose_next st first second (replicate 3072 0)) (suc (length made))
unfolding play_from
play_more st made sent more first second = refl

-- ---- a play

module _ (sheet words first second : List ℕ) (q : Request) (r : Ready full sheet words first second q)
    (p : List Pick) (c : ChainRoute full q p) where
  -- no list is over 512 rows up to step k
  abbrev Few : ℕ → Type 0
  Few k = (j : ℕ) → 1 ≤ j → j ≤ k → length (list_after q (take j p)) ≤ 512

  -- nor up to the next step, where it is within
  few-more : (k : ℕ) → Few k → length (list_after q (take (1 + k) p)) ≤ 512 → Few (1 + k)
  few-more k few l j a b =
      by_test
      (eqb j (1 + k))
      (λ t. rw (eqb-true j (1 + k) t) l)
      (λ f. let n = eqb-false j (1 + k) f in few j a (omega arith))

  -- there is a step
  step-first : 1 ≤ size q
  unfolding size request_of
  step-first =
      let one = (read-fine sheet r.said r.end r.read).look_ups-low in
      rw (r.asks, length-map) one

  -- as many steps as look-ups
  places : length p ≡ size q
  unfolding RouteOf
  places = c.is_route.whole.places

  -- after the last step the play has come to the whole answer
  play_end : (k : ℕ) → k ≡ size q → (st : State) (t u : List ℕ) → AtStep sheet q p first second k st t u → Few k
      → play_from st (steps_from full q [] (take k p)) [] t u ≡ whole sheet words first second
  unfolding play_from
  play_end k e st t u at few =
      let all : take k p ≡ p = take_all k p (omega (arith, places)) in
      let answer = ap (answer_with (steps_from full q [] (take k p))) at.rows ∙ answer-same q (take k p) in
      let (held, cleared) = at.after (omega (arith, step-first)) in
      let told : play_from st (steps_from full q [] (take k p)) [] t u ≡ answers_by sheet words first second q r p c (take k p) =
      λ i. record { answer = answer i; first = held i; second = cleared i } in
      told
      ∙ ap (answers_by sheet words first second q r p c) all
      ∙ sym (whole-within sheet words first second q r p c (λ j a b. few j a (omega (arith, places))))

  module _ (k : ℕ) (h : k < size q) (st : State) (t u : List ℕ) (at : AtStep sheet q p first second k st t u) (sent : List ℕ)
      (more : List (List ℕ)) (d : RightDelivery q (answered_from [] (take k p)) (get_or p k no_pick) sent) (few : Few k) where
    -- the step, and the steps before it
    abbrev s : Pick
    s = get_or p k no_pick

    abbrev made : List Step
    made = steps_from full q [] (take k p)

    -- what the delivery comes to
    abbrev b : Taking
    b = take_next (with_choice st s) (1 + k) sent t u

    -- the turn is that of the step chosen
    turn_is : play_from st made (sent ∷ more) t u ≡ on_case st made more b b.turn.case
    turn_is =
        let count : suc (length made) ≡ 1 + k =
        omega (arith, steps-length full q [] (take k p), length-take-le k p (omega (arith, places))) in
        play_more st made sent more t u
        ∙ ap₂ (turn_by st made sent more)
        (chooses sheet words first second q r p c k h st t u at (replicate 3072 0) (omega (arith, length-replicate {A = ℕ} 3072 0)))
        count

    -- a step over 512 rows ends the play with the whole answer's refusal
    turn-over : 512 < length (list_after q (take (1 + k) p)) → play_from st made (sent ∷ more) t u ≡ whole sheet words first second
    turn-over many =
        let (told, one, two) = exceeds sheet words first second q r p c k h st t u at sent d many in
        let over : OverAt 512 q p (1 + k) =
        record { low = omega arith; high = omega (arith, places); many = many; first = λ j a l. few j a (omega arith) } in
        turn_is
        ∙ ap (on_case st made more b) told
        ∙ ap₂ (λ x y. record { answer = refusal 5 (1 + k); first = x; second = y }) one two
        ∙ sym (whole-over sheet words first second q r p c (1 + k) over)

    -- a step within goes on from the state after it
    turn-within : length (list_after q (take (1 + k) p)) ≤ 512
        → ((st' : State) (t' u' : List ℕ) → AtStep sheet q p first second (1 + k) st' t' u'
        → play_from st' (steps_from full q [] (take (1 + k) p)) more t' u' ≡ whole sheet words first second)
        → play_from st made (sent ∷ more) t u ≡ whole sheet words first second
    turn-within l on =
        let (told, at') = takes sheet words first second q r p c k h st t u at sent d l in
        let steps : made ++ (step_in full q (answered_from [] (take k p)) s ∷ []) ≡ steps_from full q [] (take (1 + k) p) =
        sym (ap (steps_from full q []) (one_more sheet words first second q r p c k h) ∙ steps_snoc full q [] (take k p) s) in
        turn_is
        ∙ ap (on_case st made more b) told
        ∙ ap (λ x. play_from b.turn.state x more b.first b.second) steps
        ∙ on b.turn.state b.first b.second at'

  -- the play goes on from the state after k steps
  play_from_lem : (ds : List (List ℕ)) (k : ℕ) → k ≤ size q → (st : State) (t u : List ℕ) → AtStep sheet q p first second k st t u
      → RightFrom q (answered_from [] (take k p)) (drop k p) ds → Few k
      → play_from st (steps_from full q [] (take k p)) ds t u ≡ whole sheet words first second
  unfolding RightFrom
  play_from_lem [] k l st t u at right few =
      by_test
      (ltb k (length p))
      (λ x.
      absurd
      (subst (λ (y : List Pick). RightFrom q (answered_from [] (take k p)) y [])
      (drop-cons p k no_pick (ltb-true k (length p) x)) right))
      (λ x. play_end k (omega (arith, ltb-false k (length p) x, places)) st t u at few)
  play_from_lem (sent ∷ more) k l st t u at right few =
      by_test
      (ltb k (length p))
      (λ x.
      let A = answered_from [] (take k p) in
      let there = ltb-true k (length p) x in
      let h : k < size q = omega (arith, places) in
      let (d, rest) = subst (λ (y : List Pick). RightFrom q A y (sent ∷ more)) (drop-cons p k no_pick there) right in
      let next : RightFrom q (answered_from [] (take (1 + k) p)) (drop (1 + k) p) more =
      rw (more-answered sheet words first second q r p c k h, let e : 1 + k ≡ suc k = omega arith in e) rest in
      by_test
      (leb (length (list_after q (take (1 + k) p))) 512)
      (λ y.
      let few' = leb-true (length (list_after q (take (1 + k) p))) 512 y in
      turn-within k h st t u at sent more d few few'
      (λ st' t' u' at'. play_from_lem more (1 + k) (omega arith) st' t' u' at' next (few-more k few few')))
      (λ y. turn-over k h st t u at sent more d few (leb-false (length (list_after q (take (1 + k) p))) 512 y)))
      (λ x.
      absurd
      (subst (λ (y : List Pick). RightFrom q (answered_from [] (take k p)) y (sent ∷ more))
      (drop_of_length-le p {i = k} (ltb-false k (length p) x)) right))

  -- a whole play comes to the whole answer
  pub same : (deliveries : List (List ℕ)) → RightFrom q [] p deliveries
      → play_from (started sheet).state [] deliveries first second ≡ whole sheet words first second
  unfolding answered_from steps_from
  same deliveries right =
      play_from_lem deliveries 0 (omega arith) (started sheet).state first second (begins sheet words first second q r p c).1 right
      (λ j a b. absurd (let z : ⊥ = omega arith in z))

-- choosing and taking, apart, come to the whole answer
pub step_by_step : (sheet words first second : List ℕ) (q : Request) → Ready full sheet words first second q
    → StepByStep sheet words first second q
step_by_step sheet words first second q r =
    record {
      begins = begins sheet words first second q r;
      chooses = λ p c k h st t u cs at. chooses sheet words first second q r p c k h st t u at cs;
      takes = λ p c k h st t u sent at. takes sheet words first second q r p c k h st t u at sent;
      exceeds = λ p c k h st t u sent at. exceeds sheet words first second q r p c k h st t u at sent;
      ends = ends sheet words first second q r;
      same = same sheet words first second q r;
    }
