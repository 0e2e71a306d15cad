-- The whole answer of a request that is ready, by CHAIN's route: refusal 5 at its first step over 512 rows, or the answer that its
-- steps make.
use mathlib.Core.Path.{◌≡◌, refl, ◌∙◌, ap, subst}
use mathlib.Core.List.{List, [], ◌∷◌, map}
use Prim.Native.Nat.{ℕ, ◌+◌, ◌≤◌}
use native.Mathlib.Omega.{arith}
use lib.ListN.{length, take}
use Rattle.plan.specs.Request.{Request, holding}
use Rattle.plan.specs.Route.{Pick, total_from}
use Rattle.plan.specs.Grow.{calls, charge_of}
use Rattle.plan.specs.Answer.{list_after, step_in, steps_from, Outcome, outcome, came, answered_by, refusal}
use Rattle.plan.specs.Answer.{Whole, whole_of, full, whole}
use Rattle.plan.specs.Apart.{sum, answer_with}
use Rattle.plan.specs.declared.Step.{Step}
use Rattle.plan.specs.Demands.{NoRoute, ChainRoute, OverAt, Ready}
use Rattle.plan.proofs.Steps.{steps-length}
use Rattle.plan.proofs.Outcomes.{chain-once, over-once, Comes, without, over, within, comes}
use Rattle.plan.proofs.Demands.{ready-sound, ready-back}

-- ---- what the steps add up to

module _ (q : Request) where
  -- the calls of an order
  sum-calls : (A : List ℕ) (p : List Pick) → sum (map (λ (s : Step). s.calls) (steps_from full q A p)) ≡ total_from (calls q) A p
  unfolding sum steps_from step_in total_from
  sum-calls A [] = refl
  sum-calls A (s ∷ p) = ap (λ n. calls q A s + n) (sum-calls (s.lookup ∷ A) p)

  -- its charges
  sum_charges : (A : List ℕ) (p : List Pick)
      → sum (map (λ (s : Step). s.charge) (steps_from full q A p)) ≡ total_from (charge_of full q) A p
  unfolding sum steps_from step_in total_from
  sum_charges A [] = refl
  sum_charges A (s ∷ p) = ap (λ n. charge_of full q A s + n) (sum_charges (s.lookup ∷ A) p)

  -- so the answer that its steps make is its answer
  pub answer-same : (p : List Pick) → answer_with (steps_from full q [] p) (length (list_after q p)) ≡ answered_by full q p
  unfolding answer_with answered_by
  answer-same p = rw (steps-length full q [] p, sum-calls [] p, sum_charges [] p)

-- ---- the whole answer

module _ (sheet words first second : List ℕ) (q : Request) (r : Ready full sheet words first second q)
    (p : List Pick) (c : ChainRoute full q p) where
  -- all that comes back for an order that is answered
  abbrev pub answers_by : List Pick → Whole
  answers_by x =
      record {
        answer = answered_by full q x;
        first = holding 8192 (list_after q x) first;
        second = holding 8192 [] second;
      }

  -- where step k is the first over 512 rows
  came-over : (k : ℕ) → OverAt 512 q p k → (o : Outcome) → Comes full q o
      → whole_of full (came q o) first second
      ≡ record { answer = refusal 5 k; first = holding 8192 [] first; second = holding 8192 [] second }
  unfolding whole_of full NoRoute
  came-over k b o (without n) = absurd (n p c.is_route)
  came-over k b o (over p' c' j a) =
      let same : j ≡ k = over-once 512 q p j k (subst (λ x. OverAt 512 q x j) (chain-once full q p' p c' c) a) b in
      ap (λ n. record { answer = refusal 5 n; first = holding 8192 [] first; second = holding 8192 [] second }) same
  came-over k b o (within p' c' f) =
      let a = subst (λ x. OverAt 512 q x k) (chain-once full q p p' c c') b in
      absurd (let z : ⊥ = omega (arith, f k a.low a.high, a.many) in z)

  -- where none is
  came-within : ((j : ℕ) → 1 ≤ j → j ≤ length p → length (list_after q (take j p)) ≤ 512) → (o : Outcome) → Comes full q o
      → whole_of full (came q o) first second ≡ answers_by p
  unfolding whole_of full NoRoute
  came-within f o (without n) = absurd (n p c.is_route)
  came-within f o (over p' c' j a) =
      let b = subst (λ x. OverAt 512 q x j) (chain-once full q p' p c' c) a in
      absurd (let z : ⊥ = omega (arith, f j b.low b.high, b.many) in z)
  came-within f o (within p' c' g) =
      ap answers_by (chain-once full q p' p c' c)

  -- all that comes back is what comes back for the request
  whole_is : whole sheet words first second ≡ whole_of full (came q (outcome full q)) first second
  unfolding whole
  whole_is = ready-back full sheet words first second q r

  -- so with a first step over 512 rows
  pub whole-over : (k : ℕ) → OverAt 512 q p k
      → whole sheet words first second
      ≡ record { answer = refusal 5 k; first = holding 8192 [] first; second = holding 8192 [] second }
  whole-over k b =
      whole_is ∙ came-over k b (outcome full q) (comes full q (ready-sound full sheet words first second q r))

  -- and without one
  pub whole-within : ((j : ℕ) → 1 ≤ j → j ≤ length p → length (list_after q (take j p)) ≤ 512)
      → whole sheet words first second ≡ answers_by p
  whole-within f =
      whole_is ∙ came-within f (outcome full q) (comes full q (ready-sound full sheet words first second q r))
