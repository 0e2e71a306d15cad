-- How many bytes pass a test, of the line from a place on: the library's count is that of the definition.
use mathlib.Core.Path.{◌≡◌, refl, ap, ◌∙◌}
use mathlib.Core.Bool.{Bool}
use mathlib.Core.List.{List, [], ◌∷◌}
use Prim.Native.Nat.{ℕ, ◌+◌, ◌-◌, ◌≤◌}
use native.Mathlib.Omega.{arith}
use lib.ListN.{length, take, drop, length-drop}
use lib.Seq.{take_all}
use Rattle.std.specs.List.{prefix_len}
use Rattle.plan.specs.Tokens.{run}
use Rattle.plan.proofs.Lists.{by_test}
use Rattle.lines.proofs.Cuts.{run-low}

-- the line from a place on, as a slice
pub rest_is : (line : List ℕ) (at : ℕ) → take (length line - at) (drop at line) ≡ drop at line
rest_is line at = take_all (length line - at) (drop at line) (omega (arith, length-drop at line))

module _ (test : ℕ → Bool) where
  pub run_is : (bs : List ℕ) → prefix_len test bs ≡ run test bs
  unfolding run
  run_is [] = refl
  run_is (b ∷ bs) =
      let more = run_is bs in
      by_test (test b) (λ t. rw (t, run) (omega arith)) (λ f. rw (f, run) refl)

  module _ (line : List ℕ) (at n : ℕ) (so : n ≡ prefix_len test (take (length line - at) (drop at line))) where
    pub run_from : n ≡ run test (drop at line)
    run_from = so ∙ ap (prefix_len test) (rest_is line at) ∙ run_is (drop at line)

    -- they end in the line
    pub run-within : at ≤ length line → at + n ≤ length line
    run-within h = omega (arith, run_from, run-low test (drop at line), length-drop at line)
