-- `write::given::put_marks` meets its contract. Invariant: the marks of the first v variables are put.
use mathlib.Core.Path.{◌≡◌}
use mathlib.Core.Bool.{Bool}
use mathlib.Core.List.{List, map}
use Prim.Native.Nat.{ℕ, ◌+◌}
use lib.Dec.{eqb}
use Rattle.plan.specs.Lists.{has, numbers}
use Rattle.write.specs.Said.{given_said}
use Rattle.write.specs.Puts.{Grows}
use Rattle.write.proofs.given.put_marks.Given as goal

-- the marks of the first variables
abbrev pub up_to : ℕ → ℕ → ℕ → List Bool
up_to variables given v = map (λ u. has eqb u (given_said variables given)) (numbers 0 v)

abbrev pub invariant-loop-v : goal.invariant-loop-v
invariant-loop-v l =
    record {
      place : l.writer.at ≡ l.initial.writer.at + l.v;
      put : Grows (up_to l.f.variables l.f.given l.v) l.initial.writer l.writer;
    }
