-- `sheet::each::read_each` meets its contract. Invariant: there is room for those that are left, and i readings gave the values
-- that stand in the array.
use mathlib.Core.Path.{◌≡◌}
use Prim.Native.Nat.{ℕ, ◌≤◌, ◌+◌, ◌*◌}
use Rattle.std.specs.Prelude.{IfOk}
use Rattle.plan.specs.Lists.{padded}
use Rattle.plan.specs.Reader as Said
use Rattle.sheet.specs.Bounds.{farthest}
use Rattle.sheet.specs.Reads.{Reads}
use Rattle.sheet.proofs.Arrays.{Reading}
use Rattle.sheet.proofs.each.read_each.Given as goal

abbrev pub invariant-loop-i : goal.invariant-loop-i
invariant-loop-i g l =
    ((most : ℕ) × (left : ℕ) × (left + l.i ≡ l.count) × (l.reader.at + left * most ≤ farthest)
    × ((p : _) → p.now.at + most ≤ farthest → goal.F-pre g l.read p)
    × ((p : _) (x : _) (q : _) → goal.F-post g l.read p x q → IfOk x (λ _. q.now.at ≤ p.now.at + most)))
    × ((r : Said.Reader g.row.T.Denot) → ((p : _) (x : _) (q : _) → goal.F-post g l.read p x q → Reads (λ t. t) r p.now x q.now)
    → Reading r l.initial.reader l.i l.reader (λ xs. l.array ≡ padded g.row.N l.fn.filler xs))
