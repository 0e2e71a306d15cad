-- `line::read_line` meets its contract. Invariant: the code keeps what the line has said so far, and the walk from here on is
-- the whole walk. Measure: the bytes left.
use Prim.Native.Nat.{◌-◌}
use lib.ListN.{length}
use mathlib.Core.Path.{◌≡◌}
use Rattle.typed.specs.Request.{OfSheet}
use Rattle.typed.proofs.LineLaws.{Come}
use Rattle.typed.proofs.line.read_line.Given as goal

abbrev pub invariant-loop-place : goal.invariant-loop-place
invariant-loop-place l =
    (o : OfSheet l.fields) × (there : length l.known ≡ l.fields.registers)
    × Come l.line l.second l.known l.fields o there l.seen.place l.seen.count l.said l.stage l.place

abbrev pub decreases-loop-place : goal.decreases-loop-place
decreases-loop-place l =
    length l.line - l.place
