-- `sheet::lookups::read_look_ups` meets its contract. Invariant: i readings gave the look-ups that stand in the
-- array, whose variables stand in the set.
use mathlib.Core.Path.{◌≡◌}
use mathlib.Core.List.{List}
use Prim.Native.Nat.{◌≤◌, ◌+◌, ◌*◌}
use lib.ListN.{length}
use Rattle.sheet.specs.Bounds.{most_look_up}
use Rattle.sheet.specs.Stages.{look_up_by}
use Rattle.sheet.specs.Parts.{widths, look_ups_using}
use Rattle.sheet.specs.declared.LookUp.{LookUp}
use Rattle.sheet.specs.declared.lookups.Using.{Using}
use Rattle.sheet.proofs.Arrays.{Reading}
use Rattle.sheet.proofs.lookups.read_look_ups.Given as goal

abbrev pub invariant-loop-i : goal.invariant-loop-i
invariant-loop-i l =
    (l.reader.at ≤ l.initial.reader.at + l.i * most_look_up)
    × Reading (look_up_by (length l.ranges.registers.now) (widths l.ranges.registers.now) l.ranges.variables) l.initial.reader l.i
    l.reader (λ ls. ◌≡◌ {A = Using (List LookUp)} (record { read = l.read; used = l.used }) (look_ups_using ls))
