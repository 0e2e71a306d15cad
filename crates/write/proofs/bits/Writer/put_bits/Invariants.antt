-- `write::bits::Writer::put_bits` meets its contract. Invariant: the bits above those that are left stand behind what was there.
use mathlib.Core.Path.{◌≡◌}
use Prim.Native.Nat.{◌+◌, ◌≤◌}
use Rattle.write.proofs.PutsLaws.{Above}
use Rattle.write.proofs.bits.Writer.put_bits.Given as goal

abbrev pub invariant-loop-left : goal.invariant-loop-left
invariant-loop-left l =
    record {
      few : l.left ≤ l.width;
      place : l.self.at + l.left ≡ l.initial.self.at + l.width;
      above : Above l.width l.value l.initial.self l.left l.self;
    }

abbrev pub decreases-loop-left : goal.decreases-loop-left
decreases-loop-left l = l.left
