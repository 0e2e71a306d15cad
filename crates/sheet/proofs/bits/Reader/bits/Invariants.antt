-- `sheet::bits::Reader::bits` meets its contract. Invariant: the value is the number of the first i bits.
use mathlib.Core.Path.{◌≡◌}
use Rattle.plan.specs.Reader.{bits_at}
use Rattle.sheet.proofs.bits.Reader.bits.Given as goal

abbrev pub invariant-loop-i : goal.invariant-loop-i
invariant-loop-i l = l.value ≡ bits_at l.self.sheet.now l.at l.i
