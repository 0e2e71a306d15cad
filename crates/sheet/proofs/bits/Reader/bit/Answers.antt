-- `sheet::bits::Reader::bit` meets its contract: a shift by 7 - k % 8 and a mask of one bit are the division and the remainder of
-- the definition.
use mathlib.Core.Path.{◌∙◌, ap}
use Prim.Native.Nat.{◌/◌, ◌^◌, ◌-◌, ◌%◌}
use lib.Bits.{bit_and, and_mask}
use Rattle.plan.specs.Reader.{bit_at}
use Rattle.sheet.proofs.bits.Reader.bit.Goals as goal

pub returns : goal.returns
unfolding bit_at
returns c =
    let k = c.args.k in
    ap (λ x. bit_and (x / 2 ^ (7 - k % 8)) 1) c.from.ensures ∙ and_mask _ 1
