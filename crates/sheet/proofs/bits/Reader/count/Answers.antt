-- `sheet::bits::Reader::count` meets its contract: a field that is tested against its range.
use mathlib.Core.Path.{refl}
use borrow.Author.Rules.{rules}
use mathlib.Core.Bool.{◌&&◌}
use lib.Dec.{leb}
use Rattle.plan.specs.Reader.{count_out}
use Rattle.plan.specs.Sheet.{count_from}
use Rattle.sheet.proofs.bits.Reader.count.Goals as goal

pub returns : goal.returns
unfolding count_from
returns c =
    let a = c.args in
    c.tested.ensures (λ x. leb a.low x && leb x a.high) count_out (λ n r p. search rules) refl
