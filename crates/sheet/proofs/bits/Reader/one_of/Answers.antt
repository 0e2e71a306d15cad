-- `sheet::bits::Reader::one_of` meets its contract: a field that is tested against the count.
use mathlib.Core.Path.{refl}
use borrow.Author.Rules.{rules}
use lib.Dec.{ltb}
use Rattle.plan.specs.Reader.{not_in_sheet}
use Rattle.plan.specs.Sheet.{one_of}
use Rattle.sheet.proofs.bits.Reader.one_of.Goals as goal

pub returns : goal.returns
unfolding one_of
returns c = c.tested.ensures (λ x. ltb x c.args.count) not_in_sheet (λ n r p. search rules) refl
