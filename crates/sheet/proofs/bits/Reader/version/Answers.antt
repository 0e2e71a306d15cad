-- `sheet::bits::Reader::version` meets its contract: a field that is tested for 1.
use mathlib.Core.Path.{refl}
use borrow.Author.Rules.{rules}
use lib.Dec.{eqb}
use Rattle.plan.specs.Reader.{wrong_version}
use Rattle.plan.specs.Sheet.{version}
use Rattle.sheet.proofs.bits.Reader.version.Goals as goal

pub returns : goal.returns
unfolding version
returns c = c.tested.ensures (λ x. eqb x 1) wrong_version (λ n r p. search rules) refl
