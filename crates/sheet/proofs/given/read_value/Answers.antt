-- `sheet::given::read_value` meets its contract: a field that is tested for not being 0.
use mathlib.Core.Path.{refl}
use borrow.Author.Rules.{rules}
use mathlib.Core.Bool.{not}
use lib.Dec.{eqb}
use Rattle.plan.specs.Reader.{given_zero}
use Rattle.plan.specs.Sheet.{value}
use Rattle.sheet.proofs.given.read_value.Goals as goal

pub returns : goal.returns
unfolding value
returns c = c.tested.ensures (λ x. not (eqb x 0)) given_zero (λ n r p. search rules) refl
