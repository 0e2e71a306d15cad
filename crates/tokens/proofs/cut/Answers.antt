-- `tokens::cut` meets its contract: the struct is that of the definition.
use mathlib.Core.Path.{refl}
use Rattle.plan.specs.Tokens.{cut}
use Rattle.tokens.proofs.cut.Goals as goal

pub returns : goal.returns
unfolding cut
returns c = refl
