-- `apart::with_choice` meets its contract, by computing.
use mathlib.Core.Path.{refl}
use Rattle.plan.specs.Apart.{with_choice}
use Rattle.apart.proofs.with_choice.Goals as goal

pub returns : goal.returns
unfolding with_choice
returns c = refl
