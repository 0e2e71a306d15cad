-- `apart::no_state` meets its contract, by computing.
use mathlib.Core.Path.{refl}
use Rattle.plan.specs.Apart.{no_state}
use Rattle.apart.proofs.no_state.Goals as goal

pub returns : goal.returns
unfolding no_state
returns c = refl
