-- `sheet::lookups::empty_look_up` meets its contract, by computing.
use mathlib.Core.Path.{refl}
use Rattle.sheet.specs.Fields.{empty_look_up}
use Rattle.sheet.proofs.lookups.empty_look_up.Goals as goal

pub returns : goal.returns
unfolding empty_look_up
returns c = refl
