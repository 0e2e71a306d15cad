-- `sheet::registers::empty_register` meets its contract, by computing.
use mathlib.Core.Path.{refl}
use Rattle.sheet.specs.Fields.{empty_register}
use Rattle.sheet.proofs.registers.empty_register.Goals as goal

pub returns : goal.returns
unfolding empty_register
returns c = refl
