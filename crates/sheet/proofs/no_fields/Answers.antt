-- `sheet::no_fields` meets its contract, by what the unused register and look-up are.
use Rattle.sheet.specs.Fields.{no_fields}
use Rattle.sheet.proofs.no_fields.Goals as goal

pub returns : goal.returns
unfolding no_fields
returns c = rw (c.empty_register.ensures, c.empty_look_up.ensures)
