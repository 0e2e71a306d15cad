-- `notes::with_register` meets its contract: the register is the name's number, and no variable stands in its brackets yet.
use mathlib.Core.Path.{refl}
use native.Mathlib.Omega.{arith}
use Rattle.plan.specs.Lists.{padded}
use Rattle.plan.specs.Typed.{noted_name}
use Rattle.typed.proofs.notes.with_register.Goals as goal

pub returns : goal.returns
unfolding noted_name padded
returns c t known x e n =
    record {
      given = n.given;
      start = n.start;
      lookups = n.lookups;
      lookup = n.lookup;
      register = e;
      register-low = omega (arith, e, c.requires);
      columns = refl;
      vars = refl;
    }
