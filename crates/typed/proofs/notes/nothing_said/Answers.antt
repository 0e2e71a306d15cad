-- `notes::nothing_said` meets its contract: empty lists stand in arrays of zeros and of unused look-ups.
use mathlib.Core.Path.{refl, ap}
use native.Mathlib.Omega.{arith}
use lib.ListN.{replicate}
use Rattle.plan.specs.Lists.{padded}
use Rattle.plan.specs.Typed.{nothing_said}
use Rattle.sheet.specs.declared.LookUp.{LookUp}
use Rattle.typed.proofs.notes.nothing_said.Goals as goal

pub returns : goal.returns
unfolding nothing_said padded
returns c =
    record {
      given = refl;
      start = refl;
      lookups = refl;
      lookup = ap (λ (l : LookUp). replicate 12 l) c.empty_look_up.ensures;
      register = refl;
      register-low = omega arith;
      columns = refl;
      vars = refl;
    }
