-- `notes::with_look_up` meets its contract: the look-up's entry stands behind those that stand in the array.
use mathlib.Core.Path.{sym}
use Rattle.plan.specs.Typed.{noted_look_up}
use Rattle.plan.specs.Sheet.{LookUp}
use Rattle.plan.proofs.Padded.{stored_more}
use Rattle.sheet.specs.Fields.{empty_look_up, look_up_of}
use Rattle.typed.proofs.NoteLaws.{length_more, entry_is}
use Rattle.typed.proofs.notes.with_look_up.Goals as goal

pub returns : goal.returns
unfolding noted_look_up
returns c t n =
    let said = c.args.said.now in
    let l : LookUp = record { register = t.register; vars = t.vars } in
    record {
      given = n.given;
      start = n.start;
      lookups = length_more said.lookups t.look_ups l n.lookups;
      lookup = stored_more 12 empty_look_up look_up_of said.lookup t.look_ups said.lookups l _ (sym n.lookups)
          c.requires.0
          (entry_is said.register said.columns said.vars l n.register n.columns c.requires.1 n.vars)
          n.lookup;
      register = n.register;
      register-low = n.register-low;
      columns = n.columns;
      vars = n.vars;
    }
