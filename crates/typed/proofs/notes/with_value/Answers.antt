-- `notes::with_value` meets its contract: the value stands behind those that stand in the row.
use mathlib.Core.Path.{sym, ap, ◌∙◌}
use lib.ListN.{set}
use Rattle.plan.specs.Typed.{noted_value}
use Rattle.plan.proofs.Padded.{padded-more}
use Rattle.typed.proofs.NoteLaws.{length_more}
use Rattle.typed.proofs.notes.with_value.Goals as goal

pub returns : goal.returns
unfolding noted_value
returns c t n =
    record {
      given = length_more c.args.said.now.given t.values c.args.x n.given;
      start = ap (λ a. set a c.args.said.now.given c.args.x) n.start
          ∙ padded-more 16 0 t.values c.args.said.now.given c.args.x (sym n.given) c.requires.0;
      lookups = n.lookups;
      lookup = n.lookup;
      register = n.register;
      register-low = n.register-low;
      columns = n.columns;
      vars = n.vars;
    }
