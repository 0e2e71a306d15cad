-- `notes::with_column` meets its contract: one of the first six stands behind those in the array, and behind them the
-- array stays.
use mathlib.Core.Path.{◌∙◌}
use Rattle.typed.proofs.NoteLaws.{vars-more, vars-full, column-noted}
use Rattle.typed.proofs.notes.with_column.Goals as goal
use Rattle.typed.proofs.notes.with_column.Goals.{then-column-lt-MOST_COLUMNS, else-column-lt-MOST_COLUMNS}

pub returns : goal.returns
returns c t known x e n =
    let said = c.args.said.now in
    let v = c.args.which in
    let j = c.if-column-lt-MOST_COLUMNS in
    elim j.branch [
      | then-column-lt-MOST_COLUMNS w ↦
          column-noted t known x v said j.said _ e n
          (vars-more said.vars t.vars said.columns v n.columns w.if-column-lt-MOST_COLUMNS.true n.vars) w.said-is
      | else-column-lt-MOST_COLUMNS w ↦
          column-noted t known x v said j.said _ e n
          (n.vars ∙ vars-full t.vars said.columns v n.columns w.if-column-lt-MOST_COLUMNS.false) w.said-is
    ]
