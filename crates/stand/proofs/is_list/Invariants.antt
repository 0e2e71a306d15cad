-- `stand::is_list` meets its contract. Invariant: the answer is that of the rows from the next one on.
use mathlib.Core.Path.{◌≡◌}
use Rattle.plan.specs.Lists.{vars_in}
use Rattle.plan.specs.Request.{row_words, rows_by}
use Rattle.plan.specs.Apart.{is_list}
use Rattle.stand.proofs.RowsLaws.{list_from}
use Rattle.stand.proofs.is_list.Given as goal

abbrev pub invariant-loop-row : goal.invariant-loop-row
invariant-loop-row l =
    is_list (vars_in l.known) (rows_by row_words l.rows l.table) ≡ list_from (vars_in l.known) l.rows l.table l.row
