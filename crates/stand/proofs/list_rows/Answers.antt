-- `stand::list_rows` meets its contract, by what the test of the rows says.
use mathlib.Core.Path.{sym, ◌∙◌, ap}
use mathlib.Core.Bool.{◌&&◌, and-false}
use native.Mathlib.Omega.{arith}
use borrow.Author.Tests.{le-leb, lt-leb}
use lib.Dec.{leb}
use Rattle.plan.specs.Lists.{vars_in}
use Rattle.plan.specs.Request.{row_words, rows_by}
use Rattle.plan.specs.Apart.{is_list}
use Rattle.plan.proofs.Lists.{and_of}
use Rattle.stand.proofs.RowsLaws.{rows_all, rows_none}
use Rattle.stand.proofs.list_rows.Goals as goal
use Rattle.stand.proofs.list_rows.Goals.{else-rows-le-MOST_ROWS-via-then-rows-le-MOST_ROWS+else-is_list, else-rows-le-MOST_ROWS-via-else-rows-le-MOST_ROWS}

pub returns-then-is_list : goal.returns-then-is_list
returns-then-is_list c =
    let a = c.args in
    sym (rows_all (vars_in a.known) a.rows a.table.now
    (and_of (le-leb a.rows 512 (omega arith)) (sym c.is_list.ensures ∙ c.if-is_list.true)))

pub returns-else-rows-le-MOST_ROWS : goal.returns-else-rows-le-MOST_ROWS
returns-else-rows-le-MOST_ROWS c =
    let a = c.args in
    let list = is_list (vars_in a.known) (rows_by row_words a.rows a.table.now) in
    sym (rows_none (vars_in a.known) a.rows a.table.now
    (elim c.else-rows-le-MOST_ROWS.branch [
      | else-rows-le-MOST_ROWS-via-then-rows-le-MOST_ROWS+else-is_list w ↦ ap (λ b. leb a.rows 512 && b) (sym w.is_list.ensures ∙ w.if-is_list.false)
          ∙ and-false (leb a.rows 512)
      | else-rows-le-MOST_ROWS-via-else-rows-le-MOST_ROWS w ↦ ap (λ b. b && list) (lt-leb a.rows 512 w.if-rows-le-MOST_ROWS.false)
    ]))
