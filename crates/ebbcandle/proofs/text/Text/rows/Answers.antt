use native.Mathlib.Omega.{arith}
use Rattle.ebbcandle.specs.Lines.{row_line}
use Rattle.ebbcandle.proofs.LineLaws.{joined_zero, joined_next, joined_to}
use Rattle.ebbcandle.proofs.text.Text.rows.Goals as goal

pub loop-i-init : goal.loop-i-init
loop-i-init c =
    let a = c.args in
    (omega arith, joined_zero (row_line a.table.now a.variables) a.self.now)

pub loop-i-preserved : goal.loop-i-preserved
loop-i-preserved c =
    let a = c.args in
    let l = c.loop-i in
    (omega arith, joined_next (row_line a.table.now a.variables) a.self.now l.i l.invariant.1 c.row.ensures.put)

pub returns-clause-put : goal.returns-clause-put
returns-clause-put c =
    let a = c.args in
    let l = c.loop-i in
    joined_to (row_line a.table.now a.variables) a.self.now l.i a.rows (omega arith) l.invariant.1
