use mathlib.Core.List.{◌++◌}
use native.Mathlib.Omega.{arith}
use Rattle.lay.specs.Put.{joined}
use Rattle.ebbcandle.specs.Ascii.{ascii}
use Rattle.ebbcandle.specs.Lines.{newline, spaced, row_line}
use Rattle.ebbcandle.proofs.LineLaws.{behind, joined_zero, joined_next, joined_to}
use Rattle.ebbcandle.proofs.text.Text.row.Invariants.{shown}
use Rattle.ebbcandle.proofs.text.Text.row.Goals as goal

pub loop-v-init : goal.loop-v-init
loop-v-init c = (omega arith, joined_zero (shown c.args.table.now c.args.i) c.word.new.self)

pub loop-v-preserved : goal.loop-v-preserved
unfolding spaced
loop-v-preserved c =
    let a = c.args in
    let l = c.loop-v in
    (omega arith, joined_next (shown a.table.now a.i) c.word.new.self l.v l.invariant.1 c.named.ensures.put)

pub returns-clause-put : goal.returns-clause-put
unfolding row_line
returns-clause-put c =
    let a = c.args in
    let l = c.loop-v in
    let values = joined (shown a.table.now a.i) a.variables in
    let put = joined_to (shown a.table.now a.i) c.word.new.self l.v a.variables (omega arith) l.invariant.1 in
    behind a.self.now (ascii "row" ++ values) newline (behind a.self.now (ascii "row") values c.word.ensures put)
    c.word-2.ensures
