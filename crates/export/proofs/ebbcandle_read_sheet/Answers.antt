-- `export::ebbcandle_read_sheet` meets its contract: a buffer that is too short is refused, and else the numbers of the
-- reading are put into the buffer.
use native.Mathlib.Omega.{arith}
use Rattle.export.proofs.ReadingLaws.{reading-short, reading-made}
use Rattle.export.proofs.ebbcandle_read_sheet.Goals as goal

pub returns-then-out-lt-SHEET_PLACES : goal.returns-then-out-lt-SHEET_PLACES
returns-then-out-lt-SHEET_PLACES c =
    let a = c.args in
    reading-short a.sheet.now a.out.now c.if-out-lt-SHEET_PLACES.true

pub returns : goal.returns
returns c =
    let a = c.args in
    let r = c.read_sheet in
    let p = c.put_read in
    reading-made
    a.sheet.now
    a.out.now
    r.result
    p.result
    p.new.out
    (omega arith)
    r.ensures
    p.ensures.value
    p.ensures.out_after
