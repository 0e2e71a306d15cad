-- `export::ebbcandle_read_typed` meets its contract: a buffer that is too short is refused, and else the numbers of the
-- fields are put into the buffer, or those of the refusal.
use Rattle.std.proofs.Common.{arith, refl, ap, ◌∙◌}
use Rattle.std.specs.Prelude.{Ok, Err}
use Rattle.lay.specs.Put.{laid}
use Rattle.export.proofs.ReadingLaws.{reading_refused, typed_reading-short, typed_reading-made}
use Rattle.export.proofs.typing.ebbcandle_read_typed.Goals as goal

pub returns-then-out-lt-SHEET_PLACES : goal.returns-then-out-lt-SHEET_PLACES
returns-then-out-lt-SHEET_PLACES c =
    let a = c.args in
    typed_reading-short a.sheet.now a.names.now a.line.now a.out.now c.if-out-lt-SHEET_PLACES.true

pub returns-in-Ok : goal.returns-in-Ok
returns-in-Ok c =
    let a = c.args in
    typed_reading-made a.sheet.now a.names.now a.line.now a.out.now (Ok c.in-Ok.fields) (rw c.in-Ok.is at c.read_typed-read.ensures)
    0 c.put_sheet.new.out (omega arith) refl c.put_sheet.ensures.holds

pub returns-in-Err : goal.returns-in-Err
returns-in-Err c =
    let a = c.args in
    typed_reading-made a.sheet.now a.names.now a.line.now a.out.now (Err c.in-Err.refused) (rw c.in-Err.is at c.read_typed-read.ensures)
    c.put_refused.result c.put_refused.new.out (omega arith) c.put_refused.ensures.value
    (c.put_refused.ensures.out_after ∙ ap (laid a.out.now 0) (reading_refused c.in-Err.refused))
