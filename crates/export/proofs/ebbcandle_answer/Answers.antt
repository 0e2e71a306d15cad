-- `export::ebbcandle_answer` meets its contract: a buffer that is too short is refused, and else all that comes back is
-- handed on and the numbers of the answer are put into the buffer.
use native.Mathlib.Omega.{arith}
use Rattle.plan.specs.Answer.{told}
use Rattle.plan.specs.Answer.{whole}
use Rattle.export.proofs.ExportLaws.{exported-short, exported-made}
use Rattle.export.proofs.ebbcandle_answer.Goals as goal

pub returns-then-out-lt-ANSWER_PLACES : goal.returns-then-out-lt-ANSWER_PLACES
returns-then-out-lt-ANSWER_PLACES c =
    let a = c.args in
    exported-short (whole a.sheet.now a.words.now a.first.now a.second.now)
    a.first.now a.second.now a.out.now c.if-out-lt-ANSWER_PLACES.true

pub returns : goal.returns
returns c =
    let a = c.args in
    let w = c.answer in
    let p = c.put_answer in
    exported-made
    (whole a.sheet.now a.words.now a.first.now a.second.now)
    a.first.now
    a.second.now
    a.out.now
    (record { answer = told w.result; first = w.new.first; second = w.new.second })
    p.result
    p.new.out
    (omega arith)
    w.ensures
    p.ensures.value
    p.ensures.out_after
