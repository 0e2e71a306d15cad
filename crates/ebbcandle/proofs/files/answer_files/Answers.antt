-- `ebbcandle::files::answer_files` meets its contract: with bytes left over the library is lent too many words, and
-- else the words of the bytes.
use mathlib.Core.Path.{◌∙◌}
use native.Mathlib.Omega.{arith}
use Rattle.lay.proofs.PutLaws.{put_front}
use Rattle.ebbcandle.proofs.FileLaws.{whole_left_over, whole_words}
use Rattle.ebbcandle.proofs.files.answer_files.Goals as goal

pub returns-then-bytes-ne0 : goal.returns-then-bytes-ne0
returns-then-bytes-ne0 c =
    let a = c.args in
    let p = c.put_words-n in
    let long = c.requires.in_bounds in
    c.answer.ensures
    ∙ whole_left_over a.bytes.now _ a.sheet.now a.first.now a.second.now long.0 long.1
    c.if-bytes-ne0.true
    (omega (arith, c.requires.bytes_len_bound, c.requires.in_bounds, p.auto.out))

pub returns : goal.returns
returns c =
    let a = c.args in
    let long = c.requires.in_bounds in
    c.answer-2.ensures
    ∙ whole_words a.bytes.now _ a.sheet.now a.first.now a.second.now long.0 long.1
    c.if-bytes-ne0.false
    (put_front c.put_words-n.ensures.put)
