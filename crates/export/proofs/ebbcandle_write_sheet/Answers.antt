-- `export::ebbcandle_write_sheet` meets its contract: too few places and words that are too large are refused, and else
-- what is stored is handed on.
use mathlib.Core.Path.{◌≡◌, sym, ◌∙◌}
use mathlib.Core.Bool.{true}
use native.Mathlib.Omega.{arith}
use Rattle.export.specs.Writing.{words_fit}
use Rattle.export.proofs.WritingLaws.{writing-short, writing-over, writing-made}
use Rattle.export.proofs.ebbcandle_write_sheet.Goals as goal
use Rattle.export.proofs.ebbcandle_write_sheet.Goals.{Else-not-words_fit}

-- the words fit, where the code goes on
words-fit : (c : Else-not-words_fit) → words_fit c.args.fields.now ≡ true
words-fit c = sym c.words_fit.ensures ∙ c.if-not-words_fit.false

pub returns-then-fields-lt-SHEET_PLACES : goal.returns-then-fields-lt-SHEET_PLACES
returns-then-fields-lt-SHEET_PLACES c =
    let a = c.args in
    writing-short a.fields.now a.buffer.now a.detail.now a.bytes.now c.if-fields-lt-SHEET_PLACES.true

pub returns-then-not-words_fit : goal.returns-then-not-words_fit
returns-then-not-words_fit c =
    let a = c.args in
    writing-over a.fields.now a.buffer.now a.detail.now a.bytes.now (omega arith)
    (sym c.words_fit.ensures ∙ c.if-not-words_fit.true)

pub fields_in-requires : goal.fields_in-requires
fields_in-requires c = (omega arith, words-fit c)

pub returns : goal.returns
returns c =
    let a = c.args in
    let w = c.write_sheet-written in
    writing-made a.fields.now a.buffer.now a.detail.now a.bytes.now (omega arith)
    (words-fit (goal.at.returns c).Else-not-words_fit)
    c.fields_in.result
    c.fields_in.ensures
    w.result
    w.new.buffer
    w.ensures
    (record { number = c.put_detail-number.result; detail = c.put_detail-number.new.detail })
    c.put_detail-number.ensures
    c.unwrap_or.result
    c.unwrap_or.ensures
