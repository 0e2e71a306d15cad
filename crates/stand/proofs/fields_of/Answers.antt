-- `stand::fields_of` meets its contract: the bytes that are read are those of the state's sheet, of which there are 193.
use mathlib.Core.Path.{◌≡◌, sym, ◌∙◌, ap}
use Prim.Native.Nat.{min}
use borrow.Author.Rules.{rules}
use lib.ListN.{length, take}
use Rattle.std.proofs.lemmas.List.{take_min}
use Rattle.plan.specs.Sheet.{read_sheet}
use Rattle.plan.specs.Apart.{bytes_in}
use Rattle.sheet.specs.Fields.{sheet_read}
use Rattle.stand.specs.Held.{fields_read}
use Rattle.stand.proofs.AsksLaws.{read-asks}
use Rattle.stand.proofs.fields_of.Goals as goal
use Rattle.stand.proofs.fields_of.Goals.{After-read_sheet}

-- what is read of the state's sheet
sheet_of : (c : After-read_sheet) → fields_read c.read_sheet.result ≡ fields_read (sheet_read (read_sheet (bytes_in c.args.state.now)))
sheet_of c =
    let st = c.args.state.now in
    let long : 193 ≡ length st.sheet = search rules in
    let front : take c.min-bytes.result st.sheet ≡ bytes_in st =
    ap (λ n. take n st.sheet) (c.min-bytes.ensures ∙ ap (λ n. min n 193) c.from.ensures ∙ ap (min st.bytes) long) ∙ take_min st.bytes st.sheet in
    ap fields_read (c.read_sheet.ensures ∙ ap (λ bytes. sheet_read (read_sheet bytes)) front)

pub returns-in-Ok : goal.returns-in-Ok
returns-in-Ok c =
    read-asks c.args.state.now c.in-Ok.read.value (sym (ap fields_read c.in-Ok.is) ∙ sheet_of (goal.at.returns-in-Ok c).After-read_sheet)

pub returns-in-Err : goal.returns-in-Err
returns-in-Err c =
    read-asks c.args.state.now c.no_fields.result
    (c.no_fields.ensures ∙ sym (ap fields_read c.in-Err.is) ∙ sheet_of (goal.at.returns-in-Err c).After-read_sheet)
