-- `write::write_sheet` meets its contract: the sheet is put into an array of zeros, and copied where it fits.
use mathlib.Core.List.{[]}
use native.Mathlib.Omega.{arith}
use Rattle.std.proofs.lemmas.Grind.{common_steps}
use Rattle.write.specs.Said.{sheet_said}
use Rattle.write.proofs.StoreLaws.{blank-holds, whole-refused, whole-short, whole-fits}
use Rattle.write.proofs.write_sheet.Goals as goal

pub put_sheet-requires : goal.put_sheet-requires
put_sheet-requires c = record { bits = []; holds = blank-holds; room = omega arith }

pub returns-in_err-put_sheet : goal.returns-in_err-put_sheet
returns-in_err-put_sheet c =
    whole-refused (sheet_said c.args.fields) c.in_err-put_sheet.ensures.puts _ c.from_residual.ensures.1 c.args.buffer.now

pub returns-then-need-buffer : goal.returns-then-need-buffer
returns-then-need-buffer c =
    let p = c.in_ok-put_sheet.ensures in
    grind (arith, common_steps, whole-short (sheet_said c.args.fields) p.puts p.at_most c.args.buffer.now c.if-need-buffer.true)

pub returns : goal.returns
returns c =
    let p = c.in_ok-put_sheet.ensures in
    grind (arith, common_steps, whole-fits (sheet_said c.args.fields) p.puts p.at_most c.args.buffer.now c.if-need-buffer.false)
