-- `chain::check_route` meets its contract: the check of what was read is that of the sheet.
use mathlib.Core.Path.{refl, ◌∙◌, ap}
use Rattle.chain.specs.Answered.{checked_read}
use Rattle.chain.proofs.Whole.{fields_got, fields_fit, check_met, check_sheet, fault_checked}
use Rattle.chain.proofs.check_route.Goals as goal

pub returns-in_err-read_sheet : goal.returns-in_err-read_sheet
returns-in_err-read_sheet c =
    check_met _ _ c.from_residual.ensures.1 ∙ fault_checked _ _ _ c.in_err-read_sheet.ensures refl

pub check_fields-requires : goal.check_fields-requires
check_fields-requires c = fields_fit _ _ c.in_ok-read_sheet.ensures

pub returns : goal.returns
returns c = c.check_fields.ensures ∙ ap checked_read (fields_got _ _ c.in_ok-read_sheet.ensures) ∙ check_sheet _
