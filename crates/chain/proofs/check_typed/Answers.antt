-- `chain::check_typed` meets its contract: the check of what was read is that of the typed request.
use mathlib.Core.Path.{◌∙◌}
use Rattle.std.specs.Prelude.{Ok, Err}
use Rattle.chain.proofs.Whole.{check_met}
use Rattle.chain.proofs.TypedLaws.{typed_fits, check_asked_lem}
use Rattle.chain.proofs.check_typed.Goals as goal

pub returns-in_err-read_typed : goal.returns-in_err-read_typed
returns-in_err-read_typed c =
    check_met _ _ c.from_residual.ensures.1 ∙ check_asked_lem c.args.sheet.now c.args.names.now c.args.line.now (Err _) c.in_err-read_typed.ensures

pub check_fields-requires : goal.check_fields-requires
check_fields-requires c = typed_fits c.args.sheet.now c.args.names.now c.args.line.now (Ok _) c.in_ok-read_typed.ensures

pub returns : goal.returns
returns c = c.check_fields.ensures ∙ check_asked_lem c.args.sheet.now c.args.names.now c.args.line.now (Ok _) c.in_ok-read_typed.ensures
