-- `typed::read_typed` meets its contract: the sheet, the second line and the line, by the law of each.
use mathlib.Core.Path.{sym, ap, ◌∙◌}
use Rattle.typed.specs.Names.{names_held}
use Rattle.typed.specs.Request.{told_typed}
use Rattle.typed.proofs.TypedLaws.{typed_unread, typed_fields, typed_few, typed_nameless, typed_walked}
use Rattle.typed.proofs.read_typed.Goals as goal

pub returns-in_err-fields : goal.returns-in_err-fields
returns-in_err-fields c = typed_unread _ _ _ c.from_residual.result _ c.from_residual.ensures.1 c.in_err-fields.ensures

pub read_names-requires : goal.read_names-requires
read_names-requires c = typed_few _ _ c.in_ok-fields.ensures

pub returns-in_default : goal.returns-in_default
returns-in_default c = sym (ap told_typed (typed_nameless _ _ c.in_ok-fields.ensures _ _ c.in_default.ensures))

pub read_line-requires-clause-of_sheet : goal.read_line-requires-clause-of_sheet
read_line-requires-clause-of_sheet c = typed_fields _ _ c.in_ok-fields.ensures

pub returns : goal.returns
unfolding names_held
returns c =
    let found = c.in-Some.ensures in
    c.read_line.ensures ∙ ap told_typed (typed_walked _ _ c.in_ok-fields.ensures _ _ found.0 _ found.1)
