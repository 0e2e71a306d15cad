-- `chain::answer_typed` meets its contract: a short table is told, and else what comes back is that of the typed request that was read.
use mathlib.Core.Path.{◌∙◌, ap}
use Rattle.plan.specs.Answer.{Answer, Whole}
use Rattle.std.specs.Prelude.{Ok, Err}
use Rattle.chain.proofs.Whole.{told_met, long_tables}
use Rattle.chain.proofs.TypedLaws.{typed_fits, whole-asked, typed_short, typed_long}
use native.Mathlib.Omega.{arith}
use Rattle.chain.proofs.answer_typed.Goals as goal

pub returns-then-is_short : goal.returns-then-is_short
returns-then-is_short c =
    rw c.without_detail.ensures (typed_short _ _ _ _ _ _ _ c.is_short.ensures c.if-is_short.true)

pub returns-in_err-fields : goal.returns-in_err-fields
returns-in_err-fields c =
    ap (λ (x : Answer). let w : Whole = record { answer = x; first = c.args.first.now; second = c.args.second.now } in w)
    (told_met _ _ c.from_residual.ensures.1)
    ∙ whole-asked c.args.sheet.now c.args.names.now c.args.line.now (Err _) c.in_err-fields.ensures _ _ _
    ∙ typed_long _ _ _ _ _ _ _ c.is_short.ensures c.if-is_short.false

pub never_answerable-never-requires : goal.never_answerable-never-requires
never_answerable-never-requires c = typed_fits c.args.sheet.now c.args.names.now c.args.line.now (Ok _) c.in_ok-fields.ensures

pub answer_fields-requires : goal.answer_fields-requires
answer_fields-requires c =
    record {
      small = typed_fits c.args.sheet.now c.args.names.now c.args.line.now (Ok _) c.in_ok-fields.ensures;
      never_found = c.never_answerable-never.ensures;
      tool_bounds = (omega arith, omega arith, omega arith, omega arith);
      long = long_tables _ _ _ c.is_short.ensures 1 0 c.if-is_short.false;
    }

pub returns : goal.returns
returns c =
    c.answer_fields.ensures
    ∙ whole-asked c.args.sheet.now c.args.names.now c.args.line.now (Ok _) c.in_ok-fields.ensures _ _ _
    ∙ typed_long _ _ _ _ _ _ _ c.is_short.ensures c.if-is_short.false
