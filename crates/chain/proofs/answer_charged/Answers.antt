-- `chain::answer_charged` meets its contract: a short table is told, then p or q out of range, and else what comes back is
-- that of the sheet that was read.
use mathlib.Core.Path.{refl, ◌∙◌, ap}
use Rattle.plan.specs.Answer.{Answer, Whole}
use Rattle.chain.proofs.Whole.{fields_fit, told_met, fault_told, read_told, long_tables, whole-short, over-priced, whole-over}
use native.Mathlib.Omega.{arith}
use Rattle.chain.proofs.answer_charged.Goals as goal

pub returns-then-is_short : goal.returns-then-is_short
returns-then-is_short c =
    rw c.without_detail.ensures (whole-short _ _ _ c.is_short.ensures _ _ c.if-is_short.true _ _)

pub returns-then-is_over : goal.returns-then-is_over
returns-then-is_over c =
    rw c.without_detail-then-is_over.ensures
    (whole-over _ _ _ c.is_over.ensures c.if-is_over.true _ _ _ _
    (long_tables _ _ _ c.is_short.ensures _ _ c.if-is_short.false))

pub returns-in_err-read : goal.returns-in_err-read
returns-in_err-read c =
    ap (λ (x : Answer). let w : Whole = record { answer = x; first = c.args.first.now; second = c.args.second.now } in w)
    (told_met _ _ c.from_residual.ensures.1)
    ∙ fault_told _ _ _ _ _ _ _ _ c.is_short.ensures c.if-is_short.false c.is_over.ensures c.if-is_over.false _ c.in_err-read.ensures _ refl

pub never_answerable-never-requires : goal.never_answerable-never-requires
never_answerable-never-requires c = fields_fit _ _ c.in_ok-read.ensures

pub answer_fields-requires : goal.answer_fields-requires
answer_fields-requires c =
    let priced = over-priced _ _ _ c.is_over.ensures c.if-is_over.false in record {
      small = fields_fit _ _ c.in_ok-read.ensures;
      never_found = c.never_answerable-never.ensures;
      tool_bounds = (omega arith, omega arith, priced.call, priced.row);
      long = long_tables _ _ _ c.is_short.ensures _ _ c.if-is_short.false;
    }

pub returns : goal.returns
returns c = c.answer_fields.ensures
    ∙ read_told _ _ _ _ _ _ _ _ c.is_short.ensures c.if-is_short.false c.is_over.ensures c.if-is_over.false _ c.in_ok-read.ensures
