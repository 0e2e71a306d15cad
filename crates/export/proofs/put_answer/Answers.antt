-- `export::put_answer` meets its contract: the first six numbers are put, and behind them those of each step.
use Rattle.std.proofs.Common.{rules, arith, ◌≡◌, length, ap, ◌++◌, ◌∙◌}
use Rattle.std.specs.Prelude.{Ok}
use Rattle.plan.specs.Answer.{no_step, refusal, told}
use Rattle.lay.specs.Put.{laid}
use Rattle.lay.proofs.PutLaws.{put_then, put_as}
use Rattle.lay.proofs.JoinedLaws.{joined_entries}
use Rattle.export.specs.Exported.{step_numbers, step_at, head_numbers, answer_numbers}
use Rattle.export.proofs.ExportLaws.{answer_refused}
use Rattle.export.proofs.put_answer.Goals as goal

pub returns-in-Ok-clause-out_after : goal.returns-in-Ok-clause-out_after
unfolding answer_numbers head_numbers step_at
returns-in-Ok-clause-out_after c =
    let a = c.in-Ok.a in
    let long : length a.steps ≡ 12 = search rules in
    rw c.in-Ok.is
    (put_as (answer_numbers (told (Ok a)))
    (ap (λ l. head_numbers (told (Ok a)) ++ l) (joined_entries step_numbers no_step a.steps 12 long))
    (put_then (omega arith) c.put-next.ensures c.put_all.ensures.put)).holds

pub returns-in-Err-clause-value : goal.returns-in-Err-clause-value
unfolding refusal
returns-in-Err-clause-value c = rw c.in-Err.is c.put_refused.ensures.value

pub returns-in-Err-clause-out_after : goal.returns-in-Err-clause-out_after
returns-in-Err-clause-out_after c =
    rw c.in-Err.is (c.put_refused.ensures.out_after ∙ ap (laid c.args.out.now 0) (answer_refused c.in-Err.refused))
