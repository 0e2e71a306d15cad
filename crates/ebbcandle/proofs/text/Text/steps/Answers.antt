use native.Mathlib.Omega.{arith}
use Rattle.plan.specs.Answer.{no_step}
use Rattle.ebbcandle.proofs.LineLaws.{joined_zero, joined_next}
use Rattle.ebbcandle.proofs.text.Text.steps.Invariants.{shown}
use Rattle.ebbcandle.proofs.text.Text.steps.Goals as goal

pub loop-i-init : goal.loop-i-init
loop-i-init c = (omega arith, joined_zero (shown c.args.steps.now) c.args.self.now)

pub loop-i-preserved : goal.loop-i-preserved
unfolding no_step
loop-i-preserved c =
    let a = c.args in
    let l = c.loop-i in
    (omega arith, joined_next (shown a.steps.now) a.self.now l.i l.invariant.1 c.step.ensures.put)
