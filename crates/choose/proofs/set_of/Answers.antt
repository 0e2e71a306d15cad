use mathlib.Core.Path.{sym}
use Rattle.plan.proofs.Sets.{set-nil}
use Rattle.choose.proofs.GivesLaws.{set-more}
use Rattle.choose.proofs.set_of.Goals as goal

pub loop-v-init : goal.loop-v-init
loop-v-init c = sym set-nil

pub loop-v-preserved : goal.loop-v-preserved
loop-v-preserved c =
    set-more c.args.vars.now c.loop-v.set c.loop-v.v-index c.loop-v.invariant c.loop-v-test.true (c.requires.below c.loop-v.v-index c.loop-v-test.true)
