use mathlib.Core.Path.{◌≡◌, refl, sym, ◌∙◌, ap}
use native.Mathlib.Omega.{arith}
use lib.ListN.{length, take}
use lib.Seq.{take-length}
use Rattle.plan.specs.Lists.{every, in_set}
use Rattle.choose.proofs.GivesLaws.{known_more, unknown_at}
use Rattle.choose.proofs.are_known.Goals as goal

pub loop-v-init : goal.loop-v-init
unfolding every
loop-v-init c = refl

pub is_in-requires : goal.is_in-requires
is_in-requires c = c.requires.below c.loop-v.v-index c.loop-v-test.true

pub returns-then-not-is_in : goal.returns-then-not-is_in
returns-then-not-is_in c =
    sym (unknown_at c.args.known c.args.vars.now c.loop-v.v-index c.loop-v-test.true (sym c.is_in.ensures ∙ c.if-not-is_in.true))

pub loop-v-preserved : goal.loop-v-preserved
loop-v-preserved c =
    known_more c.args.known c.args.vars.now c.loop-v.v-index c.loop-v.invariant c.loop-v-test.true
    (sym c.is_in.ensures ∙ c.if-not-is_in.false)

pub returns : goal.returns
returns c =
    let end : c.loop-v.v-index ≡ length c.args.vars.now = omega arith in
    sym (ap (every (in_set c.args.known)) (sym (ap (λ n. take n c.args.vars.now) end ∙ take-length c.args.vars.now)) ∙ c.loop-v.invariant)
