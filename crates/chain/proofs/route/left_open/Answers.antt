use Rattle.plan.proofs.Sets.{bit_on, bit_off}
use Rattle.chain.proofs.OpenLaws.{counted_none, counted_open, counted_shut, counted-fits, counted-end}
use Rattle.chain.proofs.route.left_open.Goals as goal
use Rattle.chain.proofs.route.left_open.Goals.{then-answered-i-eq0, else-answered-i-eq0}

pub loop-i-init : goal.loop-i-init
loop-i-init c = counted_none _ _

pub overflow_add-bits : goal.overflow_add-bits
overflow_add-bits c = record { fits = counted-fits _ _ _ _ c.loop-i.invariant c.loop-i-test.true c.requires }

pub loop-i-preserved : goal.loop-i-preserved
loop-i-preserved c =
    elim c.if-answered-i-eq0.branch [
      | then-answered-i-eq0 w ↦
          rw w.bits-is (
          counted_open _ _ _ _ c.loop-i.invariant c.loop-i-test.true c.requires
          (bit_off c.args.answered c.loop-i.i w.if-answered-i-eq0.true)
          )
      | else-answered-i-eq0 w ↦
          rw w.bits-is (
          counted_shut _ _ _ _ c.loop-i.invariant c.loop-i-test.true
          (bit_on c.args.answered c.loop-i.i w.if-answered-i-eq0.false)
          )
    ]

pub returns : goal.returns
returns c = counted-end _ _ _ _ c.loop-i.invariant c.loop-i-test.false
