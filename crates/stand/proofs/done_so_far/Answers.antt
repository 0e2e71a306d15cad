use Prim.Native.Nat.{◌-◌}
use native.Mathlib.Omega.{arith}
use Rattle.plan.proofs.Sets.{bit_on, bit_off}
use Rattle.stand.proofs.DoneLaws.{passed_none, passed_one, passed_not, passed_all}
use Rattle.stand.proofs.done_so_far.Goals as goal

pub loop-lookup-init : goal.loop-lookup-init
loop-lookup-init c = passed_none c.args.fields.now c.requires c.args.answered

pub loop-lookup-preserved-then-answered-lookup-ne0 : goal.loop-lookup-preserved-then-answered-lookup-ne0
loop-lookup-preserved-then-answered-lookup-ne0 c =
    let d = c.loop-lookup.done in
    let i = c.loop-lookup.lookup - 1 in
    passed_one c.args.fields.now c.requires c.args.answered c.loop-lookup.lookup d.known d.answered d.made c.loop-lookup.invariant
    i (omega arith) (bit_on c.args.answered i c.if-answered-lookup-ne0.true)
    c.learn.result c.learn.ensures

pub loop-lookup-preserved : goal.loop-lookup-preserved
loop-lookup-preserved c =
    let d = c.loop-lookup.done in
    let i = c.loop-lookup.lookup - 1 in
    passed_not c.args.fields.now c.requires c.args.answered c.loop-lookup.lookup d.known d.answered d.made c.loop-lookup.invariant
    i (omega arith) (bit_off c.args.answered i c.if-answered-lookup-ne0.false)

pub returns : goal.returns
returns c =
    passed_all c.args.fields.now c.requires c.args.answered c.loop-lookup.lookup c.loop-lookup.done c.loop-lookup.invariant (omega arith)
