use mathlib.Core.Path.{◌≡◌, refl}
use lib.ListN.{length}
use native.Mathlib.Omega.{arith}
use borrow.Author.Rules.{rules}
use Rattle.typed.proofs.HeldNames.{alike_more, alike_all, alike_not}
use Rattle.typed.proofs.names.begins_with.Goals as goal

pub loop-i-init : goal.loop-i-init
loop-i-init c = refl

pub loop-i-preserved : goal.loop-i-preserved
loop-i-preserved c =
    alike_more c.args.name.now c.args.bytes.now c.requires c.loop-i.i (omega arith) c.loop-i.invariant (search rules)

pub returns-then-bytes-i : goal.returns-then-bytes-i
returns-then-bytes-i c =
    alike_not c.args.name.now c.args.bytes.now c.requires c.loop-i.i (omega arith) (search rules)

pub returns : goal.returns
returns c =
    let end : c.loop-i.i ≡ length c.args.name.now = omega arith in
    alike_all c.args.name.now c.args.bytes.now c.requires c.loop-i.i end c.loop-i.invariant
