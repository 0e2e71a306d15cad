use mathlib.Core.Path.{◌≡◌, refl, ◌∙◌, ap}
use native.Mathlib.Omega.{arith}
use Rattle.plan.specs.Reader.{bits_at}
use Rattle.sheet.proofs.Packed.{bits_put}
use Rattle.sheet.proofs.bits.Reader.bits.Goals as goal

pub loop-i-init : goal.loop-i-init
unfolding bits_at
loop-i-init c = refl

pub loop-i-preserved : goal.loop-i-preserved
loop-i-preserved c =
    let a = c.args in
    let l = c.loop-i in
    bits_put a.self.now.sheet.now a.at l.i _ _ (omega arith) l.invariant c.bit.ensures

pub returns : goal.returns
returns c =
    let a = c.args in
    let e : c.loop-i.i ≡ a.width = omega arith in
    c.loop-i.invariant ∙ ap (bits_at a.self.now.sheet.now a.at) e
