use mathlib.Core.Path.{◌≡◌, ◌∙◌, ap}
use Prim.Native.Nat.{ℕ, ◌-◌, ◌*◌, ◌/◌, ◌%◌, ◌^◌, ◌≤◌}
use native.Mathlib.Omega.{arith}
use native.Mathlib.Nat.{mod-eq_of_lt, one-mul}
use lib.Bits.{bit_and, and_mask}
use lib.Pow.{pow_mono}
use Rattle.write.proofs.PutsLaws.{above_more, above_all}
use Rattle.write.proofs.bits.Writer.put_bits.Goals as goal

-- the mask of so many bits
mask : (x some : ℕ) → some ≤ 8 → bit_and x (1 * 2 ^ some % 2 ^ 64 - 1) ≡ x % 2 ^ some
mask x some h =
    let low : 2 ^ some ≤ 2 ^ 8 = pow_mono h in
    ap (λ y. bit_and x (y - 1)) (ap (λ y. y % 2 ^ 64) (one-mul (2 ^ some)) ∙ mod-eq_of_lt (omega (arith, low)))
    ∙ and_mask x some

pub loop-left-preserved : goal.loop-left-preserved
loop-left-preserved c =
    let l = c.loop-left in
    let some = c.min-some.result in
    let p = c.put_in_byte.ensures in
    let few : some ≤ l.left = omega (arith, c.min-some.ensures) in
    let fits : some ≤ 8 = omega (arith, c.min-some.ensures) in
    record {
      few = omega (arith, l.invariant.few);
      place = omega (arith, l.invariant.place, p.0, few);
      above = above_more c.args.width c.args.value c.args.self.now l.left l.self some _ c.put_in_byte.new.self
          few l.invariant.above (mask (c.args.value / 2 ^ (l.left - some)) some fits) p.1;
    }

pub returns : goal.returns
returns c =
    let a = c.args in
    let l = c.loop-left in
    let e : l.left ≡ 0 = omega (arith, c.loop-left-test.false) in (
      omega (arith, l.invariant.place, e),
      above_all a.width a.value a.self.now l.left l.self e l.invariant.above,
    )
