use mathlib.Core.Path.{◌≡◌, sym, ◌∙◌, ap, subst}
use mathlib.Core.List.{[], ◌∷◌, ◌++◌}
use Prim.Native.Nat.{ℕ, ◌+◌, ◌/◌, ◌%◌, ◌^◌, ◌<◌}
use native.Mathlib.Omega.{arith}
use native.Mathlib.Nat.{mod-lt}
use lib.Dec.{eqb}
use lib.Bits.{and_mask}
use Rattle.plan.specs.Lists.{has, numbers, in_set}
use Rattle.plan.specs.Write.{marks_of, given_marks}
use Rattle.plan.proofs.Sets.{bit_zero}
use Rattle.plan.proofs.Told.{told_more}
use Rattle.write.specs.Said.{given_said}
use Rattle.write.specs.Puts.{Grows}
use Rattle.write.proofs.SaidLaws.{given-has}
use Rattle.write.proofs.PutsLaws.{grows_none, grows_then, grows_open}
use Rattle.write.proofs.given.put_marks.Invariants.{up_to}
use Rattle.write.proofs.given.put_marks.Goals as goal

-- one mark more
up_to_more : (variables given v b : ℕ) → v < variables → b ≡ given / 2 ^ v % 2
    → up_to variables given v ++ marks_of 1 b ≡ up_to variables given (v + 1)
unfolding in_set marks_of
up_to_more variables given v b h e =
    let one : b / 2 ^ 0 % 2 ≡ given / 2 ^ v % 2 = ap (λ x. x / 2 ^ 0 % 2) e ∙ bit_zero (given / 2 ^ v % 2) ∙ (omega arith) in
    ap (λ x. up_to variables given v ++ (x ∷ [])) (ap (λ x. eqb x 1) one ∙ sym (given-has variables given v h))
    ∙ sym (told_more (λ u. has eqb u (given_said variables given)) v)

pub loop-v-init : goal.loop-v-init
unfolding numbers
loop-v-init c = record { place = omega arith; put = grows_none c.args.writer.now }

pub put_in_byte-requires : goal.put_in_byte-requires
put_in_byte-requires c =
    let l = c.loop-v in
    let x = c.args.f.now.given / 2 ^ l.v in (
      grows_open c.args.f.now.variables 1 _ c.requires.0 l.invariant.put
          (omega (arith, l.invariant.place, c.requires.0.room, c.loop-v-test.true)),
      omega arith,
      omega arith,
      rw (c.from.ensures, and_mask x 1) (mod-lt x (omega arith)),
    )

pub loop-v-preserved : goal.loop-v-preserved
loop-v-preserved c =
    let l = c.loop-v in
    let p = c.put_in_byte.ensures in record {
      place = omega (arith, l.invariant.place, p.0);
      put = subst (λ bs. Grows bs c.args.writer.now c.put_in_byte.new.self)
          (up_to_more c.args.f.now.variables c.args.f.now.given l.v _ c.loop-v-test.true (c.from.ensures ∙ and_mask (c.args.f.now.given / 2 ^ l.v) 1))
          (grows_then l.invariant.put p.1);
    }

pub returns : goal.returns
unfolding given_marks
returns c =
    let l = c.loop-v in
    let e : l.v ≡ c.args.f.now.variables = omega (arith, c.loop-v.auto.v-end, c.loop-v-test.false) in (
      omega (arith, l.invariant.place, e),
      subst (λ n. Grows (up_to c.args.f.now.variables c.args.f.now.given n) c.args.writer.now l.writer) e l.invariant.put,
    )
