use mathlib.Core.Path.{◌≡◌, refl, ◌∙◌, ap}
use mathlib.Core.Bool.{true, false, not}
use mathlib.Core.List.{List, [], ◌∷◌, map}
use Prim.Native.Nat.{ℕ}
use native.Mathlib.Omega.{arith}
use lib.Dec.{eqb}
use lib.ListN.{get_or}
use Rattle.plan.specs.Lists.{in_set, from_set}
use Rattle.plan.specs.Reader.{given_zero}
use Rattle.plan.specs.Request.{reads}
use Rattle.plan.specs.Write.{Item, value_item}
use Rattle.plan.proofs.Sets.{from_on, from_off, bit_on, bit_off}
use Rattle.write.specs.Said.{given_said}
use Rattle.write.specs.Puts.{tested_item}
use Rattle.write.proofs.ItemLaws.{value-tested}
use Rattle.write.proofs.PutsLaws.{puts_told}
use Rattle.write.proofs.LoopLaws.{turned_none, turned_open, turned_on, turned_past, turned_stop, turned_all}
use Rattle.write.proofs.given.put_values.Invariants.{items}
use Rattle.write.proofs.given.put_values.Goals as goal
use Rattle.write.proofs.given.put_values.Goals.{then-f-v-ne0+in_ok-put_if, else-f-v-ne0}

module _ (given : ℕ) (start : List ℕ) (v : ℕ) where
  -- a given variable's value stands in front of the rest
  next_on : in_set given v ≡ true → (vs : List ℕ)
      → items given start (v ∷ vs)
      ≡ tested_item (not (eqb (get_or start v 0) 0)) 32 (get_or start v 0) given_zero ∷ items given start vs
  unfolding reads
  next_on t vs =
      ap (λ us. map value_item (reads start us)) (from_on given v vs t)
      ∙ ap (λ (i : Item). i ∷ items given start vs) (value-tested (get_or start v 0))

  -- a variable that is not given has none
  next_off : in_set given v ≡ false → (vs : List ℕ) → items given start (v ∷ vs) ≡ items given start vs
  next_off f vs = ap (λ us. map value_item (reads start us)) (from_off given v vs f)

-- no variables have no items
nothing : (given : ℕ) (start : List ℕ) → items given start [] ≡ []
unfolding reads from_set
nothing given start = refl

pub loop-v-init : goal.loop-v-init
loop-v-init c =
    let a = c.args in
    record { place = omega arith; put = turned_none (items a.f.now.given a.f.now.start) a.f.now.variables a.writer.now }

pub put_if-requires : goal.put_if-requires
put_if-requires c =
    let l = c.loop-v in
    (turned_open l.invariant.put _ 32 c.requires.0 (omega (arith, l.invariant.place, c.requires.0.room, c.requires.1, c.loop-v-test.true)), omega arith)

pub returns-in_err-put_if-clause-puts : goal.returns-in_err-put_if-clause-puts
unfolding given_said
returns-in_err-put_if-clause-puts c =
    let l = c.loop-v in
    let a = c.args in
    puts_told _ _ _ _ _ c.from_residual.ensures.1
    (turned_stop l.invariant.put c.loop-v-test.true (tested_item _ 32 (get_or a.f.now.start l.v 0) given_zero ∷ [])
    (next_on a.f.now.given a.f.now.start l.v (bit_on a.f.now.given l.v c.if-f-v-ne0.true)) (c.in_err-put_if.ensures.puts given_zero refl))

pub loop-v-preserved : goal.loop-v-preserved
loop-v-preserved c =
    let l = c.loop-v in
    let a = c.args in
    elim c.if-f-v-ne0.branch [
      | then-f-v-ne0+in_ok-put_if w ↦
          let p = w.in_ok-put_if.ensures in
          rw w.writer-is (record {
            place = omega (arith, l.invariant.place, p.passed.1);
            put = turned_on l.invariant.put c.loop-v-test.true (tested_item _ 32 (get_or a.f.now.start l.v 0) given_zero ∷ [])
                (next_on a.f.now.given a.f.now.start l.v (bit_on a.f.now.given l.v w.if-f-v-ne0.true)) (p.puts given_zero refl);
          })
      | else-f-v-ne0 w ↦
          rw w.writer-is (record {
            place = omega (arith, l.invariant.place);
            put = turned_past l.invariant.put c.loop-v-test.true (next_off a.f.now.given a.f.now.start l.v (bit_off a.f.now.given l.v w.if-f-v-ne0.false));
          })
    ]

pub returns : goal.returns
unfolding given_said
returns c =
    let l = c.loop-v in
    record {
      puts = turned_all l.invariant.put (nothing c.args.f.now.given c.args.f.now.start) c.loop-v-test.false;
      at_most = omega (arith, l.invariant.place, c.loop-v.auto.v-end, c.requires.1);
    }
