use mathlib.Core.Path.{◌≡◌, refl}
use mathlib.Core.List.{List, [], ◌∷◌, ◌++◌}
use Prim.Native.Nat.{ℕ}
use native.Mathlib.Omega.{arith}
use lib.ListN.{get_or}
use Rattle.plan.specs.Write.{register_items, all_items}
use Rattle.sheet.specs.declared.Register.{Register}
use Rattle.sheet.specs.Fields.{register_beyond}
use Rattle.write.specs.Said.{register_said, register_at}
use Rattle.write.proofs.PutsLaws.{puts_told}
use Rattle.write.proofs.LoopLaws.{turned_none, turned_open, turned_on, turned_stop, turned_all, narrow-more}
use Rattle.write.proofs.registers.put_registers.Invariants.{items}
use Rattle.write.proofs.registers.put_registers.Goals as goal

-- the next register stands in front of the rest
next : (register : List Register) (i : ℕ) (is : List ℕ)
    → items register (i ∷ is) ≡ register_items (register_said (get_or register i register_beyond)) ++ items register is
unfolding all_items register_at
next register i is = refl

-- no registers have no items
none_lem : (register : List Register) → items register [] ≡ []
unfolding all_items
none_lem register = refl

pub loop-i-init : goal.loop-i-init
loop-i-init c =
    record {
      place = omega arith;
      narrow = λ i h. absurd (let x : ⊥ = omega arith in x);
      put = turned_none (items c.args.f.now.register) c.args.f.now.registers c.args.writer.now;
    }

pub put_register-requires : goal.put_register-requires
put_register-requires c =
    let l = c.loop-i in
    turned_open l.invariant.put _ _ c.requires.0 (omega (arith, l.invariant.place, c.requires.0.room, c.requires.1, c.loop-i-test.true))

pub returns-in_err-put_register-clause-puts : goal.returns-in_err-put_register-clause-puts
returns-in_err-put_register-clause-puts c =
    let l = c.loop-i in
    puts_told _ _ _ _ _ c.from_residual.ensures.1
    (turned_stop l.invariant.put c.loop-i-test.true _ (next c.args.f.now.register l.i) c.in_err-put_register.ensures.puts)

pub loop-i-preserved : goal.loop-i-preserved
loop-i-preserved c =
    let l = c.loop-i in
    let p = c.in_ok-put_register.ensures in
    record {
      place = omega (arith, l.invariant.place, p.at_most);
      narrow = narrow-more l.i c.args.f.now.register l.invariant.narrow p.narrow;
      put = turned_on l.invariant.put c.loop-i-test.true _ (next c.args.f.now.register l.i) p.puts;
    }

pub returns : goal.returns
returns c =
    let l = c.loop-i in
    record {
      puts = turned_all l.invariant.put (none_lem c.args.f.now.register) c.loop-i-test.false;
      at_most = omega (arith, l.invariant.place, c.loop-i.auto.i-end, c.requires.1);
      narrow = λ j b. l.invariant.narrow j (omega (arith, b, c.loop-i-test.false));
    }
