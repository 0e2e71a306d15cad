use mathlib.Core.Path.{◌≡◌, refl, sym, ◌∙◌, ap}
use mathlib.Core.List.{List, [], ◌∷◌, ◌++◌, map}
use Prim.Native.Nat.{ℕ, ◌+◌}
use native.Mathlib.Omega.{arith}
use lib.ListN.{get_or}
use lib.Bits.{bit_or}
use Rattle.plan.specs.Lists.{numbers, set_of}
use Rattle.plan.specs.Sheet.{used}
use Rattle.plan.specs.Write.{look_up_items, all_items}
use Rattle.plan.proofs.Sets.{set-nil}
use Rattle.plan.proofs.Told.{told_more}
use Rattle.sheet.specs.declared.Fields.{Fields}
use Rattle.sheet.specs.Fields.{look_up_beyond}
use Rattle.sheet.proofs.Used.{used-put}
use Rattle.write.specs.Said.{look_up_said, look_up_at}
use Rattle.write.proofs.PutsLaws.{puts_told}
use Rattle.write.proofs.LoopLaws.{turned_none, turned_open, turned_on, turned_stop, turned_all}
use Rattle.write.proofs.lookups.put_look_ups.Invariants.{items, used_by}
use Rattle.write.proofs.lookups.put_look_ups.Goals as goal

-- none yet
used_none : (f : Fields) → 0 ≡ used_by f 0
unfolding numbers used
used_none f = sym set-nil

-- one more
used-more : (f : Fields) (i m n : ℕ) → m ≡ used_by f i → n ≡ set_of (look_up_said f.register (get_or f.lookup i look_up_beyond)).vars
    → bit_or m n ≡ used_by f (i + 1)
unfolding look_up_at
used-more f i m n e h =
    used-put (map (look_up_at f.register f.lookup) (numbers 0 i)) (look_up_at f.register f.lookup i) m n e h
    ∙ ap (λ ls. set_of (used [] ls)) (sym (told_more (look_up_at f.register f.lookup) i))

-- the next look-up stands in front of the rest
next : (f : Fields) (i : ℕ) (is : List ℕ)
    → items f (i ∷ is)
    ≡ look_up_items f.registers f.variables (look_up_said f.register (get_or f.lookup i look_up_beyond)) ++ items f is
unfolding all_items look_up_at
next f i is = refl

-- no look-ups have no items
nothing : (f : Fields) → items f [] ≡ []
unfolding all_items
nothing f = refl

pub loop-i-init : goal.loop-i-init
loop-i-init c =
    let a = c.args in
    record { place = omega arith; set = used_none a.f.now; put = turned_none (items a.f.now) a.f.now.lookups a.writer.now }

pub put_look_up-requires : goal.put_look_up-requires
put_look_up-requires c =
    let l = c.loop-i in
    let few = c.requires.few in record {
      few = (
        turned_open l.invariant.put _ _ few.0 (omega (arith, l.invariant.place, few.0.room, few.3, c.loop-i-test.true)),
        few.1,
        few.2,
      );
      narrow = c.requires.narrow;
    }

pub returns-in_err-used-clause-puts : goal.returns-in_err-used-clause-puts
returns-in_err-used-clause-puts c =
    let l = c.loop-i in
    puts_told _ _ _ _ _ c.from_residual.ensures.1
    (turned_stop l.invariant.put c.loop-i-test.true _ (next c.args.f.now l.i) c.in_err-used.ensures.puts)

pub loop-i-preserved : goal.loop-i-preserved
loop-i-preserved c =
    let l = c.loop-i in
    let p = c.in_ok-used.ensures in
    record {
      place = omega (arith, l.invariant.place, p.at_most);
      set = used-more c.args.f.now l.i l.used _ l.invariant.set p.set;
      put = turned_on l.invariant.put c.loop-i-test.true _ (next c.args.f.now l.i) p.puts;
    }

pub returns : goal.returns
returns c =
    let l = c.loop-i in
    let e : l.i ≡ c.args.f.now.lookups = omega (arith, c.loop-i.auto.i-end, c.loop-i-test.false) in record {
      puts = turned_all l.invariant.put (nothing c.args.f.now) c.loop-i-test.false;
      at_most = omega (arith, l.invariant.place, c.requires.few.3, e);
      set = l.invariant.set ∙ ap (used_by c.args.f.now) e;
    }
