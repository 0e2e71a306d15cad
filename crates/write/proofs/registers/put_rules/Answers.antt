use mathlib.Core.Path.{◌≡◌, refl, ap}
use mathlib.Core.List.{[], ◌∷◌}
use Prim.Native.Nat.{◌≤◌, ◌<◌}
use native.Mathlib.Omega.{arith}
use lib.ListN.{length, get_or}
use Rattle.plan.specs.Write.{sound, marks_of}
use Rattle.plan.proofs.Marks.{marks-long}
use Rattle.write.proofs.PutsLaws.{goes_sound}
use Rattle.write.proofs.LoopLaws.{told_all, turned_none, turned_open, turned_on, turned_all}
use Rattle.write.proofs.registers.put_rules.Invariants.{items}
use Rattle.write.proofs.registers.put_rules.Goals as goal

pub loop-rule-init : goal.loop-rule-init
loop-rule-init c =
    let a = c.args in
    record { place = omega arith; put = turned_none (items a.columns a.rules.now) (length a.rules.now) a.writer.now }

pub put_bits-requires : goal.put_bits-requires
put_bits-requires c =
    let l = c.loop-rule in
    let low : l.rule-index < length c.args.rules.now = omega arith in (
      turned_open l.invariant.put _ c.args.columns c.requires.0
          (omega (arith, l.invariant.place, c.requires.0.room, c.requires.1, c.requires.2, low)),
      omega (arith, c.requires.1),
    )

pub loop-rule-preserved : goal.loop-rule-preserved
loop-rule-preserved c =
    let l = c.loop-rule in
    let a = c.args in
    let low : l.rule-index < length a.rules.now = omega arith in
    let p = c.put_bits.ensures in
    let n = c.from.result in
    let e : marks_of a.columns n ≡ marks_of a.columns (get_or a.rules.now l.rule-index 0) = ap (marks_of a.columns) c.from.ensures in
    record {
      place = omega (arith, l.invariant.place, p.0, c.requires.1);
      put = turned_on l.invariant.put low (sound (marks_of a.columns (get_or a.rules.now l.rule-index 0)) ∷ []) (λ ks. refl)
          (rw (← e) (goes_sound (marks_of a.columns n) l.writer c.put_bits.new.self (omega (arith, p.0, marks-long a.columns n)) p.1));
    }

pub returns : goal.returns
returns c =
    let l = c.loop-rule in
    let a = c.args in
    let all : length a.rules.now ≤ l.rule-index = omega arith in
    let e = told_all (marks_of a.columns) a.rules.now in
    record {
      puts = rw (← e) (turned_all l.invariant.put refl all);
      at_most = omega (arith, l.invariant.place, c.requires.2);
    }
