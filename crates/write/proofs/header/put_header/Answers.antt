-- `write::header::put_header` meets its contract: four items, one behind the other.
use mathlib.Core.Path.{◌≡◌, refl}
use mathlib.Core.Bool.{Bool, ◌&&◌}
use mathlib.Core.List.{[], ◌∷◌}
use Prim.Native.Nat.{ℕ, ◌+◌, ◌-◌}
use native.Mathlib.Omega.{arith}
use borrow.Author.Rules.{rules}
use lib.Dec.{leb}
use Rattle.plan.specs.Reader.{count_out}
use Rattle.plan.specs.Write.{marks_of, sound, count_item, header_items, written}
use Rattle.plan.proofs.Marks.{marks-long}
use Rattle.write.specs.declared.bits.Writer.{Writer}
use Rattle.write.specs.Puts.{Grows, tested_item}
use Rattle.write.proofs.ItemLaws.{variables-tested}
use Rattle.write.proofs.PutsLaws.{Come, open_on, grows_open, goes_sound, puts_told, come_none, come_on, come_stop, come_last}
use Rattle.write.proofs.header.put_header.Goals as goal

module _ (registers variables lookups : ℕ) where
  -- behind the version, with the number of variables as it is tested
  versioned : (few : Bool) (less_one : ℕ) (before after : Writer) → few ≡ (leb 1 variables && leb variables 16)
      → less_one ≡ variables - 1 → (after.at ≡ before.at + 3) × Grows (marks_of 3 1) before after
      → Come (written (header_items registers variables lookups) before.at)
      (written (count_item 4 1 12 registers ∷ tested_item few 4 less_one count_out ∷ count_item 4 1 12 lookups ∷ []) after.at)
      before after
  unfolding header_items
  versioned few less_one before after e l p =
      rw (e, l, ← variables-tested variables)
      (come_on (sound (marks_of 3 1) ∷ []) _ (come_none _ before)
      (goes_sound (marks_of 3 1) before after (omega (arith, p.0, marks-long 3 1)) p.1))

pub put_count-requires : goal.put_count-requires
put_count-requires c =
    (grows_open 15 4 _ c.requires c.put_bits.ensures.1 (omega (arith, c.requires.room, c.put_bits.ensures.0)), omega arith)

pub returns-in_err-put_count-clause-puts : goal.returns-in_err-put_count-clause-puts
returns-in_err-put_count-clause-puts c =
    let f = c.args.f.now in
    puts_told _ _ _ _ _ c.from_residual.ensures.1
    (come_stop (count_item 4 1 12 f.registers ∷ []) _ (versioned f.registers f.variables f.lookups _ _ _ _ refl refl c.put_bits.ensures)
    c.in_err-put_count.ensures.puts)

pub put_if-requires : goal.put_if-requires
put_if-requires c =
    let o = grows_open 15 12 _ c.requires c.put_bits.ensures.1 (omega (arith, c.requires.room, c.put_bits.ensures.0)) in
    let r = c.in_ok-put_count.ensures in
    (open_on 12 4 o r.puts (omega (arith, o.room, r.counted.0)), omega arith)

pub returns-in_err-put_if-clause-puts : goal.returns-in_err-put_if-clause-puts
returns-in_err-put_if-clause-puts c =
    let f = c.args.f.now in
    let s = versioned f.registers f.variables f.lookups c.contains-few.result c.saturating_sub.result _ _ (search rules) c.saturating_sub.ensures c.put_bits.ensures in
    let t = come_on (count_item 4 1 12 f.registers ∷ []) _ s c.in_ok-put_count.ensures.puts in
    puts_told _ _ _ _ _ c.from_residual-in_err-put_if.ensures.1
    (come_stop (tested_item _ 4 c.saturating_sub.result count_out ∷ []) _ t (c.in_err-put_if.ensures.puts count_out refl))

pub put_count-requires-2 : goal.put_count-requires-2
put_count-requires-2 c =
    let o = grows_open 15 12 _ c.requires c.put_bits.ensures.1 (omega (arith, c.requires.room, c.put_bits.ensures.0)) in
    let r = c.in_ok-put_count.ensures in
    let p = open_on 12 8 o r.puts (omega (arith, o.room, r.counted.0)) in
    let v = c.in_ok-put_if.ensures in
    (open_on 8 4 p (v.puts count_out refl) (omega (arith, p.room, v.passed.1)), omega arith)

pub returns-clause-puts : goal.returns-clause-puts
returns-clause-puts c =
    let f = c.args.f.now in
    let s = versioned f.registers f.variables f.lookups c.contains-few.result c.saturating_sub.result _ _ (search rules) c.saturating_sub.ensures c.put_bits.ensures in
    let t = come_on (count_item 4 1 12 f.registers ∷ []) _ s c.in_ok-put_count.ensures.puts in
    let u = come_on (tested_item _ 4 c.saturating_sub.result count_out ∷ []) _ t (c.in_ok-put_if.ensures.puts count_out refl) in
    come_last c.put_count-2.result c.put_count-2.new.self u c.put_count-2.ensures.puts
