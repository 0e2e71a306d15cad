-- `write::registers::put_register` meets its contract: two counts and then the rules, one behind the other.
use mathlib.Core.Path.{◌≡◌, ap}
use mathlib.Core.List.{List, [], ◌∷◌, map}
use Prim.Native.Nat.{ℕ, ◌+◌, ◌≤◌}
use native.Mathlib.Omega.{arith}
use borrow.Author.Rules.{rules}
use lib.ListN.{length}
use lib.Seq.{length-take-le}
use Rattle.plan.specs.Lists.{numbers}
use Rattle.plan.specs.Write.{Item, marks_of, sound, count_item, register_items, written}
use Rattle.sheet.specs.declared.Register.{Register}
use Rattle.write.specs.declared.bits.Writer.{Writer}
use Rattle.write.specs.Said.{rule_said, register_said}
use Rattle.write.proofs.SaidLaws.{said-rules}
use Rattle.write.proofs.LoopLaws.{told_first}
use Rattle.write.proofs.PutsLaws.{Come, open_on, open_less, puts_told, come_none, come_as, come_on, come_stop, come_goes}
use Rattle.write.proofs.registers.put_register.Goals as goal

-- the items of an entry that has so many columns and rules
abbrev items_of : Register → ℕ → ℕ → List Item
items_of r columns rules =
    count_item 3 1 6 columns ∷ count_item 4 1 8 rules ∷ map sound (map (rule_said columns r.rule) (numbers 0 rules))

-- at the start, by what the code reads of the entry
opened : (r : Register) (columns rules : ℕ) (before : Writer) → columns ≡ r.columns → rules ≡ r.rules
    → Come (written (register_items (register_said r)) before.at) (written (items_of r columns rules) before.at) before before
unfolding register_items register_said
opened r columns rules before ec er =
    rw (ec, er) (come_as
    (ap (λ (n : ℕ). written (count_item 3 1 6 r.columns ∷ count_item 4 1 8 n ∷ map sound (map (rule_said r.columns r.rule) (numbers 0 r.rules))) before.at)
    (said-rules r))
    (come_none _ before))

pub put_count-requires : goal.put_count-requires
put_count-requires c = (open_less _ 3 (omega arith) c.requires, omega arith)

pub returns-in_err-put_count-clause-puts : goal.returns-in_err-put_count-clause-puts
returns-in_err-put_count-clause-puts c =
    let a = c.args in
    let s = opened a.r.now _ _ a.writer.now c.from-columns.ensures c.from-rules.ensures in
    puts_told _ _ _ _ _ c.from_residual.ensures.1
    (come_stop (count_item 3 1 6 c.from-columns.result ∷ []) _ s c.in_err-put_count.ensures.puts)

pub put_count-requires-2 : goal.put_count-requires-2
put_count-requires-2 c =
    let p = c.in_ok-put_count.ensures in
    (open_on _ 4 c.requires p.puts (omega (arith, c.requires.room, p.counted.0)), omega arith)

pub returns-in_err-put_count-2-clause-puts : goal.returns-in_err-put_count-2-clause-puts
returns-in_err-put_count-2-clause-puts c =
    let a = c.args in
    let s = opened a.r.now _ _ a.writer.now c.from-columns.ensures c.from-rules.ensures in
    let t = come_on (count_item 3 1 6 c.from-columns.result ∷ []) _ s c.in_ok-put_count.ensures.puts in
    puts_told _ _ _ _ _ c.from_residual-in_err-put_count-2.ensures.1
    (come_stop (count_item 4 1 8 c.from-rules.result ∷ []) _ t c.in_err-put_count-2.ensures.puts)

pub put_rules-requires : goal.put_rules-requires
put_rules-requires c =
    let p = c.in_ok-put_count.ensures in
    let q = c.in_ok-put_count-2.ensures in
    let o = open_on _ (48 + 4) c.requires p.puts (omega (arith, c.requires.room, p.counted.0)) in
    let fit : c.from-rules.result ≤ length c.args.r.now.rule = search rules in
    let long = length-take-le c.from-rules.result c.args.r.now.rule fit in
    (open_on _ _ o q.puts (omega (arith, o.room, q.counted.0)), p.counted.1, omega (arith, long, q.counted.1))

pub returns-clause-puts : goal.returns-clause-puts
unfolding rule_said
returns-clause-puts c =
    let a = c.args in
    let fit : c.from-rules.result ≤ length a.r.now.rule = search rules in
    let first = told_first (marks_of c.from-columns.result) a.r.now.rule c.from-rules.result fit in
    let s = opened a.r.now _ _ a.writer.now c.from-columns.ensures c.from-rules.ensures in
    let t = come_on (count_item 3 1 6 c.from-columns.result ∷ []) _ s c.in_ok-put_count.ensures.puts in
    let u = come_on (count_item 4 1 8 c.from-rules.result ∷ []) _ t c.in_ok-put_count-2.ensures.puts in
    come_goes u (rw first c.put_rules.ensures.puts)
