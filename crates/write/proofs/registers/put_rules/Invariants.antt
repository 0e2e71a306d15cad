-- `write::registers::put_rules` meets its contract. Invariant: the first rules are put.
use mathlib.Core.List.{List, map}
use Prim.Native.Nat.{ℕ, ◌+◌, ◌*◌, ◌≤◌}
use lib.ListN.{length, get_or}
use Rattle.plan.specs.Write.{Item, marks_of, sound}
use Rattle.write.proofs.LoopLaws.{Turned}
use Rattle.write.proofs.registers.put_rules.Given as goal

-- the items of the rules of these numbers
abbrev pub items : ℕ → List ℕ → List ℕ → List Item
items columns rules ks = map sound (map (λ k. marks_of columns (get_or rules k 0)) ks)

abbrev pub invariant-loop-rule : goal.invariant-loop-rule
invariant-loop-rule l =
    record {
      place : l.writer.at ≤ l.initial.writer.at + l.rule-index * 6;
      put : Turned (items l.columns l.rules) (length l.rules) l.initial.writer l.rule-index l.writer;
    }
