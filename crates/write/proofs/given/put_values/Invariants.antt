-- `write::given::put_values` meets its contract. Invariant: the values of the given ones among the first variables are put.
use mathlib.Core.List.{List, map}
use Prim.Native.Nat.{ℕ, ◌+◌, ◌*◌, ◌≤◌}
use Rattle.plan.specs.Lists.{from_set}
use Rattle.plan.specs.Request.{reads}
use Rattle.plan.specs.Write.{Item, value_item}
use Rattle.write.proofs.LoopLaws.{Turned}
use Rattle.write.proofs.given.put_values.Given as goal

-- the items of the given ones of these variables
abbrev pub items : ℕ → List ℕ → List ℕ → List Item
items given start vs = map value_item (reads start (from_set given vs))

abbrev pub invariant-loop-v : goal.invariant-loop-v
invariant-loop-v l =
    record {
      place : l.writer.at ≤ l.initial.writer.at + l.v * 32;
      put : Turned (items l.f.given l.f.start) l.f.variables l.initial.writer l.v l.writer;
    }
