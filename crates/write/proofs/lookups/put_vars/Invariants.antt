-- `write::lookups::put_vars` meets its contract. Invariant: the variables of the first columns are put, and make the set.
use mathlib.Core.Path.{◌≡◌}
use mathlib.Core.List.{List, map}
use Prim.Native.Nat.{ℕ, ◌+◌, ◌*◌, ◌≤◌}
use lib.ListN.{length}
use Rattle.plan.specs.Lists.{numbers, set_of}
use Rattle.plan.specs.Request.{reads}
use Rattle.plan.specs.Write.{Item, name_item}
use Rattle.write.proofs.LoopLaws.{Turned}
use Rattle.write.proofs.lookups.put_vars.Given as goal

-- the items of the variables of these columns
abbrev pub items : ℕ → List ℕ → List ℕ → List Item
items variables vars cs = map (name_item variables) (reads vars cs)

abbrev pub invariant-loop-v : goal.invariant-loop-v
invariant-loop-v l =
    record {
      place : l.writer.at ≤ l.initial.writer.at + l.v-index * 4;
      set : l.used ≡ set_of (reads l.vars (numbers 0 l.v-index));
      put : Turned (items l.variables l.vars) (length l.vars) l.initial.writer l.v-index l.writer;
    }
