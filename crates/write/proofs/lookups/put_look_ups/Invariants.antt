-- `write::lookups::put_look_ups` meets its contract. Invariant: the first i look-ups are put, and their variables make the set.
use mathlib.Core.Path.{◌≡◌}
use mathlib.Core.List.{List, [], map}
use Prim.Native.Nat.{ℕ, ◌+◌, ◌*◌, ◌≤◌}
use Rattle.plan.specs.Lists.{numbers, set_of}
use Rattle.plan.specs.Sheet.{used}
use Rattle.plan.specs.Write.{Item, look_up_items, all_items}
use Rattle.sheet.specs.declared.Fields.{Fields}
use Rattle.write.specs.Said.{look_up_at}
use Rattle.write.proofs.LoopLaws.{Turned}
use Rattle.write.proofs.lookups.put_look_ups.Given as goal

-- the items of the look-ups of these numbers
abbrev pub items : Fields → List ℕ → List Item
items f is = all_items (look_up_items f.registers f.variables) (map (look_up_at f.register f.lookup) is)

-- the set of the variables of the first look-ups
abbrev pub used_by : Fields → ℕ → ℕ
used_by f i = set_of (used [] (map (look_up_at f.register f.lookup) (numbers 0 i)))

abbrev pub invariant-loop-i : goal.invariant-loop-i
invariant-loop-i l =
    record {
      place : l.writer.at ≤ l.initial.writer.at + l.i * 28;
      set : l.used ≡ used_by l.f l.i;
      put : Turned (items l.f) l.f.lookups l.initial.writer l.i l.writer;
    }
