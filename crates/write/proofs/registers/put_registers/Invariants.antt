-- `write::registers::put_registers` meets its contract. Invariant: the first i registers are put, and have at most 6 columns.
use mathlib.Core.List.{List, map}
use Prim.Native.Nat.{ℕ, ◌+◌, ◌*◌, ◌≤◌}
use Rattle.plan.specs.Write.{Item, register_items, all_items}
use Rattle.sheet.specs.declared.Register.{Register}
use Rattle.write.specs.Said.{register_at}
use Rattle.write.specs.Puts.{Narrow}
use Rattle.write.proofs.LoopLaws.{Turned}
use Rattle.write.proofs.registers.put_registers.Given as goal

-- the items of the registers of these numbers
abbrev pub items : List Register → List ℕ → List Item
items register is = all_items register_items (map (register_at register) is)

abbrev pub invariant-loop-i : goal.invariant-loop-i
invariant-loop-i l =
    record {
      place : l.writer.at ≤ l.initial.writer.at + l.i * 55;
      narrow : Narrow l.i l.f.register;
      put : Turned (items l.f.register) l.f.registers l.initial.writer l.i l.writer;
    }
