-- `sheet::lookups::read_vars` meets its contract. Invariant: i readings gave the variables that stand in the array and in
-- the set.
use mathlib.Core.Path.{◌≡◌}
use mathlib.Core.List.{List}
use Prim.Native.Nat.{ℕ, ◌≤◌, ◌+◌, ◌*◌}
use Rattle.plan.specs.Sheet.{one_of}
use Rattle.sheet.specs.Parts.{vars_using}
use Rattle.sheet.specs.declared.lookups.Using.{Using}
use Rattle.sheet.proofs.Arrays.{Reading}
use Rattle.sheet.proofs.lookups.read_vars.Given as goal

abbrev pub invariant-loop-i : goal.invariant-loop-i
invariant-loop-i l =
    (l.reader.at ≤ l.initial.reader.at + l.i * 4)
    × Reading (one_of l.variables) l.initial.reader l.i l.reader
    (λ vs. ◌≡◌ {A = Using (List ℕ)} (record { read = l.read; used = l.used }) (vars_using vs))
