-- `data::find_parts` meets its contract. Invariant: the first parts are found, and the whole is these and
-- what is found from the place on.
use mathlib.Core.Path.{◌≡◌}
use Prim.Native.Nat.{◌≤◌}
use lib.ListN.{length}
use Rattle.data.proofs.PartsLaws.{Found}
use Rattle.data.proofs.find_parts.Given as goal

abbrev pub invariant-loop-i : goal.invariant-loop-i
invariant-loop-i l =
    (l.at ≤ length l.words) × (length l.part ≡ 12) × Found l.words l.columns l.part l.at l.i
