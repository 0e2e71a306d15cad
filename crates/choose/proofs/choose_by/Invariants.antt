-- `choose::choose_by` meets its contract. Invariant: all look-ups tried from the start come to the look-ups left tried from the
-- best so far, and what is kept chooses as at the start and is ready for the next look-up.
use mathlib.Core.Path.{◌≡◌}
use Prim.Native.Nat.{◌*◌}
use Rattle.std.specs.Prelude.{None}
use Rattle.choose.specs.Choose.{tried_look_ups}
use Rattle.choose.proofs.ChooseLaws.{Left}
use Rattle.choose.proofs.choose_by.Given as goal

abbrev pub invariant-loop-lookup : goal.invariant-loop-lookup
invariant-loop-lookup g l =
    Left (tried_look_ups l.fields l.known l.answered (g.C.Costing.chooses l.initial.costs).cost) l.lookups None l.best l.lookup
    × (g.C.Costing.chooses l.costs ≡ g.C.Costing.chooses l.initial.costs)
    × g.C.Costing.ready l.costs (8 * l.lookup) l.best
