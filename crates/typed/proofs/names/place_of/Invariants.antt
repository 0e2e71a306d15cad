-- `names::place_of` meets its contract. Invariant: the name's number is how many were passed, and its number among the rest.
use mathlib.Core.Path.{◌≡◌}
use mathlib.Core.List.{map}
use Prim.Native.Nat.{◌+◌}
use Rattle.plan.specs.Tokens.{place_of}
use Rattle.typed.specs.Names.{name_from}
use Rattle.typed.proofs.HeldNames.{among}
use Rattle.typed.proofs.names.place_of.Given as goal

abbrev pub invariant-loop-i : goal.invariant-loop-i
invariant-loop-i l = place_of l.name (map (name_from l.text) l.places) ≡ l.i + among l.text l.name l.places l.i
