-- `names::begins_with` meets its contract. Invariant: the bytes passed are the same.
use Rattle.typed.proofs.HeldNames.{Alike}
use Rattle.typed.proofs.names.begins_with.Given as goal

abbrev pub invariant-loop-i : goal.invariant-loop-i
invariant-loop-i l = Alike l.name l.bytes l.i
