-- `names::read_names` meets its contract. Invariant: the names held are different names and the first pieces of the line, and the
-- others are those of what is left. Each way out decides whether the line is one name for each register.
use Rattle.typed.proofs.ReadingLaws.{Reading}
use Rattle.typed.proofs.names.read_names.Given as goal

abbrev pub invariant-loop-count : goal.invariant-loop-count
invariant-loop-count l = Reading l.second l.places l.count l.place
