-- `chain::route::left_open` meets its contract. Invariant: the bits are those of the look-ups passed.
use Rattle.chain.proofs.OpenLaws.{Counted}
use Rattle.chain.proofs.route.left_open.Given as goal

abbrev pub invariant-loop-i : goal.invariant-loop-i
invariant-loop-i l = Counted l.answered l.n l.bits l.i
