-- `chain::route::answerable` meets its contract. Invariant: the sets stand for a state from which what is left of the walk
-- comes to the whole.
use Rattle.chain.proofs.Walk.{Walked}
use Rattle.chain.proofs.route.answerable.Given as goal

abbrev pub invariant-loop-made : goal.invariant-loop-made
invariant-loop-made l = Walked l.fields l.known l.answered l.made
