-- `stand::done_so_far` meets its contract. Invariant: the sets and the count are those of the look-ups passed.
use Rattle.stand.proofs.DoneLaws.{Passed}
use Rattle.stand.proofs.done_so_far.Given as goal

abbrev pub invariant-loop-lookup : goal.invariant-loop-lookup
invariant-loop-lookup l = Passed l.fields l.answered l.lookup l.done.known l.done.answered l.done.made
