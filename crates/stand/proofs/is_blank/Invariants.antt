-- `stand::is_blank` meets its contract. Invariant: the answer is that of the variables from the next one on.
use mathlib.Core.Path.{◌≡◌}
use Rattle.plan.specs.Lists.{vars_in}
use Rattle.plan.specs.Apart.{is_blank}
use Rattle.stand.proofs.RowsLaws.{blank_from}
use Rattle.stand.proofs.is_blank.Given as goal

abbrev pub invariant-loop-v : goal.invariant-loop-v
invariant-loop-v l = is_blank (vars_in l.known) l.row ≡ blank_from l.known l.row l.v
