-- `choose::are_known` meets its contract. Invariant: the variables passed are known.
use mathlib.Core.Path.{◌≡◌}
use mathlib.Core.Bool.{true}
use lib.ListN.{take}
use Rattle.plan.specs.Lists.{every, in_set}
use Rattle.choose.proofs.are_known.Given as goal

abbrev pub invariant-loop-v : goal.invariant-loop-v
invariant-loop-v l = every (in_set l.known) (take l.v-index l.vars) ≡ true
