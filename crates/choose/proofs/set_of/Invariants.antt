-- `choose::set_of` meets its contract. Invariant: the set is that of the variables passed.
use mathlib.Core.Path.{◌≡◌}
use lib.ListN.{take}
use Rattle.plan.specs.Lists.{set_of}
use Rattle.choose.proofs.set_of.Given as goal

abbrev pub invariant-loop-v : goal.invariant-loop-v
invariant-loop-v l = l.set ≡ set_of (take l.v-index l.vars)
