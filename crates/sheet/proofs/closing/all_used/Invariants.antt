-- `sheet::closing::all_used` meets its contract. Invariant: the first unused variable of all is the first of those left.
use mathlib.Core.Path.{◌≡◌}
use Prim.Native.Nat.{◌-◌}
use Rattle.plan.specs.Lists.{numbers, vars_in}
use Rattle.plan.specs.Sheet.{first_unused}
use Rattle.sheet.proofs.closing.all_used.Given as goal

abbrev pub invariant-loop-v : goal.invariant-loop-v
invariant-loop-v l =
    first_unused (vars_in l.used) (numbers 0 l.variables) ≡ first_unused (vars_in l.used) (numbers l.v (l.variables - l.v))
