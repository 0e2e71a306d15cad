use mathlib.Core.Path.{◌∙◌}
use mathlib.Core.List.{[]}
use Prim.Native.Nat.{◌<◌}
use borrow.Author.Rules.{rules}
use native.Mathlib.Omega.{arith}
use Rattle.plan.specs.Lists.{vars_in}
use Rattle.plan.specs.Reader.{unused_variable}
use Rattle.plan.specs.Sheet.{all_used}
use Rattle.plan.proofs.Sets.{vars-has, bit_off, bit_on}
use Rattle.plan.proofs.First.{all-used_stop, all-used_go}
use Rattle.sheet.proofs.Readers.{read_as-got, read_as-bad}
use Rattle.sheet.proofs.Used.{unused_next, unused-here, unused_none}
use Rattle.sheet.proofs.closing.all_used.Goals as goal

pub returns-then-used-v-eq0 : goal.returns-then-used-v-eq0
returns-then-used-v-eq0 c =
    let a = c.args in
    let l = c.loop-v in
    let low : l.v < 16 = omega arith in
    read_as-bad _ (all_used (vars_in a.used) a.variables [] a.at) unused_variable l.v
    (all-used_stop (vars_in a.used) a.variables [] a.at l.v
    (l.invariant ∙ unused-here (vars_in a.used) l.v a.variables (search rules)
    (vars-has a.used l.v low ∙ bit_off a.used l.v c.if-used-v-eq0.true)))

pub loop-v-preserved : goal.loop-v-preserved
loop-v-preserved c =
    let a = c.args in
    let l = c.loop-v in
    let low : l.v < 16 = omega arith in
    l.invariant ∙ unused_next (vars_in a.used) l.v a.variables (search rules)
    (vars-has a.used l.v low ∙ bit_on a.used l.v c.if-used-v-eq0.false)

pub returns : goal.returns
returns c =
    let a = c.args in
    let l = c.loop-v in
    read_as-got _ (all_used (vars_in a.used) a.variables [] a.at) tt a.at
    (all-used_go (vars_in a.used) a.variables [] a.at
    (l.invariant ∙ unused_none (vars_in a.used) l.v a.variables (search rules)))
