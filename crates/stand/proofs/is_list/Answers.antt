use mathlib.Core.Path.{◌≡◌, sym, ◌∙◌, ap}
use Prim.Native.Nat.{◌+◌, ◌-◌, ◌*◌}
use native.Mathlib.Omega.{arith}
use lib.ListN.{take, drop}
use Rattle.plan.specs.Lists.{vars_in}
use Rattle.plan.specs.Apart.{is_blank}
use Rattle.list.specs.Order.{row_of}
use Rattle.stand.proofs.RowsLaws.{list-end, list-not_blank, list-not-before, list-more}
use Rattle.stand.proofs.is_list.Goals as goal
use Rattle.stand.proofs.is_list.Goals.{After-is_blank}

-- the row that is looked at
looked : (c : After-is_blank) → c.is_blank.result ≡ is_blank (vars_in c.args.known) (row_of c.args.table.now c.loop-row.row)
looked c =
    let i = c.loop-row.row in
    let wide : i * 16 + 16 - i * 16 ≡ 16 = omega arith in
    c.is_blank.ensures ∙ ap (λ n. is_blank (vars_in c.args.known) (take n (drop (i * 16) c.args.table.now))) wide

pub returns-then-not-is_blank : goal.returns-then-not-is_blank
returns-then-not-is_blank c =
    let a = c.args in
    sym (c.loop-row.invariant
    ∙ list-not_blank (vars_in a.known) a.rows a.table.now c.loop-row.row (omega arith)
    (sym (looked (goal.at.returns-then-not-is_blank c).After-is_blank) ∙ c.if-not-is_blank.true))

pub returns-then-not-comes_before : goal.returns-then-not-comes_before
returns-then-not-comes_before c =
    let a = c.args in
    sym (c.loop-row.invariant
    ∙ list-not-before (vars_in a.known) a.rows a.table.now c.loop-row.row (omega arith)
    (sym c.comes_before.ensures ∙ c.if-not-comes_before.true))

pub loop-row-preserved : goal.loop-row-preserved
loop-row-preserved c =
    let a = c.args in
    c.loop-row.invariant
    ∙ list-more (vars_in a.known) a.rows a.table.now c.loop-row.row (omega arith)
    (sym (looked (goal.at.loop-row-preserved c).After-is_blank) ∙ c.if-not-is_blank.false)
    (sym c.comes_before.ensures ∙ c.if-not-comes_before.false)

pub returns : goal.returns
returns c =
    let a = c.args in
    sym (c.loop-row.invariant ∙ list-end (vars_in a.known) a.rows a.table.now c.loop-row.row (omega arith))
