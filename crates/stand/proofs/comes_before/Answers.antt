-- `stand::comes_before` meets its contract, by what the comparison of the two rows says.
use mathlib.Core.Path.{◌≡◌, sym}
use Prim.Native.Nat.{◌+◌, ◌-◌, ◌*◌}
use native.Mathlib.Omega.{arith}
use Rattle.list.specs.Order.{row_of}
use Rattle.list.proofs.OrderLaws.{comparison-lt}
use Rattle.stand.proofs.RowsLaws.{before_last, before_next}
use Rattle.stand.proofs.comes_before.Goals as goal

pub returns-then-row-rows : goal.returns-then-row-rows
returns-then-row-rows c =
    let a = c.args in
    sym (before_last a.row a.rows a.table.now c.if-row-rows.true)

pub returns : goal.returns
returns c =
    let a = c.args in
    let t = a.table.now in
    let wide : a.row * 16 + 16 - a.row * 16 ≡ 16 = omega arith in
    let next : a.row * 16 + 16 ≡ (a.row + 1) * 16 = omega arith in
    let order = rw (wide, next) at c.compare_rows.ensures in
    let test = comparison-lt (row_of t a.row) (row_of t (a.row + 1)) in
    let said = before_next a.row a.rows t c.if-row-rows.false in
    cc
