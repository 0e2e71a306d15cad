-- What a way to cost picks keeps from one pick to the next, and what each pick costs at least. For `ByCalls` and `ByCharge`.
use Prim.Native.Nat.{ℕ, ◌≤◌, min}
use native.Mathlib.Omega.{arith}
use Rattle.std.specs.Prelude.{Option}
use Rattle.plan.specs.Request.{row_words}
use Rattle.plan.proofs.Table.{length-rows}
use Rattle.count.proofs.CallsLaws.{combinations-least}
use Rattle.sheet.specs.declared.Fields.{Fields}
use Rattle.choose.specs.declared.Best.{Best}
use Rattle.choose.specs.declared.counted.Counted.{Counted}
use Rattle.count.specs.declared.rows.ListRows.{ListRows}
use Rattle.count.specs.Listed.{rows_of}
use Rattle.choose.specs.Choose.{CallsReady, calls_at, must_give_at}

-- a pick that may be tried by its calls may be left out
pub calls-later : (f : Fields) (list : ListRows) (c : Counted) (n m : ℕ) (b : Option Best) → n ≤ m
    → CallsReady f list c n b → CallsReady f list c m b
calls-later f list c n m b l r =
    record { small = r.small; few = omega (arith, r.few); compared = r.compared }

-- each pick takes a call at least on a list with rows
pub calls-least : (f : Fields) (list : ListRows) (i j : ℕ) → min 1 list.rows ≤ calls_at f (rows_of list) i j
calls-least f list i j =
    omega (arith, combinations-least (must_give_at f i j) (rows_of list), length-rows row_words list.rows list.words.now)
