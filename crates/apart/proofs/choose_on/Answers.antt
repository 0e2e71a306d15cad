-- `apart::choose_on` meets its contract: the pick found is CHAIN's choice on the list, and its must-give variables show its calls.
use mathlib.Core.Path.{sym, ◌∙◌, ap}
use Prim.Native.Nat.{ℕ, ◌<◌}
use native.Mathlib.Omega.{arith}
use Rattle.plan.specs.Grow.{must_give}
use Rattle.plan.specs.Write.{marks_of}
use Rattle.sheet.specs.Fields.{vars_held}
use Rattle.choose.specs.Choose.{look_up_at, register_at}
use Rattle.choose.proofs.HeldLaws.{look_up_at-small, register_at-small}
use Rattle.apart.proofs.MustLaws.{look_up-must, must-variables, must-few}
use Rattle.apart.proofs.ChoosingLaws.{chose-below, chose_none, chose-some}
use Rattle.apart.proofs.choose_on.Goals as goal
use Rattle.apart.proofs.choose_on.Goals.{In-Some}

-- the pick is a look-up of the request by one of its rules
below : (e : In-Some) → (let b = e.in-Some.best in
    (b.lookup < e.args.stand.now.fields.now.lookups) × (b.rule < (register_at e.args.stand.now.fields.now b.lookup).rules))
below e =
    chose-below e.args.stand.now _ e.in-Some.best (sym e.in-Some.is ∙ e.choose.ensures)

low : (e : In-Some) → e.in-Some.best.lookup < 12
low e = omega (arith, (below e).0, e.args.stand.now.asks.small.lookups-high)

pub returns-in_default : goal.returns-in_default
returns-in_default c =
    chose_none c.args.stand.now _ (sym c.in_default.is ∙ c.choose.ensures) _

pub offset_bounds-stand-best : goal.offset_bounds-stand-best
offset_bounds-stand-best c = omega (arith, low c)

pub bounds-stand-best : goal.bounds-stand-best
bounds-stand-best c = low (goal.at.bounds-stand-best c).In-Some

pub marks-marks-requires-clause-look_up : goal.marks-marks-requires-clause-look_up
marks-marks-requires-clause-look_up c = (below (goal.at.marks-marks-requires-clause-look_up c).In-Some).0

pub marks-marks-requires-clause-rule : goal.marks-marks-requires-clause-rule
marks-marks-requires-clause-rule c = (below (goal.at.marks-marks-requires-clause-rule c).In-Some).1

pub put_calls-requires : goal.put_calls-requires
put_calls-requires c =
    let e = c.args.stand.now.fields.now in
    let small = look_up_at-small e c.args.stand.now.asks.small c.in-Some.best.lookup in
    rw c.vars.ensures (
      must-few _ small _ _ _ _ c.from.ensures c.vars_of-vars.ensures c.must_columns-must.ensures,
      must-variables _ small _ _ _ _ c.from.ensures c.vars_of-vars.ensures c.must_columns-must.ensures,
      c.requires.room,
    )

pub with_choice-requires : goal.with_choice-requires
with_choice-requires c =
    let e = (goal.at.with_choice-requires c).In-Some in
    (omega (arith, low e), omega (arith, (below e).1, (register_at-small e.args.stand.now.fields.now e.args.stand.now.asks.small e.in-Some.best.lookup).rules-high))

pub returns : goal.returns
returns c =
    let w = c.args.stand.now in
    let b = c.in-Some.best in
    let must = look_up-must _ (look_up_at-small w.fields.now c.args.stand.now.asks.small b.lookup) _ _ _ _ c.from.ensures c.vars_of-vars.ensures
    c.must_columns-must.ensures in
    chose-some w _ b (sym c.in-Some.is ∙ c.choose.ensures) c.vars.result.now
    (c.vars.ensures
    ∙ must.var
    ∙ ap (λ (marks : ℕ). must_give (marks_of (look_up_at w.fields.now b.lookup).columns marks) (vars_held (look_up_at w.fields.now b.lookup))) c.marks-marks.ensures)
    _ _ c.put_calls.ensures _ c.with_choice.ensures
