-- `choose::ByCalls` tries a pick by its calls: a pick whose set includes one that was counted changes nothing, any other is
-- counted up to what is enough.
use mathlib.Core.Path.{refl, sym, ◌∙◌, ap}
use Prim.Native.Nat.{◌<◌}
use Rattle.plan.specs.Request.{row_words}
use Rattle.plan.specs.Grow.{combinations}
use Rattle.plan.proofs.Table.{length-rows}
use Rattle.count.specs.Calls.{Variables}
use Rattle.count.proofs.CallsLaws.{variables-below}
use Rattle.count.specs.Listed.{rows_of}
use Rattle.sent.specs.Sent.{vars_of}
use Rattle.sent.proofs.SentLaws.{fits_variables}
use Rattle.choose.specs.Choose.{better}
use Rattle.choose.proofs.ChooseLaws.{included-kept, counted-same, counted-more}
use Rattle.choose.proofs.GivesLaws.{given_fits}
use Rattle.choose.proofs.HeldLaws.{look_up_at-small, register_at-small}
use native.Mathlib.Omega.{arith}
use Rattle.choose.proofs.ByCallsCosting.try_rule.Goals as goal
use Rattle.choose.proofs.ByCallsCosting.try_rule.Goals.{Start}

-- the must-give variables are words of a list row
variables : (c : Start) → Variables (vars_of c.args.must.now)
variables c =
    let f = c.args.self.now.fields.now in
    fits_variables _ _ (given_fits _ (look_up_at-small f c.requires.ready.small c.args.lookup) _ _ c.requires.pick.must)

-- there is room for one more set
room : (c : Start) → c.args.self.now.counted.count < 96
room c =
    let f = c.args.self.now.fields.now in
    omega (arith, c.requires.ready.few, c.requires.pick.lookup, c.requires.pick.rule, c.requires.ready.small.lookups-high, (register_at-small f c.requires.ready.small c.args.lookup).rules-high)

pub set_of-set-requires : goal.set_of-set-requires
set_of-set-requires c = rw c.vars-vars.ensures (variables (goal.at.set_of-set-requires c).Start)

pub calls_up_to-calls-requires : goal.calls_up_to-calls-requires
calls_up_to-calls-requires c =
    record { variables = rw c.vars-vars.ensures (variables (goal.at.calls_up_to-calls-requires c).Start) }

pub add-requires : goal.add-requires
add-requires c = room (goal.at.add-requires c).Start

pub returns-then-includes_one : goal.returns-then-includes_one
returns-then-includes_one c =
    let s = c.args.self.now in
    let r = c.requires.ready in
    let hit = sym c.includes_one.ensures ∙ c.if-includes_one.true in
    let kept = included-kept _ c.args.best s.counted r.compared (vars_of c.args.must.now) c.args.lookup c.args.rule
    (rw (c.set_of-set.ensures, c.vars-vars.ensures) at hit) in
    record {
      tries = sym kept ∙ ap (λ vs. better c.args.best c.args.lookup c.args.rule (combinations vs (rows_of s.list))) c.requires.pick.must.var;
      same = refl;
      ready = record { small = r.small; few = omega (arith, r.few); compared = r.compared };
      begun = tt;
    }

pub returns : goal.returns
returns c =
    let s = c.args.self.now in
    let r = c.requires.ready in
    let vs = vars_of c.args.must.now in
    let counted = rw c.vars-vars.ensures at c.calls_up_to-calls.ensures in
    let long = length-rows row_words s.list.rows s.list.words.now in
    let sets = rw (c.set_of-set.ensures, c.vars-vars.ensures) at c.add.ensures.0 in
    record {
      tries = counted-same _ c.args.best s.counted r.compared vs c.args.lookup c.args.rule s.list.rows _ _ _ long c.enough_calls-enough.ensures counted c.better_pick.ensures
          ∙ ap (λ us. better c.args.best c.args.lookup c.args.rule (combinations us (rows_of s.list))) c.requires.pick.must.var;
      same = refl;
      ready =
          record {
            small = r.small;
            few = omega (arith, r.few, c.add.ensures.1);
            compared =
                counted-more _ c.args.best s.counted r.compared vs c.args.lookup c.args.rule s.list.rows _ _ _ long c.enough_calls-enough.ensures counted c.better_pick.ensures
                c.add.new.self (variables-below vs (variables (goal.at.returns c).Start)) (room (goal.at.returns c).Start) sets c.add.ensures.1;
          };
      begun = tt;
    }
