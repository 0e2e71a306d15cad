use mathlib.Core.List.{[]}
use mathlib.Core.Path.{◌≡◌, sym, ◌∙◌}
use Prim.Native.Nat.{◌<◌}
use Rattle.std.specs.Prelude.{Some}
use Rattle.chain.proofs.Walk.{no_list, walked_none, walked_below, walked_more, walked_stops, walked_ends}
use Rattle.choose.specs.Choose.{calls_at, chosen}
use Rattle.choose.proofs.HeldLaws.{look_up_at-small}
use native.Mathlib.Omega.{arith}
use Rattle.chain.proofs.route.answerable.Goals as goal
use Rattle.chain.proofs.route.answerable.Goals.{In-Some}

-- the pick is the choice on a list without rows
chosen-here : (c : In-Some)
    → Some c.in-Some.best ≡ chosen c.args.fields.now c.loop-made.known c.loop-made.answered (calls_at c.args.fields.now [])
chosen-here c = sym c.in-Some.is ∙ no_list _ _ _ _ _ c.choose.ensures

-- the look-up found is one of the request's
below : (c : In-Some) → c.in-Some.best.lookup < 12
below c =
    omega (
      arith,
      c.requires.lookups-high,
      walked_below _ c.requires _ _ c.loop-made.made c.loop-made.invariant c.in-Some.best (chosen-here c),
    )

pub loop-made-init : goal.loop-made-init
loop-made-init c = walked_none _ c.requires

pub returns-in_default : goal.returns-in_default
returns-in_default c =
    walked_stops _ c.requires _ _ c.loop-made.made c.loop-made.invariant c.loop-made-test.true
    (sym c.in_default.is ∙ no_list _ _ _ _ _ c.choose.ensures)

pub offset_bounds-fields-lookup : goal.offset_bounds-fields-lookup
offset_bounds-fields-lookup c = omega (arith, below (goal.at.offset_bounds-fields-lookup c).In-Some)

pub bounds-fields-lookup : goal.bounds-fields-lookup
bounds-fields-lookup c = omega (arith, below (goal.at.bounds-fields-lookup c).In-Some)

pub learn-known-requires : goal.learn-known-requires
learn-known-requires c = look_up_at-small _ c.requires _

pub overflow_cast-answered : goal.overflow_cast-answered
overflow_cast-answered c = omega (arith, below (goal.at.overflow_cast-answered c).In-Some)

pub overflow_shl-answered : goal.overflow_shl-answered
overflow_shl-answered c = omega (arith, below (goal.at.overflow_shl-answered c).In-Some)

pub loop-made-preserved : goal.loop-made-preserved
loop-made-preserved c =
    walked_more _ c.requires _ _ c.loop-made.made c.loop-made.invariant c.loop-made-test.true c.in-Some.best
    (chosen-here (goal.at.loop-made-preserved c).In-Some) c.learn-known.result c.learn-known.ensures

pub returns : goal.returns
returns c = walked_ends _ c.requires _ _ _ c.loop-made.invariant c.loop-made-test.false
