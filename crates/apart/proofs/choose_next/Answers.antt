-- `apart::choose_next` meets its contract: 1, then an earlier 5, then the next step.
use native.Mathlib.Omega.{arith}
use Rattle.apart.proofs.NextLaws.{next_short, next_over, next_here}
use Rattle.apart.proofs.choose_next.Goals as goal

pub returns-then-is_short : goal.returns-then-is_short
returns-then-is_short c =
    next_short _ _ c.is_short.result c.is_short.ensures c.args.state _ c.refused_turn.result c.refused_turn.ensures c.then-is_short.either

pub returns-then-over-ne0 : goal.returns-then-over-ne0
returns-then-over-ne0 c =
    next_over _ _ c.is_short.result c.is_short.ensures c.args.state _ c.from-over.result c.from-over.ensures _ c.refused_over.ensures
    c.if-is_short.false (omega arith) c.if-over-ne0.true

pub returns : goal.returns
returns c =
    next_here _ _ c.is_short.result c.is_short.ensures c.args.state _ c.from-over.result c.from-over.ensures _
    c.if-is_short.false (omega arith) c.if-over-ne0.false (rw (← c.of-stand.ensures.of_state) (c.choose_here.ensures c.args.second.now))
