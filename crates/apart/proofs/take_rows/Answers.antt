-- `apart::take_rows` meets its contract: 1, an earlier 5, a step taken before, 15, and then the delivery.
use mathlib.Core.Path.{sym, ◌∙◌}
use Rattle.apart.proofs.NextLaws.{take_short, take-over, take-here}
use Rattle.apart.proofs.HandedLaws.{here-taken, here-not, here-chosen}
use Rattle.apart.proofs.take_rows.Goals as goal

pub returns-then-is_short : goal.returns-then-is_short
returns-then-is_short c =
    take_short _ _ c.is_short.result c.is_short.ensures c.args.state c.args.step c.args.sent.now
    c.refused_turn.result c.refused_turn.ensures c.if-is_short.true

pub returns-then-over-ne0 : goal.returns-then-over-ne0
returns-then-over-ne0 c =
    take-over _ _ c.is_short.result c.is_short.ensures c.args.state c.args.step c.args.sent.now c.from-over.result c.from-over.ensures _
    c.refused_over.ensures c.if-is_short.false c.if-over-ne0.true

pub returns-then-is_taken : goal.returns-then-is_taken
returns-then-is_taken c =
    take-here _ _ c.is_short.result c.is_short.ensures c.args.state c.args.step c.args.sent.now c.from-over.result c.from-over.ensures _
    c.if-is_short.false c.if-over-ne0.false
    (rw (← c.of-stand.ensures.of_state)
    (here-taken c.of-stand.result c.args.step _ _ _ c.is_taken.result c.is_taken.ensures c.if-is_taken.true))

pub returns-then-not-is_chosen : goal.returns-then-not-is_chosen
returns-then-not-is_chosen c =
    take-here _ _ c.is_short.result c.is_short.ensures c.args.state c.args.step c.args.sent.now c.from-over.result c.from-over.ensures _
    c.if-is_short.false c.if-over-ne0.false
    (rw (← c.of-stand.ensures.of_state)
    (here-not c.of-stand.result c.args.step _ _ _ c.is_taken.result c.is_taken.ensures c.if-is_taken.false
    (sym c.is_chosen.ensures ∙ c.if-not-is_chosen.true) c.refused_turn-then-not-is_chosen.result
    (rw (← c.of-stand.ensures.of_state) at c.refused_turn-then-not-is_chosen.ensures)))

pub returns : goal.returns
returns c =
    take-here _ _ c.is_short.result c.is_short.ensures c.args.state c.args.step c.args.sent.now c.from-over.result c.from-over.ensures _
    c.if-is_short.false c.if-over-ne0.false
    (rw (← c.of-stand.ensures.of_state)
    (here-chosen c.of-stand.result c.args.step _ _ _ c.is_taken.result c.is_taken.ensures c.if-is_taken.false
    (sym c.is_chosen.ensures ∙ c.if-not-is_chosen.false) _ c.take_chosen.ensures))
