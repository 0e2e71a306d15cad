-- `apart::standing::Stand::rows` meets its contract.
use mathlib.Core.Path.{◌∙◌}
use Rattle.apart.specs.Here.{rows_on}
use Rattle.apart.proofs.HereLaws.{made_more}
use Rattle.apart.proofs.standing.Stand.rows.Goals as goal

pub returns-then-self-eq0 : goal.returns-then-self-eq0
unfolding rows_on
returns-then-self-eq0 c = rw c.if-self-eq0.true

pub returns : goal.returns
returns c = rw (← c.from.ensures) (c.list_rows.ensures ∙ made_more _ _ c.if-self-eq0.false)
