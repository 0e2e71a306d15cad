-- `apart::standing::Stand::words` meets its contract.
use Rattle.apart.specs.Here.{words_on}
use Rattle.apart.proofs.HereLaws.{table-words}
use Rattle.apart.proofs.standing.Stand.words.Goals as goal

pub returns-then-self-eq0 : goal.returns-then-self-eq0
unfolding words_on
returns-then-self-eq0 c = rw c.if-self-eq0.true

pub returns : goal.returns
returns c = table-words _ _ _ c.if-self-eq0.false
