-- `chain::route::never_answerable` meets its contract: what the walk leaves open is never answerable.
use Rattle.chain.proofs.Never.{never-bits}
use Rattle.chain.proofs.route.never_answerable.Goals as goal

pub returns : goal.returns
returns c = never-bits _ c.requires _ _ c.answerable.ensures c.left_open.ensures
