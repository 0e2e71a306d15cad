-- `chain::answer` meets its contract: it is the answer at 1 and 0.
use mathlib.Core.Path.{◌∙◌}
use Rattle.chain.proofs.Whole.{whole_is}
use Rattle.chain.proofs.answer.Goals as goal

pub returns : goal.returns
returns c = c.answer_charged.ensures ∙ whole_is _ _ _ _
