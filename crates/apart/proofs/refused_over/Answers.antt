-- `apart::refused_over` meets its contract: both tables are cleared.
use Rattle.apart.proofs.NextLaws.{zeroed}
use Rattle.apart.proofs.refused_over.Goals as goal

pub returns : goal.returns
returns c =
    zeroed _ _ _ _ c.args.step c.args.state c.refused_turn.result c.clear_both.ensures c.refused_turn.ensures
