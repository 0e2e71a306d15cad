-- `ebbcandle::after_move` meets its contract: the count is what the answer says.
use Rattle.ebbcandle.proofs.MoveLaws.{after_count}
use Rattle.ebbcandle.proofs.after_move.Goals as goal

pub returns : goal.returns
returns c = rw c.unwrap_or-more.ensures (after_count c.args.done c.args.moved)
