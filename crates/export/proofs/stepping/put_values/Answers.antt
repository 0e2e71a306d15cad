-- `export::stepping::put_values` meets its contract: three numbers are put, and behind them those of a step.
use Rattle.std.proofs.Common.{arith}
use Rattle.lay.proofs.PutLaws.{put_then}
use Rattle.export.proofs.stepping.put_values.Goals as goal

pub returns : goal.returns
returns c = (put_then (omega arith) c.put-next.ensures c.put.ensures.put).holds
