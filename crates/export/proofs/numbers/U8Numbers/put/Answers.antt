use Rattle.std.proofs.Common.{arith}
use Rattle.lay.proofs.PutLaws.{put_one}
use Rattle.export.proofs.numbers.U8Numbers.put.Goals as goal

pub returns-clause-put : goal.returns-clause-put
returns-clause-put c = let a = c.args in rw c.from.ensures (put_one a.out.now a.at a.self.now (omega arith))
