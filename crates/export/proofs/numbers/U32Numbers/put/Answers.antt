use Rattle.std.proofs.Common.{arith}
use Rattle.lay.proofs.PutLaws.{put_one}
use Rattle.export.proofs.numbers.U32Numbers.put.Goals as goal

pub returns-clause-put : goal.returns-clause-put
returns-clause-put c = let a = c.args in put_one a.out.now a.at a.self.now (omega arith)
