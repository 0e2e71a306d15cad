-- `lay::put` meets its contract: the items are copied to their part of the buffer.
use Rattle.std.proofs.Common.{arith, rules}
use Rattle.lay.proofs.PutLaws.{put_part}
use Rattle.lay.proofs.put.Goals as goal

pub returns : goal.returns
returns g c =
    let a = c.args in
    put_part a.out.now _ _ a.at _ a.items.now c.copy_from_slice.new.self (search rules) (omega arith) (omega arith) (omega arith)
