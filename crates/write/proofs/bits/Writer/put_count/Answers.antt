-- `write::bits::Writer::put_count` meets its contract: a count is a number that is tested.
use mathlib.Core.Path.{◌≡◌, refl}
use mathlib.Core.Bool.{◌&&◌}
use borrow.Author.Rules.{rules}
use lib.Dec.{leb}
use Rattle.plan.specs.Reader.{count_out}
use Rattle.write.proofs.ItemLaws.{count-tested}
use Rattle.write.proofs.bits.Writer.put_count.Goals as goal

pub returns-clause-puts : goal.returns-clause-puts
returns-clause-puts c =
    let a = c.args in
    let e : c.contains.result ≡ (leb 1 a.count && leb a.count a.most) = search rules in
    rw (count-tested a.width 1 a.most a.count, ← e) (c.put_if.ensures.puts count_out refl)
