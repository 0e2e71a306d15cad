use Rattle.std.proofs.Common.{arith}
use Rattle.std.proofs.lemmas.Grind.{common_steps}
use Rattle.lay.proofs.PutLaws.{put_none}
use Rattle.lay.proofs.JoinedLaws.{each_then}
use Rattle.export.proofs.numbers.put_all.Goals as goal

pub loop-entry-init : goal.loop-entry-init
loop-entry-init g c = record { next_is = omega arith; put = put_none c.args.out.now c.args.at }

pub loop-entry-preserved : goal.loop-entry-preserved
loop-entry-preserved g c =
    let l = c.loop-entry in
    let p = c.put-next in
    record {
      next_is = grind (arith, common_steps);
      put = each_then g.T.Numbers.numbers c.args.entries.now l.entry-index c.entry-item.result (omega arith) (omega arith)
          c.entry-item.is l.invariant.put p.ensures.put;
    }
