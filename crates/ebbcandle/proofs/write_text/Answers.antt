use Rattle.std.proofs.Common.{rules, ◌-◌, ◌<◌, length, arith}
use Rattle.ebbcandle.specs.Moving.{Moved, MovedSome, after_move}
use Rattle.ebbcandle.proofs.MoveLaws.{Coming, coming_after, coming_fits, came_ended, came-whole, turns_less}
use Rattle.ebbcandle.proofs.ByteLaws.{appended_more}
use Rattle.ebbcandle.proofs.write_text.Goals as goal

pub loop-last-smaller : goal.loop-last-smaller
loop-last-smaller g c =
    let l = c.loop-last in
    let text = c.args.text.now in
    let size = length text in
    let put = c.write-put in
    let some : MovedSome l.last = search rules in
    let left : l.done < size = omega arith in
    let moved : Moved (size - l.done) put.result = search rules in
    rw c.after_move-m.ensures (turns_less size l.done l.last put.result some left moved)

pub loop-last-preserved : goal.loop-last-preserved
loop-last-preserved g c =
    let l = c.loop-last in
    let text = c.args.text.now in
    let size = length text in
    let put = c.write-put in
    let left : l.done < size = omega arith in
    let moved : Moved (size - l.done) put.result = search rules in
    let n = after_move l.done put.result in
    let coming : Coming size n.done n.last = coming_after size l.done put.result left moved in
    record {
      fits = rw c.after_move-m.ensures (coming_fits size n.done n.last coming);
      coming = rw c.after_move-m.ensures coming;
      bytes = rw c.after_move-m.ensures (appended_more _ _ _ text l.done put.result l.invariant.fits moved l.invariant.bytes put.ensures.bytes);
    }

pub returns-else-done-text-clause-came : goal.returns-else-done-text-clause-came
returns-else-done-text-clause-came g c =
    let l = c.loop-last in
    came-whole _ l.done l.last (search rules) (omega arith) l.invariant.coming

pub returns-after-loop-last-clause-came : goal.returns-after-loop-last-clause-came
returns-after-loop-last-clause-came g c =
    let l = c.loop-last in
    came_ended _ l.done l.last (search rules) l.invariant.coming
