use Rattle.std.proofs.Common.{rules, ◌-◌, ◌<◌, length, arith, sym}
use Rattle.ebbcandle.specs.Moving.{Moved, MovedSome, after_move}
use Rattle.ebbcandle.proofs.MoveLaws.{Coming, coming_after, coming_fits, came_ended, came-whole, turns_less}
use Rattle.ebbcandle.proofs.FileLaws.{counts_of}
use Rattle.ebbcandle.proofs.ByteLaws.{consumed_more, ended_more, start_known}
use Rattle.ebbcandle.proofs.read_start.Goals as goal

pub loop-last-smaller : goal.loop-last-smaller
loop-last-smaller g c =
    let l = c.loop-last in
    let size = length c.args.out.now in
    let got = c.read-got in
    let some : MovedSome l.last = search rules in
    let left : l.done < size = omega arith in
    let moved : Moved (size - l.done) got.result = search rules in
    rw c.after_move-m.ensures (turns_less size l.done l.last got.result some left moved)

pub loop-last-preserved : goal.loop-last-preserved
loop-last-preserved g c =
    let l = c.loop-last in
    let size = length c.args.out.now in
    let got = c.read-got in
    let left : l.done < size = omega arith in
    let moved : Moved (size - l.done) got.result = search rules in
    let n = after_move l.done got.result in
    let coming : Coming size n.done n.last = coming_after size l.done got.result left moved in
    record {
      fits = rw c.after_move-m.ensures (omega (arith, coming_fits size n.done n.last coming));
      room = search rules;
      coming = rw c.after_move-m.ensures coming;
      bytes = rw c.after_move-m.ensures (consumed_more _ _ _ l.out got.new.buf l.done got.result l.invariant.fits got.ensures.bound l.invariant.bytes got.ensures.bytes);
      ended = rw c.after_move-m.ensures (ended_more _ _ got.new.buf l.done got.result (omega arith) got.ensures.bytes);
    }

pub returns-else-done-out : goal.returns-else-done-out
returns-else-done-out g c =
    let l = c.loop-last in
    let came = came-whole (length c.args.out.now) l.done l.last (search rules) (omega arith) l.invariant.coming in
    let prefix = counts_of l.done l.out l.invariant.fits in
    record {
      came = came;
      prefix_len = prefix;
      bytes = l.invariant.bytes;
      start = start_known _ l.done l.last _ _ _ came (sym prefix.1) l.invariant.bytes l.invariant.ended;
    }

pub returns-after-loop-last : goal.returns-after-loop-last
returns-after-loop-last g c =
    let l = c.loop-last in
    let came = came_ended (length c.args.out.now) l.done l.last (search rules) l.invariant.coming in
    let prefix = counts_of l.done l.out l.invariant.fits in
    record {
      came = came;
      prefix_len = prefix;
      bytes = l.invariant.bytes;
      start = start_known _ l.done l.last _ _ _ came (sym prefix.1) l.invariant.bytes l.invariant.ended;
    }
