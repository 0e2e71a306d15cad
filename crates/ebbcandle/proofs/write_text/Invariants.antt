-- `ebbcandle::write_text` meets its contract. The invariant: how far it came between two writes, and the writer has the
-- text up to there. The measure is the writes that may still be made.
use Rattle.std.proofs.Common.{◌-◌, ◌≤◌, length, take}
use Rattle.std.specs.Io.KnownBytes.{Appends}
use Rattle.ebbcandle.proofs.MoveLaws.{Coming, turns}
use Rattle.ebbcandle.proofs.write_text.Given as goal

abbrev pub invariant-loop-last : goal.invariant-loop-last
invariant-loop-last g l = record {
  fits : l.done ≤ length l.text;
  coming : Coming (length l.text) l.done l.last;
  bytes : Appends (g.W.Write.contents l.initial.writer) (g.W.Write.contents l.writer) (take l.done l.text);
}

abbrev pub decreases-loop-last : goal.decreases-loop-last
decreases-loop-last g l = turns (length l.text - l.done) l.last
