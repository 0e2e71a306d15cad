-- `ebbcandle::read_start` meets its contract. The invariant: how far it came between two reads, in as much room, and the
-- bytes up to there are those that the file gave. The measure is the reads that may still be made.
use Rattle.std.proofs.Common.{◌≡◌, ◌-◌, ◌≤◌, length, take}
use Rattle.std.specs.Io.KnownBytes.{Consumes}
use Rattle.ebbcandle.proofs.MoveLaws.{Coming, turns}
use Rattle.ebbcandle.proofs.ByteLaws.{Ended}
use Rattle.ebbcandle.proofs.read_start.Given as goal

abbrev pub invariant-loop-last : goal.invariant-loop-last
invariant-loop-last g l = record {
  fits : l.done ≤ length l.out;
  room : length l.out ≡ length l.initial.out;
  coming : Coming (length l.initial.out) l.done l.last;
  bytes : Consumes (g.R.Read.remaining l.initial.file) (g.R.Read.remaining l.file) (take l.done l.out);
  ended : Ended l.last (g.R.Read.remaining l.file);
}

abbrev pub decreases-loop-last : goal.decreases-loop-last
decreases-loop-last g l = turns (length l.initial.out - l.done) l.last
