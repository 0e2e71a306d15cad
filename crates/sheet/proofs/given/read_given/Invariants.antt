-- `sheet::given::read_given` meets its contract. Invariant: the values of the given ones among the first variables were
-- read, and make the set and the row.
use Prim.Native.Nat.{◌≤◌, ◌+◌, ◌*◌}
use Rattle.sheet.proofs.Marked.{given_of, Valued}
use Rattle.sheet.proofs.given.read_given.Given as goal

abbrev pub invariant-loop-v : goal.invariant-loop-v
invariant-loop-v l =
    (l.reader.at ≤ l.initial.reader.at + l.v * 32)
    × Valued l.initial.reader (given_of l.initial.reader.sheet.now l.marks l.v) l.given l.reader l.start
