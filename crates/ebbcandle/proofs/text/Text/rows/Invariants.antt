-- `ebbcandle::text::Text::rows` meets its contract. The invariant: the lines of the first i rows are put.
use Rattle.std.proofs.Common.{◌≡◌, ◌+◌, ◌*◌, ◌≤◌, ◌++◌, length}
use Rattle.lay.specs.Put.{joined}
use Rattle.ebbcandle.specs.Lines.{row_line}
use Rattle.ebbcandle.proofs.text.Text.rows.Given as goal

abbrev pub invariant-loop-i : goal.invariant-loop-i
invariant-loop-i l =
    (length l.self ≤ length l.initial.self + l.i * 340)
    × (l.self ≡ l.initial.self ++ joined (row_line l.table l.variables) l.i)
