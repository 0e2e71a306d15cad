-- `ebbcandle::text::Text::row` meets its contract. The invariant: behind the word, the values of the first v variables are
-- put.
use Rattle.std.proofs.Common.{◌≡◌, ℕ, ◌+◌, ◌*◌, ◌≤◌, List, ◌++◌, length, get_or}
use Rattle.plan.specs.Request.{row_words}
use Rattle.lay.specs.Put.{joined}
use Rattle.ebbcandle.specs.Lines.{spaced}
use Rattle.ebbcandle.proofs.text.Text.row.Given as goal

-- the text of a variable's value in row i of the table
abbrev pub shown : List ℕ → ℕ → ℕ → List ℕ
shown table i v = spaced (get_or table (i * row_words + v) 0)

abbrev pub invariant-loop-v : goal.invariant-loop-v
invariant-loop-v l =
    (length l.self ≤ length l.initial.self + l.v * 21)
    × (l.self ≡ l.initial.self ++ joined (shown l.table l.i) l.v)
