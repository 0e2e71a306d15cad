-- `ebbcandle::text::Text::steps` meets its contract. The invariant: the lines of the first i steps are put.
use Rattle.std.proofs.Common.{◌≡◌, ℕ, ◌+◌, ◌*◌, ◌≤◌, List, ◌++◌, length, get_or}
use Rattle.plan.specs.declared.Step.{Step}
use Rattle.plan.specs.Answer.{no_step}
use Rattle.lay.specs.Put.{joined}
use Rattle.ebbcandle.specs.Lines.{step_line}
use Rattle.ebbcandle.proofs.text.Text.steps.Given as goal

-- the line of step i
abbrev pub shown : List Step → ℕ → List ℕ
shown steps i = step_line (i + 1) (get_or steps i no_step)

abbrev pub invariant-loop-i : goal.invariant-loop-i
invariant-loop-i l =
    (length l.self ≤ length l.initial.self + l.i * 133)
    × (l.self ≡ l.initial.self ++ joined (shown l.steps) l.i)
