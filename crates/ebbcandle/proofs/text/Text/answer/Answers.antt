-- `ebbcandle::text::Text::answer` meets its contract: the line of a refusal; or the lines of the steps, the line of the
-- calls and the lines of the rows, one behind the other.
use Rattle.std.proofs.Common.{rules, arith, ◌≡◌, length, append_assoc, refl}
use Rattle.ebbcandle.specs.Lines.{named, calls_line}
use Rattle.ebbcandle.proofs.LineLaws.{printed-refused, printed-answered}
use Rattle.ebbcandle.proofs.text.Text.answer.Goals as goal

pub returns-in-Err : goal.returns-in-Err
returns-in-Err c =
    let a = c.args in
    rw (c.in-Err.is, c.refused.ensures, c.requires.in_bounds.1) (printed-refused c.in-Err.refused a.table.now a.variables)

pub returns : goal.returns
unfolding calls_line named
returns c =
    let a = c.args in
    let answered = c.in-Ok.answered in
    let long : length answered.steps ≡ 12 = search rules in
    let few = (rw c.in-Ok.is at c.requires.few).0 in
    rw (c.in-Ok.is, ← printed-answered answered a.table.now a.variables (omega (arith, few, long)))
    (simp (c.rows.ensures.put, c.word.ensures, c.named.ensures.put, c.steps.ensures.put, c.requires.in_bounds.1, append_assoc) refl)
