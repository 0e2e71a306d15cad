-- `faults::is_nought` meets its contract: of the number 0, by whether a number may come.
use Rattle.std.proofs.Common.{rules}
use mathlib.Core.Path.{◌≡◌, ap, ◌∙◌}
use mathlib.Core.Bool.{not}
use Rattle.plan.specs.Typed.{is_nowhere}
use Rattle.plan.specs.declared.Stage.{Stage}
use Rattle.plan.specs.declared.Token.TheVariants.{Number}
use Rattle.typed.proofs.Others.{nought, not_nought, somewhere_test}
use Rattle.typed.proofs.faults.is_nought.Goals as goal

pub returns-then-eq : goal.returns-then-eq
returns-then-eq c =
    let a = c.args in
    let e : a.token ≡ Number 0 = search rules in
    let placed = somewhere_test c.behind_number.result c.ne.result (λ t. search rules) (λ f. search rules) in
    placed
    ∙ ap (λ (s : Stage). not (is_nowhere s)) c.behind_number.ensures
    ∙ nought a.stage a.token e

pub returns-else-eq : goal.returns-else-eq
returns-else-eq c = c.if-eq.false ∙ not_nought c.args.stage c.args.token (search rules)
