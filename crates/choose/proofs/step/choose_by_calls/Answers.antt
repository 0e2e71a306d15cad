-- `choose::step::choose_by_calls` meets its contract: the choice by calls, with what it costs for its calls.
use borrow.Author.Rules.{rules}
use Rattle.choose.proofs.StepLaws.{picked_by_calls}
use Rattle.choose.proofs.step.choose_by_calls.Goals as goal

pub returns : goal.returns
returns c =
    picked_by_calls c.args.fields.now c.args.known c.args.answered _ _ _ _ c.choose.ensures c.map.ensures.cases (λ b p k. search rules)
