use Rattle.export.specs.Exported.{step_numbers}
use Rattle.export.proofs.numbers.StepNumbers.put.Goals as goal

pub returns-clause-put : goal.returns-clause-put
unfolding step_numbers
returns-clause-put c = c.put.ensures
