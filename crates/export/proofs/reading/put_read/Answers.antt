-- `export::reading::put_read` meets its contract: the numbers of the fields are put, or those of the refusal.
use Rattle.std.proofs.Common.{ap, ◌∙◌}
use Rattle.lay.specs.Put.{laid}
use Rattle.export.proofs.ReadingLaws.{reading_refused}
use Rattle.export.proofs.reading.put_read.Goals as goal

pub returns-in-Err-clause-out_after : goal.returns-in-Err-clause-out_after
returns-in-Err-clause-out_after c =
    rw c.in-Err.is (c.put_refused.ensures.out_after ∙ ap (laid c.args.out.now 0) (reading_refused c.in-Err.refused))
