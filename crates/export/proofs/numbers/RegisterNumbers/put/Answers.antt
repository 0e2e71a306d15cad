-- the two counts are put, and then the rules
use Rattle.std.proofs.Common.{arith, ap, ◌∷◌}
use Rattle.lay.proofs.PutLaws.{put_then, put_as}
use Rattle.lay.proofs.JoinedLaws.{each_itself}
use Rattle.export.specs.Reading.{register_numbers}
use Rattle.export.proofs.numbers.RegisterNumbers.put.Goals as goal

pub returns-clause-put : goal.returns-clause-put
unfolding register_numbers
returns-clause-put c =
    let r = c.args.self.now in
    put_as (register_numbers r) (ap (λ l. r.columns ∷ r.rules ∷ l) (each_itself r.rule))
    (put_then (omega arith) c.put_all-next.ensures.put c.put_all.ensures.put)
