-- the two numbers are put, and then the variables
use Rattle.std.proofs.Common.{arith, ap, ◌∷◌}
use Rattle.lay.proofs.PutLaws.{put_then, put_as}
use Rattle.lay.proofs.JoinedLaws.{each_itself}
use Rattle.export.specs.Reading.{look_up_numbers}
use Rattle.export.proofs.numbers.LookUpNumbers.put.Goals as goal

pub returns-clause-put : goal.returns-clause-put
unfolding look_up_numbers
returns-clause-put c =
    let l = c.args.self.now in
    put_as (look_up_numbers l) (ap (λ xs. l.register ∷ l.columns ∷ xs) (each_itself l.vars))
    (put_then (omega arith) c.put_all-next.ensures.put c.put_all.ensures.put)
