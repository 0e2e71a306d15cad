-- `apart::choose_here` meets its contract, by where the list stands.
use Rattle.apart.proofs.ChoosingLaws.{chose-here}
use Rattle.apart.proofs.DeliveryLaws.{list-is, list-holds}
use Rattle.apart.proofs.choose_here.Goals as goal

pub invariant_of-list : goal.invariant_of-list
invariant_of-list c =
    let holds = list-holds c.args.stand.now c.args.first.now c.requires.0 in
    rw (c.rows-rows.ensures, c.words.ensures) record { few = holds.few; long = holds.long }

pub returns : goal.returns
returns c u =
    let w = c.args.stand.now in
    chose-here w _ u _ _ _ c.choose_on.result (list-is w c.args.first.now c.requires.0)
    (rw (c.rows-rows.ensures, c.words.ensures) at c.choose_on.ensures)
