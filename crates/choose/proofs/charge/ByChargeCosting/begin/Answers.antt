-- `choose::charge::ByCharge` begins a look-up: the different rows of its register are found.
use Rattle.choose.proofs.charge.ByChargeCosting.begin.Goals as goal

pub returns-clause-begun : goal.returns-clause-begun
returns-clause-begun c = rw (c.words_of-part.ensures, c.from-columns.ensures, c.from-at.ensures) at c.different_places-self.ensures
