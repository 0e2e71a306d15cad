-- `export::ebbcandle_faulty_name` meets its contract: the part that the line has.
use mathlib.Core.Path.{ap}
use Rattle.tokens.specs.declared.Part.{Part}
use Rattle.export.specs.Typing.{Named, named}
use Rattle.export.proofs.typing.ebbcandle_faulty_name.Goals as goal

pub returns : goal.returns
unfolding named
returns c = ap {B = Named} (λ (p : Part). record { place = p.at; length = p.length }) c.part_of-part.ensures
