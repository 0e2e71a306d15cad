-- `export::writing::look_up_from` meets its contract: two numbers cut to bytes, and then its variables.
use Rattle.export.proofs.PlacesLaws.{look_up-made}
use Rattle.export.proofs.writing.look_up_from.Goals as goal

pub returns : goal.returns
returns c =
    let a = c.args in
    look_up-made a.places.now a.at _ _ _ c.byte-register.ensures c.byte-columns.ensures
    c.vars_from-vars.ensures
