-- `export::writing::register_from` meets its contract: two numbers cut to bytes, and then its rules.
use Rattle.export.proofs.PlacesLaws.{register-made}
use Rattle.export.proofs.writing.register_from.Goals as goal

pub returns : goal.returns
returns c =
    let a = c.args in
    register-made a.places.now a.at _ _ _ c.byte-columns.ensures c.byte-rules.ensures
    c.rules_from-rule.ensures
