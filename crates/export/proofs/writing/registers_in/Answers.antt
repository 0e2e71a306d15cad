-- `export::writing::registers_in` meets its contract: each entry is what the closure makes of its number.
use Rattle.std.proofs.Common.{rules, refl, ◌≡◌, ◌+◌, ◌*◌, drop}
use Rattle.sheet.specs.Fields.{register_beyond}
use Rattle.export.specs.Writing.{register_from}
use Rattle.export.proofs.MadeLaws.{made_right}
use Rattle.export.proofs.writing.registers_in.Goals as goal

pub returns : goal.returns
returns c =
    let places = c.args.places.now in
    made_right
    _
    (λ f. f.0.now ≡ places)
    (λ i x. x ≡ register_from (drop (22 + 10 * i) places))
    (λ f i x f' h call. (search rules, search rules))
    _ c.from_fn.result 12 register_beyond c.from_fn.ensures.items refl
