-- `export::writing::look_ups_in` meets its contract: each entry is what the closure makes of its number.
use Rattle.std.proofs.Common.{rules, refl, ◌≡◌, ◌+◌, ◌*◌, drop}
use Rattle.sheet.specs.Fields.{look_up_beyond}
use Rattle.export.specs.Writing.{look_up_from}
use Rattle.export.proofs.MadeLaws.{made_right}
use Rattle.export.proofs.writing.look_ups_in.Goals as goal

pub returns : goal.returns
returns c =
    let places = c.args.places.now in
    made_right
    _
    (λ f. f.0.now ≡ places)
    (λ i x. x ≡ look_up_from (drop (142 + 8 * i) places))
    (λ f i x f' h call. (search rules, search rules))
    _ c.from_fn.result 12 look_up_beyond c.from_fn.ensures.items refl
