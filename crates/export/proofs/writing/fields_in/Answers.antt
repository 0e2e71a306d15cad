-- `export::writing::fields_in` meets its contract: the arrays as they were made, and four numbers.
use Rattle.std.proofs.Common.{rules, ◌≡◌, ◌%◌, length, get_or, sym}
use Rattle.plan.proofs.Told.{told-list}
use Rattle.sheet.specs.Fields.{register_beyond, look_up_beyond}
use Rattle.export.specs.Writing.{register_placed, look_up_placed, fields_in}
use Rattle.export.proofs.PlacesLaws.{row_kept}
use Rattle.export.proofs.writing.fields_in.Goals as goal

pub returns : goal.returns
unfolding fields_in register_placed look_up_placed
returns c =
    let places = c.args.places.now in
    let r = c.registers_in-register in
    let l = c.look_ups_in-lookup in
    let w = c.row_in-start in
    let registers : length r.result ≡ 12 = search rules in
    let look_ups : length l.result ≡ 12 = search rules in
    let words : length w.result ≡ 16 = search rules in
    λ t.
    record {
      registers = get_or places 2 0;
      register = sym (told-list (register_placed places) 12 r.result register_beyond registers (λ i h. sym (r.ensures i h))) t;
      variables = get_or places 3 0;
      given = get_or places 4 0 % 65536;
      start = row_kept places w.result c.requires.0 c.requires.1 words w.ensures t;
      lookups = get_or places 5 0;
      lookup = sym (told-list (look_up_placed places) 12 l.result look_up_beyond look_ups (λ i h. sym (l.ensures i h))) t;
    }
