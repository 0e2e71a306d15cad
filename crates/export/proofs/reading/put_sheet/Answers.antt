-- `export::reading::put_sheet` meets its contract: the counts, the first row, the registers and the look-ups are put, one
-- behind the other.
use Rattle.std.proofs.Common.{rules, arith, ◌≡◌, length}
use Rattle.lay.proofs.PutLaws.{put_then, put_as}
use Rattle.lay.proofs.JoinedLaws.{joined_entries, each_itself}
use Rattle.sheet.specs.Fields.{register_beyond, look_up_beyond}
use Rattle.export.specs.Reading.{register_numbers, register_numbers_at, look_up_numbers, look_up_numbers_at}
use Rattle.export.specs.Reading.{count_numbers, sheet_numbers}
use Rattle.export.proofs.reading.put_sheet.Goals as goal

pub returns : goal.returns
unfolding sheet_numbers count_numbers register_numbers_at look_up_numbers_at
returns c =
    let f = c.args.f.now in
    let register : length f.register ≡ 12 = search rules in
    let lookup : length f.lookup ≡ 12 = search rules in
    let counts = rw c.from-given.ensures at c.put-a.ensures in
    let start = put_as f.start (each_itself f.start) c.put_all-b.ensures.put in
    let registers = put_as _ (joined_entries register_numbers register_beyond f.register 12 register) c.put_all-c.ensures.put in
    let look_ups = put_as _ (joined_entries look_up_numbers look_up_beyond f.lookup 12 lookup) c.put_all.ensures.put in
    put_then (omega arith) (put_then (omega arith) (put_then (omega arith) counts start) registers) look_ups
