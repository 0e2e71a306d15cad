-- `ebbcandle::main` meets its contract: each file has its name and its room.
use mathlib.Core.Path.{subst}
use Rattle.ebbcandle.specs.Ascii.{ascii}
use Rattle.ebbcandle.specs.Moving.{RoomFor, sheet_room, data_room}
use Rattle.ebbcandle.proofs.main.Goals as goal

pub read_file-s-requires : goal.read_file-s-requires
read_file-s-requires c =
    subst
    (RoomFor (ascii "sheet.bin") (ascii "ebbcandle: sheet.bin"))
    c.room-sheet.ensures
    sheet_room

pub read_file-d-requires : goal.read_file-d-requires
read_file-d-requires c =
    subst
    (RoomFor (ascii "data.bin") (ascii "ebbcandle: data.bin"))
    c.room-data.ensures
    data_room
