-- What a caller in C or Rust gets of a typed request: as of a sheet, in the same places. A buffer with too few is refused
-- before all else, and nothing is written.
use Rattle.std.specs.Prelude.{true, false, List, ℕ, length, leb}
use Rattle.plan.specs.Typed.{read_typed, whole_typed, part_place, part_length}
use Rattle.export.specs.Exported.{no_room, Exported, exported_by}
use Rattle.export.specs.Reading.{Reading, reading_of}
use Rattle.typed.specs.Request.{told_typed}

-- the request that is read: the buffer's first 238 places hold its numbers
unfoldable pub typed_reading : List ℕ → List ℕ → List ℕ → List ℕ → Reading
typed_reading sheet names line out =
    elim (leb 238 (length out)) [
      | true ↦ reading_of (told_typed (read_typed sheet names line)) out
      | false ↦ record { result = no_room; out = out }
    ]

-- what the caller gets of the answer to it
abbrev pub typed_exported : List ℕ → List ℕ → List ℕ → List ℕ → List ℕ → List ℕ → List ℕ → Exported
typed_exported sheet names line words first second out =
    exported_by (whole_typed sheet names line words first second) first second out

-- the faulty name: the place in the line where it begins, and how many letters it has
pub record Named : Type 0 where
  pub place : ℕ
  pub length : ℕ

-- of a refusal with a number and a detail
unfoldable pub named : List ℕ → ℕ → ℕ → Named
named line number detail = record { place = part_place number detail line; length = part_length number detail line }
