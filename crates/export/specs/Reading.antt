-- What a caller in C or Rust gets of a sheet that was read: the fault, its detail and all fields in a lent buffer.
use Rattle.std.specs.Prelude.{Result, Ok, Err, true, false, List, [], ◌∷◌, ◌++◌, ℕ, length, get_or, leb}
use Rattle.plan.specs.Reader.{fault_number, Read, got, bad}
use Rattle.plan.specs.Sheet.{Sheet, read_sheet}
use Rattle.plan.specs.declared.Refused.{Refused}
use Rattle.plan.specs.Refusals.{number_of}
use Rattle.sheet.specs.declared.Register.{Register}
use Rattle.sheet.specs.declared.LookUp.{LookUp}
use Rattle.sheet.specs.declared.Fields.{Fields}
use Rattle.sheet.specs.declared.Got.{Got}
use Rattle.sheet.specs.Fields.{fields_of, register_beyond, look_up_beyond}
use Rattle.typed.specs.Request.{SheetRead, not_read}
use Rattle.lay.specs.Put.{laid, joined}
use Rattle.export.specs.Exported.{no_room}

-- what is told of a sheet: 0, the place behind its last bit and the fields; or what is told of a refusal
unfoldable pub told_sheet : Read Sheet → SheetRead
told_sheet (got s end) = record { number = 0; detail = end; fields = fields_of s }
told_sheet (bad fault detail) = not_read (fault_number fault) detail

-- of what a function gives: the fields and the place behind the last bit, or a refusal with its detail
abbrev pub told_fields : Result (Got Fields) Refused → SheetRead
told_fields (Ok read) = record { number = 0; detail = read.next; fields = read.value }
told_fields (Err r) = not_read (number_of r.refusal) r.detail

-- the numbers of a register: its columns, how many rules it has, and each of 8 rules as its number
unfoldable pub register_numbers : Register → List ℕ
register_numbers r = r.columns ∷ r.rules ∷ r.rule

-- the numbers of register i
unfoldable pub register_numbers_at : Fields → ℕ → List ℕ
register_numbers_at f i = register_numbers (get_or f.register i register_beyond)

-- the numbers of a look-up: its register, how many columns it has, and the variable of each of 6 columns
unfoldable pub look_up_numbers : LookUp → List ℕ
look_up_numbers l = l.register ∷ l.columns ∷ l.vars

-- the numbers of look-up i
unfoldable pub look_up_numbers_at : Fields → ℕ → List ℕ
look_up_numbers_at f i = look_up_numbers (get_or f.lookup i look_up_beyond)

-- the numbers of a reading before those of its arrays: the fault, its detail, the number of registers and of variables,
-- the given variables as a set, and the number of look-ups
unfoldable pub count_numbers : SheetRead → List ℕ
count_numbers s =
    s.number ∷ s.detail ∷ s.fields.registers ∷ s.fields.variables ∷ s.fields.given ∷ s.fields.lookups ∷ []

-- the numbers of a reading: those, the 16 words of the list's first row, 10 for each of 12 registers, and 8 for each of
-- 12 look-ups
unfoldable pub sheet_numbers : SheetRead → List ℕ
sheet_numbers s =
    count_numbers s ++ s.fields.start ++ joined (register_numbers_at s.fields) 12 ++ joined (look_up_numbers_at s.fields) 12

-- what the caller gets: the number and the buffer
pub record Reading : Type 0 where
  pub result : ℕ
  pub out : List ℕ

-- what the caller gets of a reading: the buffer's first 238 places hold its numbers
unfoldable pub reading_of : SheetRead → List ℕ → Reading
reading_of s out = record { result = s.number; out = laid out 0 (sheet_numbers s) }

-- a buffer of under 238 places is refused before all else, and nothing is written
unfoldable pub reading : List ℕ → List ℕ → Reading
reading sheet out =
    elim (leb 238 (length out)) [
      | true ↦ reading_of (told_sheet (read_sheet sheet)) out
      | false ↦ record { result = no_room; out = out }
    ]
