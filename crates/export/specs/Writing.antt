-- What a caller in C or Rust gets of fields that are written. The fields stand in places, in the order in which those of a
-- sheet that was read are put there, and the bytes come into a lent buffer.
use Rattle.std.specs.Prelude.{Bool, true, false, ◌&&◌, List, map, ℕ, ◌+◌, ◌*◌, ◌%◌, min, length, get_or, take, drop, leb}
use Rattle.std.specs.List.{list_all}
use Rattle.plan.specs.Lists.{numbers}
use Rattle.plan.specs.Write.{Stored, stored_in, write_sheet}
use Rattle.sheet.specs.declared.Register.{Register}
use Rattle.sheet.specs.declared.LookUp.{LookUp}
use Rattle.sheet.specs.declared.Fields.{Fields}
use Rattle.write.specs.Said.{sheet_said}
use Rattle.export.specs.Exported.{no_room}

-- a count or a name as a byte: 255 where it is over 255, which is out of range for each
abbrev pub byte_of : ℕ → ℕ
byte_of x = min x 255

-- a rule's number as a byte: bits beyond the columns are no field
abbrev pub rule_of : ℕ → ℕ
rule_of x = x % 256

-- the 16 words of the list's first row
abbrev pub row_in : List ℕ → List ℕ
row_in places = take 16 (drop 6 places)

-- whether each of them has 32 bits
unfoldable pub words_fit : List ℕ → Bool
words_fit places = list_all (λ w. leb w 4294967295) (row_in places)

-- the register that the places begin with: its columns, how many rules it has, and 8 rules
unfoldable pub register_from : List ℕ → Register
register_from places =
    record {
      columns = byte_of (get_or places 0 0);
      rules = byte_of (get_or places 1 0);
      rule = map rule_of (take 8 (drop 2 places));
    }

-- register i
unfoldable pub register_placed : List ℕ → ℕ → Register
register_placed places i = register_from (drop (22 + 10 * i) places)

-- the look-up that the places begin with: its register, how many columns it has, and 6 variables
unfoldable pub look_up_from : List ℕ → LookUp
look_up_from places =
    record {
      register = byte_of (get_or places 0 0);
      columns = byte_of (get_or places 1 0);
      vars = map byte_of (take 6 (drop 2 places));
    }

-- look-up i
unfoldable pub look_up_placed : List ℕ → ℕ → LookUp
look_up_placed places i = look_up_from (drop (142 + 8 * i) places)

-- the fields that the places hold, behind the number and the detail of a reading
unfoldable pub fields_in : List ℕ → Fields
fields_in places =
    record {
      registers = get_or places 2 0;
      register = map (register_placed places) (numbers 0 12);
      variables = get_or places 3 0;
      given = get_or places 4 0 % 65536;
      start = row_in places;
      lookups = get_or places 5 0;
      lookup = map (look_up_placed places) (numbers 0 12);
    }

-- what the caller gets: the number, the buffer for the sheet, the detail and how many bytes were written
pub record Writing : Type 0 where
  pub result : ℕ
  pub buffer : List ℕ
  pub detail : ℕ
  pub bytes : ℕ

-- what the caller gets of what is stored
unfoldable pub writing_of : Stored → Writing
writing_of s =
    record {
      result = s.result.number;
      buffer = s.buffer;
      detail = s.result.detail;
      bytes = s.result.bytes;
    }

-- under 238 places, or a word of over 32 bits, are refused before all else, and nothing is written
unfoldable pub writing : List ℕ → List ℕ → ℕ → ℕ → Writing
writing places buffer detail bytes =
    elim (leb 238 (length places) && words_fit places) [
      | true ↦ writing_of (stored_in buffer (write_sheet (sheet_said (fields_in places))))
      | false ↦ record { result = no_room; buffer = buffer; detail = detail; bytes = bytes }
    ]
