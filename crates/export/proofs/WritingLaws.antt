-- Laws of what a caller in C or Rust gets of fields that are written: the three cases; and that the places that hold the
-- numbers of a reading hold its fields, so what was read from C is written from C as the same bytes.
use mathlib.Core.Path.{◌≡◌, refl, sym, ap, ◌∙◌}
use mathlib.Core.Bool.{true, false}
use mathlib.Core.List.{List, [], ◌∷◌, ◌++◌, map, append_assoc}
use Prim.Native.Nat.{ℕ, suc, ◌+◌, ◌*◌, ◌%◌, ◌≤◌, ◌<◌}
use native.Mathlib.Omega.{arith}
use lib.ListN.{length, get_or, take, drop, length-append}
use lib.Seq.{take_at, drop_at, drop-drop}
use borrow.Author.Tests.{le-leb, lt-leb}
use Rattle.plan.proofs.Told.{told-list}
use Rattle.std.specs.Prelude.{Result, Ok, Err}
use Rattle.std.specs.Result.{result_unwrap_or}
use Rattle.std.specs.List.{list_all}
use Rattle.std.proofs.lemmas.Grind.{get_or_default_zero}
use Rattle.std.proofs.lemmas.List.Sums.{list_all-from_AllPass}
use Rattle.plan.specs.Reader.{Read, got}
use Rattle.plan.specs.Sheet.{Sheet, read_sheet}
use Rattle.plan.specs.Answer.{Checked, told_check}
use Rattle.plan.specs.Write.{Written, SheetWritten, told_writing, stored_in, write_sheet}
use Rattle.plan.specs.declared.Refused.{Refused}
use Rattle.sheet.specs.declared.Register.{Register}
use Rattle.sheet.specs.declared.LookUp.{LookUp}
use Rattle.sheet.specs.declared.Fields.{Fields}
use Rattle.sheet.specs.Fields.{fields_of}
use Rattle.sheet.specs.Fields.{register_beyond, look_up_beyond}
use Rattle.sheet.specs.Fine.{SmallRegister, SmallLookUp, Small}
use Rattle.sheet.proofs.Small.{entry_small}
use Rattle.sheet.proofs.Filled.{Filled, small_entry}
use Rattle.lay.specs.Put.{laid, joined}
use Rattle.lay.proofs.JoinedLaws.{joined-long, joined_at}
use Rattle.write.specs.Said.{sheet_said}
use Rattle.write.proofs.Promise.{promise}
use Rattle.export.specs.Exported.{no_room}
use Rattle.export.specs.Reading.{register_numbers, register_numbers_at, look_up_numbers, look_up_numbers_at}
use Rattle.typed.specs.Request.{SheetRead}
use Rattle.export.specs.Reading.{told_sheet, count_numbers, sheet_numbers, reading_of, reading}
use Rattle.export.specs.Writing.{byte_of, rule_of, row_in, words_fit, register_from, register_placed, look_up_from}
use Rattle.export.specs.Writing.{look_up_placed, fields_in, writing_of, writing}
use Rattle.export.proofs.PlacesLaws.{fits}
use Rattle.export.proofs.ReadingLaws.{told_small, told_filled}

-- ---- the three cases

-- what is told of writing, as the code has it
writing_as : (w : Result ℕ Refused)
    → told_writing w ≡ record { number = (told_check w).number; detail = (told_check w).detail; bytes = result_unwrap_or w 0 }
writing_as (Ok n) = refl
writing_as (Err x) = refl

module _ (places buffer : List ℕ) (detail bytes : ℕ) where
  -- there are too few places
  pub writing-short : length places < 238
      → record { result = no_room; buffer = buffer; detail = detail; bytes = bytes } ≡ writing places buffer detail bytes
  unfolding writing
  writing-short h = rw (lt-leb 238 (length places) h, writing)

  -- a word has over 32 bits
  pub writing-over : 238 ≤ length places → words_fit places ≡ false
      → record { result = no_room; buffer = buffer; detail = detail; bytes = bytes } ≡ writing places buffer detail bytes
  unfolding writing
  writing-over h w = rw (le-leb 238 (length places) h, w, writing)

  -- neither
  writing-fits : 238 ≤ length places → words_fit places ≡ true
      → writing_of (stored_in buffer (write_sheet (sheet_said (fields_in places)))) ≡ writing places buffer detail bytes
  unfolding writing
  writing-fits h w = rw (le-leb 238 (length places) h, w, writing)

  -- and the code makes all of it
  pub writing-made : 238 ≤ length places → words_fit places ≡ true → (f : Fields) → f ≡ fields_in places
      → (w : Result ℕ Refused) (buffer' : List ℕ)
      → record { result = told_writing w; buffer = buffer' } ≡ stored_in buffer (write_sheet (sheet_said f)) → (c : Checked)
      → c ≡ told_check w → (n : ℕ) → n ≡ result_unwrap_or w 0
      → record { result = c.number; buffer = buffer'; detail = c.detail; bytes = n } ≡ writing places buffer detail bytes
  unfolding writing_of
  writing-made h fit f e w buffer' d c k n u =
      let s : record { number = c.number; detail = c.detail; bytes = n } ≡ told_writing w =
      (λ t. record { number = (k t).number; detail = (k t).detail; bytes = u t }) ∙ sym (writing_as w) in
      ap (λ (x : SheetWritten). writing_of (record { result = x; buffer = buffer' })) s
      ∙ ap writing_of (d ∙ ap (λ (x : Fields). stored_in buffer (write_sheet (sheet_said x))) e) ∙ writing-fits h fit

-- ---- lists

-- numbers that stay as they are
stays : (f : ℕ → ℕ) (xs : List ℕ) → ((k : ℕ) → f (get_or xs k 0) ≡ get_or xs k 0) → map f xs ≡ xs
stays f [] h = refl
stays f (x ∷ xs) h = ap (λ (y : ℕ). y ∷ map f xs) (h 0) ∙ ap (λ (l : List ℕ). x ∷ l) (stays f xs (λ k. h (suc k)))

-- ---- entries that were read

-- the numbers of a register give it back
register-back : (r : Register) → SmallRegister r → length r.rule ≡ 8 → (more : List ℕ)
    → register_from (register_numbers r ++ more) ≡ r
unfolding register_from register_numbers
register-back r small long more = λ t.
    record {
      columns = (let e : byte_of r.columns ≡ r.columns = omega (arith, small.columns-high) in e) t;
      rules = (let e : byte_of r.rules ≡ r.rules = omega (arith, small.rules-high) in e) t;
      rule = (ap (map rule_of) (take_at r.rule more 8 long)
          ∙ stays rule_of r.rule (λ k. omega (arith, small.rule-high k))) t;
    }

-- the numbers of a look-up give it back
look_up-back : (l : LookUp) → SmallLookUp l → length l.vars ≡ 6 → (more : List ℕ)
    → look_up_from (look_up_numbers l ++ more) ≡ l
unfolding look_up_from look_up_numbers
look_up-back l small long more = λ t.
    record {
      register = (let e : byte_of l.register ≡ l.register = omega (arith, small.register-high) in e) t;
      columns = (let e : byte_of l.columns ≡ l.columns = omega (arith, small.columns-high) in e) t;
      vars = (ap (map byte_of) (take_at l.vars more 6 long)
          ∙ stays byte_of l.vars (λ k. omega (arith, small.vars-high k))) t;
    }

-- ---- places that begin with the numbers of a reading

module _ (s : SheetRead) (small : Small s.fields) (filled : Filled s.fields) (rest : List ℕ) where
  abbrev f : Fields
  f = s.fields

  -- the places
  abbrev places : List ℕ
  places = sheet_numbers s ++ rest

  -- the numbers of the registers, and of the look-ups
  abbrev registers : List ℕ
  registers = joined (register_numbers_at f) 12

  abbrev look_ups : List ℕ
  look_ups = joined (look_up_numbers_at f) 12

  register-long : (i : ℕ) → i < 12 → length (register_numbers_at f i) ≡ 10
  unfolding register_numbers_at register_numbers
  register-long i h = omega (arith, filled.rules i h)

  look_up-long : (i : ℕ) → i < 12 → length (look_up_numbers_at f i) ≡ 8
  unfolding look_up_numbers_at look_up_numbers
  look_up-long i h = omega (arith, filled.vars i h)

  -- what stands behind the counts, behind the first row, and behind the registers
  row-behind : drop 6 places ≡ f.start ++ (registers ++ (look_ups ++ rest))
  unfolding sheet_numbers count_numbers
  row-behind =
      append_assoc (f.start ++ registers) look_ups rest ∙ append_assoc f.start registers (look_ups ++ rest)

  registers-behind : drop 22 places ≡ registers ++ (look_ups ++ rest)
  registers-behind =
      sym (drop-drop 16 6 places) ∙ ap (drop 16) row-behind
      ∙ drop_at f.start (registers ++ (look_ups ++ rest)) 16 small.start-number

  look_ups-behind : drop 142 places ≡ look_ups ++ rest
  look_ups-behind =
      sym (drop-drop 120 22 places) ∙ ap (drop 120) registers-behind
      ∙ drop_at registers (look_ups ++ rest) 120 (joined-long (register_numbers_at f) 10 12 register-long)

  -- the first row, each register and each look-up
  row-held : row_in places ≡ f.start
  row-held =
      ap (take 16) row-behind ∙ take_at f.start (registers ++ (look_ups ++ rest)) 16 small.start-number

  register-held : (i : ℕ) → i < 12 → register_placed places i ≡ get_or f.register i register_beyond
  unfolding register_placed register_numbers_at
  register-held i h =
      let m = joined_at (register_numbers_at f) 10 12 i register-long h (look_ups ++ rest) in
      ap register_from (sym (drop-drop (10 * i) 22 places) ∙ ap (drop (10 * i)) registers-behind ∙ m.1)
      ∙ register-back (get_or f.register i register_beyond) (small_entry f small i) (filled.rules i h) m.0

  look_up-held : (i : ℕ) → i < 12 → look_up_placed places i ≡ get_or f.lookup i look_up_beyond
  unfolding look_up_placed look_up_numbers_at
  look_up-held i h =
      let m = joined_at (look_up_numbers_at f) 8 12 i look_up-long h rest in
      ap look_up_from (sym (drop-drop (8 * i) 142 places) ∙ ap (drop (8 * i)) look_ups-behind ∙ m.1)
      ∙ look_up-back (get_or f.lookup i look_up_beyond) (entry_small f small i) (filled.vars i h) m.0

  -- they hold its fields
  pub fields_held : fields_in (sheet_numbers s ++ rest) ≡ s.fields
  unfolding fields_in sheet_numbers count_numbers
  fields_held = λ t.
      record {
        registers = f.registers;
        register =
            told-list (register_placed places) 12 f.register register_beyond small.registers-held register-held t;
        variables = f.variables;
        given = (let e : f.given % 65536 ≡ f.given = omega (arith, small.given-high) in e) t;
        start = row-held t;
        lookups = f.lookups;
        lookup = told-list (look_up_placed places) 12 f.lookup look_up_beyond small.lookups-held look_up-held t;
      }

  -- there are 238 numbers
  numbers-long : length (sheet_numbers s) ≡ 238
  unfolding sheet_numbers count_numbers
  numbers-long = omega (
    arith,
    length-append (count_numbers s ++ f.start ++ registers) look_ups,
    length-append (count_numbers s ++ f.start) registers,
    length-append (count_numbers s) f.start,
    joined-long (register_numbers_at f) 10 12 register-long,
    joined-long (look_up_numbers_at f) 8 12 look_up-long,
    small.start-number,
  )

  -- and their words have 32 bits
  pub words-held : words_fit (sheet_numbers s ++ rest) ≡ true
  unfolding words_fit
  words-held =
      ap (list_all fits) row-held
      ∙ list_all-from_AllPass fits f.start
      (λ v d h. le-leb (get_or f.start v d) 4294967295
      (omega (arith, get_or_default_zero f.start v d h, small.start-high v)))

-- ---- what was read from C

module _ (sheet out : List ℕ) (room : 238 ≤ length out) where
  -- the places that are lent hold the numbers of the reading, and then what they held
  places-read : (reading sheet out).out
      ≡ sheet_numbers (told_sheet (read_sheet sheet)) ++ drop (0 + length (sheet_numbers (told_sheet (read_sheet sheet)))) out
  unfolding reading reading_of laid
  places-read = rw (le-leb 238 (length out) room, reading)

  -- they hold its fields
  pub fields_read : fields_in (reading sheet out).out ≡ (told_sheet (read_sheet sheet)).fields
  fields_read =
      ap fields_in places-read ∙ fields_held (told_sheet (read_sheet sheet)) (told_small sheet) (told_filled sheet) _

  -- and their words have 32 bits
  pub words-read : words_fit (reading sheet out).out ≡ true
  words-read =
      ap words_fit places-read ∙ words-held (told_sheet (read_sheet sheet)) (told_small sheet) (told_filled sheet) _

  -- there are enough of them
  places-long : 238 ≤ length (reading sheet out).out
  places-long =
      let s = told_sheet (read_sheet sheet) in
      let more = drop (0 + length (sheet_numbers s)) out in
      omega (
        arith,
        ap length places-read,
        length-append (sheet_numbers s) more,
        numbers-long s (told_small sheet) (told_filled sheet) more,
      )

  -- so what was read from C is written from C as the same bytes
  module _ (low : (i : ℕ) → get_or sheet i 0 < 256) (s : Sheet) (end : ℕ) (e : read_sheet sheet ≡ got s end) where
    -- the fields are those of the sheet
    fields_of-read : fields_in (reading sheet out).out ≡ fields_of s
    unfolding told_sheet
    fields_of-read = fields_read ∙ ap (λ (x : Read Sheet). (told_sheet x).fields) e

    pub written-again : (buffer : List ℕ) (detail bytes : ℕ) → length sheet ≤ length buffer
        → writing (reading sheet out).out buffer detail bytes
        ≡ record { result = 0; buffer = sheet ++ drop (length sheet) buffer; detail = 0; bytes = length sheet }
    unfolding writing_of stored_in
    written-again buffer detail bytes h =
        sym (writing-fits (reading sheet out).out buffer detail bytes places-long words-read)
        ∙ ap (λ (g : Fields). writing_of (stored_in buffer (write_sheet (sheet_said g)))) fields_of-read
        ∙ ap (λ (w : Written (List ℕ)). writing_of (stored_in buffer w)) (promise.same sheet low s end e)
        ∙ rw (le-leb (length sheet) (length buffer) h, stored_in)
