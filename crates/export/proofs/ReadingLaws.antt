-- Laws of what a caller in C or Rust gets of a sheet, and of a typed request: what is told of what the functions give, whose
-- arrays are full; the numbers of a refusal; and the two cases of the buffer.
use mathlib.Core.Path.{◌≡◌, refl, sym, ap, subst, ◌∙◌}
use mathlib.Core.List.{List}
use Prim.Native.Nat.{ℕ, ◌≤◌, ◌<◌}
use lib.ListN.{length}
use borrow.Author.Tests.{le-leb, lt-leb}
use Rattle.std.specs.Prelude.{Result, Ok, Err}
use Rattle.plan.specs.Refusals.{number_of}
use Rattle.plan.specs.Sheet.{read_sheet}
use Rattle.plan.specs.Typed.{read_typed}
use Rattle.plan.specs.declared.Refused.{Refused}
use Rattle.plan.proofs.Refusals.{number_of-fault}
use Rattle.sheet.specs.Fields.{empty_register, empty_look_up, no_fields, sheet_read}
use Rattle.sheet.specs.Fine.{Small}
use Rattle.sheet.specs.declared.Fields.{Fields}
use Rattle.sheet.specs.declared.Got.{Got}
use Rattle.sheet.proofs.Filled.{Filled, none_filled, read_filled}
use Rattle.sheet.proofs.Shown.{sheet-got, sheet-refused}
use Rattle.sheet.proofs.Small.{no_fields-small, read_small}
use Rattle.typed.specs.Request.{SheetRead, not_read, told_typed, told_read}
use Rattle.lay.specs.Put.{laid, joined}
use Rattle.export.specs.Exported.{refused_numbers, no_room}
use Rattle.export.specs.Reading.{told_sheet, told_fields}
use Rattle.export.specs.Reading.{register_numbers, register_numbers_at, look_up_numbers, look_up_numbers_at, count_numbers}
use Rattle.export.specs.Reading.{sheet_numbers, reading_of, reading}
use Rattle.export.specs.Typing.{typed_reading}

-- the numbers of a refusal are those of a reading that is refused
pub reading_refused : (r : Refused) → refused_numbers r 236 ≡ sheet_numbers (not_read (number_of r.refusal) r.detail)
unfolding refused_numbers sheet_numbers count_numbers register_numbers_at register_numbers look_up_numbers_at look_up_numbers joined no_fields empty_register empty_look_up
reading_refused r = refl

-- ---- what is told of what the functions give

module _ (sheet : List ℕ) where
  -- of a sheet
  pub sheet_told : (r : Result (Got Fields) Refused) → r ≡ sheet_read (read_sheet sheet)
      → told_fields r ≡ told_sheet (read_sheet sheet)
  unfolding told_sheet
  sheet_told (Ok g) e =
      let (s, is, same, fine) = sheet-got sheet g e in
      ap (λ (f : Fields). record { number = 0; detail = g.next; fields = f }) same ∙ sym (ap told_sheet is)
  sheet_told (Err x) e =
      let (fault, is, same) = sheet-refused sheet x e in
      ap (λ (n : ℕ). not_read n x.detail) (ap number_of same ∙ number_of-fault fault) ∙ sym (ap told_sheet is)

  -- it is small, and fills its arrays
  small_as : (r : Result (Got Fields) Refused) → r ≡ sheet_read (read_sheet sheet) → Small (told_fields r).fields
  small_as (Ok g) e = read_small sheet g e
  small_as (Err x) e = no_fields-small

  filled_as : (r : Result (Got Fields) Refused) → r ≡ sheet_read (read_sheet sheet) → Filled (told_fields r).fields
  filled_as (Ok g) e = read_filled sheet g e
  filled_as (Err x) e = none_filled

  pub told_small : Small (told_sheet (read_sheet sheet)).fields
  told_small =
      subst (λ (s : SheetRead). Small s.fields) (sheet_told (sheet_read (read_sheet sheet)) refl)
      (small_as (sheet_read (read_sheet sheet)) refl)

  pub told_filled : Filled (told_sheet (read_sheet sheet)).fields
  told_filled =
      subst (λ (s : SheetRead). Filled s.fields) (sheet_told (sheet_read (read_sheet sheet)) refl)
      (filled_as (sheet_read (read_sheet sheet)) refl)

-- ---- the two cases of the buffer

-- where the buffer is long enough, the code makes all of it
made_of : (v s : SheetRead) (n : ℕ) (out out' : List ℕ) → s ≡ v → n ≡ s.number → out' ≡ laid out 0 (sheet_numbers s)
    → record { result = n; out = out' } ≡ reading_of v out
unfolding reading_of
made_of v s n out out' e r d =
    let made : record { result = n; out = out' } ≡ reading_of s out = λ t. record { result = r t; out = d t } in
    made ∙ ap (λ (x : SheetRead). reading_of x out) e

module _ (sheet out : List ℕ) where
  -- the buffer is too short
  pub reading-short : length out < 238 → record { result = no_room; out = out } ≡ reading sheet out
  unfolding reading
  reading-short h = rw (lt-leb 238 (length out) h, reading)

  -- it is long enough
  reading-long : 238 ≤ length out → reading_of (told_sheet (read_sheet sheet)) out ≡ reading sheet out
  unfolding reading
  reading-long h = rw (le-leb 238 (length out) h, reading)

  -- and the code makes all of it
  pub reading-made : (r : Result (Got Fields) Refused) (n : ℕ) (out' : List ℕ) → 238 ≤ length out
      → r ≡ sheet_read (read_sheet sheet) → n ≡ (told_fields r).number → out' ≡ laid out 0 (sheet_numbers (told_fields r))
      → record { result = n; out = out' } ≡ reading sheet out
  reading-made r n out' h e v d =
      made_of (told_sheet (read_sheet sheet)) (told_fields r) n out out' (sheet_told sheet r e) v d ∙ reading-long h

module _ (sheet names line out : List ℕ) where
  -- the buffer is too short
  pub typed_reading-short : length out < 238 → record { result = no_room; out = out } ≡ typed_reading sheet names line out
  unfolding typed_reading
  typed_reading-short h = rw (lt-leb 238 (length out) h, typed_reading)

  -- it is long enough
  typed_reading-long : 238 ≤ length out
      → reading_of (told_typed (read_typed sheet names line)) out ≡ typed_reading sheet names line out
  unfolding typed_reading
  typed_reading-long h = rw (le-leb 238 (length out) h, typed_reading)

  -- and the code makes all of it
  pub typed_reading-made : (r : Result Fields Refused) → told_read r ≡ told_typed (read_typed sheet names line)
      → (n : ℕ) (out' : List ℕ) → 238 ≤ length out → n ≡ (told_read r).number → out' ≡ laid out 0 (sheet_numbers (told_read r))
      → record { result = n; out = out' } ≡ typed_reading sheet names line out
  typed_reading-made r t n out' h v d =
      made_of (told_typed (read_typed sheet names line)) (told_read r) n out out' t v d
      ∙ typed_reading-long h
