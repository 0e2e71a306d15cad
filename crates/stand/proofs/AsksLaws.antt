-- The fields that were read of a state's sheet hold the request that the state asks. By what a sheet that was read is.
use mathlib.Core.Path.{◌≡◌, refl, sym, ap, subst}
use mathlib.Core.List.{List, []}
use Prim.Native.Nat.{ℕ, ◌≤◌, ◌<◌}
use native.Mathlib.Omega.{arith}
use lib.ListN.{get_or}
use Rattle.plan.specs.Lists.{numbers, in_set, from_set, vars_in}
use Rattle.plan.specs.Request.{reads}
use Rattle.plan.specs.Reader.{Read, got, bad}
use Rattle.plan.specs.Sheet.{Register, LookUp, Sheet, read_sheet}
use Rattle.plan.specs.RowData.{request_of}
use Rattle.plan.specs.Apart.{bytes_in, no_sheet, sound_sheet, asked_in}
use Rattle.plan.specs.declared.State.{State}
use Rattle.plan.proofs.Padded.{in_at}
use Rattle.sheet.specs.Fields.{look_up_beyond, fields_of, no_fields, sheet_read, sheet_held}
use Rattle.sheet.specs.Fine.{FineLookUp, Fine, Small}
use Rattle.sheet.specs.declared.Fields.{Fields}
use Rattle.sheet.proofs.Fine.{read-fine}
use Rattle.sheet.proofs.Small.{fields_small, no_fields-small}
use Rattle.sheet.proofs.Held.{sheet-held}
use Rattle.sheet.proofs.Shown.{look_up-columns, columns_in_lem}
use Rattle.choose.specs.Choose.{look_up_at}
use Rattle.sheet.specs.Answers.{read_as}
use Rattle.stand.specs.Held.{fields_read, Asks}

-- a sheet that is not sound is held as one that asks nothing
bad-held : no_sheet ≡ sheet_held no_fields
unfolding no_sheet no_fields sheet_held vars_in from_set numbers in_set reads
bad-held = refl

-- the sheet that the fields hold
read_held : (bytes : List ℕ) (x : Read Sheet) → read_sheet bytes ≡ x → sound_sheet x ≡ sheet_held (fields_read (sheet_read x))
unfolding sound_sheet read_as
read_held bytes (got s end) e = sym (sheet-held s (read-fine bytes s end e))
read_held bytes (bad fault detail) e = bad-held

-- each look-up of a sheet that was read has a column
columns-some : (s : Sheet) → Fine s → (i : ℕ) → i < (fields_of s).lookups → 1 ≤ (look_up_at (fields_of s) i).columns
unfolding fields_of
columns-some s f i h =
    let l : LookUp = get_or s.look_ups i (record { register = 0; vars = [] }) in
    let told : FineLookUp s l = f.look_ups-fine l (in_at s.look_ups i _ h) in
    let r : Register = get_or s.registers l.register (record { columns = 0; rules = [] }) in
    omega (
      arith,
      look_up-columns s i look_up_beyond (record { register = 0; vars = [] }) h,
      told.vars-number,
      columns_in_lem s l.register (record { columns = 0; rules = [] }) told.register-low,
      (f.registers-fine r (in_at s.registers l.register _ told.register-low)).columns-low,
    )

-- and so has each of what was read, which has no look-up where it was refused
read-columns : (bytes : List ℕ) (x : Read Sheet) → read_sheet bytes ≡ x
    → (i : ℕ) → i < (fields_read (sheet_read x)).lookups → 1 ≤ (look_up_at (fields_read (sheet_read x)) i).columns
unfolding read_as no_fields
read-columns bytes (got s end) e i h = columns-some s (read-fine bytes s end e) i h
read-columns bytes (bad fault detail) e i h = absurd (let z : ⊥ = omega arith in z)

-- they are small
read-small : (bytes : List ℕ) (x : Read Sheet) → read_sheet bytes ≡ x → Small (fields_read (sheet_read x))
unfolding read_as
read-small bytes (got s end) e = fields_small s (read-fine bytes s end e)
read-small bytes (bad fault detail) e = no_fields-small

-- so the fields that were read hold what the state asks
pub read-asks : (st : State) (f : Fields) → f ≡ fields_read (sheet_read (read_sheet (bytes_in st))) → Asks st f
unfolding asked_in
read-asks st f e =
    let bytes = bytes_in st in
    subst (Asks st) (sym e)
    (record {
      is = refl;
      small = read-small bytes (read_sheet bytes) refl;
      asks = ap (λ s. request_of s []) (read_held bytes (read_sheet bytes) refl);
      columns = read-columns bytes (read_sheet bytes) refl;
    })
