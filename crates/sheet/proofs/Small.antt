-- The struct that a sheet is read into is small at every index, and so is that of fields that ask nothing. By what holds of each entry of a
-- padded array.
use mathlib.Core.Path.{◌≡◌, refl, sym, ◌∙◌, ap}
use mathlib.Core.Bool.{false}
use mathlib.Core.List.{List, [], map}
use Prim.Native.Nat.{ℕ, ◌^◌, ◌≤◌, ◌<◌}
use native.Mathlib.Omega.{arith}
use lib.ListN.{length, get_or, replicate, length-map}
use Rattle.plan.specs.Lists.{padded, in_set}
use Rattle.plan.specs.Sheet.{Register, LookUp, Sheet, read_sheet}
use Rattle.plan.proofs.Lists.{clash}
use Rattle.plan.proofs.Sets.{in_set_lem}
use Rattle.plan.proofs.Rows.{writes_other}
use Rattle.plan.proofs.Padded.{in_at, at_all, replicate-all, padded-all, shown_all, zeros_at, length-padded}
use Rattle.plan.specs.Write.{marks_number}
use Rattle.sheet.specs.Fields.{register_of, empty_register, look_up_of, empty_look_up, fields_of, no_fields, sheet_read, register_beyond, look_up_beyond}
use Rattle.sheet.specs.Fine.{FineRegister, FineLookUp, Fine, SmallRegister, SmallLookUp, Small}
use Rattle.sheet.specs.declared.Register as Held
use Rattle.sheet.specs.declared.Fields.{Fields}
use Rattle.sheet.proofs.Stages.{rule-low}
use Rattle.sheet.specs.declared.Got.{Got}
use Rattle.std.specs.Prelude.{Ok}
use Rattle.sheet.proofs.Shown.{shown_width, columns_in_lem, register_at_lem, look_up-register, look_up-columns, start-length, start-low, given-lt, sheet-got}

-- the unused entries
empty_register-small : SmallRegister empty_register
unfolding empty_register
empty_register-small = record {
  columns-high = omega arith;
  rules-high = omega arith;
  rules-held = omega arith;
  rule-high = λ k.
      rw (zeros_at 8 k) (omega arith);
}

-- the unused look-up
empty_look_up-small : SmallLookUp empty_look_up
unfolding empty_look_up
empty_look_up-small = record {
  register-high = omega arith;
  columns-high = omega arith;
  columns-held = omega arith;
  vars-high = λ c.
      rw (zeros_at 6 c) (omega arith);
}

-- a fine register
register-small : (r : Register) → FineRegister r → SmallRegister (register_of r)
unfolding register_of
register-small r f =
    record {
      columns-high = f.columns-high;
      rules-high = f.rules-high;
      rules-held = omega (
        arith,
        f.rules-high,
        length-map r.rules (marks_number 0),
        length-padded 8 0 (map (marks_number 0) r.rules) (omega (arith, f.rules-high, length-map r.rules (marks_number 0))),
      );
      rule-high =
          shown_all (λ n. n < 2 ^ 6) (marks_number 0) 8 0 r.rules (omega arith)
          (λ m i. rule-low m (rw (f.marks m i) f.columns-high)) 0 (omega arith);
    }

-- a fine look-up
look_up-small : (s : Sheet) (l : LookUp) → Fine s → FineLookUp s l → SmallLookUp (look_up_of l)
unfolding look_up_of
look_up-small s l f g =
    let few : length l.vars ≤ 6 =
    rw (g.vars-number ∙ columns_in_lem s l.register (record { columns = 0; rules = [] }) g.register-low)
    (f.registers-fine _ (in_at s.registers l.register _ g.register-low)).columns-high in
    record {
      register-high = omega (arith, g.register-low, f.registers-high);
      columns-high = few;
      columns-held = omega (arith, length-padded 6 0 l.vars few);
      vars-high = at_all (λ v. v < 16) (padded 6 0 l.vars) 0 (omega arith)
          (padded-all (λ v. v < 16) 6 0 l.vars (omega arith)
          (λ v i. omega (arith, g.vars-low v i, f.variables-high)));
    }

module _ (s : Sheet) (f : Fine s) where
  -- a look-up names a register of its columns
  module _ (i : ℕ) (h : i < length s.look_ups) where
    -- look-up i of the sheet
    said : LookUp
    said = get_or s.look_ups i (record { register = 0; vars = [] })

    told : FineLookUp s said
    unfolding said
    told = f.look_ups-fine _ (in_at s.look_ups i _ h)

    named : (get_or (fields_of s).lookup i look_up_beyond).register ≡ said.register
    unfolding said
    named = look_up-register s i look_up_beyond _ h

    same-columns : (get_or (fields_of s).lookup i look_up_beyond).columns
        ≡ (get_or (fields_of s).register (get_or (fields_of s).lookup i look_up_beyond).register register_beyond).columns
    unfolding said
    same-columns =
        let none : Register = record { columns = 0; rules = [] } in
        look_up-columns s i look_up_beyond _ h ∙ told.vars-number ∙ columns_in_lem s said.register none told.register-low
        ∙ sym (rw named
        (ap (λ (r : Held.Register). r.columns) (register_at_lem s said.register register_beyond none told.register-low)
        ∙ shown_width (get_or s.registers said.register none)))

  -- no value stands in the first row where none is given
  zero-start : (v : ℕ) → in_set (fields_of s).given v ≡ false → get_or (fields_of s).start v 0 ≡ 0
  unfolding fields_of
  zero-start v h =
      writes_other (replicate 16 0) s.given s.values v
      (λ i. let low : v < 16 = omega (arith, f.given-low v i, f.variables-high) in clash (in_set_lem s.given v low i) h)
      ∙ zeros_at 16 v

  -- the struct of a fine sheet is small
  pub fields_small : Small (fields_of s)
  unfolding fields_of
  fields_small =
      record {
        registers-high = f.registers-high;
        variables-high = f.variables-high;
        lookups-high = f.look_ups-high;
        registers-held =
            length-padded 12 empty_register (map register_of s.registers)
            (omega (arith, length-map s.registers register_of, f.registers-high));
        lookups-held =
            length-padded 12 empty_look_up (map look_up_of s.look_ups)
            (omega (arith, length-map s.look_ups look_up_of, f.look_ups-high));
        given-high = given-lt s;
        start-number = start-length s;
        start-high = start-low s f;
        register-small = λ i d q.
            shown_all SmallRegister register_of 12 empty_register s.registers empty_register-small
            (λ r j. register-small r (f.registers-fine r j)) d q i;
        lookup-small = λ i d q.
            shown_all SmallLookUp look_up_of 12 empty_look_up s.look_ups empty_look_up-small
            (λ l j. look_up-small s l f (f.look_ups-fine l j)) d q i;
        register-named = λ i h. rw (named i h) (told i h).register-low;
        columns-same = same-columns;
        start-zero = zero-start;
      }

-- the fields that ask nothing are small
pub no_fields-small : Small no_fields
unfolding no_fields
no_fields-small =
    record {
      registers-high = omega arith;
      variables-high = omega arith;
      lookups-high = omega arith;
      registers-held = refl;
      lookups-held = refl;
      given-high = omega arith;
      start-number = refl;
      start-high = λ v. rw (zeros_at 16 v) (omega arith);
      register-small = λ i d q. at_all SmallRegister (replicate 12 empty_register) d q
          (replicate-all SmallRegister 12 empty_register empty_register-small) i;
      lookup-small = λ i d q. at_all SmallLookUp (replicate 12 empty_look_up) d q
          (replicate-all SmallLookUp 12 empty_look_up empty_look_up-small) i;
      register-named = λ i h. absurd (let z : ⊥ = omega arith in z);
      columns-same = λ i h. absurd (let z : ⊥ = omega arith in z);
      start-zero = λ v h. zeros_at 16 v;
    }

-- what was read is small, whatever the bytes
pub read_small : (bytes : List ℕ) (g : Got Fields) → Ok g ≡ sheet_read (read_sheet bytes) → Small g.value
read_small bytes g h = let t = sheet-got bytes g h in rw t.2 (fields_small t.0 t.3)

-- the entry of a look-up is small, also past the end of the array
pub entry_small : (f : Fields) → Small f → (i : ℕ) → SmallLookUp (get_or f.lookup i look_up_beyond)
entry_small f small i =
    small.lookup-small i look_up_beyond
    (record { register-high = omega arith; columns-high = omega arith; columns-held = omega arith; vars-high = λ c. omega arith })
