-- What was read fills its arrays: each register has 8 rules in its array, and each look-up 6 variables.
use mathlib.Core.Path.{◌≡◌, refl, ap}
use mathlib.Core.List.{List, map}
use Prim.Native.Nat.{ℕ, ◌≤◌, ◌<◌}
use native.Mathlib.Omega.{arith}
use lib.ListN.{length, get_or, length-map, get_or-replicate}
use Rattle.plan.specs.Lists.{In, padded}
use Rattle.sheet.specs.declared.Got.{Got}
use Rattle.std.specs.Prelude.{Ok}
use Rattle.sheet.proofs.Shown.{sheet-got}
use Rattle.plan.specs.Sheet.{Sheet, read_sheet}
use Rattle.plan.specs.Sheet as Said
use Rattle.plan.specs.Write.{marks_number}
use Rattle.plan.proofs.Lists.{in_map}
use Rattle.plan.proofs.Padded.{in_at, padded-all, length-padded}
use Rattle.sheet.specs.declared.Register.{Register}
use Rattle.sheet.specs.declared.LookUp.{LookUp}
use Rattle.sheet.specs.declared.Fields.{Fields}
use Rattle.sheet.specs.Fields.{register_of, empty_register, look_up_of, empty_look_up, fields_of, no_fields, sheet_read}
use Rattle.sheet.specs.Fields.{register_beyond, look_up_beyond}
use Rattle.sheet.specs.Fine.{SmallRegister, Small}
use Rattle.sheet.proofs.Small.{read_small, entry_small}

-- the rules of each register fill their array, and so do the variables of each look-up
pub record Filled (f : Fields) : Type 0 where
  pub rules : (i : ℕ) → i < 12 → length (get_or f.register i register_beyond).rule ≡ 8
  pub vars : (i : ℕ) → i < 12 → length (get_or f.lookup i look_up_beyond).vars ≡ 6

-- what holds of each value that is shown and of the filling holds of each entry
entry_all : {A B : Type 0} (P : B → Type 0) (f : A → B) (n : ℕ) (fill : B) (xs : List A) → length xs ≤ n → P fill
    → ((x : A) → In x xs → P (f x)) → (d : B) (i : ℕ) → i < n → P (get_or (padded n fill (map f xs)) i d)
entry_all P f n fill xs few p h d i b =
    let long = length-padded n fill (map f xs) (omega (arith, length-map xs f)) in
    padded-all P n fill (map f xs) p (λ y j. let m = in_map f xs y j in rw m.2 (h m.0 m.1))
    (get_or (padded n fill (map f xs)) i d) (in_at (padded n fill (map f xs)) i d (omega (arith, long)))

-- the rules of a register that is shown, if they are at most 8, and the variables of a look-up, if they are at most 6
rules_fill : (r : Said.Register) → (register_of r).rules ≤ 8 → length (register_of r).rule ≡ 8
unfolding register_of
rules_fill r h =
    length-padded 8 0 (map (marks_number 0) r.rules) (omega (arith, length-map r.rules (marks_number 0)))

vars_fill : (l : Said.LookUp) → (look_up_of l).columns ≤ 6 → length (look_up_of l).vars ≡ 6
unfolding look_up_of
vars_fill l h = length-padded 6 0 l.vars h

-- an entry is small, also past the end of the array
pub small_entry : (f : Fields) → Small f → (i : ℕ) → SmallRegister (get_or f.register i register_beyond)
small_entry f small i =
    small.register-small i register_beyond
    (record { columns-high = omega arith; rules-high = omega arith; rules-held = omega arith; rule-high = λ k. omega arith })

-- the fields of a sheet
fields_filled : (s : Sheet) → Small (fields_of s) → Filled (fields_of s)
unfolding fields_of empty_register empty_look_up
fields_filled s small =
    record {
      rules = λ i h.
          entry_all (λ (r : Register). r.rules ≤ 8 → length r.rule ≡ 8) register_of 12 empty_register s.registers
          small.registers-high (λ b. refl) (λ r j. rules_fill r) register_beyond i h
          (small_entry (fields_of s) small i).rules-high;
      vars = λ i h.
          entry_all (λ (l : LookUp). l.columns ≤ 6 → length l.vars ≡ 6) look_up_of 12 empty_look_up s.look_ups
          small.lookups-high (λ b. refl) (λ l j. vars_fill l) look_up_beyond i h
          (entry_small (fields_of s) small i).columns-high;
    }

-- those that ask nothing
pub none_filled : Filled no_fields
unfolding no_fields empty_register empty_look_up
none_filled =
    record {
      rules = λ i h. ap (λ (r : Register). length r.rule) (get_or-replicate 12 i empty_register register_beyond h);
      vars = λ i h. ap (λ (l : LookUp). length l.vars) (get_or-replicate 12 i empty_look_up look_up_beyond h);
    }

-- what was read fills its arrays, whatever the bytes
pub read_filled : (bytes : List ℕ) (g : Got Fields) → Ok g ≡ sheet_read (read_sheet bytes) → Filled g.value
read_filled bytes g h =
    let t = sheet-got bytes g h in
    rw t.2 (fields_filled t.0 (rw t.2 at (read_small bytes g h)))
