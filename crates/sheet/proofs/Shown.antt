-- What the struct of a sheet holds, in terms of the sheet: for those above, who need not open `fields_of`. By what stands in
-- a padded array.
use mathlib.Core.Path.{◌≡◌, refl, sym, ◌∙◌, ap}
use mathlib.Core.List.{List, [], ◌∷◌, map}
use Prim.Native.Nat.{ℕ, zero, suc, ◌^◌, ◌<◌}
use native.Mathlib.Omega.{arith}
use lib.ListN.{length, get_or, set, take, replicate, length-map}
use Rattle.plan.specs.Lists.{In, numbers, set_of, vars_in}
use Rattle.plan.specs.Request.{writes}
use Rattle.plan.specs.Reader.{Fault, got, bad}
use Rattle.plan.specs.Refusals.{refusal_of}
use Rattle.plan.specs.declared.Refused.{Refused}
use Rattle.std.specs.Prelude.{Ok, Err}
use Rattle.plan.specs.Sheet.{Register, LookUp, Sheet, read_sheet}
use Rattle.plan.specs.Sheet.{columns_of}
use Rattle.plan.proofs.Lists.{in_head, in_tail}
use Rattle.plan.proofs.Padded.{map_at, zeros_at, padded_at, padded-take}
use Rattle.plan.proofs.Sets.{set-lt, set_there, set_back}
use Rattle.plan.proofs.Rows.{length-writes}
use Rattle.plan.specs.Write.{marks_number}
use Rattle.sheet.specs.Fields.{register_of, empty_register, look_up_of, empty_look_up, fields_of, sheet_read}
use Rattle.sheet.specs.Fine.{Fine}
use Rattle.plan.proofs.Rising.{rising_equal, numbers_rising, from_rising}
use Rattle.sheet.specs.declared.Register as Held
use Rattle.sheet.specs.declared.LookUp as Asks
use Rattle.sheet.specs.declared.Got.{Got}
use Rattle.sheet.specs.declared.Fields.{Fields}
use Rattle.sheet.proofs.Readers.{shown-ok, stops}
use Rattle.sheet.proofs.Fine.{read-fine}

-- ---- a register and a look-up as the struct holds them

module _ (r : Register) where
  -- the register's columns
  pub shown_width : (register_of r).columns ≡ r.columns
  unfolding register_of
  shown_width = refl

  -- as many of its entries as it has rules are its rules as numbers
  pub shown_rules : take (register_of r).rules (register_of r).rule ≡ map (marks_number 0) r.rules
  unfolding register_of
  shown_rules = padded-take 8 0 (map (marks_number 0) r.rules) (length r.rules) (length-map r.rules (marks_number 0))

module _ (l : LookUp) where
  -- the look-up's register
  pub shown_register : (look_up_of l).register ≡ l.register
  unfolding look_up_of
  shown_register = refl

  -- as many of its entries as it has columns are its variables
  pub shown_vars : take (look_up_of l).columns (look_up_of l).vars ≡ l.vars
  unfolding look_up_of
  shown_vars = padded-take 6 0 l.vars (length l.vars) refl

-- ---- the struct of a sheet

-- a store of a small value keeps the words small
set-low : (b : ℕ) (row : List ℕ) (v x : ℕ) → x < b → ((i : ℕ) → get_or row i 0 < b) → (i : ℕ) → get_or (set row v x) i 0 < b
set-low b [] v x l h i = h i
set-low b (y ∷ row) zero x l h zero = l
set-low b (y ∷ row) zero x l h (suc i) = h (suc i)
set-low b (y ∷ row) (suc v) x l h zero = h zero
set-low b (y ∷ row) (suc v) x l h (suc i) = set-low b row v x l (λ k. h (suc k)) i

-- so do several
writes-low : (b : ℕ) (row vs xs : List ℕ) → ((i : ℕ) → get_or row i 0 < b) → ((x : ℕ) → In x xs → x < b)
    → (i : ℕ) → get_or (writes row vs xs) i 0 < b
unfolding writes
writes-low b row [] xs h l = h
writes-low b row (v ∷ vs) [] h l = h
writes-low b row (v ∷ vs) (x ∷ xs) h l =
    writes-low b (set row v x) vs xs (set-low b row v x (l x (in_head x xs)) h) (λ y i. l y (in_tail y x xs i))

module _ (s : Sheet) where
  -- the number of variables
  pub fields_variables : (fields_of s).variables ≡ s.variables
  unfolding fields_of
  fields_variables = refl

  -- the set of the given variables
  pub fields_given : (fields_of s).given ≡ set_of s.given
  unfolding fields_of
  fields_given = refl

  -- its variables are the given ones
  pub fields_vars : Fine s → vars_in (fields_of s).given ≡ s.given
  unfolding vars_in
  fields_vars fine =
      ap vars_in fields_given
      ∙ rising_equal (vars_in (set_of s.given)) s.given (from_rising (set_of s.given) (numbers 0 16) (numbers_rising 0 16))
      fine.given_rising (set_back s.given)
      (set_there s.given (λ v i. omega (arith, fine.given-low v i, fine.variables-high)))

  -- the first row has the given values at the given variables, and zeros elsewhere
  pub fields_start : (fields_of s).start ≡ writes (replicate 16 0) s.given s.values
  unfolding fields_of
  fields_start = refl

  -- as many entries as there are registers are the registers
  pub fields_register : take (fields_of s).registers (fields_of s).register ≡ map register_of s.registers
  unfolding fields_of
  fields_register =
      padded-take 12 empty_register (map register_of s.registers) (length s.registers) (length-map s.registers register_of)

  -- as many entries as there are look-ups are the look-ups
  pub fields_lookup : take (fields_of s).lookups (fields_of s).lookup ≡ map look_up_of s.look_ups
  unfolding fields_of
  fields_lookup =
      padded-take 12 empty_look_up (map look_up_of s.look_ups) (length s.look_ups) (length-map s.look_ups look_up_of)

  -- register i
  module _ (i : ℕ) (d : Held.Register) (e : Register) (h : i < length s.registers) where
    -- the entry is the register as the struct holds it
    pub register_at_lem : get_or (fields_of s).register i d ≡ register_of (get_or s.registers i e)
    unfolding fields_of
    register_at_lem =
        padded_at 12 empty_register (map register_of s.registers) i d (rw (length-map s.registers register_of) h)
        ∙ map_at register_of s.registers i d e h

  -- look-up i
  module _ (i : ℕ) (d : Asks.LookUp) (e : LookUp) (h : i < length s.look_ups) where
    -- the entry is the look-up as the struct holds it
    pub look_up_at_lem : get_or (fields_of s).lookup i d ≡ look_up_of (get_or s.look_ups i e)
    unfolding fields_of
    look_up_at_lem =
        padded_at 12 empty_look_up (map look_up_of s.look_ups) i d (rw (length-map s.look_ups look_up_of) h)
        ∙ map_at look_up_of s.look_ups i d e h

    -- its register
    pub look_up-register : (get_or (fields_of s).lookup i d).register ≡ (get_or s.look_ups i e).register
    unfolding look_up_of
    look_up-register = ap (λ (l : Asks.LookUp). l.register) look_up_at_lem

    -- the number of its columns
    pub look_up-columns : (get_or (fields_of s).lookup i d).columns ≡ length (get_or s.look_ups i e).vars
    unfolding look_up_of
    look_up-columns = ap (λ (l : Asks.LookUp). l.columns) look_up_at_lem

  -- the columns of a register, in the list of all
  pub columns_in_lem : (i : ℕ) (e : Register) → i < length s.registers
      → get_or (columns_of s.registers) i 0 ≡ (get_or s.registers i e).columns
  columns_in_lem i e h = map_at (λ (r : Register). r.columns) s.registers i 0 e h

  -- the start row has 16 words, each of 32 bits
  pub start-length : length (fields_of s).start ≡ 16
  unfolding fields_of
  start-length = length-writes (replicate 16 0) s.given s.values

  -- each word has 32 bits
  pub start-low : Fine s → (v : ℕ) → get_or (fields_of s).start v 0 < 2 ^ 32
  unfolding fields_of
  start-low f = writes-low (2 ^ 32) (replicate 16 0) s.given s.values
      (λ i. rw (zeros_at 16 i) (omega arith)) f.values_low

  -- the set of the given variables has 16 bits
  pub given-lt : (fields_of s).given < 2 ^ 16
  unfolding fields_of
  given-lt = set-lt s.given

-- ---- the answer to any bytes

module _ (bytes : List ℕ) where
  -- an answer with fields says that a sheet was read, and that the fields are those of a fine sheet
  pub sheet-got : (g : Got Fields) → Ok g ≡ sheet_read (read_sheet bytes)
      → (s : Sheet) × (read_sheet bytes ≡ got s g.next) × (g.value ≡ fields_of s) × Fine s
  sheet-got g h =
      let t = shown-ok fields_of (read_sheet bytes) g h in
      (t.0, t.1, t.2, read-fine bytes t.0 g.next t.1)

  -- an answer with a refusal has that of the fault, and its detail
  pub sheet-refused : (e : Refused) → Err e ≡ sheet_read (read_sheet bytes)
      → (fault : Fault) × (read_sheet bytes ≡ bad fault e.detail) × (e.refusal ≡ refusal_of fault)
  sheet-refused e h =
      let s = stops _ (read_sheet bytes) e h in
      let d : s.detail ≡ e.detail = sym (ap (λ (x : Refused). x.detail) s.shown) in
      (s.fault, s.is ∙ ap (bad s.fault) d, ap (λ (x : Refused). x.refusal) s.shown)
