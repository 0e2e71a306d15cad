-- What is known of a sheet that was read: its ranges and lengths, that each variable is used, and what its struct keeps.
use Rattle.std.specs.Prelude.{◌≡◌, ◌⊎◌, false, ℕ, ◌^◌, ◌≤◌, ◌<◌, length, get_or}
use Rattle.plan.specs.Lists.{In, in_set, Rising}
use Rattle.plan.specs.Request.{Rule}
use Rattle.plan.specs.Sheet.{Register, LookUp, Sheet}
use Rattle.plan.specs.Sheet.{columns_of}
use Rattle.sheet.specs.declared.Register as Held
use Rattle.sheet.specs.declared.LookUp as Asks
use Rattle.sheet.specs.declared.Fields.{Fields}
use Rattle.sheet.specs.Fields.{register_beyond, look_up_beyond}

-- a register has 1 to 6 columns and 1 to 8 rules, each with a mark per column
pub record FineRegister (r : Register) : Type 0 where
  pub columns-low : 1 ≤ r.columns
  pub columns-high : r.columns ≤ 6
  pub rules-low : 1 ≤ length r.rules
  pub rules-high : length r.rules ≤ 8
  pub marks : (m : Rule) → In m r.rules → length m ≡ r.columns

-- a look-up names one of the registers, and one of the variables per column
pub record FineLookUp (s : Sheet) (l : LookUp) : Type 0 where
  pub register-low : l.register < length s.registers
  pub vars-number : length l.vars ≡ get_or (columns_of s.registers) l.register 0
  pub vars-low : (v : ℕ) → In v l.vars → v < s.variables

-- a sheet that was read
pub record Fine (s : Sheet) : Type 0 where
  pub registers-low : 1 ≤ length s.registers
  pub registers-high : length s.registers ≤ 12
  pub registers-fine : (r : Register) → In r s.registers → FineRegister r
  pub variables-low : 1 ≤ s.variables
  pub variables-high : s.variables ≤ 16
  pub given-low : (v : ℕ) → In v s.given → v < s.variables
  pub given_rising : Rising s.given
  pub values-number : length s.values ≡ length s.given
  pub values_low : (x : ℕ) → In x s.values → x < 2 ^ 32
  pub look_ups-low : 1 ≤ length s.look_ups
  pub look_ups-high : length s.look_ups ≤ 12
  pub look_ups-fine : (l : LookUp) → In l s.look_ups → FineLookUp s l
  pub all-used : (v : ℕ) → v < s.variables → In v s.given ⊎ ((l : LookUp) × In l s.look_ups × In v l.vars)

-- an entry of the array of registers, used or not
pub record SmallRegister (r : Held.Register) : Type 0 where
  pub columns-high : r.columns ≤ 6
  pub rules-high : r.rules ≤ 8
  pub rules-held : r.rules ≤ length r.rule
  pub rule-high : (k : ℕ) → get_or r.rule k 0 < 2 ^ 6

-- an entry of the array of look-ups, used or not
pub record SmallLookUp (l : Asks.LookUp) : Type 0 where
  pub register-high : l.register < 12
  pub columns-high : l.columns ≤ 6
  pub columns-held : l.columns ≤ length l.vars
  pub vars-high : (c : ℕ) → get_or l.vars c 0 < 16

-- the fields of a sheet that was read, and those that ask nothing: their counts, the entries at every index, with any small default, the register that each
-- look-up names, and zeros in the first row where no value is given
pub record Small (f : Fields) : Type 0 where
  pub registers-high : f.registers ≤ 12
  pub variables-high : f.variables ≤ 16
  pub lookups-high : f.lookups ≤ 12
  pub registers-held : length f.register ≡ 12
  pub lookups-held : length f.lookup ≡ 12
  pub given-high : f.given < 2 ^ 16
  pub start-number : length f.start ≡ 16
  pub start-high : (v : ℕ) → get_or f.start v 0 < 2 ^ 32
  pub register-small : (i : ℕ) (d : Held.Register) → SmallRegister d → SmallRegister (get_or f.register i d)
  pub lookup-small : (i : ℕ) (d : Asks.LookUp) → SmallLookUp d → SmallLookUp (get_or f.lookup i d)
  pub register-named : (i : ℕ) → i < f.lookups → (get_or f.lookup i look_up_beyond).register < f.registers
  pub columns-same : (i : ℕ) → i < f.lookups
      → (get_or f.lookup i look_up_beyond).columns
      ≡ (get_or f.register (get_or f.lookup i look_up_beyond).register register_beyond).columns
  pub start-zero : (v : ℕ) → in_set f.given v ≡ false → get_or f.start v 0 ≡ 0
