-- What is promised of fields that are written: each that the sheet has is read back, and what the sheet has no field for is
-- read back as 0; what was read is written as the same bytes; and fields that keep the rules are written.
use Rattle.std.specs.Prelude.{◌≡◌, ◌↔◌, true, false, List, ℕ, ◌*◌, ◌^◌, ◌≤◌, ◌<◌, length, get_or, Ok}
use Rattle.plan.specs.Lists.{In, in_set}
use Rattle.plan.specs.Reader.{got}
use Rattle.plan.specs.Sheet.{Sheet, read_sheet}
use Rattle.plan.specs.Write.{marks_of, put, write_sheet, Formed}
use Rattle.sheet.specs.declared.Register.{Register}
use Rattle.sheet.specs.declared.LookUp.{LookUp}
use Rattle.sheet.specs.declared.Fields.{Fields}
use Rattle.sheet.specs.Fields.{empty_register, empty_look_up, fields_of, sheet_read}
use Rattle.sheet.specs.Fine.{Fine}
use Rattle.write.specs.Said.{sheet_said}

-- entry i of the registers, and of the look-ups
abbrev pub register_in : Fields → ℕ → Register
register_in f i = get_or f.register i empty_register

abbrev pub look_up_in : Fields → ℕ → LookUp
look_up_in f i = get_or f.lookup i empty_look_up

-- each field that a sheet has is the same in both
pub record Kept (f g : Fields) : Type 0 where
  pub registers : g.registers ≡ f.registers
  pub variables : g.variables ≡ f.variables
  pub lookups : g.lookups ≡ f.lookups
  pub columns : (i : ℕ) → i < f.registers → (register_in g i).columns ≡ (register_in f i).columns
  pub rules : (i : ℕ) → i < f.registers → (register_in g i).rules ≡ (register_in f i).rules
  pub marks : (i k : ℕ) → i < f.registers → k < (register_in f i).rules
      → marks_of (register_in f i).columns (get_or (register_in g i).rule k 0)
      ≡ marks_of (register_in f i).columns (get_or (register_in f i).rule k 0)
  pub given : (v : ℕ) → v < f.variables → in_set g.given v ≡ in_set f.given v
  pub values : (v : ℕ) → v < f.variables → in_set f.given v ≡ true → get_or g.start v 0 ≡ get_or f.start v 0
  pub named : (i : ℕ) → i < f.lookups → (look_up_in g i).register ≡ (look_up_in f i).register
  pub asked : (i c : ℕ) → i < f.lookups → c < (register_in f (look_up_in f i).register).columns
      → get_or (look_up_in g i).vars c 0 ≡ get_or (look_up_in f i).vars c 0

-- all else is 0
pub record Bare (g : Fields) : Type 0 where
  pub registers : (i : ℕ) → g.registers ≤ i → register_in g i ≡ empty_register
  pub rules : (i k : ℕ) → (register_in g i).rules ≤ k → get_or (register_in g i).rule k 0 ≡ 0
  pub marks : (i k : ℕ) → get_or (register_in g i).rule k 0 < 2 ^ (register_in g i).columns
  pub given : (v : ℕ) → g.variables ≤ v → in_set g.given v ≡ false
  pub values : (v : ℕ) → in_set g.given v ≡ false → get_or g.start v 0 ≡ 0
  pub lookups : (i : ℕ) → g.lookups ≤ i → look_up_in g i ≡ empty_look_up
  pub asked : (i c : ℕ) → (look_up_in g i).columns ≤ c → get_or (look_up_in g i).vars c 0 ≡ 0
  pub columns : (i : ℕ) → i < g.lookups → (look_up_in g i).columns ≡ (register_in g (look_up_in g i).register).columns

-- values of 32 bits, as the fields' type has them
abbrev pub Words : Fields → Type 0
Words f = (v : ℕ) → get_or f.start v 0 < 2 ^ 32

pub record Promise : Type 0 where
  -- what any fields say has the form of a sheet
  pub formed : (f : Fields) → Words f → Formed (sheet_said f)
  -- what was written is read, with no fault
  pub back : (f : Fields) → Words f → (bytes : List ℕ) → write_sheet (sheet_said f) ≡ put bytes
      → sheet_read (read_sheet bytes) ≡ Ok (record { value = fields_of (sheet_said f); next = 8 * length bytes })
  -- each field that the sheet has comes back, and all else is 0
  pub kept : (f : Fields) → Words f → (bytes : List ℕ) → write_sheet (sheet_said f) ≡ put bytes → Kept f (fields_of (sheet_said f))
  pub bare : (f : Fields) → Words f → (bytes : List ℕ) → write_sheet (sheet_said f) ≡ put bytes → Bare (fields_of (sheet_said f))
  -- what was read is written as the same bytes
  pub same : (bytes : List ℕ) → ((i : ℕ) → get_or bytes i 0 < 256) → (s : Sheet) (end : ℕ) → read_sheet bytes ≡ got s end
      → write_sheet (sheet_said (fields_of s)) ≡ put bytes
  -- a sheet that keeps the rules is written, and no other
  pub sound : (s : Sheet) → Formed s
      → (Fine s × ((x : ℕ) → In x s.values → x ≡ 0 → ⊥)) ↔ ((bytes : List ℕ) × (write_sheet s ≡ put bytes))
  -- what a sheet has no field for is ignored: fields that are the same in each field of a sheet are written or refused alike
  pub alike : (f g : Fields) → Kept f g → write_sheet (sheet_said f) ≡ write_sheet (sheet_said g)
