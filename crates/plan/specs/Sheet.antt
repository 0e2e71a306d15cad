-- The sheet, bit by bit: its fields in their order (docs/RULES.md, section 2).
use Rattle.std.specs.Prelude.{Bool, true, false, ◌&&◌, not, List, [], ◌∷◌, ◌++◌, map, ℕ, suc, ◌+◌, ◌-◌, ◌*◌, ◌%◌, get_or, length, eqb, leb, ltb}
use Rattle.std.proofs.Math.Option.{Option, none, some}
use Rattle.plan.specs.Lists.{has, numbers}
use Rattle.plan.specs.Request.{Rule}
use Rattle.plan.specs.Reader.{wrong_version, count_out, not_in_sheet, unused_variable, bad_padding, given_zero, Read, got, bad, Reader, bits_at, give, ◌>>=◌, field, marks, tested, each}

-- a register: its columns and its rules (§1.2, §1.4)
pub record Register : Type 0 where
  pub columns : ℕ
  pub rules : List Rule

-- a look-up: a register, and one variable per column (§1.7)
pub record LookUp : Type 0 where
  pub register : ℕ
  pub vars : List ℕ

-- what a sheet says
pub record Sheet : Type 0 where
  pub registers : List Register
  pub variables : ℕ
  pub given : List ℕ
  pub values : List ℕ
  pub look_ups : List LookUp

-- the columns of each register
abbrev pub columns_of : List Register → List ℕ
columns_of registers = map (λ (r : Register). r.columns) registers

-- a count of w bits, from `low` to `high`
unfoldable pub count_from : ℕ → ℕ → ℕ → Reader ℕ
count_from w low high = tested w (λ x. leb low x && leb x high) count_out

-- 4 bits that name one of n things of the sheet
unfoldable pub one_of : ℕ → Reader ℕ
one_of n = tested 4 (λ x. ltb x n) not_in_sheet

-- §2.2: version, 3 bits, must be 1
unfoldable pub version : Reader ℕ
version = tested 3 (λ x. eqb x 1) wrong_version

-- §2.6: columns, 3 bits, 1 to 6; rules, 4 bits, 1 to 8; then the rules, first column first, 1 = must give
unfoldable pub register : Reader Register
register = do
  columns ← count_from 3 1 6
  k ← count_from 4 1 8
  rules ← each k (marks columns)
  give (record { columns = columns; rules = rules })

-- the places of the marks that are set, counted from `i`
unfoldable pub marked : ℕ → List Bool → List ℕ
marked i [] = []
marked i (true ∷ bs) = i ∷ marked (suc i) bs
marked i (false ∷ bs) = marked (suc i) bs

-- §2.8: a given value, 32 bits, not 0
unfoldable pub value : Reader ℕ
value = tested 32 (λ x. not (eqb x 0)) given_zero

-- §2.9: register, 4 bits, below R; then one variable per column, 4 bits each, below V
unfoldable pub look_up : List Register → ℕ → Reader LookUp
look_up registers variables = do
  r ← one_of (length registers)
  vars ← each (get_or (columns_of registers) r 0) (one_of variables)
  give (record { register = r; vars = vars })

-- the variables that are given or stand in some look-up (§2.11)
unfoldable pub used : List ℕ → List LookUp → List ℕ
used given [] = given
used given (l ∷ ls) = l.vars ++ used given ls

-- the first of the variables that is not used
unfoldable pub first_unused : List ℕ → List ℕ → Option ℕ
first_unused used [] = none
first_unused used (v ∷ vs) = elim (has eqb v used) [ true ↦ first_unused used vs | false ↦ some v ]

-- each variable is given or stands in some look-up; else the detail is the lowest that does not (§2.11, §2.13)
unfoldable pub all_used : List ℕ → ℕ → Reader (Unit {0})
all_used used variables bytes at =
    elim (first_unused used (numbers 0 variables)) [ none ↦ got tt at | some v ↦ bad unused_variable v ]

-- how many bits are left up to a full byte
unfoldable pub to_full_byte : ℕ → ℕ
to_full_byte at = (8 - at % 8) % 8

-- §2.10: zero bits up to a full byte, and no byte after it
unfoldable pub ending : Reader (Unit {0})
ending bytes at =
    let w = to_full_byte at in
    elim (eqb (bits_at bytes at w) 0) [
      | true ↦ elim (eqb (at + w) (8 * length bytes)) [ true ↦ got tt (at + w) | false ↦ bad bad_padding (at + w) ]
      | false ↦ bad bad_padding at
    ]

-- the whole sheet, field by field: §2.2 to §2.5, §2.6, §2.7, §2.8, §2.9, §2.11, §2.10
unfoldable pub sheet : Reader Sheet
sheet = do
  _ ← version
  r ← count_from 4 1 12
  v ← field 4
  n ← count_from 4 1 12
  registers ← each r register
  given_marks ← marks (v + 1)
  values ← each (length (marked 0 given_marks)) value
  look_ups ← each n (look_up registers (v + 1))
  _ ← all_used (used (marked 0 given_marks) look_ups) (v + 1)
  _ ← ending
  give
      (record {
        registers = registers;
        variables = v + 1;
        given = marked 0 given_marks;
        values = values;
        look_ups = look_ups;
      })

-- what the bytes of a sheet say: the sheet's fields, or the first fault in reading order (§2.13)
unfoldable pub read_sheet : List ℕ → Read Sheet
read_sheet bytes = sheet bytes 0
