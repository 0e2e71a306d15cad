-- The sheet's parts as stages, each with no more of what was read before than it needs.
use Rattle.std.specs.Prelude.{Bool, List, ℕ, ◌+◌, get_or, length}
use Rattle.plan.specs.Reader.{Reader, give, ◌>>=◌, field, marks, each}
use Rattle.plan.specs.Sheet.{Register, LookUp, Sheet, columns_of, count_from, one_of, version, register, marked, value, used, all_used, ending}

-- the counts of a sheet: its registers, variables and look-ups
pub record Counts : Type 0 where
  pub registers : ℕ
  pub variables : ℕ
  pub look_ups : ℕ

-- parts 2 to 4
unfoldable pub counts : Reader Counts
counts = do
  r ← count_from 4 1 12
  v ← field 4
  n ← count_from 4 1 12
  give (record { registers = r; variables = v + 1; look_ups = n })

-- §2.2 to §2.5
unfoldable pub header : Reader Counts
header = version >>= λ x. counts

-- the given variables and their values
pub record Given : Type 0 where
  pub given : List ℕ
  pub values : List ℕ

-- the values of the variables that are marked
unfoldable pub given_at : List Bool → Reader Given
given_at m = do
  values ← each (length (marked 0 m)) value
  give (record { given = marked 0 m; values = values })

-- §2.7 and §2.8
unfoldable pub given : ℕ → Reader Given
given variables = marks variables >>= given_at

-- §2.9, from the number of registers and the columns of each
unfoldable pub look_up_by : ℕ → List ℕ → ℕ → Reader LookUp
look_up_by registers columns variables = do
  r ← one_of registers
  vars ← each (get_or columns r 0) (one_of variables)
  give (record { register = r; vars = vars })

-- each variable is given or stands in some look-up (§2.11), and §2.10
unfoldable pub closing : List ℕ → ℕ → Reader (Unit {0})
closing used variables = all_used used variables >>= λ x. ending

-- what stands behind the registers
pub record Asked : Type 0 where
  pub given : Given
  pub look_ups : List LookUp

-- parts 6 to 8
unfoldable pub asked : ℕ → List ℕ → ℕ → ℕ → Reader Asked
asked registers columns variables n = do
  g ← given variables
  ls ← each n (look_up_by registers columns variables)
  _ ← closing (used g.given ls) variables
  give (record { given = g; look_ups = ls })

-- what the stages make together
unfoldable pub sheet_of : List Register → ℕ → Asked → Sheet
sheet_of registers variables a =
    record {
      registers = registers;
      variables = variables;
      given = a.given.given;
      values = a.given.values;
      look_ups = a.look_ups;
    }

-- the whole sheet, stage by stage
unfoldable pub stages : Reader Sheet
stages = do
  c ← header
  registers ← each c.registers register
  a ← asked (length registers) (columns_of registers) c.variables c.look_ups
  give (sheet_of registers c.variables a)
