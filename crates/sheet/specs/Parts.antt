-- What is shown of the sheet's parts, before they are put together.
use Rattle.std.specs.Prelude.{List, [], map, ℕ, replicate}
use Rattle.plan.specs.Lists.{padded, set_of}
use Rattle.plan.specs.Request.{Rule, writes}
use Rattle.plan.specs.Sheet.{used}
use Rattle.plan.specs.Sheet as Said
use Rattle.plan.specs.Write.{marks_number}
use Rattle.sheet.specs.Fields.{register_of, empty_register, look_up_of, empty_look_up}
use Rattle.sheet.specs.Stages.{Given}
use Rattle.sheet.specs.Stages as Read
use Rattle.sheet.specs.declared.Register.{Register}
use Rattle.sheet.specs.declared.LookUp.{LookUp}
use Rattle.sheet.specs.declared.header.Counts.{Counts}
use Rattle.sheet.specs.declared.given.FirstRow.{FirstRow}
use Rattle.sheet.specs.declared.lookups.Using.{Using}
use Rattle.sheet.specs.declared.asked.Asked.{Asked}

-- the counts
unfoldable pub counts_of : Read.Counts → Counts
counts_of c = record { registers = c.registers; variables = c.variables; lookups = c.look_ups }

-- rules as numbers, in their array
unfoldable pub rules_of : List Rule → List ℕ
rules_of rs = padded 8 0 (map (marks_number 0) rs)

-- registers, in their array
unfoldable pub registers_of : List Said.Register → List Register
registers_of rs = padded 12 empty_register (map register_of rs)

-- the columns of each register
abbrev pub widths : List Register → List ℕ
widths registers = map (λ (r : Register). r.columns) registers

-- the given variables as a set, and the row of their values
unfoldable pub first_row_of : Given → FirstRow
first_row_of g = record { given = set_of g.given; start = writes (replicate 16 0) g.given g.values }

-- variables in their array, and their set
unfoldable pub vars_using : List ℕ → Using (List ℕ)
vars_using vs = record { read = padded 6 0 vs; used = set_of vs }

-- a look-up, and the set of its variables
unfoldable pub look_up_using : Said.LookUp → Using LookUp
look_up_using l = record { read = look_up_of l; used = set_of l.vars }

-- look-ups in their array, and the set of their variables
unfoldable pub look_ups_using : List Said.LookUp → Using (List LookUp)
look_ups_using ls = record { read = padded 12 empty_look_up (map look_up_of ls); used = set_of (used [] ls) }

-- what stands behind the registers
unfoldable pub asked_of : Read.Asked → Asked
asked_of a = record { first = first_row_of a.given; lookup = padded 12 empty_look_up (map look_up_of a.look_ups) }
