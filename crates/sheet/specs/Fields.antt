-- What `read_sheet` gives, in terms of what the sheet says, and the sheet that its fields hold. Besides these, its contract needs
-- `shown` and `read_as` of Answers.antt, and `refusal_of` of Refusals.antt in the crate `plan`.
use Rattle.std.specs.Prelude.{List, [], map, ℕ, length, replicate, take, Result}
use Rattle.plan.specs.Lists.{padded, set_of, vars_in}
use Rattle.plan.specs.Request.{Rule, reads, writes}
use Rattle.plan.specs.Reader.{Read}
use Rattle.plan.specs.Sheet.{Sheet}
use Rattle.plan.specs.Write.{marks_of, marks_number}
use Rattle.plan.specs.Sheet as Said
use Rattle.sheet.specs.declared.Register.{Register}
use Rattle.sheet.specs.declared.LookUp.{LookUp}
use Rattle.sheet.specs.declared.Fields.{Fields}
use Rattle.plan.specs.declared.Refused.{Refused}
use Rattle.sheet.specs.declared.Got.{Got}
use Rattle.sheet.specs.Answers.{shown}

-- a register as the struct holds it
unfoldable pub register_of : Said.Register → Register
register_of r =
    record { columns = r.columns; rules = length r.rules; rule = padded 8 0 (map (marks_number 0) r.rules) }

-- an unused register
unfoldable pub empty_register : Register
empty_register = record { columns = 0; rules = 0; rule = replicate 8 0 }

-- a look-up as the struct holds it
unfoldable pub look_up_of : Said.LookUp → LookUp
look_up_of l = record { register = l.register; columns = length l.vars; vars = padded 6 0 l.vars }

-- an unused look-up
unfoldable pub empty_look_up : LookUp
empty_look_up = record { register = 0; columns = 0; vars = replicate 6 0 }

-- the fields of a sheet that was read
unfoldable pub fields_of : Sheet → Fields
fields_of s =
    record {
      registers = length s.registers;
      register = padded 12 empty_register (map register_of s.registers);
      variables = s.variables;
      given = set_of s.given;
      start = writes (replicate 16 0) s.given s.values;
      lookups = length s.look_ups;
      lookup = padded 12 empty_look_up (map look_up_of s.look_ups);
    }

-- the fields that ask nothing
unfoldable pub no_fields : Fields
no_fields =
    record {
      registers = 0;
      register = replicate 12 empty_register;
      variables = 0;
      given = 0;
      start = replicate 16 0;
      lookups = 0;
      lookup = replicate 12 empty_look_up;
    }

-- the whole sheet: its fields and the place behind its last bit, or the refusal of its fault with its detail
abbrev pub sheet_read : Read Sheet → Result (Got Fields) Refused
sheet_read x = shown fields_of x

-- the rules that a register's entry holds
unfoldable pub rules_held : Register → List Rule
rules_held r = map (marks_of r.columns) (take r.rules r.rule)

-- the variables that a look-up's entry holds
abbrev pub vars_held : LookUp → List ℕ
vars_held l = take l.columns l.vars

-- the register that an entry holds
unfoldable pub register_held : Register → Said.Register
register_held r = record { columns = r.columns; rules = rules_held r }

-- the look-up that an entry holds
unfoldable pub look_up_held : LookUp → Said.LookUp
look_up_held l = record { register = l.register; vars = vars_held l }

-- the sheet that the fields hold
unfoldable pub sheet_held : Fields → Sheet
sheet_held f =
    record {
      registers = map register_held (take f.registers f.register);
      variables = f.variables;
      given = vars_in f.given;
      values = reads f.start (vars_in f.given);
      look_ups = map look_up_held (take f.lookups f.lookup);
    }

-- what stands for an entry past the end of an array
abbrev pub register_beyond : Register
register_beyond = record { columns = 0; rules = 0; rule = [] }

abbrev pub look_up_beyond : LookUp
look_up_beyond = record { register = 0; columns = 0; vars = [] }
