-- The sheet that any fields say: its counts as they are, and what an array does not have is 0. What a sheet has no field for
-- is left out: entries beyond the counts, marks of a rule beyond the columns, given variables beyond V, values of variables
-- that are not given, and how many columns a look-up's entry says.
use Rattle.std.specs.Prelude.{List, map, ◌++◌, ℕ, get_or}
use Rattle.plan.specs.Lists.{numbers, from_set}
use Rattle.plan.specs.Request.{Rule, reads}
use Rattle.plan.specs.Sheet.{Sheet, used}
use Rattle.plan.specs.Sheet as Said
use Rattle.plan.specs.Write.{marks_of, Item, given_items, look_up_items, unused_items, all_items}
use Rattle.sheet.specs.declared.Register.{Register}
use Rattle.sheet.specs.declared.LookUp.{LookUp}
use Rattle.sheet.specs.declared.Fields.{Fields}
use Rattle.sheet.specs.Fields.{register_beyond, look_up_beyond}

-- rule k of an entry that has so many columns, as marks
unfoldable pub rule_said : ℕ → List ℕ → ℕ → Rule
rule_said columns rule k = marks_of columns (get_or rule k 0)

-- the register that an entry says: as many rules as it says
unfoldable pub register_said : Register → Said.Register
register_said r = record { columns = r.columns; rules = map (rule_said r.columns r.rule) (numbers 0 r.rules) }

-- register i of the array
unfoldable pub register_at : List Register → ℕ → Said.Register
register_at register i = register_said (get_or register i register_beyond)

-- the given variables: those of the set that are in the sheet
unfoldable pub given_said : ℕ → ℕ → List ℕ
given_said variables given = from_set given (numbers 0 variables)

-- the look-up that an entry says: a variable for each column of the register that it names
unfoldable pub look_up_said : List Register → LookUp → Said.LookUp
look_up_said register l =
    record {
      register = l.register;
      vars = reads l.vars (numbers 0 (get_or register l.register register_beyond).columns);
    }

-- look-up i of the array
unfoldable pub look_up_at : List Register → List LookUp → ℕ → Said.LookUp
look_up_at register lookup i = look_up_said register (get_or lookup i look_up_beyond)

-- the sheet that the fields say
unfoldable pub sheet_said : Fields → Sheet
sheet_said f =
    record {
      registers = map (register_at f.register) (numbers 0 f.registers);
      variables = f.variables;
      given = given_said f.variables f.given;
      values = reads f.start (given_said f.variables f.given);
      look_ups = map (look_up_at f.register f.lookup) (numbers 0 f.lookups);
    }

-- what stands behind the registers, up to the padding
abbrev pub asked_items : Fields → List Item
asked_items f =
    given_items f.variables (sheet_said f).given (sheet_said f).values
    ++ (all_items (look_up_items f.registers f.variables) (sheet_said f).look_ups
    ++ unused_items f.variables (used (sheet_said f).given (sheet_said f).look_ups))
