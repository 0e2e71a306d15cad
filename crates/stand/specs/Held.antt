-- What a state holds, in terms of the request that it asks.
use Rattle.std.specs.Prelude.{◌≡◌, Bool, true, false, List, ℕ, ◌+◌, ◌≤◌, ◌<◌, eqb, length, Result, Ok, Err}
use Rattle.plan.specs.Lists.{set_of, lt_row}
use Rattle.plan.specs.Grow.{known}
use Rattle.plan.specs.Sheet.{read_sheet}
use Rattle.plan.specs.Apart.{bytes_in, asked_in, answered_in}
use Rattle.plan.specs.declared.State.{State}
use Rattle.plan.specs.declared.Refused.{Refused}
use Rattle.sheet.specs.Fields.{no_fields, sheet_read}
use Rattle.sheet.specs.Fine.{Small}
use Rattle.sheet.specs.declared.Fields.{Fields}
use Rattle.sheet.specs.declared.Got.{Got}
use Rattle.list.specs.Order.{row_of}
use Rattle.choose.specs.Held.{route_request}
use Rattle.choose.specs.Choose.{look_up_at}
use Rattle.stand.specs.declared.Done.{Done}

-- the fields that were read, or those that ask nothing where the sheet was refused
abbrev pub fields_read : Result (Got Fields) Refused → Fields
fields_read (Ok read) = read.value
fields_read (Err refused) = no_fields

-- the fields of the state's sheet, which hold the request that it asks; each look-up has a column at least
pub record Asks (st : State) (f : Fields) : Type 0 where
  pub is : f ≡ fields_read (sheet_read (read_sheet (bytes_in st)))
  pub small : Small f
  pub asks : asked_in st ≡ route_request f
  pub columns : (i : ℕ) → i < f.lookups → 1 ≤ (look_up_at f i).columns

-- what is known and answered where the look-ups of a set are answered
pub record DoneBy (f : Fields) (set : ℕ) (d : Done) : Type 0 where
  pub knows : d.known ≡ set_of (known (route_request f) (answered_in set f.lookups))
  pub answers : d.answered ≡ set_of (answered_in set f.lookups)
  pub made : d.made ≡ length (answered_in set f.lookups)

-- whether row i of a table comes before the next one, if there is a next of so many rows
unfoldable pub comes_before : ℕ → ℕ → List ℕ → Bool
comes_before i rows t = elim (eqb (i + 1) rows) [ true ↦ true | false ↦ lt_row (row_of t i) (row_of t (i + 1)) ]
