-- What comes back for what was read, of a sheet or of a typed line: its fault, or what its fields give.
use Rattle.std.specs.Prelude.{List, ℕ, Result, Ok, Err}
use Rattle.plan.specs.Reader.{Read}
use Rattle.plan.specs.Sheet.{Sheet}
use Rattle.plan.specs.Grow.{calls}
use Rattle.plan.specs.Answer.{never_answerable, found_said, refusal, Whole, whole_of, Checked, checked_of}
use Rattle.plan.specs.Refusals.{number_of}
use Rattle.plan.specs.declared.Refused.{Refused}
use Rattle.plan.specs.declared.Setting.{Setting}
use Rattle.sheet.specs.Answers.{read_as}
use Rattle.sheet.specs.Fields.{fields_of, sheet_held}
use Rattle.sheet.specs.declared.Fields.{Fields}
use Rattle.choose.specs.Held.{route_request}

-- what is read of a sheet: its fields, or the refusal of its fault with its detail
abbrev pub fields_read : Read Sheet → Result Fields Refused
fields_read x = read_as (λ s end. fields_of s) x

-- all that comes back, with tables that are long enough
abbrev pub whole_read : Setting → Result Fields Refused → List ℕ → List ℕ → List ℕ → Whole
whole_read tool (Ok f) words first second = whole_of tool (found_said tool (sheet_held f) words) first second
whole_read tool (Err r) words first second =
    record { answer = refusal (number_of r.refusal) r.detail; first = first; second = second }

-- the route check
abbrev pub checked_read : Result Fields Refused → Checked
checked_read (Ok f) = checked_of (never_answerable calls (route_request f))
checked_read (Err r) = record { number = number_of r.refusal; detail = r.detail }
