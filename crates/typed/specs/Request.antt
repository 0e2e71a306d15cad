-- What `read_typed` gives, in terms of what the line stands for: of this crate's definitions its contract needs `told_read` and
-- `told_typed`.
use Rattle.std.specs.Prelude.{◌≡◌, ℕ, Result, Ok, Err}
use Rattle.plan.specs.Refusals.{number_of}
use Rattle.plan.specs.Sheet.{Sheet}
use Rattle.plan.specs.Typed.{Typed, asks, faulty}
use Rattle.plan.specs.declared.Refused.{Refused}
use Rattle.sheet.specs.Fields.{fields_of, no_fields}
use Rattle.sheet.specs.Fine.{Fine}
use Rattle.sheet.specs.declared.Fields.{Fields}

-- what is told of a reading: 0, a detail and the fields; or a refusal's number and detail, and fields that ask nothing
pub record SheetRead : Type 0 where
  pub number : ℕ
  pub detail : ℕ
  pub fields : Fields

-- of a refusal
abbrev pub not_read : ℕ → ℕ → SheetRead
not_read number detail = record { number = number; detail = detail; fields = no_fields }

-- of a typed line: 0 and 0, and the fields of the sheet that would say the request; or the number and the detail of what is
-- faulty
abbrev pub told_typed : Typed → SheetRead
told_typed (asks s) = record { number = 0; detail = 0; fields = fields_of s }
told_typed (faulty number detail) = not_read number detail

-- of what a function gives: the fields, or a refusal with its detail
abbrev pub told_read : Result Fields Refused → SheetRead
told_read (Ok fields) = record { number = 0; detail = 0; fields = fields }
told_read (Err r) = not_read (number_of r.refusal) r.detail

-- by cases: of a request, the fields of the sheet that would say it; of what is faulty, the refusal with its number and its detail
abbrev pub TypedRead : Typed → Result Fields Refused → Type 0
TypedRead typed (Ok fields) = (s : Sheet) × (typed ≡ asks s) × (fields ≡ fields_of s)
TypedRead typed (Err refused) = typed ≡ faulty (number_of refused.refusal) refused.detail

-- the fields are those of a sheet that was read
pub record OfSheet (f : Fields) : Type 0 where
  pub sheet : Sheet
  pub fine : Fine sheet
  pub same : f ≡ fields_of sheet
