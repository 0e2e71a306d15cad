-- The number that is told of a token: that of the refusal that fits it.
use Rattle.std.specs.Prelude.{ℕ, Option, Some, None}
use Rattle.plan.specs.declared.Refusal.{Refusal}
use Rattle.plan.specs.Refusals.{number_of}

-- the number of the refusal, or 0 where none fits
abbrev pub number_told : Option Refusal → ℕ
number_told None = 0
number_told (Some refusal) = number_of refusal
