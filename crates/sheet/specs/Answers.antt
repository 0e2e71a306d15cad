-- What a reading gives as an answer: the value as it is shown and the next place, or the fault as a refusal with its detail.
use Rattle.std.specs.Prelude.{ℕ, Ok, Err, Result}
use Rattle.plan.specs.Reader.{Read, got, bad}
use Rattle.plan.specs.Refusals.{refusal_of}
use Rattle.plan.specs.declared.Refused.{Refused}
use Rattle.sheet.specs.declared.Got.{Got}

-- the answer of a reading, by what is shown of the value and the next place
unfoldable pub read_as : {A T : Type 0} → (A → ℕ → T) → Read A → Result T Refused
read_as show (got a next) = Ok (show a next)
read_as show (bad fault detail) = Err (record { refusal = refusal_of fault; detail = detail })

-- the value as it is shown, and the next place
abbrev pub shown : {A T : Type 0} → (A → T) → Read A → Result (Got T) Refused
shown show x = read_as (λ a next. record { value = show a; next = next }) x

-- the next place alone
abbrev pub passed : {A : Type 0} → Read A → Result ℕ Refused
passed x = read_as (λ a next. next) x
