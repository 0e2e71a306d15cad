-- What a call on the reader reads, from the place where it stood to the place where it stands then.
use Rattle.std.specs.Prelude.{◌≡◌, ℕ, Result, MatchResult}
use Rattle.plan.specs.Reader.{Fault, Read, Reader, got, bad}
use Rattle.plan.specs.Refusals.{refusal_of}
use Rattle.plan.specs.declared.Refused.{Refused}
use Rattle.sheet.specs.declared.bits.Reader as Held

-- a reading that ends with the fault of this refusal, and its detail
pub record Stops {A : Type 0} (x : Read A) (e : Refused) : Type 0 where
  pub fault : Fault
  pub detail : ℕ
  pub is : x ≡ bad fault detail
  pub shown : e ≡ record { refusal = refusal_of fault; detail = detail }

-- a value that was read, as it is shown: the reader stands behind it, on the same sheet
pub record Goes {A T : Type 0} (show : A → T) (r : Reader A) (before : Held.Reader) (value : T) (after : Held.Reader)
    : Type 0 where
  pub read : A
  pub is : r before.sheet.now before.at ≡ got read after.at
  pub shown : value ≡ show read
  pub sheet : after.sheet ≡ before.sheet

-- what is read is shown, and the reader stands behind it; or its fault is told, and the reader is of no more use
abbrev pub Reads : {A T : Type 0} → (A → T) → Reader A → Held.Reader → Result T Refused → Held.Reader → Type 0
Reads show r before result after =
    MatchResult result (λ value. Goes show r before value after) (Stops (r before.sheet.now before.at))
