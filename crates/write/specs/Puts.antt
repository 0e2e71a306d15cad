-- Bits put behind those that a sheet holds: for the contracts within this crate.
use Rattle.std.specs.Prelude.{◌≡◌, Bool, true, false, List, ◌++◌, ℕ, ◌+◌, ◌≤◌, ◌<◌, length, get_or, Result, MatchResult}
use Rattle.plan.specs.Reader.{Fault}
use Rattle.plan.specs.Refusals.{refusal_of}
use Rattle.plan.specs.declared.Refused.{Refused}
use Rattle.plan.specs.Write.{Item, sound, broken, marks_of, Written, put, refused, octets}
use Rattle.sheet.specs.Fields.{register_beyond}
use Rattle.sheet.specs.declared.Register.{Register}
use Rattle.write.specs.declared.bits.Writer.{Writer}

-- the bytes of the longest sheet (§2.12), and their bits
abbrev pub most_bytes : ℕ
most_bytes = 193

abbrev pub most_bits : ℕ
most_bits = 1544

-- the sheet holds these bits, eight a byte, and the place is behind them
pub record Holds (bits : List Bool) (w : Writer) : Type 0 where
  pub place : w.at ≡ length bits
  pub held : w.sheet ≡ octets most_bytes bits

-- the sheet holds some bits, and there is room behind them for so many more
pub record Open (most : ℕ) (w : Writer) : Type 0 where
  pub bits : List Bool
  pub holds : Holds bits w
  pub room : w.at + most ≤ most_bits

-- behind the bits that the sheet held there are these
abbrev pub Grows : List Bool → Writer → Writer → Type 0
Grows more before after = (bits : List Bool) → Holds bits before → Holds (bits ++ more) after

-- what is written is put behind what the sheet held
pub record Goes (written : Written (List Bool)) (before after : Writer) : Type 0 where
  pub more : List Bool
  pub is : written ≡ put more
  pub place : after.at ≡ before.at + length more
  pub grows : Grows more before after

-- what is refused is told
pub record Stops (written : Written (List Bool)) (told : Refused) : Type 0 where
  pub fault : Fault
  pub is : written ≡ refused fault told.detail
  pub refusal : told.refusal ≡ refusal_of fault

-- what is written is put behind what the sheet held; or its refusal is told, and the sheet is of no more use
abbrev pub Puts : {A : Type 0} → Written (List Bool) → Writer → Result A Refused → Writer → Type 0
Puts written before result after = MatchResult result (λ _. Goes written before after) (Stops written)

-- a number of w bits that passes its test, or one that is broken
abbrev pub tested_item : Bool → ℕ → ℕ → Fault → Item
tested_item true w x fault = sound (marks_of w x)
tested_item false w x fault = broken fault

-- so many of the entries have at most 6 columns
abbrev pub Narrow : ℕ → List Register → Type 0
Narrow count register = (i : ℕ) → i < count → (get_or register i register_beyond).columns ≤ 6
