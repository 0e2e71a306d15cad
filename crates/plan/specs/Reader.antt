-- Reading packed bits by their place: a reader gives its value and the next place, or a fault and its detail.
use Rattle.std.specs.Prelude.{Bool, true, false, List, [], ◌∷◌, ◌++◌, ℕ, zero, suc, ◌+◌, ◌-◌, ◌*◌, ◌/◌, ◌%◌, ◌^◌, get_or, length, eqb, leb}

-- why a sheet is refused: it ends early, the version is not 1, a count is out of its range, a register or a variable is
-- not in the sheet, a variable is neither given nor in a look-up, a padding bit is not zero or a byte follows, a given value
-- is 0 (§2.13)
pub data Fault : Type 0 where
  ends_early : Fault
  wrong_version : Fault
  count_out : Fault
  not_in_sheet : Fault
  unused_variable : Fault
  bad_padding : Fault
  given_zero : Fault

-- the number of a fault (§2.13)
unfoldable pub fault_number : Fault → ℕ
fault_number ends_early = 2
fault_number wrong_version = 7
fault_number count_out = 8
fault_number not_in_sheet = 9
fault_number unused_variable = 10
fault_number bad_padding = 11
fault_number given_zero = 12

-- what reading gives: the value and the next place, or the fault and its detail
pub data Read (A : Type 0) : Type 0 where
  got : A → ℕ → Read A
  bad : Fault → ℕ → Read A

-- a reader: from the bytes and a place, counted in bits
abbrev pub Reader : Type 0 → Type 0
Reader A = List ℕ → ℕ → Read A

-- bit k of the bytes: fields are packed most significant bit first (§2.1)
unfoldable pub bit_at : List ℕ → ℕ → ℕ
bit_at bytes k = get_or bytes (k / 8) 0 / 2 ^ (7 - k % 8) % 2

-- the number that the w bits from a place on make
unfoldable pub bits_at : List ℕ → ℕ → ℕ → ℕ
bits_at bytes at zero = 0
bits_at bytes at (suc w) = bits_at bytes at w * 2 + bit_at bytes (at + w)

-- the w bits from a place on as marks, the first bit first
unfoldable pub marks_at : List ℕ → ℕ → ℕ → List Bool
marks_at bytes at zero = []
marks_at bytes at (suc w) = eqb (bit_at bytes at) 1 ∷ marks_at bytes (suc at) w

-- reads nothing, and gives the value
unfoldable pub give : {A : Type 0} → A → Reader A
give a bytes at = got a at

infixl 10 ◌>>=◌
-- one reader, then the one that its value asks for
unfoldable pub ◌>>=◌ : {A B : Type 0} → Reader A → (A → Reader B) → Reader B
◌>>=◌ r next bytes at = elim (r bytes at) [ got a then ↦ next a bytes then | bad fault detail ↦ bad fault detail ]

-- w bits, if the bytes have them (§2.13)
unfoldable pub hold : {A : Type 0} → ℕ → (List ℕ → ℕ → A) → Reader A
hold w value bytes at = elim (leb (at + w) (8 * length bytes)) [ true ↦ got (value bytes at) (at + w) | false ↦ bad ends_early at ]

-- a field: the number of its w bits
unfoldable pub field : ℕ → Reader ℕ
field w = hold w (λ bytes at. bits_at bytes at w)

-- a field of w marks
unfoldable pub marks : ℕ → Reader (List Bool)
marks w = hold w (λ bytes at. marks_at bytes at w)

-- a field whose number passes the test, else the fault at the field's first bit (§2.13)
unfoldable pub tested : ℕ → (ℕ → Bool) → Fault → Reader ℕ
tested w test fault bytes at =
    elim (field w bytes at) [ got x then ↦ elim (test x) [ true ↦ got x then | false ↦ bad fault at ] | bad e detail ↦ bad e detail ]

-- n readings, one after the other
unfoldable pub each : {A : Type 0} → ℕ → Reader A → Reader (List A)
each zero r = give []
each (suc n) r = each n r >>= λ xs. r >>= λ x. give (xs ++ (x ∷ []))
