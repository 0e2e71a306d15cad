-- The tokens of a typed line, and the names of a second line (docs/RULES.md, section 11). A line is its bytes.
use Rattle.std.specs.Prelude.{Bool, true, false, ◌&&◌, not, List, [], ◌∷◌, ℕ, zero, suc, ◌+◌, ◌-◌, ◌*◌, min, length, take, drop, eqb, leb, ltb}
use Rattle.plan.specs.Lists.{has, every, eq_row}
use Rattle.plan.specs.declared.Token.{Token}
use Rattle.plan.specs.declared.Token.TheVariants.{Name, Number, Mark, Other, End}
use Rattle.plan.specs.declared.Cut.{Cut}

-- the marks: `=`, `:`, the two brackets and the space
abbrev pub equals : ℕ
equals = 61

abbrev pub colon : ℕ
colon = 58

abbrev pub opening : ℕ
opening = 40

abbrev pub closing : ℕ
closing = 41

abbrev pub space : ℕ
space = 32

-- a lower-case letter
unfoldable pub is_letter : ℕ → Bool
is_letter b = leb 97 b && leb b 122

-- a decimal digit
unfoldable pub is_digit : ℕ → Bool
is_digit b = leb 48 b && leb b 57

-- one of the marks
unfoldable pub is_mark : ℕ → Bool
is_mark b = has eqb b (equals ∷ colon ∷ opening ∷ closing ∷ space ∷ [])

-- how many bytes pass the test before the first that does not: names and numbers run as far as they can
unfoldable pub run : (ℕ → Bool) → List ℕ → ℕ
run test [] = 0
run test (b ∷ bs) = elim (test b) [ true ↦ suc (run test bs) | false ↦ 0 ]

-- the number that digits make, the first first, behind the number n
unfoldable pub decimal : ℕ → List ℕ → ℕ
decimal n [] = n
decimal n (d ∷ ds) = decimal (n * 10 + (d - 48)) ds

-- the least number that is no given value: over 4,294,967,295
abbrev pub over : ℕ
over = 4294967296

-- the value of a number's digits; one that is over the limit is told as the least that is
unfoldable pub value_of : List ℕ → ℕ
value_of digits = min over (decimal 0 digits)

-- a token of so many bytes at a place
unfoldable pub cut : Token → ℕ → ℕ → Bool → Cut
cut token at bytes led = record { token = token; at = at; next = at + bytes; zero = led }

-- a number of so many digits; its first is a leading zero, if it is 0 and not the only one
unfoldable pub cut_number : ℕ → ℕ → List ℕ → ℕ → Cut
cut_number at first rest digits = cut (Number (value_of (take digits rest))) at digits (eqb first 48 && ltb 1 digits)

-- the token at a place, by what is left of the line there: the longest name or number, a mark, another byte, or the end
unfoldable pub cut_of : ℕ → List ℕ → Cut
cut_of at [] = cut End at 0 false
cut_of at (b ∷ bs) =
    elim (is_letter b) [
      | true ↦ cut (Name at (run is_letter (b ∷ bs))) at (run is_letter (b ∷ bs)) false
      | false ↦ elim (is_digit b) [
        | true ↦ cut_number at b (b ∷ bs) (run is_digit (b ∷ bs))
        | false ↦ elim (is_mark b) [ true ↦ cut (Mark b) at 1 false | false ↦ cut Other at 1 false ]
      ]
    ]

-- the token at a place of the line
unfoldable pub cut_at : List ℕ → ℕ → Cut
cut_at line at = cut_of at (drop at line)

-- the tokens from a place on, and the end behind them, where at most n bytes are left
unfoldable pub cuts_from : ℕ → List ℕ → ℕ → List Cut
cuts_from zero line at = cut_at line at ∷ []
cuts_from (suc n) line at =
    elim (ltb at (length line)) [ true ↦ cut_at line at ∷ cuts_from n line (cut_at line at).next | false ↦ cut_at line at ∷ [] ]

-- the line cut into the longest tokens from the left, and its end behind them
unfoldable pub cuts : List ℕ → List Cut
cuts line = cuts_from (length line) line 0

-- ---- names

-- a name: 1 to 12 lower-case letters
unfoldable pub is_name : List ℕ → Bool
is_name x = leb 1 (length x) && leb (length x) 12 && every is_letter x

-- the number of a name among names, from 0, or how many there are, where it is none of them
unfoldable pub place_of : List ℕ → List (List ℕ) → ℕ
place_of x [] = 0
place_of x (y ∷ ys) = elim (eq_row x y) [ true ↦ 0 | false ↦ suc (place_of x ys) ]

-- no name is the same as one that follows it
unfoldable pub all_different : List (List ℕ) → Bool
all_different [] = true
all_different (x ∷ xs) = not (has eq_row x xs) && all_different xs

-- a byte put before the first of some pieces
unfoldable pub before : ℕ → List (List ℕ) → List (List ℕ)
before b [] = (b ∷ []) ∷ []
before b (x ∷ xs) = (b ∷ x) ∷ xs

-- the pieces of a line, parted by one space each
unfoldable pub pieces : List ℕ → List (List ℕ)
pieces [] = [] ∷ []
pieces (b ∷ bs) = elim (eqb b space) [ true ↦ [] ∷ pieces bs | false ↦ before b (pieces bs) ]

-- the second line: as many different names as there are registers, parted by one space
unfoldable pub are_names : ℕ → List (List ℕ) → Bool
are_names registers names = eqb (length names) registers && every is_name names && all_different names
