-- What the definitions say of lists: standing in one, different values, ascending order; and 16-bit sets of variables.
use Rattle.std.specs.Prelude.{◌≡◌, ◌⊎◌, Bool, true, false, ◌&&◌, ◌||◌, ℕ, zero, suc, ◌+◌, ◌-◌, ◌/◌, ◌%◌, ◌^◌, ◌<◌, replicate, length, eqb, ltb}
use mathlib.Core.List.{List, [], ◌∷◌}

module _ {A : Type 0} where
  -- `a` stands in the list
  unfoldable pub In : A → List A → Type 0
  In a [] = ⊥
  In a (x ∷ xs) = (a ≡ x) ⊎ In a xs

  -- all that stands in the first list stands in the second
  unfoldable pub Sub : List A → List A → Type 0
  Sub xs ys = (a : A) → In a xs → In a ys

  -- nothing stands twice in the list
  unfoldable pub NoRepeat : List A → Type 0
  NoRepeat [] = Unit {0}
  NoRepeat (x ∷ xs) = (In x xs → ⊥) × NoRepeat xs

  -- every element of the list passes the test
  unfoldable pub every : (A → Bool) → List A → Bool
  every test [] = true
  every test (x ∷ xs) = test x && every test xs

  -- those of the elements that pass the test, in their order
  unfoldable pub those : (A → Bool) → List A → List A
  those test [] = []
  those test (x ∷ xs) = elim (test x) [ true ↦ x ∷ those test xs | false ↦ those test xs ]

  -- the list with `fill` behind it, up to `n` elements
  unfoldable pub padded : ℕ → A → List A → List A
  padded n fill xs = mathlib.Core.List.◌++◌ xs (replicate (n - length xs) fill)

module _ {A : Type 0} (same : A → A → Bool) where
  -- the test whether an element that is the same as `a` stands in the list
  unfoldable pub has : A → List A → Bool
  has a [] = false
  has a (x ∷ xs) = same a x || has a xs

  -- how many of the values have none the same before them, where `seen` stands before them all
  unfoldable pub different_after : List A → List A → ℕ
  different_after seen [] = 0
  different_after seen (x ∷ xs) =
      elim (has x seen) [ true ↦ different_after (x ∷ seen) xs | false ↦ suc (different_after (x ∷ seen) xs) ]

  -- how many different values stand in the list: a value counts only if no earlier one is the same (§4.5)
  unfoldable pub different : List A → ℕ
  different xs = different_after [] xs

-- the numbers from `i` on, `n` of them
unfoldable pub numbers : ℕ → ℕ → List ℕ
numbers i zero = []
numbers i (suc n) = i ∷ numbers (suc i) n

-- each number is below all that follow it
unfoldable pub Rising : List ℕ → Type 0
Rising [] = Unit {0}
Rising (v ∷ vs) = ((u : ℕ) → In u vs → v < u) × Rising vs

-- bit i for each of the numbers i that passes the test
unfoldable pub bits_where : (ℕ → Bool) → List ℕ → ℕ
bits_where test [] = 0
bits_where test (i ∷ is) = elim (test i) [ true ↦ 2 ^ i + bits_where test is | false ↦ bits_where test is ]

-- the test whether two lists of numbers are the same
unfoldable pub eq_row : List ℕ → List ℕ → Bool
eq_row [] [] = true
eq_row [] (y ∷ ys) = false
eq_row (x ∷ xs) [] = false
eq_row (x ∷ xs) (y ∷ ys) = eqb x y && eq_row xs ys

-- the test whether the first list of numbers comes before the second: by the first number, then the second, and so on (§4.11)
unfoldable pub lt_row : List ℕ → List ℕ → Bool
lt_row [] [] = false
lt_row [] (y ∷ ys) = true
lt_row (x ∷ xs) [] = false
lt_row (x ∷ xs) (y ∷ ys) = ltb x y || eqb x y && lt_row xs ys

-- the row put in its place among ascending rows, unless it stands there
unfoldable pub insert : List ℕ → List (List ℕ) → List (List ℕ)
insert r [] = r ∷ []
insert r (s ∷ ss) =
    elim (lt_row r s) [ true ↦ r ∷ s ∷ ss | false ↦ elim (eq_row r s) [ true ↦ s ∷ ss | false ↦ s ∷ insert r ss ] ]

-- the rows in ascending order, each once (§4.11)
unfoldable pub ordered : List (List ℕ) → List (List ℕ)
ordered [] = []
ordered (r ∷ rs) = insert r (ordered rs)

-- each row comes before all that follow it: ascending, so each stands once
unfoldable pub Ascending : List (List ℕ) → Type 0
Ascending [] = Unit {0}
Ascending (r ∷ rs) = ((s : List ℕ) → In s rs → lt_row r s ≡ true) × Ascending rs

-- the test whether variable v is in the set
unfoldable pub in_set : ℕ → ℕ → Bool
in_set m v = eqb (m / 2 ^ v % 2) 1

-- the set of the variables that stand in the list
unfoldable pub set_of : List ℕ → ℕ
set_of vs = bits_where (λ v. has eqb v vs) (numbers 0 16)

-- those of the variables that are in the set
unfoldable pub from_set : ℕ → List ℕ → List ℕ
from_set m [] = []
from_set m (v ∷ vs) = elim (in_set m v) [ true ↦ v ∷ from_set m vs | false ↦ from_set m vs ]

-- the variables of the set, ascending
unfoldable pub vars_in : ℕ → List ℕ
vars_in m = from_set m (numbers 0 16)
