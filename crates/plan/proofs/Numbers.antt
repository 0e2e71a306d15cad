-- Lists of numbers: those counted up from a place, and lists without repeats, which are no longer than a list in which
-- all of them stand.
use mathlib.Core.Path.{◌≡◌, refl, sym, ◌∙◌, ap}
use mathlib.Core.Logic.{◌≢◌, inl, inr, ⊎_elim}
use mathlib.Core.List.{List, [], ◌∷◌, ◌++◌}
use Prim.Native.Nat.{ℕ, zero, suc, ◌+◌, ◌-◌, ◌<◌, ◌≤◌}
use native.Mathlib.Omega.{arith}
use native.Mathlib.Numerals.{add-one}
use native.Mathlib.Nat.{add-zero, suc-add, add-suc}
use lib.ListN.{length}
use lib.Dec.{eqb}
use borrow.Author.Tests.{eqb-true, eqb-false}
use Rattle.plan.specs.Lists.{In, Sub, NoRepeat, numbers}
use Rattle.plan.proofs.Lists.{by_test, eqb_faithful}
use Rattle.plan.proofs.Different.{in_or-not, no_repeat_length}

-- a number stands in a list or does not
pub by_in {ℓ} : {P : Type ℓ} (i : ℕ) (A : List ℕ) → (In i A → P) → ((In i A → ⊥) → P) → P
by_in i A t f = ⊎_elim t f (in_or-not eqb eqb_faithful i A)

-- `numbers` gives n of them
pub numbers-length : (i n : ℕ) → length (numbers i n) ≡ n
unfolding numbers
numbers-length i zero = refl
numbers-length i (suc n) = ap suc (numbers-length (suc i) n)

-- what stands among them lies from i on and below i + n
pub in_numbers : (i n j : ℕ) → In j (numbers i n) → (i ≤ j) × (j < i + n)
unfolding In numbers
in_numbers i zero j x' = elim x' [ ]
in_numbers i (suc n) j (inl e) = omega arith
in_numbers i (suc n) j (inr h) = let r = in_numbers (suc i) n j h in omega arith

-- what lies from i on and below i + n stands among them
pub numbers_in : (i n j : ℕ) → i ≤ j → j < i + n → In j (numbers i n)
unfolding In numbers
numbers_in i zero j a b = omega arith
numbers_in i (suc n) j a b =
    let later : j ≢ i → In j (numbers (suc i) n) = λ ne. numbers_in (suc i) n j (omega arith) (omega arith) in
    by_test (eqb j i) (λ t. inl (eqb-true j i t)) (λ f. inr (later (eqb-false j i f)))

-- one more of them, at the end
pub numbers_more : (i n : ℕ) → numbers i (suc n) ≡ numbers i n ++ ((i + n) ∷ [])
unfolding numbers
numbers_more i zero = rw add-zero
numbers_more i (suc n) = rw (numbers_more (suc i) n, suc-add, add-suc)

-- those from i on, up to n: i and those behind it
pub numbers_from : (i n : ℕ) → i < n → numbers i (n - i) ≡ i ∷ numbers (i + 1) (n - (i + 1))
unfolding numbers
numbers_from i n h =
    ap (numbers i) (let e : n - i ≡ suc (n - (i + 1)) = omega arith in e)
    ∙ ap (λ k. i ∷ numbers k (n - (i + 1))) (sym (add-one i))

-- ---- lists of numbers without repeats

-- numbers counted up have no repeats
pub numbers-once : (i n : ℕ) → NoRepeat (numbers i n)
unfolding NoRepeat numbers
numbers-once i zero = tt
numbers-once i (suc n) = (λ h. omega (arith, in_numbers (suc i) n i h), numbers-once (suc i) n)

-- without repeats at most n numbers are below n
pub below-few : (n : ℕ) (xs : List ℕ) → NoRepeat xs → ((a : ℕ) → In a xs → a < n) → length xs ≤ n
unfolding Sub
below-few n xs r h =
    let within : Sub xs (numbers 0 n) = λ a i. numbers_in 0 n a (omega arith) (omega (arith, h a i)) in
    omega (arith, no_repeat_length xs (numbers 0 n) r within, numbers-length 0 n)

-- n different numbers below n are all of them
pub below_all : (n : ℕ) (xs : List ℕ) → NoRepeat xs → ((a : ℕ) → In a xs → a < n) → n ≤ length xs
    → (i : ℕ) → i < n → In i xs
unfolding NoRepeat In
below_all n xs r h l i b =
    let below : (a : ℕ) → In a (i ∷ xs) → a < n = λ a j. ⊎_elim (λ e. omega arith) (h a) j in
    by_in i xs (λ a. a) (λ f. absurd (omega (arith, below-few n (i ∷ xs) (f, r) below)))

-- a list in which all numbers below n stand has n places or more
pub all-many : (n : ℕ) (xs : List ℕ) → ((i : ℕ) → i < n → In i xs) → n ≤ length xs
unfolding Sub
all-many n xs h =
    let within : Sub (numbers 0 n) xs = λ a i. h a (omega (arith, in_numbers 0 n a i)) in
    omega (arith, no_repeat_length (numbers 0 n) xs (numbers-once 0 n) within, numbers-length 0 n)
