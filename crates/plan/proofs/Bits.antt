-- Which bits `bits_where` sets: bit i for each number i below n that passes the test, and no other. By adding number n
-- to those below it: its bit stands above all of theirs. Then the same of the look-ups not answered.
use mathlib.Core.Path.{◌≡◌, refl, sym, ◌∙◌, ap}
use mathlib.Core.Logic.{◌↔◌}
use mathlib.Core.Bool.{Bool, true, false, not}
use mathlib.Core.List.{List, [], ◌∷◌, ◌++◌}
use Prim.Native.Nat.{ℕ, zero, suc, ◌+◌, ◌-◌, ◌*◌, ◌/◌, ◌%◌, ◌^◌, ◌<◌, ◌≤◌}
use native.Mathlib.Omega.{arith}
use native.Mathlib.Nat.{zero-add, zero-mul, one-mul, div-eq_of_lt, mod-eq_of_lt}
use native.Mathlib.Nat.{lt_of_lt_of_le, mul-le-mul_right, two-pow-succ}
use native.Mathlib.Numerals.{add-one}
use lib.Dec.{eqb, ltb}
use lib.Pow.{pow_mono, high, low, field, mod-mod-pow}
use borrow.Author.Tests.{ltb-true, ltb-false, not-true}
use Rattle.plan.specs.Lists.{In, has, numbers, bits_where}
use Rattle.plan.proofs.Lists.{by_test, clash, in_has, has_in, has-not, not-has, eqb_faithful}
use Rattle.plan.proofs.Numbers.{numbers_more}

-- bit i of a number
abbrev pub bit : ℕ → ℕ → ℕ
bit m i = m / 2 ^ i % 2

-- a number and its part below 2 ^ n have the same bits below n
pub bit_low : (m n i : ℕ) → i < n → bit (m % 2 ^ n) i ≡ bit m i
bit_low m n i h =
    let k = 1 + i in
    let e : n ≡ (n - k) + k = omega arith in
    let s : m % 2 ^ n % 2 ^ k ≡ m % 2 ^ k = ap (λ (x : ℕ). m % 2 ^ x % 2 ^ k) e ∙ mod-mod-pow m (n - k) k in
    sym (field (m % 2 ^ n) 1 i) ∙ ap (λ (x : ℕ). x / 2 ^ i) s ∙ field m 1 i

-- a number below 2 ^ n has no bit from n on
pub bit_none : (m n i : ℕ) → m < 2 ^ n → n ≤ i → bit m i ≡ 0
bit_none m n i h l = ap (λ (x : ℕ). x % 2) (div-eq_of_lt (lt_of_lt_of_le h (pow_mono l)))

-- the bit that a test makes
abbrev pub bit_of : Bool → ℕ
bit_of true = 1
bit_of false = 0

-- it is 0 or 1
pub bit_of_lt : (b : Bool) → bit_of b < 2
bit_of_lt true = omega arith
bit_of_lt false = omega arith

module _ (test : ℕ → Bool) where
  -- the bits of a list are its first number's and the others'
  bits-cons : (i : ℕ) (xs : List ℕ) → bits_where test (i ∷ xs) ≡ bit_of (test i) * 2 ^ i + bits_where test xs
  unfolding bits_where
  bits-cons i xs =
      by_test (test i) (λ t. rw (t, bits_where) (rw one-mul)) (λ f. rw (f, bits_where) (rw (zero-mul, zero-add)))

  -- the bits of two lists add up
  bits-append : (xs ys : List ℕ) → bits_where test (xs ++ ys) ≡ bits_where test xs + bits_where test ys
  unfolding bits_where
  bits-append [] ys = rw zero-add
  bits-append (x ∷ xs) ys = omega (arith, bits-cons x (xs ++ ys), bits-cons x xs, bits-append xs ys)

  -- one more number
  bits-more : (n : ℕ) → bits_where test (numbers 0 (suc n)) ≡ bit_of (test n) * 2 ^ n + bits_where test (numbers 0 n)
  unfolding bits_where
  bits-more n = rw (numbers_more, bits-append, bits-cons, zero-add) (omega arith)

  -- one more number adds its bit where it passes, and nothing where not
  pub bits-passes : (n : ℕ) → test n ≡ true → bits_where test (numbers 0 (n + 1)) ≡ bits_where test (numbers 0 n) + 2 ^ n
  bits-passes n t = rw (add-one n, bits-more n, t, one-mul) (omega arith)

  pub bits_fails : (n : ℕ) → test n ≡ false → bits_where test (numbers 0 (n + 1)) ≡ bits_where test (numbers 0 n)
  bits_fails n f = rw (add-one n, bits-more n, f, zero-mul, zero-add)

  -- n numbers take n bits
  pub bits_below : (n : ℕ) → bits_where test (numbers 0 n) < 2 ^ n
  unfolding bits_where numbers
  bits_below zero = omega arith
  bits_below (suc n) =
      let most = mul-le-mul_right (2 ^ n) (let k : bit_of (test n) ≤ 1 = omega (arith, bit_of_lt (test n)) in k) in
      omega (arith, bits-more n, bits_below n, two-pow-succ n)

  -- the newest number's bit stands above the bits of the others
  bit_new : (n : ℕ) → bit (bits_where test (numbers 0 (suc n))) n ≡ bit_of (test n)
  bit_new n = rw (bits-more, high (bit_of (test n)) n (bits_below n)) (mod-eq_of_lt (bit_of_lt (test n)))

  -- and leaves them as they are
  bit_old : (n i : ℕ) → i < n → bit (bits_where test (numbers 0 (suc n))) i ≡ bit (bits_where test (numbers 0 n)) i
  bit_old n i l = rw bits-more (sym (bit_low _ n i l) ∙ ap (λ (m : ℕ). bit m i) (low (bit_of (test n)) n (bits_below n)))

  -- the bit of a number below n says whether it passes
  pub bit_one : (n i : ℕ) → i < n → bit (bits_where test (numbers 0 n)) i ≡ bit_of (test i)
  bit_one zero i h = omega arith
  bit_one (suc n) i h =
      let old : i < n → bit (bits_where test (numbers 0 (suc n))) i ≡ bit_of (test i) = λ l. bit_old n i l ∙ bit_one n i l in
      let new : n ≤ i → bit (bits_where test (numbers 0 (suc n))) i ≡ bit_of (test i) =
      λ l. let e : i ≡ n = omega arith in rw e (bit_new n) in
      by_test (ltb i n) (λ t. old (ltb-true i n t)) (λ f. new (ltb-false i n f))

  -- the bit of a number that passes is 1, and that of one that does not is 0
  pub bit_passes : (n i : ℕ) → i < n → test i ≡ true → bit (bits_where test (numbers 0 n)) i ≡ 1
  bit_passes n i h t = bit_one n i h ∙ ap bit_of t

  pub bit_fails : (n i : ℕ) → i < n → test i ≡ false → bit (bits_where test (numbers 0 n)) i ≡ 0
  bit_fails n i h t = bit_one n i h ∙ ap bit_of t

  -- a bit that is set is of a number below n that passes
  pub bit_set : (n i : ℕ) → bit (bits_where test (numbers 0 n)) i ≡ 1 → (i < n) × (test i ≡ true)
  bit_set n i h =
      let below : i < n =
      by_test
      (ltb i n)
      (ltb-true i n)
      (λ f. omega (arith, bit_none (bits_where test (numbers 0 n)) n i (bits_below n) (ltb-false i n f))) in
      (below, by_test (test i) (λ t. t) (λ f. absurd (omega (arith, bit_fails n i below f))))

  -- no bit is set exactly where none passes
  pub bits_none : (n : ℕ) → bits_where test (numbers 0 n) ≡ 0 → (i : ℕ) → i < n → test i ≡ false
  bits_none n e i h =
      let z = bit_none (bits_where test (numbers 0 n)) 0 i (omega arith) (omega arith) in
      by_test (test i) (λ t. absurd (omega (arith, bit_passes n i h t))) (λ f. f)

  pub none_bits : (n : ℕ) → ((i : ℕ) → i < n → test i ≡ false) → bits_where test (numbers 0 n) ≡ 0
  unfolding bits_where numbers
  none_bits zero h = refl
  none_bits (suc n) h =
      let rest = none_bits n (λ i l. h i (omega arith)) in
      bits-more n ∙ rw (h n (omega arith), rest, zero-mul, zero-add)

module _ (A : List ℕ) where
  -- bit i for each of n look-ups that is not answered
  abbrev pub unanswered : ℕ → ℕ
  unanswered n = bits_where (λ i. not (has eqb i A)) (numbers 0 n)

  -- bit i is set exactly where look-up i is below n and not answered
  pub unanswered_bit : (n i : ℕ) → (bit (unanswered n) i ≡ 1) ↔ ((i < n) × (In i A → ⊥))
  unanswered_bit n i =
      let test : ℕ → Bool = λ k. not (has eqb k A) in (
        λ h.
            let (below, t) = bit_set test n i h in
            (below, has-not eqb eqb_faithful i A (not-true (has eqb i A) t)),
        λ h. bit_passes test n i h.0 (ap not (not-has eqb eqb_faithful i A h.1)),
      )

  -- no bit is set: each look-up below n is answered
  pub unanswered_none : (n : ℕ) → unanswered n ≡ 0 → (i : ℕ) → i < n → In i A
  unanswered_none n e i h =
      let f = bits_none (λ (k : ℕ). not (has eqb k A)) n e i h in
      by_test (has eqb i A) (has_in eqb eqb_faithful i A) (λ g. clash (ap not g) f)

  -- each look-up below n is answered: no bit is set
  pub none_unanswered : (n : ℕ) → ((i : ℕ) → i < n → In i A) → unanswered n ≡ 0
  none_unanswered n h = none_bits (λ (k : ℕ). not (has eqb k A)) n (λ i l. ap not (in_has eqb eqb_faithful i A (h i l)))
