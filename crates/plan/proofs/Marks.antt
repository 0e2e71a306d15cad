-- Laws of marks and of the numbers they make: a number that bits make is that of their marks, each mark is a bit of it, and
-- the marks of a number are those it was made of. By one bit more at the end, and one bit more in front.
use mathlib.Core.Path.{◌≡◌, refl, sym, ◌∙◌, ap, ap₂}
use mathlib.Core.Bool.{Bool, true, false}
use mathlib.Core.List.{List, [], ◌∷◌, ◌++◌}
use Prim.Native.Nat.{ℕ, zero, suc, ◌+◌, ◌-◌, ◌*◌, ◌/◌, ◌%◌, ◌^◌, ◌≤◌, ◌<◌}
use native.Mathlib.Omega.{arith}
use native.Mathlib.Nat.{pow-suc, pow-succ', add-mul, mul_assoc, mul-add-div_right, mul-add-mod_self_right, mul-one, zero-mul, div-div-eq-div-mul}
use lib.ListN.{length, get_or}
use lib.Seq.{ext_get_or}
use lib.Dec.{eqb}
use lib.Pow.{pow_pos, pow-add}
use Rattle.plan.specs.Reader.{bit_at, bits_at, marks_at}
use Rattle.plan.specs.Write.{marks_of, marks_number}
use Rattle.plan.proofs.Bits.{bit, bit_low, bit_of, bit_of_lt}
use Rattle.plan.proofs.Sets.{bit_of_eqb, eqb_bit_of}
use Rattle.plan.proofs.Readers.{bit_lt}

-- the same number from its first bit
bits_front : (bytes : List ℕ) (at w : ℕ) → bits_at bytes at (suc w) ≡ bit_at bytes at * 2 ^ w + bits_at bytes (suc at) w
unfolding bits_at
bits_front bytes at zero =
    let e : at + 0 ≡ at = omega arith in
    rw e (omega arith)
bits_front bytes at (suc w) =
    let ih = bits_front bytes at w in
    let e : suc at + w ≡ at + suc w = omega arith in
    let m : bit_at bytes at * 2 ^ suc w ≡ bit_at bytes at * 2 ^ w * 2 = ap (λ x. bit_at bytes at * x) (pow-suc 2 w)
    ∙ sym (mul_assoc (bit_at bytes at) (2 ^ w) 2) in
    rw e (omega (arith, ih, m))

-- a mark's bit behind the number
pub number-cons : (n : ℕ) (b : Bool) (bs : List Bool) → marks_number n (b ∷ bs) ≡ marks_number (n * 2 + bit_of b) bs
unfolding marks_number
number-cons n true bs = refl
number-cons n false bs = ap (λ x. marks_number x bs) (omega arith)

-- a number behind another
pub number_behind : (n : ℕ) (bs : List Bool) → marks_number n bs ≡ n * 2 ^ length bs + marks_number 0 bs
unfolding marks_number
number_behind n [] = omega (arith, mul-one n)
number_behind n (b ∷ bs) =
    let w = length bs in
    let l = number_behind (n * 2 + bit_of b) bs in
    let r = number_behind (0 * 2 + bit_of b) bs in
    let z : 0 * 2 + bit_of b ≡ bit_of b = omega arith in
    let e : (n * 2 + bit_of b) * 2 ^ w ≡ n * 2 ^ suc w + bit_of b * 2 ^ w =
    add-mul (n * 2) (bit_of b) (2 ^ w)
    ∙ ap (λ x. x + bit_of b * 2 ^ w) (mul_assoc n 2 (2 ^ w) ∙ sym (ap (λ x. n * x) (pow-succ' 2 w))) in
    let f : (0 * 2 + bit_of b) * 2 ^ w ≡ bit_of b * 2 ^ w = ap (λ x. x * 2 ^ w) z in
    number-cons n b bs ∙ l ∙ sym (ap (λ x. n * 2 ^ suc w + x) (number-cons 0 b bs ∙ r) ∙ omega (arith, e, f))

-- a rule's number is that of its bits
marks-behind : (n : ℕ) (bytes : List ℕ) (at w : ℕ) → marks_number n (marks_at bytes at w) ≡ n * 2 ^ w + bits_at bytes at w
unfolding marks_number marks_at bits_at
marks-behind n bytes at zero = omega (arith, mul-one n)
marks-behind n bytes at (suc w) =
    let x = bit_at bytes at in
    let e : bit_of (eqb x 1) ≡ x = bit_of_eqb x (bit_lt bytes at) in
    let d : (n * 2 + x) * 2 ^ w ≡ n * 2 ^ suc w + x * 2 ^ w =
    add-mul (n * 2) x (2 ^ w) ∙ ap (λ y. y + x * 2 ^ w)
    (mul_assoc n 2 (2 ^ w) ∙ sym (ap (λ y. n * y) (pow-succ' 2 w))) in
    number-cons n (eqb x 1) (marks_at bytes (suc at) w)
    ∙ ap (λ b. marks_number (n * 2 + b) (marks_at bytes (suc at) w)) e
    ∙ marks-behind (n * 2 + x) bytes (suc at) w
    ∙ omega (arith, d, bits_front bytes at w)

-- with nothing before it
pub marks-number : (bytes : List ℕ) (at w : ℕ) → marks_number 0 (marks_at bytes at w) ≡ bits_at bytes at w
marks-number bytes at w = marks-behind 0 bytes at w ∙ omega (arith, zero-mul (2 ^ w))

-- the first mark's bit, and the number of the rest
pub number_split : (b : Bool) (bs : List Bool) → marks_number 0 (b ∷ bs) ≡ bit_of b * 2 ^ length bs + marks_number 0 bs
number_split b bs =
    let z : 0 * 2 + bit_of b ≡ bit_of b = omega arith in
    number-cons 0 b bs ∙ ap (λ x. marks_number x bs) z ∙ number_behind (bit_of b) bs

-- a rule's number has as many bits as the rule has marks
pub number_lt : (bs : List Bool) → marks_number 0 bs < 2 ^ length bs
unfolding marks_number
number_lt [] = pow_pos 0
number_lt (b ∷ bs) =
    let h : bit_of b * 2 ^ length bs ≤ 1 * 2 ^ length bs = native.Mathlib.Nat.mul-le-mul_right (2 ^ length bs)
    (omega (arith, bit_of_lt b)) in
    rw (number_split b bs) (omega (arith, number_lt bs, h, pow-suc 2 (length bs)))

-- what stands above bit k does not change it
bit_below : (x m k j : ℕ) → (x * 2 ^ (suc k + j) + m) / 2 ^ k % 2 ≡ m / 2 ^ k % 2
bit_below x m k j =
    let n = suc k + j in
    let h : k < n = omega arith in
    sym (bit_low (x * 2 ^ n + m) n k h)
    ∙ ap (λ y. bit y k) (mul-add-mod_self_right x (2 ^ n) m)
    ∙ bit_low m n k h

-- bit of column c of a rule's number: set where the rule's mark is
pub mark_bit : (bs : List Bool) (c : ℕ) → c < length bs
    → marks_number 0 bs / 2 ^ (length bs - 1 - c) % 2 ≡ bit_of (get_or bs c false)
mark_bit [] c h = absurd (omega arith)
mark_bit (b ∷ bs) zero h =
    let w = length bs in
    let k : suc w - 1 - 0 ≡ w = omega arith in
    rw (
      k,
      number_split b bs,
      mul-add-div_right (pow_pos w) (bit_of b) (marks_number 0 bs),
      native.Mathlib.Nat.div-eq_of_lt (number_lt bs),
    ) (omega (arith, bit_of_lt b))
mark_bit (b ∷ bs) (suc c) h =
    let w = length bs in
    let k = w - 1 - c in
    let s : suc w - 1 - suc c ≡ k = omega arith in
    let j : w ≡ suc k + c = omega arith in
    rw (s, number_split b bs)
    (ap (λ y. (bit_of b * 2 ^ y + marks_number 0 bs) / 2 ^ k % 2) j ∙ bit_below (bit_of b) (marks_number 0 bs) k c
    ∙ mark_bit bs c (omega arith))

-- a number of w bits has w marks
pub marks-long : (a m : ℕ) → length (marks_of a m) ≡ a
unfolding marks_of
marks-long zero m = refl
marks-long (suc a) m = ap suc (marks-long a m)

-- mark c of a number of marks is its bit
pub marks_at_lem : (a m c : ℕ) → c < a → get_or (marks_of a m) c false ≡ eqb (m / 2 ^ (a - 1 - c) % 2) 1
unfolding marks_of
marks_at_lem zero m c h = absurd (let z : ⊥ = omega arith in z)
marks_at_lem (suc a) m zero h = ap (λ k. eqb (m / 2 ^ k % 2) 1) (let e : a ≡ suc a - 1 - 0 = omega arith in e)
marks_at_lem (suc a) m (suc c) h =
    marks_at_lem a m c (let l : c < a = omega arith in l)
    ∙ ap (λ k. eqb (m / 2 ^ k % 2) 1) (let e : a - 1 - c ≡ suc a - 1 - suc c = omega arith in e)

-- the marks of the number that marks make are those marks
pub marks-back : (bs : List Bool) → marks_of (length bs) (marks_number 0 bs) ≡ bs
marks-back bs =
    ext_get_or false (marks_of (length bs) (marks_number 0 bs)) bs (marks-long (length bs) (marks_number 0 bs))
    (λ c h.
    let l : c < length bs = omega (arith, marks-long (length bs) (marks_number 0 bs)) in
    marks_at_lem (length bs) (marks_number 0 bs) c l ∙ ap (λ x. eqb x 1) (mark_bit bs c l) ∙ eqb_bit_of (get_or bs c false))

-- the marks of the higher bits, and then those of the lower
pub marks_split : (a b m : ℕ) → marks_of (a + b) m ≡ marks_of a (m / 2 ^ b) ++ marks_of b m
unfolding marks_of
marks_split zero b m = let e : 0 + b ≡ b = omega arith in ap (λ n. marks_of n m) e
marks_split (suc a) b m =
    let e : suc a + b ≡ suc (a + b) = omega arith in
    let p : b + a ≡ a + b = omega arith in
    let bit : m / 2 ^ (a + b) ≡ m / 2 ^ b / 2 ^ a =
    sym (div-div-eq-div-mul m (2 ^ b) (2 ^ a) ∙ ap (λ x. m / x) (sym (pow-add 2 b a) ∙ ap (λ n. 2 ^ n) p)) in
    ap (λ n. marks_of n m) e
    ∙ ap₂ (λ (x : ℕ) (bs : List Bool). eqb (x % 2) 1 ∷ bs) bit (marks_split a b m)

-- the marks of a number's lower bits
pub marks-low : (c a m : ℕ) → c ≤ a → marks_of c (m % 2 ^ a) ≡ marks_of c m
unfolding marks_of
marks-low zero a m h = refl
marks-low (suc c) a m h =
    ap₂ (λ (x : ℕ) (bs : List Bool). eqb x 1 ∷ bs) (bit_low m a c (omega arith)) (marks-low c a m (omega arith))
