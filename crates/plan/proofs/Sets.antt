-- Laws of sets of variables as 16-bit numbers: a set is fixed by its bits, and bit v of the set of a list says whether v
-- stands in the list. By the bits of a sum of powers, and because numbers with the same bits are equal.
use mathlib.Core.Path.{◌≡◌, refl, sym, ◌∙◌, ap}
use mathlib.Core.Logic.{◌↔◌}
use mathlib.Core.Bool.{Bool, true, false, ◌&&◌, ◌||◌, and-false}
use mathlib.Core.List.{List, [], ◌∷◌, ◌++◌}
use Prim.Native.Nat.{ℕ, zero, suc, ◌+◌, ◌*◌, ◌/◌, ◌%◌, ◌^◌, ◌<◌, ◌≤◌, min, max}
use native.Mathlib.Omega.{arith}
use native.Mathlib.Nat.{pow-zero, pow-suc, pow-succ', div-one, div-div-eq-div-mul, div-eq_of_lt, mod-eq_of_lt, mod-lt, one-mul}
use lib.Dec.{eqb, eqb-zero-suc, eqb-suc-zero, eqb-suc-suc}
use lib.Pow.{pow-lt, pow_mono}
use lib.Bits.{bit_and, bit_or, and_mask, and_shr, and_step, or_shr, or_step, or_lt}
use borrow.Author.Tests.{eqb-true, eqb-false, ne_eqb}
use Rattle.plan.specs.Lists.{In, Sub, has, numbers, bits_where, in_set, set_of, from_set, vars_in}
use Rattle.plan.proofs.Lists.{by_test, and_left, has-append, has_in, in_has, eqb_faithful}
use Rattle.plan.proofs.Numbers.{in_numbers, numbers_in}
use Rattle.plan.proofs.Bits.{bit_of, bits_below, bit_one}

-- bit v + 1 of a number is bit v of its half
pub bit_next : (a v : ℕ) → a / 2 ^ suc v % 2 ≡ a / 2 / 2 ^ v % 2
bit_next a v = ap (λ x. x % 2) (ap (λ x. a / x) (pow-succ' 2 v) ∙ sym (div-div-eq-div-mul a 2 (2 ^ v)))

-- bit 0 of a number is what is left of it by 2
pub bit_zero : (a : ℕ) → a / 2 ^ 0 % 2 ≡ a % 2
bit_zero a = ap (λ x. x % 2) (div-one a)

-- numbers of n bits with the same bits are equal
pub bits-same : (n a b : ℕ) → a < 2 ^ n → b < 2 ^ n → ((v : ℕ) → v < n → a / 2 ^ v % 2 ≡ b / 2 ^ v % 2) → a ≡ b
bits-same zero a b ha hb same = omega (arith, pow-zero 2)
bits-same (suc n) a b ha hb same =
    let low : a % 2 ≡ b % 2 = sym (bit_zero a) ∙ same 0 (omega arith) ∙ bit_zero b in
    let high : a / 2 ≡ b / 2 =
    bits-same n (a / 2) (b / 2) (omega (arith, pow-suc 2 n)) (omega (arith, pow-suc 2 n))
    (λ v h. sym (bit_next a v) ∙ same (suc v) (omega arith) ∙ bit_next b v) in
    omega arith

-- a number is below 2 to the number
below_power : (a : ℕ) → a < 2 ^ a
below_power zero = omega arith
below_power (suc a) = omega (arith, below_power a, pow-suc 2 a)

-- bits that are 1 in the same cases are the same
one_same : (a b : ℕ) → ((a % 2 ≡ 1) ↔ (b % 2 ≡ 1)) → a % 2 ≡ b % 2
one_same a b same =
    by_test
    (eqb (a % 2) 1)
    (λ t. let e : a % 2 ≡ 1 = eqb-true (a % 2) 1 t in e ∙ sym (same.0 e))
    (λ f.
    let n : a % 2 ≡ 1 → ⊥ = eqb-false (a % 2) 1 f in
    let n' : b % 2 ≡ 1 → ⊥ = λ e. n (same.1 e) in
    omega (arith, n, n'))

-- numbers in which the same bits are set are equal
pub bits_fix : (a b : ℕ) → ((v : ℕ) → (a / 2 ^ v % 2 ≡ 1) ↔ (b / 2 ^ v % 2 ≡ 1)) → a ≡ b
bits_fix a b same =
    let here : 2 ^ a ≤ 2 ^ (a + b) = pow_mono (omega arith) in
    let there : 2 ^ b ≤ 2 ^ (a + b) = pow_mono (omega arith) in
    bits-same (a + b) a b (omega (arith, below_power a)) (omega (arith, below_power b))
    (λ v h. one_same (a / 2 ^ v) (b / 2 ^ v) (same v))

-- bit v of a union is set where it is set in one of the two
pub or_bit : (a b v : ℕ) → bit_or a b / 2 ^ v % 2 ≡ max (a / 2 ^ v % 2) (b / 2 ^ v % 2)
or_bit a b v =
    ap (λ x. x % 2) (or_shr a b v) ∙ (omega (arith, or_step (a / 2 ^ v) (b / 2 ^ v)))

-- bit v of what two numbers share is set where it is set in both
pub and_bit : (a b v : ℕ) → bit_and a b / 2 ^ v % 2 ≡ min (a / 2 ^ v % 2) (b / 2 ^ v % 2)
and_bit a b v =
    ap (λ x. x % 2) (and_shr a b v) ∙ (omega (arith, and_step (a / 2 ^ v) (b / 2 ^ v)))

-- the larger of two bits is the bit of either test
pub max-bits : (a b : Bool) → max (bit_of a) (bit_of b) ≡ bit_of (a || b)
max-bits true true = refl
max-bits true false = refl
max-bits false true = refl
max-bits false false = refl

-- the smaller of two bits is the bit of both tests
pub min-bits : (a b : Bool) → min (bit_of a) (bit_of b) ≡ bit_of (a && b)
min-bits true true = refl
min-bits true false = refl
min-bits false true = refl
min-bits false false = refl

-- a set is a number of 16 bits
pub set-lt : (vs : List ℕ) → set_of vs < 2 ^ 16
unfolding set_of
set-lt vs = bits_below (λ v. has eqb v vs) 16

-- bit v of a set says whether v stands in the list
pub set_bit : (vs : List ℕ) (v : ℕ) → v < 16 → set_of vs / 2 ^ v % 2 ≡ bit_of (has eqb v vs)
unfolding set_of
set_bit vs v h = bit_one (λ v. has eqb v vs) 16 v h

-- the test whether a bit is 1 is the test that made it
pub eqb_bit_of : (b : Bool) → eqb (bit_of b) 1 ≡ b
eqb_bit_of true = refl
eqb_bit_of false = refl

-- a bit is the one that its test for 1 makes
pub bit_of_eqb : (x : ℕ) → x < 2 → bit_of (eqb x 1) ≡ x
bit_of_eqb x h =
    by_test (eqb x 1) (λ t. rw t (sym (eqb-true x 1 t))) (λ f. let n = eqb-false x 1 f in rw f (omega arith))

-- a bit of a number says whether the variable is in the set
pub in_bit : (m v : ℕ) → m / 2 ^ v % 2 ≡ bit_of (in_set m v)
unfolding in_set
in_bit m v = sym (bit_of_eqb (m / 2 ^ v % 2) (mod-lt (m / 2 ^ v) (omega arith)))

-- a variable is in the set of a list exactly when it stands in the list
pub set-has : (vs : List ℕ) (v : ℕ) → v < 16 → in_set (set_of vs) v ≡ has eqb v vs
unfolding in_set
set-has vs v h = ap (λ x. eqb x 1) (set_bit vs v h) ∙ eqb_bit_of (has eqb v vs)

-- so what is in the set stands in the list
pub set_in : (vs : List ℕ) (v : ℕ) → v < 16 → in_set (set_of vs) v ≡ true → In v vs
set_in vs v h t = has_in eqb eqb_faithful v vs (sym (set-has vs v h) ∙ t)

-- and what stands in the list is in the set
pub in_set_lem : (vs : List ℕ) (v : ℕ) → v < 16 → In v vs → in_set (set_of vs) v ≡ true
in_set_lem vs v h i = set-has vs v h ∙ in_has eqb eqb_faithful v vs i

-- lists in which the same variables stand have the same set
pub set_same : (vs ws : List ℕ) → ((v : ℕ) → v < 16 → has eqb v vs ≡ has eqb v ws) → set_of vs ≡ set_of ws
set_same vs ws same =
    bits-same 16 (set_of vs) (set_of ws) (set-lt vs) (set-lt ws)
    (λ v h. set_bit vs v h ∙ ap bit_of (same v h) ∙ sym (set_bit ws v h))

-- the set of two lists is the union of their sets
pub set-append : (vs ws : List ℕ) → set_of (vs ++ ws) ≡ bit_or (set_of vs) (set_of ws)
set-append vs ws =
    bits-same 16 (set_of (vs ++ ws)) (bit_or (set_of vs) (set_of ws)) (set-lt (vs ++ ws))
    (or_lt 16 (set_of vs) (set_of ws) (set-lt vs) (set-lt ws))
    (λ v h.
    set_bit (vs ++ ws) v h
    ∙ ap bit_of (has-append eqb v vs ws)
    ∙ sym (max-bits (has eqb v vs) (has eqb v ws))
    ∙ sym (or_bit (set_of vs) (set_of ws) v ∙ rw (set_bit vs v h, set_bit ws v h)))

-- bit u of a power of two is set where u is the exponent
pow_bit : (v u : ℕ) → 2 ^ v / 2 ^ u % 2 ≡ bit_of (eqb u v)
pow_bit zero zero = refl
pow_bit zero (suc u) =
    let h : 2 ^ 0 < 2 ^ suc u = pow-lt {i = 0} {j = suc u} (omega arith) in
    ap (λ x. x % 2) (div-eq_of_lt h) ∙ sym (ap bit_of (eqb-suc-zero u))
pow_bit (suc v) zero =
    let e : 2 ^ suc v % 2 ≡ 0 = omega (arith, pow-suc 2 v) in
    bit_zero (2 ^ suc v) ∙ e ∙ sym (ap bit_of (eqb-zero-suc v))
pow_bit (suc v) (suc u) =
    let e : 2 ^ suc v / 2 ≡ 2 ^ v = omega (arith, pow-suc 2 v) in
    bit_next (2 ^ suc v) u ∙ ap (λ x. x / 2 ^ u % 2) e ∙ pow_bit v u ∙ sym (ap bit_of (eqb-suc-suc u v))

-- what stands in a list of one is that one
has_one : (u v : ℕ) → has eqb u (v ∷ []) ≡ eqb u v
unfolding has
has_one u v = by_test (eqb u v) (λ t. rw t) (λ f. rw f)

-- the set of one variable
pub set-one : (v : ℕ) → v < 16 → set_of (v ∷ []) ≡ 2 ^ v
set-one v h =
    bits-same 16 (set_of (v ∷ [])) (2 ^ v) (set-lt (v ∷ [])) (pow-lt h)
    (λ u k. set_bit (v ∷ []) u k ∙ ap bit_of (has_one u v) ∙ sym (pow_bit v u))

-- one variable more
pub set_more : (vs : List ℕ) (v : ℕ) → v < 16 → set_of (vs ++ (v ∷ [])) ≡ bit_or (set_of vs) (2 ^ v)
set_more vs v h = set-append vs (v ∷ []) ∙ ap (λ x. bit_or (set_of vs) x) (set-one v h)

-- the empty set
pub set-nil : set_of [] ≡ 0
unfolding set_of bits_where numbers has
set-nil = refl

-- a variable in the set is kept
pub from_on : (m v : ℕ) (vs : List ℕ) → in_set m v ≡ true → from_set m (v ∷ vs) ≡ v ∷ from_set m vs
unfolding from_set
from_on m v vs t = rw (t, from_set)

-- and one that is not is left out
pub from_off : (m v : ℕ) (vs : List ℕ) → in_set m v ≡ false → from_set m (v ∷ vs) ≡ from_set m vs
unfolding from_set
from_off m v vs f = rw (f, from_set)

-- one variable more in front: it is kept where it is in the set
from_step : (m v u : ℕ) (vs : List ℕ) → has eqb v (from_set m vs) ≡ (has eqb v vs && in_set m v)
    → has eqb v (from_set m (u ∷ vs)) ≡ (has eqb v (u ∷ vs) && in_set m v)
unfolding has
from_step m v u vs ih = by_test (in_set m u) on off
  where
    on : in_set m u ≡ true → has eqb v (from_set m (u ∷ vs)) ≡ ((eqb v u || has eqb v vs) && in_set m v)
    on t =
        ap (has eqb v) (from_on m u vs t)
        ∙ by_test (eqb v u) (λ e. rw e (sym (ap (in_set m) (eqb-true v u e) ∙ t))) (λ d. rw d ih)

    off : in_set m u ≡ false → has eqb v (from_set m (u ∷ vs)) ≡ ((eqb v u || has eqb v vs) && in_set m v)
    off f =
        ap (has eqb v) (from_off m u vs f) ∙ ih
        ∙ by_test (eqb v u)
        (λ e. let o = ap (in_set m) (eqb-true v u e) ∙ f in rw (e, o) (and-false (has eqb v vs)))
        (λ d. rw d)

-- what is kept stands in the list and is in the set
pub from_has : (m v : ℕ) (vs : List ℕ) → has eqb v (from_set m vs) ≡ (has eqb v vs && in_set m v)
unfolding has from_set
from_has m v [] = refl
from_has m v (u ∷ vs) = from_step m v u vs (from_has m v vs)

-- so what is kept stands in the list
pub from_below : (m : ℕ) (vs : List ℕ) (v : ℕ) → In v (from_set m vs) → In v vs
from_below m vs v i =
    has_in eqb eqb_faithful v vs
    (and_left (has eqb v vs) (in_set m v) (sym (from_has m v vs) ∙ in_has eqb eqb_faithful v (from_set m vs) i))

-- a variable stands among those of a set exactly when it is in the set
pub vars-has : (m v : ℕ) → v < 16 → has eqb v (vars_in m) ≡ in_set m v
unfolding vars_in
vars-has m v h =
    from_has m v (numbers 0 16)
    ∙ ap (λ b. b && in_set m v) (in_has eqb eqb_faithful v (numbers 0 16) (numbers_in 0 16 v (omega arith) (omega arith)))

-- they are below 16
pub vars-below : (m v : ℕ) → In v (vars_in m) → v < 16
unfolding vars_in
vars-below m v i = let r = in_numbers 0 16 v (from_below m (numbers 0 16) v i) in omega arith

-- a variable below 16 that is in the set stands among its variables
pub vars_in_lem : (m v : ℕ) → v < 16 → in_set m v ≡ true → In v (vars_in m)
vars_in_lem m v h t = has_in eqb eqb_faithful v (vars_in m) (vars-has m v h ∙ t)

-- what stands among them is in the set
pub in_vars : (m v : ℕ) → In v (vars_in m) → in_set m v ≡ true
in_vars m v i = sym (vars-has m v (vars-below m v i)) ∙ in_has eqb eqb_faithful v (vars_in m) i

-- a bit put into a set of 16 bits, as a shift makes it
pub set-put : (vs : List ℕ) (v m : ℕ) → v < 16 → m ≡ set_of vs → bit_or m ((1 * 2 ^ v) % 2 ^ 16) ≡ set_of (vs ++ (v ∷ []))
set-put vs v m h e =
    let s : (1 * 2 ^ v) % 2 ^ 16 ≡ 2 ^ v = ap (λ x. x % 2 ^ 16) (one-mul (2 ^ v)) ∙ mod-eq_of_lt (pow-lt h) in
    ap (λ x. bit_or x ((1 * 2 ^ v) % 2 ^ 16)) e ∙ ap (λ x. bit_or (set_of vs) x) s ∙ sym (set_more vs v h)

-- a variable is not in the set where its bit, by a shift and a mask, is 0
pub bit_off : (m v : ℕ) → bit_and (m / 2 ^ v) 1 ≡ 0 → in_set m v ≡ false
unfolding in_set
bit_off m v e = ne_eqb (m / 2 ^ v % 2) 1 (λ o. omega (arith, and_mask (m / 2 ^ v) 1))

-- it is where the bit is set
pub bit_on : (m v : ℕ) → (bit_and (m / 2 ^ v) 1 ≡ 0 → ⊥) → in_set m v ≡ true
unfolding in_set
bit_on m v n =
    by_test
    (eqb (m / 2 ^ v % 2) 1)
    (λ t. t)
    (λ f.
    let k = eqb-false (m / 2 ^ v % 2) 1 f in
    absurd (n (let z : bit_and (m / 2 ^ v) 1 ≡ 0 = omega (arith, and_mask (m / 2 ^ v) 1) in z)))

-- the variables of the set of a list of variables below 16 are those of the list
pub set_there : (ks : List ℕ) → ((v : ℕ) → In v ks → v < 16) → Sub ks (vars_in (set_of ks))
unfolding Sub
set_there ks h v i = vars_in_lem (set_of ks) v (h v i) (in_set_lem ks v (h v i) i)

-- the set of the variables of a set is that set
pub set-vars : (m : ℕ) → m < 2 ^ 16 → set_of (vars_in m) ≡ m
set-vars m h =
    bits-same 16 (set_of (vars_in m)) m (set-lt (vars_in m)) h
    (λ v l. set_bit (vars_in m) v l ∙ ap bit_of (vars-has m v l) ∙ sym (in_bit m v))

-- and the other way round
pub set_back : (ks : List ℕ) → Sub (vars_in (set_of ks)) ks
unfolding Sub
set_back ks v i = set_in ks v (vars-below (set_of ks) v i) (in_vars (set_of ks) v i)
