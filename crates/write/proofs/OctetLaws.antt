-- Laws of bits as bytes for an array that is filled from its beginning: the byte that is not full holds the number of its
-- bits, and more bits go behind them. By one byte more in front.
use mathlib.Core.Path.{◌≡◌, refl, sym, ◌∙◌, ap, ap₂}
use mathlib.Core.Bool.{Bool, true, false}
use mathlib.Core.List.{List, [], ◌∷◌, ◌++◌}
use Prim.Native.Nat.{ℕ, zero, suc, ◌+◌, ◌*◌, ◌/◌, ◌%◌, ◌^◌, ◌≤◌, ◌<◌}
use native.Mathlib.Omega.{arith}
use native.Mathlib.Nat.{mod-eq_of_lt, mul-le-mul_right, suc-mul}
use lib.ListN.{length, get_or, set, take, drop, replicate, length-append, length-drop}
use lib.Seq.{take_all, take-append-le, drop-append-le}
use lib.Dec.{ltb}
use lib.Bits.{bit_or, or_shifted}
use lib.Pow.{pow-add, pow_mono}
use borrow.Author.Tests.{ltb-true, ltb-false}
use Rattle.plan.specs.Write.{marks_number, octets}
use Rattle.plan.proofs.Lists.{by_test}
use Rattle.plan.proofs.Marks.{number_behind, number_lt}

-- a list that is no longer has nothing behind
drop_all : (n : ℕ) (bs : List Bool) → length bs ≤ n → drop n bs ≡ []
drop_all zero [] h = refl
drop_all zero (b ∷ bs) h = absurd (let z : ⊥ = omega arith in z)
drop_all (suc n) [] h = refl
drop_all (suc n) (b ∷ bs) h = drop_all n bs (omega arith)

-- the number of marks behind marks
number_append : (n : ℕ) (bs cs : List Bool) → marks_number n (bs ++ cs) ≡ marks_number n bs * 2 ^ length cs + marks_number 0 cs
unfolding marks_number
number_append n [] cs = number_behind n cs
number_append n (true ∷ bs) cs = number_append (n * 2 + 1) bs cs
number_append n (false ∷ bs) cs = number_append (n * 2) bs cs

-- more bits, for which the byte that is not full has room, go to that byte
pub octets-more : (n : ℕ) (bs cs : List Bool) → length bs < 8 * n → length bs % 8 + length cs ≤ 8
    → octets n (bs ++ cs)
    ≡ set (octets n bs) (length bs / 8) (get_or (octets n bs) (length bs / 8) 0 * 2 ^ length cs + marks_number 0 cs)
unfolding octets
octets-more zero bs cs h r = absurd (let z : ⊥ = omega arith in z)
octets-more (suc n) bs cs h r =
    by_test (ltb (length bs) 8) (λ t. first (ltb-true _ _ t))
    (λ f. let l : 8 ≤ length bs = ltb-false _ _ f in
    later l (octets-more n (drop 8 bs) cs (omega (arith, length-drop 8 bs)) (omega (arith, length-drop 8 bs))))
  where
    x : ℕ
    x = marks_number 0 (take 8 bs)

    more : ℕ → List ℕ → List ℕ
    more k ys = set ys k (get_or ys k 0 * 2 ^ length cs + marks_number 0 cs)

    first : length bs < 8 → octets (suc n) (bs ++ cs) ≡ more (length bs / 8) (octets (suc n) bs)
    first l =
        let long : length (bs ++ cs) ≤ 8 = omega (arith, length-append bs cs) in
        let z : length bs / 8 ≡ 0 = omega arith in
        let front : marks_number 0 (take 8 (bs ++ cs)) ≡ x * 2 ^ length cs + marks_number 0 cs =
        ap (marks_number 0) (take_all 8 (bs ++ cs) long)
        ∙ number_append 0 bs cs
        ∙ ap (λ l. marks_number 0 l * 2 ^ length cs + marks_number 0 cs) (sym (take_all 8 bs (omega arith))) in
        let rest : octets n (drop 8 (bs ++ cs)) ≡ octets n (drop 8 bs) =
        ap (octets n) (drop_all 8 (bs ++ cs) long ∙ sym (drop_all 8 bs (omega arith))) in
        ap₂ (λ (y : ℕ) (ys : List ℕ). y ∷ ys) front rest ∙ ap (λ k. more k (octets (suc n) bs)) (sym z)

    later : 8 ≤ length bs → octets n (drop 8 bs ++ cs) ≡ more (length (drop 8 bs) / 8) (octets n (drop 8 bs))
        → octets (suc n) (bs ++ cs) ≡ more (length bs / 8) (octets (suc n) bs)
    later l ih =
        let z : length bs / 8 ≡ suc (length (drop 8 bs) / 8) = omega (arith, length-drop 8 bs) in
        let front : marks_number 0 (take 8 (bs ++ cs)) ≡ x = ap (marks_number 0) (take-append-le 8 bs cs l) in
        let rest = ap (octets n) (drop-append-le 8 bs cs l) ∙ ih in
        ap₂ (λ (y : ℕ) (ys : List ℕ). y ∷ ys) front rest ∙ ap (λ k. more k (octets (suc n) bs)) (sym z)

-- the byte that is not full has as many bits as stand behind the last full byte
pub octets-room : (n : ℕ) (bs : List Bool) → length bs < 8 * n → get_or (octets n bs) (length bs / 8) 0 < 2 ^ (length bs % 8)
unfolding octets
octets-room zero bs h = absurd (let z : ⊥ = omega arith in z)
octets-room (suc n) bs h =
    by_test (ltb (length bs) 8) (λ t. first (ltb-true _ _ t))
    (λ f. let l : 8 ≤ length bs = ltb-false _ _ f in later l (octets-room n (drop 8 bs) (omega (arith, length-drop 8 bs))))
  where
    first : length bs < 8 → get_or (octets (suc n) bs) (length bs / 8) 0 < 2 ^ (length bs % 8)
    first l =
        let z : length bs / 8 ≡ 0 = omega arith in
        let e : length bs % 8 ≡ length bs = omega arith in
        let same = take_all 8 bs (omega arith) in
        rw (z, e, same) (number_lt bs)

    later : 8 ≤ length bs → get_or (octets n (drop 8 bs)) (length (drop 8 bs) / 8) 0 < 2 ^ (length (drop 8 bs) % 8)
        → get_or (octets (suc n) bs) (length bs / 8) 0 < 2 ^ (length bs % 8)
    later l ih =
        let z : length bs / 8 ≡ suc (length (drop 8 bs) / 8) = omega (arith, length-drop 8 bs) in
        let e : length bs % 8 ≡ length (drop 8 bs) % 8 = omega (arith, length-drop 8 bs) in
        rw (z, e) ih

-- some bits behind the number of a byte's bits, where it has room
pub byte_more : (x m some b : ℕ) → x < 2 ^ m → m + some ≤ 8 → b < 2 ^ some
    → (bit_or ((x * 2 ^ some) % 2 ^ 64) b ≡ x * 2 ^ some + b) × (x * 2 ^ some + b < 2 ^ 8)
byte_more x m some b h r l =
    let top : suc x * 2 ^ some ≤ 2 ^ m * 2 ^ some = mul-le-mul_right (2 ^ some) h in
    let next : suc x * 2 ^ some ≡ x * 2 ^ some + 2 ^ some = suc-mul x (2 ^ some) in
    let wide : 2 ^ (m + some) ≤ 2 ^ 8 = pow_mono r in
    let both = pow-add 2 m some in
    let low : x * 2 ^ some + b < 2 ^ 8 = omega (arith, top, next, wide, both) in
    let small : x * 2 ^ some < 2 ^ 64 = omega (arith, low) in
    (ap (λ y. bit_or y b) (mod-eq_of_lt small) ∙ or_shifted x some b l, low)

-- no bits are zeros
pub octets_none : (n : ℕ) → octets n [] ≡ replicate n 0
unfolding octets marks_number
octets_none zero = refl
octets_none (suc n) = ap (λ (l : List ℕ). 0 ∷ l) (octets_none n)

-- the first bytes
pub octets-take : (m n : ℕ) (bs : List Bool) → m ≤ n → take m (octets n bs) ≡ octets m bs
unfolding octets
octets-take zero n bs h = refl
octets-take (suc m) zero bs h = absurd (let z : ⊥ = omega arith in z)
octets-take (suc m) (suc n) bs h =
    ap (λ (l : List ℕ). marks_number 0 (take 8 bs) ∷ l) (octets-take m n (drop 8 bs) (omega arith))
