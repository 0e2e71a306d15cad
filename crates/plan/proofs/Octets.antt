-- Bits as bytes and bytes as bits: the bits of bytes made of bits are those bits, and bytes made of the bits of bytes
-- are those bytes. By one byte more in front, whose eight bits are its marks.
use mathlib.Core.Path.{◌≡◌, refl, sym, ◌∙◌, ap, ap₂}
use mathlib.Core.Bool.{Bool}
use mathlib.Core.List.{List, [], ◌∷◌, ◌++◌}
use Prim.Native.Nat.{ℕ, zero, suc, ◌+◌, ◌*◌, ◌/◌, ◌%◌, ◌^◌, ◌≤◌, ◌<◌}
use native.Mathlib.Omega.{arith}
use native.Mathlib.Nat.{mod-eq_of_lt, mod-lt}
use lib.ListN.{length, get_or, take, drop, take-append-drop, length-take, length-drop}
use lib.Seq.{take_at, drop_at, length-take-le}
use lib.Dec.{eqb}
use lib.Pow.{pow_mono, mod-pow-add}
use Rattle.plan.specs.Reader.{bit_at, bits_at, marks_at}
use Rattle.plan.specs.Write.{marks_of, marks_number, octets}
use Rattle.plan.proofs.Bits.{bit_of}
use Rattle.plan.proofs.Sets.{bit_of_eqb}
use Rattle.plan.proofs.Readers.{marks-length}
use Rattle.plan.proofs.Marks.{number_split, number_lt, marks-long, marks-number, marks-back}

-- ---- numbers and their marks

-- the number of a number's marks is what its lowest bits make
number-mod : (a m : ℕ) → marks_number 0 (marks_of a m) ≡ m % 2 ^ a
unfolding marks_of marks_number
number-mod zero m = let z : 0 ≡ m % 1 = omega arith in z
number-mod (suc a) m =
    let b = m / 2 ^ a % 2 in
    let one : bit_of (eqb b 1) ≡ b = bit_of_eqb b (mod-lt (m / 2 ^ a) (omega arith)) in
    let e : suc a ≡ 1 + a = omega arith in
    number_split (eqb b 1) (marks_of a m)
    ∙ ap₂ (λ (x n : ℕ). x * 2 ^ n + marks_number 0 (marks_of a m)) one (marks-long a m)
    ∙ ap (λ x. b * 2 ^ a + x) (number-mod a m)
    ∙ sym (ap (λ n. m % 2 ^ n) e ∙ mod-pow-add m 1 a)

-- the number of the marks of a number that has no more bits is that number
pub number-back : (a m : ℕ) → m < 2 ^ a → marks_number 0 (marks_of a m) ≡ m
number-back a m h = number-mod a m ∙ mod-eq_of_lt h

-- bits that are the marks of a number make that number
pub bits_of : (bytes : List ℕ) (at w x : ℕ) → x < 2 ^ w → marks_at bytes at w ≡ marks_of w x → bits_at bytes at w ≡ x
bits_of bytes at w x h e = sym (marks-number bytes at w) ∙ ap (marks_number 0) e ∙ number-back w x h

-- the marks of the number that bits make are those bits
pub marks_of_lem : (bytes : List ℕ) (at w : ℕ) → marks_of w (bits_at bytes at w) ≡ marks_at bytes at w
marks_of_lem bytes at w =
    ap (marks_of w) (sym (marks-number bytes at w))
    ∙ ap (λ n. marks_of n (marks_number 0 (marks_at bytes at w))) (sym (marks-length bytes at w))
    ∙ marks-back (marks_at bytes at w)

-- ---- the bits of bytes

-- some bits, and then those behind them
pub marks-append : (bytes : List ℕ) (at v w : ℕ)
    → marks_at bytes at (v + w) ≡ marks_at bytes at v ++ marks_at bytes (at + v) w
unfolding marks_at
marks-append bytes at zero w =
    let e : 0 + w ≡ w = omega arith in
    let d : at + 0 ≡ at = omega arith in
    rw (e, d)
marks-append bytes at (suc v) w =
    let e : suc v + w ≡ suc (v + w) = omega arith in
    let d : at + suc v ≡ suc at + v = omega arith in
    rw (e, d) (ap (λ bs. eqb (bit_at bytes at) 1 ∷ bs) (marks-append bytes (suc at) v w))

-- bits that are two lists, one behind the other, are the first and then the second
pub marks-parts : (bytes : List ℕ) (at : ℕ) (bs ds : List Bool) → marks_at bytes at (length bs + length ds) ≡ bs ++ ds
    → (marks_at bytes at (length bs) ≡ bs) × (marks_at bytes (at + length bs) (length ds) ≡ ds)
marks-parts bytes at bs ds e =
    let front = marks_at bytes at (length bs) in
    let more = marks_at bytes (at + length bs) (length ds) in
    let both : front ++ more ≡ bs ++ ds = sym (marks-append bytes at (length bs) (length ds)) ∙ e in
    let n : length front ≡ length bs = marks-length bytes at (length bs) in (
      sym (take_at front more (length bs) n) ∙ ap (take (length bs)) both ∙ take_at bs ds (length bs) refl,
      sym (drop_at front more (length bs) n) ∙ ap (drop (length bs)) both ∙ drop_at bs ds (length bs) refl,
    )

-- behind the first byte stand the others' bits
bit_shift : (b : ℕ) (bytes : List ℕ) (k : ℕ) → bit_at (b ∷ bytes) (8 + k) ≡ bit_at bytes k
unfolding bit_at
bit_shift b bytes k =
    let e : (8 + k) / 8 ≡ suc (k / 8) = omega arith in
    let d : (8 + k) % 8 ≡ k % 8 = omega arith in
    rw (e, d)

marks_shift : (b : ℕ) (bytes : List ℕ) (at w : ℕ) → marks_at (b ∷ bytes) (8 + at) w ≡ marks_at bytes at w
unfolding marks_at
marks_shift b bytes at zero = refl
marks_shift b bytes at (suc w) =
    let e : suc (8 + at) ≡ 8 + suc at = omega arith in
    ap₂ (λ (x : ℕ) (bs : List Bool). eqb x 1 ∷ bs) (bit_shift b bytes at)
    (ap (λ k. marks_at (b ∷ bytes) k w) e ∙ marks_shift b bytes (suc at) w)

-- the first byte's bits are its marks
marks-first : (b : ℕ) (bytes : List ℕ) → marks_at (b ∷ bytes) 0 8 ≡ marks_of 8 b
unfolding marks_at marks_of bit_at
marks-first b bytes = refl

-- the first byte's marks, and the bits of the others
marks_byte : (b : ℕ) (bytes : List ℕ) (n : ℕ)
    → marks_at (b ∷ bytes) 0 (8 * suc n) ≡ marks_of 8 b ++ marks_at bytes 0 (8 * n)
marks_byte b bytes n =
    let e : 8 * suc n ≡ 8 + 8 * n = omega arith in
    ap (marks_at (b ∷ bytes) 0) e
    ∙ marks-append (b ∷ bytes) 0 8 (8 * n)
    ∙ ap₂ (λ (bs cs : List Bool). bs ++ cs) (marks-first b bytes) (marks_shift b bytes 0 (8 * n))

-- ---- bytes made of bits

-- n bytes
pub octets-length : (n : ℕ) (bits : List Bool) → length (octets n bits) ≡ n
unfolding octets
octets-length zero bits = refl
octets-length (suc n) bits = ap suc (octets-length n (drop 8 bits))

-- each is below 256
pub octets-low : (n : ℕ) (bits : List Bool) (i : ℕ) → get_or (octets n bits) i 0 < 256
unfolding octets
octets-low zero bits i = omega arith
octets-low (suc n) bits zero =
    let few : length (take 8 bits) ≤ 8 = omega (arith, length-take 8 bits) in
    let h : 2 ^ length (take 8 bits) ≤ 2 ^ 8 = pow_mono few in
    omega (arith, number_lt (take 8 bits), h)
octets-low (suc n) bits (suc i) = octets-low n (drop 8 bits) i

-- the bits of the bytes that bits make are those bits
pub marks-octets : (n : ℕ) (bits : List Bool) → length bits ≡ 8 * n → marks_at (octets n bits) 0 (8 * n) ≡ bits
unfolding octets marks_at
marks-octets zero [] h = refl
marks-octets zero (b ∷ bits) h = absurd (let z : ⊥ = omega arith in z)
marks-octets (suc n) bits h =
    let eight : length (take 8 bits) ≡ 8 = length-take-le 8 bits (omega arith) in
    let rest : length (drop 8 bits) ≡ 8 * n = omega (arith, length-drop 8 bits) in
    marks_byte (marks_number 0 (take 8 bits)) (octets n (drop 8 bits)) n
    ∙ ap₂ (λ (bs cs : List Bool). bs ++ cs)
    (ap (λ k. marks_of k (marks_number 0 (take 8 bits))) (sym eight) ∙ marks-back (take 8 bits))
    (marks-octets n (drop 8 bits) rest)
    ∙ take-append-drop 8 bits

-- the bytes that the bits of bytes make are those bytes
pub octets-marks : (bytes : List ℕ) → ((i : ℕ) → get_or bytes i 0 < 256)
    → octets (length bytes) (marks_at bytes 0 (8 * length bytes)) ≡ bytes
unfolding octets
octets-marks [] low = refl
octets-marks (b ∷ bytes) low =
    let n = length bytes in
    let e = marks_byte b bytes n in
    let first : take 8 (marks_at (b ∷ bytes) 0 (8 * suc n)) ≡ marks_of 8 b =
    ap (take 8) e ∙ take_at (marks_of 8 b) (marks_at bytes 0 (8 * n)) 8 (marks-long 8 b) in
    let rest : drop 8 (marks_at (b ∷ bytes) 0 (8 * suc n)) ≡ marks_at bytes 0 (8 * n) =
    ap (drop 8) e ∙ drop_at (marks_of 8 b) (marks_at bytes 0 (8 * n)) 8 (marks-long 8 b) in
    let one : b < 2 ^ 8 = omega (arith, low 0) in
    ap₂ (λ (x : ℕ) (xs : List ℕ). x ∷ xs) (ap (marks_number 0) first ∙ number-back 8 b one)
    (ap (octets n) rest ∙ octets-marks bytes (λ i. low (suc i)))
