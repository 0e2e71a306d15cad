-- Laws of packed bits: fields are small, one bit more is put behind those read before, and a rule is the number of its bits.
use mathlib.Core.Path.{◌≡◌, ◌∙◌, ap}
use mathlib.Core.List.{List}
use Prim.Native.Nat.{ℕ, ◌+◌, ◌*◌, ◌%◌, ◌^◌, ◌≤◌, ◌<◌}
use native.Mathlib.Omega.{arith}
use native.Mathlib.Numerals.{add-one}
use native.Mathlib.Nat.{mod-eq_of_lt, lt_of_lt_of_le}
use lib.Bits.{bit_or, or_shifted}
use lib.Pow.{pow_mono}
use Rattle.plan.specs.Reader.{bit_at, bits_at}
use Rattle.plan.proofs.Readers.{bit_lt, bits-lt}

-- a field of at most 32 bits fits 32 bits
pub bits_small : (bytes : List ℕ) (at w : ℕ) → w ≤ 32 → bits_at bytes at w < 2 ^ 32
bits_small bytes at w h = lt_of_lt_of_le (bits-lt bytes at w) (pow_mono h)

-- one bit more, put behind the number of the bits before it
pub bits_put : (bytes : List ℕ) (at w value b : ℕ) → w ≤ 32 → value ≡ bits_at bytes at w → b ≡ bit_at bytes (at + w)
    → bit_or ((value * 2 ^ 1) % 2 ^ 64) b ≡ bits_at bytes at (w + 1)
unfolding bits_at
bits_put bytes at w value b h e d =
    let small : value * 2 ^ 1 < 2 ^ 64 = omega (arith, bits_small bytes at w h) in
    let low : b < 2 ^ 1 = omega (arith, bit_lt bytes (at + w)) in
    ap (λ x. bit_or x b) (mod-eq_of_lt small) ∙ or_shifted value 1 b low ∙ rw (e, d, add-one)
