-- Laws of the words that bytes make: a four as the library counts it, one word more, and all of them.
use mathlib.Core.Path.{◌≡◌, refl, sym, ap, ◌∙◌}
use mathlib.Core.List.{List, [], ◌∷◌, ◌++◌, map, map-append}
use Prim.Native.Nat.{ℕ, zero, suc, ◌+◌, ◌<◌}
use native.Mathlib.Omega.{arith}
use lib.ListN.{length, get_or, take, drop}
use Rattle.std.specs.Int.{w32, from_be_bytes}
use Rattle.std.specs.Simd.{first_chunks}
use Rattle.std.proofs.lemmas.List.{take_more}
use Rattle.plan.specs.Request.{rows_by}
use Rattle.ebbcandle.specs.Words.{word_of}

-- the number of four bytes, the highest first
pub word_is : (four : List ℕ) → from_be_bytes w32 four ≡ word_of four
unfolding word_of
word_is four = omega arith

-- one word more
pub words_more : (fours : List (List ℕ)) (i : ℕ) → i < length fours
    → map word_of (take i fours) ++ (word_of (get_or fours i []) ∷ []) ≡ map word_of (take (i + 1) fours)
words_more fours i h =
    sym (ap (map word_of) (take_more fours i [] h) ∙ map-append word_of (take i fours) (get_or fours i [] ∷ []))

-- the fours of the bytes are its rows
pub fours_are : (n : ℕ) (bytes : List ℕ) → first_chunks 4 n bytes ≡ rows_by 4 n bytes
unfolding rows_by
fours_are zero bytes = refl
fours_are (suc n) bytes = ap (λ rs. take 4 bytes ∷ rs) (fours_are n (drop 4 bytes))
