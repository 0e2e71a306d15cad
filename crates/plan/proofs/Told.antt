-- Lists told place by place, from the number of the place: how long they are, what stands where, and one place more.
use mathlib.Core.Path.{◌≡◌, refl, sym, ◌∙◌, ap}
use mathlib.Core.List.{List, [], ◌∷◌, ◌++◌, map}
use Prim.Native.Nat.{ℕ, zero, suc, ◌+◌, ◌<◌}
use native.Mathlib.Omega.{arith}
use native.Mathlib.Numerals.{add-one}
use lib.ListN.{length, get_or, length-map}
use lib.Seq.{ext_get_or}
use Rattle.plan.specs.Lists.{In, numbers}
use Rattle.plan.proofs.Lists.{in_map}
use Rattle.plan.proofs.Padded.{map_at}
use Rattle.plan.proofs.Numbers.{numbers-length, in_numbers, numbers_more}

-- at place i of the numbers from k on stands k + i
pub numbers_at : (k n i d : ℕ) → i < n → get_or (numbers k n) i d ≡ k + i
unfolding numbers
numbers_at k zero i d h = absurd (let z : ⊥ = omega arith in z)
numbers_at k (suc n) zero d h = let e : k ≡ k + 0 = omega arith in e
numbers_at k (suc n) (suc i) d h =
    numbers_at (suc k) n i d (omega arith) ∙ (let e : suc k + i ≡ k + suc i = omega arith in e)

module _ {A : Type 0} (f : ℕ → A) (n : ℕ) where
  -- a list told place by place has as many places
  pub told-length : length (map f (numbers 0 n)) ≡ n
  told-length = length-map (numbers 0 n) f ∙ numbers-length 0 n

  -- and at each what is told of it
  pub told_at : (i : ℕ) (d : A) → i < n → get_or (map f (numbers 0 n)) i d ≡ f i
  told_at i d h =
      map_at f (numbers 0 n) i d 0 (omega (arith, numbers-length 0 n))
      ∙ ap f (numbers_at 0 n i 0 h ∙ (let e : 0 + i ≡ i = omega arith in e))

  -- it is the list that has the same at each place
  pub told-list : (xs : List A) (d : A) → length xs ≡ n → ((i : ℕ) → i < n → f i ≡ get_or xs i d)
      → map f (numbers 0 n) ≡ xs
  told-list xs d l h =
      ext_get_or d (map f (numbers 0 n)) xs (told-length ∙ sym l)
      (λ i b. let low : i < n = omega (arith, told-length) in told_at i d low ∙ h i low)

  -- what stands in it is told of one of the places
  pub told_in : (a : A) → In a (map f (numbers 0 n)) → (i : ℕ) × (i < n) × (a ≡ f i)
  told_in a h = let (i, j, e) = in_map f (numbers 0 n) a h in (i, omega (arith, (in_numbers 0 n i j).1), e)

map_more : {A : Type 0} (f : ℕ → A) (xs : List ℕ) (x : ℕ) → map f (xs ++ (x ∷ [])) ≡ map f xs ++ (f x ∷ [])
map_more f [] x = refl
map_more f (y ∷ xs) x = ap (λ l. f y ∷ l) (map_more f xs x)

-- what is told of one more
pub told_more : {A : Type 0} (f : ℕ → A) (n : ℕ) → map f (numbers 0 (n + 1)) ≡ map f (numbers 0 n) ++ (f n ∷ [])
told_more f n =
    let e : 0 + n ≡ n = omega arith in
    ap (λ k. map f (numbers 0 k)) (add-one n)
    ∙ ap (map f) (numbers_more 0 n)
    ∙ map_more f (numbers 0 n) (0 + n)
    ∙ ap (λ k. map f (numbers 0 n) ++ (f k ∷ [])) e
