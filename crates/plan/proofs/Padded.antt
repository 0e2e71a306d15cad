-- Laws of lists read as arrays: what stands at a place of a list, of its images, of a front part, of repeats and of a
-- list padded to an array, and one value more in the array. By one element at a time.
use mathlib.Core.Path.{◌≡◌, refl, sym, ◌∙◌, ap}
use mathlib.Core.Logic.{inl, inr, ⊎_elim}
use mathlib.Core.List.{List, [], ◌∷◌, ◌++◌, map, map-append}
use Prim.Native.Nat.{ℕ, zero, suc, ◌-◌, ◌≤◌, ◌<◌}
use native.Mathlib.Omega.{arith}
use lib.ListN.{length, get_or, set, take, replicate, length-append, length-map, length-replicate, get_or-append}
use lib.Seq.{set_at, take_at, append_snoc}
use Rattle.plan.specs.Lists.{In, padded}
use Rattle.plan.proofs.Lists.{in_append, in_map}

-- ---- what stands at a place

-- what stands at a place stands in the list
pub in_at : {A : Type 0} (xs : List A) (i : ℕ) (d : A) → i < length xs → In (get_or xs i d) xs
unfolding In
in_at [] i d h = absurd (omega arith)
in_at (x ∷ xs) zero d h = inl refl
in_at (x ∷ xs) (suc i) d h = inr (in_at xs i d (omega arith))

-- at a place of the images stands the image of what stands there
pub map_at : {A B : Type 0} (f : A → B) (xs : List A) (i : ℕ) (d : B) (e : A) → i < length xs
    → get_or (map f xs) i d ≡ f (get_or xs i e)
map_at f [] i d e h = absurd (omega arith)
map_at f (x ∷ xs) zero d e h = refl
map_at f (x ∷ xs) (suc i) d e h = map_at f xs i d e (omega arith)

-- the front part of the images has the images of the front part
pub take-map : {A B : Type 0} (f : A → B) (n : ℕ) (xs : List A) → take n (map f xs) ≡ map f (take n xs)
take-map f zero xs = refl
take-map f (suc n) [] = refl
take-map f (suc n) (x ∷ xs) = ap (λ l. f x ∷ l) (take-map f n xs)

module _ {A : Type 0} (P : A → Type 0) where
  -- what holds of each element and of the default holds at every place
  pub at_all : (xs : List A) (d : A) → P d → ((x : A) → In x xs → P x) → (i : ℕ) → P (get_or xs i d)
  unfolding In
  at_all [] d p h i = p
  at_all (x ∷ xs) d p h zero = h x (inl refl)
  at_all (x ∷ xs) d p h (suc i) = at_all xs d p (λ y j. h y (inr j)) i

  -- what holds at each of the first n places holds of each element of the front part
  pub front_all : (n : ℕ) (xs : List A) (d : A) → ((i : ℕ) → i < n → P (get_or xs i d)) → (x : A) → In x (take n xs) → P x
  unfolding In
  front_all zero xs d h x i = absurd i
  front_all (suc n) [] d h x i = absurd i
  front_all (suc n) (y ∷ xs) d h x (inl e) = rw e (h 0 (omega arith))
  front_all (suc n) (y ∷ xs) d h x (inr i) = front_all n xs d (λ j b. h (suc j) (omega arith)) x i

  -- what holds of one holds of each of its repeats
  pub replicate-all : (n : ℕ) (a : A) → P a → (x : A) → In x (replicate n a) → P x
  unfolding In
  replicate-all zero a p x h = absurd h
  replicate-all (suc n) a p x (inl e) = rw e p
  replicate-all (suc n) a p x (inr h) = replicate-all n a p x h

  -- what holds of each element and of the filling holds of each entry of the array
  pub padded-all : (n : ℕ) (fill : A) (xs : List A) → P fill → ((x : A) → In x xs → P x) → (x : A)
      → In x (padded n fill xs) → P x
  unfolding padded
  padded-all n fill xs p h x i =
      ⊎_elim (h x) (replicate-all (n - length xs) fill p x) (in_append x xs (replicate (n - length xs) fill) i)

-- the same at every place of an array of what is shown
pub shown_all : {A B : Type 0} (P : B → Type 0) (f : A → B) (n : ℕ) (fill : B) (xs : List A) → P fill
    → ((x : A) → In x xs → P (f x)) → (d : B) → P d → (i : ℕ) → P (get_or (padded n fill (map f xs)) i d)
shown_all P f n fill xs p h d q =
    at_all P (padded n fill (map f xs)) d q
    (padded-all P n fill (map f xs) p (λ y i. let m = in_map f xs y i in rw m.2 (h m.0 m.1)))

-- zeros show 0 at every place, and beyond
pub zeros_at : (n i : ℕ) → get_or {A = ℕ} (replicate n 0) i 0 ≡ 0
zeros_at zero i = refl
zeros_at (suc n) zero = refl
zeros_at (suc n) (suc i) = zeros_at n i

-- ---- a list padded to an array

module _ {A : Type 0} (n : ℕ) (fill : A) (xs : List A) where
  -- the length of the array
  pub length-padded : length xs ≤ n → length (padded n fill xs) ≡ n
  unfolding padded
  length-padded h =
      length-append xs (replicate (n - length xs) fill) ∙ (omega (arith, length-replicate (n - length xs) fill))

  -- what stands in the array, as far as the list goes
  pub padded_at : (i : ℕ) (d : A) → i < length xs → get_or (padded n fill xs) i d ≡ get_or xs i d
  unfolding padded
  padded_at i d h = get_or-append xs (replicate (n - length xs) fill) d i h

  -- as many entries as the list has are the list
  pub padded-take : (k : ℕ) → length xs ≡ k → take k (padded n fill xs) ≡ xs
  unfolding padded
  padded-take k e = take_at xs (replicate (n - length xs) fill) k e

  -- a value stored behind those that stand in the array
  pub padded-more : (i : ℕ) (x : A) → length xs ≡ i → i < n → set (padded n fill xs) i x ≡ padded n fill (xs ++ (x ∷ []))
  unfolding padded
  padded-more i x l h =
      let left = n - suc (length xs) in
      let more : n - length xs ≡ suc left = omega arith in
      let rest : left ≡ n - length (xs ++ (x ∷ [])) = omega (arith, length-append xs (x ∷ [])) in
      ap (λ k. set (xs ++ replicate k fill) i x) more
      ∙ set_at xs fill (replicate left fill) x i l
      ∙ sym (append_snoc xs x (replicate left fill))
      ∙ ap (λ k. (xs ++ (x ∷ [])) ++ replicate k fill) rest

-- the same after a store of what is shown of the next value
pub stored_more : {A B : Type 0} (n : ℕ) (fill : B) (f : A → B) (array : List B) (xs : List A) (i : ℕ) (x : A) (v : B)
    → length xs ≡ i → i < n → v ≡ f x → array ≡ padded n fill (map f xs)
    → set array i v ≡ padded n fill (map f (xs ++ (x ∷ [])))
stored_more n fill f array xs i x v l h e s =
    ap (λ a. set a i v) s
    ∙ padded-more n fill (map f xs) i v (length-map xs f ∙ l) h
    ∙ ap (λ w. padded n fill (map f xs ++ (w ∷ []))) e
    ∙ ap (padded n fill) (sym (map-append f xs (x ∷ [])))
