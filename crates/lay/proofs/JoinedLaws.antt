-- Laws of items joined: those of one width, how many places they take, and where those of each number stand; and the items of
-- each entry of a list, and those of one entry more put behind them.
use mathlib.Core.Path.{◌≡◌, refl, sym, ap, ◌∙◌}
use mathlib.Core.Logic.{◌⊎◌, inl, inr, ⊎_elim}
use mathlib.Core.Bool.{Bool, true, false}
use mathlib.Core.List.{List, [], ◌∷◌, ◌++◌, append_assoc, append-nil}
use Prim.Native.Nat.{ℕ, zero, suc, ◌+◌, ◌*◌, ◌≤◌, ◌<◌}
use native.Mathlib.Omega.{arith}
use lib.ListN.{length, get_or, take, drop, length-append}
use lib.Seq.{drop_at, drop-append-le}
use lib.Dec.{ltb}
use borrow.Author.Tests.{ltb-true, ltb-false}
use Rattle.std.specs.List.{flat_map}
use Rattle.std.proofs.lemmas.List.{take_more}
use Rattle.std.proofs.lemmas.List.Concat.{flat_map-append, flat_map-cons}
use Rattle.lay.specs.Put.{Put, joined}
use Rattle.lay.proofs.PutLaws.{put_then, put_as}

-- a number below n + 1 is below n, or n
last_or : (i n : ℕ) → i < suc n → (i < n) ⊎ (i ≡ n)
last_or i n h = go (ltb i n) refl
  where
    go : (b : Bool) → ltb i n ≡ b → (i < n) ⊎ (i ≡ n)
    go true t = inl (ltb-true i n t)
    go false f = inr (omega (arith, ltb-false i n f))

-- items of one width take so many places
pub joined-long : (items : ℕ → List ℕ) (w n : ℕ) → ((i : ℕ) → i < n → length (items i) ≡ w)
    → length (joined items n) ≡ w * n
unfolding joined
joined-long items w zero h = omega arith
joined-long items w (suc n) h =
    length-append (joined items n) (items n)
    ∙ (omega (arith, joined-long items w n (λ i b. h i (omega arith)), h n (omega arith)))

-- and those of more numbers no fewer
joined_up : (items : ℕ → List ℕ) (n i : ℕ) → i < n → length (joined items i) ≤ length (joined items n)
unfolding joined
joined_up items zero i h = absurd (omega arith)
joined_up items (suc n) i h =
    ⊎_elim {C = length (joined items i) ≤ length (joined items n ++ items n)}
    (λ low. omega (arith, length-append (joined items n) (items n), joined_up items n i low))
    (λ same. omega (arith, length-append (joined items n) (items n), ap (λ (k : ℕ). length (joined items k)) same))
    (last_or i n h)

-- behind those of the numbers below i stand those of i
joined_from : (items : ℕ → List ℕ) (n i : ℕ) → i < n
    → (more : List ℕ) × (drop (length (joined items i)) (joined items n) ≡ items i ++ more)
unfolding joined
joined_from items zero i h = absurd (omega arith)
joined_from items (suc n) i h =
    ⊎_elim
    (λ low.
    let m = joined_from items n i low in (
      m.0 ++ items n,
      drop-append-le (length (joined items i)) (joined items n) (items n) (joined_up items n i low)
          ∙ ap (λ (l : List ℕ). l ++ items n) m.1
          ∙ append_assoc (items i) m.0 (items n),
    ))
    (λ same. (
      [],
      drop_at (joined items n) (items n) (length (joined items i)) (ap (λ (k : ℕ). length (joined items k)) (sym same))
          ∙ ap items (sym same)
          ∙ sym (append-nil (items i)),
    ))
    (last_or i n h)

-- the items of number i, by their width
pub joined_at : (items : ℕ → List ℕ) (w n i : ℕ) → ((k : ℕ) → k < n → length (items k) ≡ w) → i < n → (rest : List ℕ)
    → (more : List ℕ) × (drop (w * i) (joined items n ++ rest) ≡ items i ++ more)
joined_at items w n i h b rest =
    let m = joined_from items n i b in
    let long = joined-long items w i (λ k l. h k (omega arith)) in
    let up = joined_up items n i b in (
      m.0 ++ rest,
      drop-append-le (w * i) (joined items n) rest (omega (arith, long, up))
          ∙ ap (λ (k : ℕ). drop k (joined items n) ++ rest) (sym long)
          ∙ ap (λ (l : List ℕ). l ++ rest) m.1
          ∙ append_assoc (items i) m.0 rest,
    )

-- the items of 0 stand before those of the numbers behind it
joined_first : (items : ℕ → List ℕ) (n : ℕ) → joined items (suc n) ≡ items 0 ++ joined (λ i. items (suc i)) n
unfolding joined
joined_first items zero = sym (append-nil (items 0))
joined_first items (suc n) =
    ap (λ (l : List ℕ). l ++ items (suc n)) (joined_first items n)
    ∙ append_assoc (items 0) (joined (λ i. items (suc i)) n) (items (suc n))

-- the items of each entry of a list are those of its number, joined
joined_each : {A : Type 0} (items : A → List ℕ) (beyond : A) (xs : List A)
    → flat_map items xs ≡ joined (λ i. items (get_or xs i beyond)) (length xs)
unfolding joined
joined_each items beyond [] = refl
joined_each items beyond (x ∷ xs) =
    flat_map-cons items x xs ∙ ap (λ (l : List ℕ). items x ++ l) (joined_each items beyond xs)
    ∙ sym (joined_first (λ i. items (get_or (x ∷ xs) i beyond)) (length xs))

-- those of as many entries as there are
pub joined_entries : {A : Type 0} (items : A → List ℕ) (beyond : A) (xs : List A) (n : ℕ) → length xs ≡ n
    → flat_map items xs ≡ joined (λ i. items (get_or xs i beyond)) n
joined_entries items beyond xs n e =
    joined_each items beyond xs ∙ ap (joined (λ i. items (get_or xs i beyond))) e

-- where each entry is its own item, they are the list
pub each_itself : (xs : List ℕ) → flat_map (λ x. x ∷ []) xs ≡ xs
each_itself [] = refl
each_itself (x ∷ xs) = ap (λ (l : List ℕ). x ∷ l) (each_itself xs)

-- those of one entry more are put behind those that are
pub each_then : {A : Type 0} (items : A → List ℕ) (xs : List A) (i : ℕ) (x : A) {a b c : List ℕ} {at m k : ℕ} → at ≤ length a
    → i < length xs → x ≡ get_or xs i x → Put a at (flat_map items (take i xs)) b m → Put b m (items x) c k
    → Put a at (flat_map items (take (i + 1) xs)) c k
each_then items xs i x h l e p q =
    put_as (flat_map items (take (i + 1) xs))
    (sym (ap (flat_map items) (take_more xs i x l)
    ∙ flat_map-append items (take i xs) (get_or xs i x ∷ [])
    ∙ ap (λ (l : List ℕ). flat_map items (take i xs) ++ l) (append-nil (items (get_or xs i x)) ∙ ap items (sym e))))
    (put_then h p q)
