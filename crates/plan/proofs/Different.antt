-- Laws of `different`: it is the length of the list of first appearances, in which nothing stands twice; and a list in
-- which nothing stands twice is no longer than any list that has all its members.
use mathlib.Core.Path.{◌≡◌, refl, sym, ◌∙◌, ap, subst}
use mathlib.Core.Logic.{◌⊎◌, inl, inr, ⊎_elim}
use mathlib.Core.Bool.{Bool, true, false}
use mathlib.Core.List.{List, [], ◌∷◌, ◌++◌, map}
use Prim.Native.Nat.{ℕ, zero, suc, ◌≤◌, ◌<◌, zero-le}
use native.Mathlib.Omega.{arith}
use lib.ListN.{length, get_or}
use Rattle.plan.specs.Lists.{In, Sub, NoRepeat, those, has, different_after, different}
use Rattle.plan.proofs.Lists.{by_test, in_append, in_front, in_behind, in_map, in_those, sub-cons, sub_in, sub_refl}
use Rattle.plan.proofs.Lists.{Faithful, has_in, has-not}
use Rattle.plan.proofs.Padded.{in_at}

-- ---- standing in lists

-- of two cases the second, where the first is none
pub not_left : {P Q : Type 0} → (P → ⊥) → P ⊎ Q → Q
not_left n (inl p) = absurd (n p)
not_left n (inr q) = q

module _ {A : Type 0} where
  -- what is equal to something that stands in a list stands there
  pub in_equal : {a b : A} (xs : List A) → a ≡ b → In a xs → In b xs
  in_equal xs e i = subst (λ (c : A). In c xs) e i

  -- all in the first list is in the second, all there in the third
  pub sub_trans : (xs ys zs : List A) → Sub xs ys → Sub ys zs → Sub xs zs
  unfolding Sub
  sub_trans xs ys zs h k a i = k a (h a i)

  -- one more at the end is one more in front
  pub sub_snoc : (xs : List A) (x : A) → Sub (xs ++ (x ∷ [])) (x ∷ xs)
  unfolding In Sub
  sub_snoc xs x a h = ⊎_elim inr (λ k. inl (⊎_elim (λ e. e) (λ z. absurd z) k)) (in_append a xs (x ∷ []) h)

  -- and the other way round
  pub snoc_sub : (xs : List A) (x : A) → Sub (x ∷ xs) (xs ++ (x ∷ []))
  unfolding In Sub
  snoc_sub xs x a (inl e) = in_behind a xs (x ∷ []) (inl e)
  snoc_sub xs x a (inr i) = in_front a xs (x ∷ []) i

  -- what stands in a list can be taken out of it once: one place fewer, and all else still stands there
  taken_out : (y : A) (zs : List A) → In y zs
      → (ws : List A) × (length zs ≡ suc (length ws)) × ((a : A) → In a zs → (a ≡ y) ⊎ In a ws)
  unfolding In
  taken_out y [] x' = elim x' [ ]
  taken_out y (z ∷ zs) (inl e) = (zs, refl, λ a h. ⊎_elim (λ d. inl (d ∙ sym e)) inr h)
  taken_out y (z ∷ zs) (inr i) =
      let (ws, len, rest) = taken_out y zs i in
      (z ∷ ws, ap suc len, λ a h. ⊎_elim (λ d. inr (inl d)) (λ k. ⊎_elim inl (λ w. inr (inr w)) (rest a k)) h)

  -- a list in which nothing stands twice is no longer than one that has all its members
  pub no_repeat_length : (ys zs : List A) → NoRepeat ys → Sub ys zs → length ys ≤ length zs
  unfolding In Sub NoRepeat
  no_repeat_length [] zs n h = zero-le
  no_repeat_length (y ∷ ys) zs n h =
      let (ws, len, rest) = taken_out y zs (h y (inl refl)) in
      let other : (a : A) → In a ys → a ≡ y → ⊥ = λ a i e. n.0 (in_equal ys e i) in
      let le = no_repeat_length ys ws n.1 (λ a i. not_left (other a i) (rest a (h a (inr i)))) in
      omega arith

  -- two lists with the same members, in which nothing stands twice, are equally long
  pub no_repeat_same : (xs ys : List A) → NoRepeat xs → NoRepeat ys → Sub xs ys → Sub ys xs → length xs ≡ length ys
  no_repeat_same xs ys n m h k = omega (arith, no_repeat_length xs ys n h, no_repeat_length ys xs m k)

-- ---- first appearances

-- the values of `xs` that have none the same before them, where `seen` stands before them all
record Firsts {A : Type 0} (same : A → A → Bool) (seen xs : List A) : Type 0 where
  values : List A
  once : NoRepeat values
  within : (a : A) → In a values → In a xs
  new : (a : A) → In a values → In a seen → ⊥
  all : (a : A) → In a xs → In a seen ⊎ In a values
  count : length values ≡ different_after same seen xs

module _ {A : Type 0} (same : A → A → Bool) (faithful : Faithful same) where
  -- something stands in a list or does not
  pub in_or-not : (a : A) (xs : List A) → In a xs ⊎ (In a xs → ⊥)
  in_or-not a xs =
      by_test (has same a xs) (λ t. inl (has_in same faithful a xs t)) (λ f. inr (has-not same faithful a xs f))

  -- a value that stood before is no first appearance
  firsts_old : (x : A) (seen xs : List A) → has same x seen ≡ true → Firsts same (x ∷ seen) xs
      → Firsts same seen (x ∷ xs)
  unfolding In Sub different_after
  firsts_old x seen xs t f =
      let old : (a : A) → In a (x ∷ seen) → In a seen = sub_in x seen seen (has_in same faithful x seen t) (sub_refl seen) in
      record {
        values = f.values;
        once = f.once;
        within = λ a i. inr (f.within a i);
        new = λ a i s. f.new a i (inr s);
        all = λ a h. ⊎_elim (λ e. inl (old a (inl e))) (λ i. ⊎_elim (λ s. inl (old a s)) inr (f.all a i)) h;
        count = rw (t, different_after) f.count;
      }

  -- a value that did not stand before is one
  firsts_new : (x : A) (seen xs : List A) → has same x seen ≡ false → Firsts same (x ∷ seen) xs
      → Firsts same seen (x ∷ xs)
  unfolding In NoRepeat different_after
  firsts_new x seen xs n f =
      let unseen = has-not same faithful x seen n in
      let later : (a : A) → In a xs → In a seen ⊎ In a (x ∷ f.values) =
      λ a i. ⊎_elim (λ k. ⊎_elim (λ e. inr (inl e)) inl k) (λ w. inr (inr w)) (f.all a i) in
      record {
        values = x ∷ f.values;
        once = (λ i. f.new x i (inl refl), f.once);
        within = λ a h. ⊎_elim inl (λ i. inr (f.within a i)) h;
        new = λ a h s. ⊎_elim (λ e. unseen (in_equal seen e s)) (λ i. f.new a i (inr s)) h;
        all = λ a h. ⊎_elim (λ e. inr (inl e)) (later a) h;
        count = rw (n, different_after) (ap suc f.count);
      }

  -- every list has its first appearances, whatever stands before it
  firsts : (seen xs : List A) → Firsts same seen xs
  unfolding In NoRepeat different_after
  firsts seen [] =
      record {
        values = [];
        once = tt;
        within = λ a i. i;
        new = λ a i s. i;
        all = λ a i. absurd i;
        count = refl;
      }
  firsts seen (x ∷ xs) =
      by_test (has same x seen)
      (λ t. firsts_old x seen xs t (firsts (x ∷ seen) xs))
      (λ n. firsts_new x seen xs n (firsts (x ∷ seen) xs))

  -- ---- how many different values

  -- every list has one with the same members in which nothing stands twice, as long as it has different values
  pub different-list : (xs : List A)
      → (ys : List A) × NoRepeat ys × Sub xs ys × Sub ys xs × (length ys ≡ different same xs)
  unfolding In Sub different
  different-list xs =
      let f = firsts [] xs in
      (f.values, f.once, λ a i. not_left (λ s. s) (f.all a i), f.within, f.count)

  -- more members, no fewer different values
  pub different_mono : (xs ys : List A) → Sub xs ys → different same xs ≤ different same ys
  different_mono xs ys h =
      let (us, once, all, within, count) = different-list xs in
      let (ws, once', all', within', count') = different-list ys in
      let le = no_repeat_length us ws once (sub_trans us xs ws within (sub_trans xs ys ws h all')) in
      omega arith

  -- the same members, as many different values
  pub different-same : (xs ys : List A) → Sub xs ys → Sub ys xs → different same xs ≡ different same ys
  different-same xs ys h k = omega (arith, different_mono xs ys h, different_mono ys xs k)

  -- the number of different values is the length of any list with the same members in which nothing stands twice
  pub different-is : (xs ys : List A) → NoRepeat ys → Sub xs ys → Sub ys xs → different same xs ≡ length ys
  different-is xs ys n h k =
      let (us, once, all, within, count) = different-list xs in
      sym count ∙ no_repeat_same us ys once n (sub_trans us xs ys within h) (sub_trans ys xs us k all)

  -- never more different values than places
  pub different-length : (xs : List A) → different same xs ≤ length xs
  different-length xs =
      let (us, once, all, within, count) = different-list xs in
      let le = no_repeat_length us xs once within in
      omega arith

  -- one more in front does not count where it stands behind: to count by what stands behind gives the same number
  pub different-cons_old : (x : A) (xs : List A) → has same x xs ≡ true → different same (x ∷ xs) ≡ different same xs
  unfolding In Sub
  different-cons_old x xs t =
      different-same (x ∷ xs) xs (sub_in x xs xs (has_in same faithful x xs t) (sub_refl xs)) (λ a i. inr i)

  -- and counts where it does not stand behind
  pub different-cons_new : (x : A) (xs : List A) → has same x xs ≡ false
      → different same (x ∷ xs) ≡ suc (different same xs)
  unfolding NoRepeat Sub
  different-cons_new x xs n =
      let (us, once, all, within, count) = different-list xs in
      let once' : NoRepeat (x ∷ us) = (λ i. has-not same faithful x xs n (within x i), once) in
      different-is (x ∷ xs) (x ∷ us) once' (sub-cons x xs us all) (sub-cons x us xs within) ∙ ap suc count

  -- one more at the end counts as one more in front does
  different_snoc : (xs : List A) (x : A) → different same (xs ++ (x ∷ [])) ≡ different same (x ∷ xs)
  different_snoc xs x = different-same (xs ++ (x ∷ [])) (x ∷ xs) (sub_snoc xs x) (snoc_sub xs x)

  -- it does not count where it stands before
  pub different_snoc_old : (xs : List A) (x : A) → has same x xs ≡ true
      → different same (xs ++ (x ∷ [])) ≡ different same xs
  different_snoc_old xs x t = different_snoc xs x ∙ different-cons_old x xs t

  -- and counts where it does not stand before
  pub different_snoc_new : (xs : List A) (x : A) → has same x xs ≡ false
      → different same (xs ++ (x ∷ [])) ≡ suc (different same xs)
  different_snoc_new xs x n = different_snoc xs x ∙ different-cons_new x xs n

-- different things, each shown by something different, are different
pub no_repeat_map : {A B : Type 0} (f : A → B) (ns : List A) → NoRepeat ns
    → ((a b : A) → In a ns → In b ns → f a ≡ f b → a ≡ b) → NoRepeat (map f ns)
unfolding NoRepeat In
no_repeat_map f [] n inj = tt
no_repeat_map f (a ∷ ns) n inj = (
  λ i.
      let (b, j, e) = in_map f ns (f a) i in
      n.0 (in_equal ns (sym (inj a b (inl refl) (inr j) e)) j),
  no_repeat_map f ns n.1 (λ b c i j. inj b c (inr i) (inr j)),
)

module _ {A : Type 0} (d : A) where
  -- what stands in a list stands at a place
  pub at_in : (xs : List A) (a : A) → In a xs → (i : ℕ) × (i < length xs) × (get_or xs i d ≡ a)
  unfolding In
  at_in [] a x' = elim x' [ ]
  at_in (x ∷ xs) a (inl e) = (0, omega arith, sym e)
  at_in (x ∷ xs) a (inr h) = let (i, l, e) = at_in xs a h in (suc i, omega arith, e)

  -- where nothing stands twice, different places have different things
  pub no_repeat_at : (xs : List A) → NoRepeat xs → (i j : ℕ) → i < length xs → j < length xs → get_or xs i d ≡ get_or xs j d → i ≡ j
  unfolding NoRepeat
  no_repeat_at [] n i j l m e = absurd (let z : ⊥ = omega arith in z)
  no_repeat_at (x ∷ xs) n zero zero l m e = refl
  no_repeat_at (x ∷ xs) n zero (suc j) l m e = absurd (n.0 (in_equal xs (sym e) (in_at xs j d (omega arith))))
  no_repeat_at (x ∷ xs) n (suc i) zero l m e = absurd (n.0 (in_equal xs e (in_at xs i d (omega arith))))
  no_repeat_at (x ∷ xs) n (suc i) (suc j) l m e = ap suc (no_repeat_at xs n.1 i j (omega arith) (omega arith) e)

  -- and the other way round
  pub at_no_repeat : (xs : List A) → ((i j : ℕ) → i < length xs → j < length xs → get_or xs i d ≡ get_or xs j d → i ≡ j) → NoRepeat xs
  unfolding NoRepeat
  at_no_repeat [] h = tt
  at_no_repeat (x ∷ xs) h = (
    λ i.
        let (k, l, e) = at_in xs x i in
        let z : suc k ≡ 0 = h (suc k) 0 (omega arith) (omega arith) e in
        let f : ⊥ = omega arith in
        f,
    at_no_repeat xs (λ i j l m e. let z : suc i ≡ suc j = h (suc i) (suc j) (omega arith) (omega arith) e in let w : i ≡ j = omega arith in w),
  )

-- where nothing stands twice, nothing does among those that pass
pub those-once : {A : Type 0} (test : A → Bool) (xs : List A) → NoRepeat xs → NoRepeat (those test xs)
unfolding NoRepeat those
those-once test [] n = tt
those-once test (x ∷ xs) n =
    let rest = those-once test xs n.1 in
    by_test (test x) (λ t. rw (t, those) (λ i. n.0 (in_those test xs x i).0, rest)) (λ f. rw (f, those) rest)

-- those that pass are no more than all
pub those-length : {A : Type 0} (test : A → Bool) (xs : List A) → length (those test xs) ≤ length xs
unfolding those
those-length test [] = omega arith
those-length test (x ∷ xs) =
    let rest = those-length test xs in
    by_test (test x) (λ t. rw (t, those) (omega (arith, rest))) (λ f. rw (f, those) (omega (arith, rest)))
