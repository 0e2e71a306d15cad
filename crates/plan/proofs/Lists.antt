-- Laws of `specs/Lists.antt`: what a test that passed or failed says, standing in a list, tests of sameness.
use mathlib.Core.Path.{◌≡◌, refl, sym, ◌∙◌, ap, subst}
use mathlib.Core.Logic.{◌⊎◌, inl, inr, ⊎_elim}
use mathlib.Core.Bool.{Bool, true, false, ◌&&◌, ◌||◌}
use mathlib.Core.List.{List, [], ◌∷◌, ◌++◌, map}
use Prim.Native.Nat.{ℕ}
use lib.Dec.{eqb}
use borrow.Author.Tests.{eqb-true, eq-eqb}
use Rattle.plan.specs.Lists.{In, Sub, every, those, has, eq_row}

-- a test passes or fails
pub by_test {ℓ} : {P : Type ℓ} (b : Bool) → (b ≡ true → P) → (b ≡ false → P) → P
by_test true t f = t refl
by_test false t f = f refl

-- no test both passes and fails
pub clash {ℓ} : {P : Type ℓ} {b : Bool} → b ≡ true → b ≡ false → P
clash t f = absurd (let z : ◌≡◌ {A = Bool} true false = cc in mathlib.Core.Bool.true≢false z)

-- a test that does not pass fails
pub fails : (b : Bool) → (b ≡ true → ⊥) → b ≡ false
fails b n = by_test b (λ t. absurd (n t)) (λ f. f)

-- two tests of which each passes where the other does are the same
pub tests_same : (a b : Bool) → (a ≡ true → b ≡ true) → (b ≡ true → a ≡ true) → a ≡ b
tests_same true b h k = sym (h refl)
tests_same false b h k = sym (fails b (λ t. clash (k t) refl))

-- both tests pass where their conjunction does
pub and_left : (a b : Bool) → (a && b) ≡ true → a ≡ true
and_left true b h = refl
and_left false b h = h

pub and_right : (a b : Bool) → (a && b) ≡ true → b ≡ true
and_right true b h = h
and_right false b h = clash h refl

-- the conjunction passes where both tests do
pub and_of : {a b : Bool} → a ≡ true → b ≡ true → (a && b) ≡ true
and_of p q = rw (p, q)

-- one of two tests passes where their disjunction does
pub or_cases : (a b : Bool) → (a || b) ≡ true → (a ≡ true) ⊎ (b ≡ true)
or_cases true b h = inl refl
or_cases false b h = inr h

-- the disjunction passes where its second test does
pub or_right : (a : Bool) {b : Bool} → b ≡ true → (a || b) ≡ true
or_right true h = refl
or_right false h = h

-- both tests fail where their disjunction does
pub or_none_left : (a b : Bool) → (a || b) ≡ false → a ≡ false
or_none_left true b h = h
or_none_left false b h = refl

pub or_none_right : (a b : Bool) → (a || b) ≡ false → b ≡ false
or_none_right true b h = clash refl h
or_none_right false b h = h

module _ {A : Type 0} where
  -- what stands in two lists, one behind the other, stands in one of them
  pub in_append : (a : A) (xs ys : List A) → In a (xs ++ ys) → In a xs ⊎ In a ys
  unfolding In
  in_append a [] ys h = inr h
  in_append a (x ∷ xs) ys (inl e) = inl (inl e)
  in_append a (x ∷ xs) ys (inr h) = ⊎_elim (λ l. inl (inr l)) inr (in_append a xs ys h)

  pub in_front : (a : A) (xs ys : List A) → In a xs → In a (xs ++ ys)
  unfolding In
  in_front a [] ys x' = elim x' [ ]
  in_front a (x ∷ xs) ys (inl e) = inl e
  in_front a (x ∷ xs) ys (inr h) = inr (in_front a xs ys h)

  pub in_behind : (a : A) (xs ys : List A) → In a ys → In a (xs ++ ys)
  unfolding In
  in_behind a [] ys h = h
  in_behind a (x ∷ xs) ys h = inr (in_behind a xs ys h)

  -- the head stands in its list, and so does what stands in the rest
  pub in_head : (a : A) (xs : List A) → In a (a ∷ xs)
  unfolding In
  in_head a xs = inl refl

  pub in_tail : (a x : A) (xs : List A) → In a xs → In a (x ∷ xs)
  unfolding In
  in_tail a x xs h = inr h

  pub in_cons : (a x : A) (xs : List A) → In a (x ∷ xs) → (a ≡ x) ⊎ In a xs
  unfolding In
  in_cons a x xs h = h

  pub in_nil : (a : A) → In a [] → ⊥
  unfolding In
  in_nil a h = h

  -- one more in front of both
  pub sub-cons : (x : A) (xs ys : List A) → Sub xs ys → Sub (x ∷ xs) (x ∷ ys)
  unfolding In Sub
  sub-cons x xs ys h a (inl e) = inl e
  sub-cons x xs ys h a (inr i) = inr (h a i)

  -- one more in front of a part of a list in which it stands
  pub sub_in : (x : A) (xs ys : List A) → In x ys → Sub xs ys → Sub (x ∷ xs) ys
  unfolding In Sub
  sub_in x xs ys i h a (inl e) = subst (λ (b : A). In b ys) (sym e) i
  sub_in x xs ys i h a (inr j) = h a j

  pub sub_tail : (x : A) (xs ys : List A) → Sub xs ys → Sub xs (x ∷ ys)
  unfolding In Sub
  sub_tail x xs ys h a i = inr (h a i)

  pub sub_refl : (xs : List A) → Sub xs xs
  unfolding Sub
  sub_refl xs a i = i

  pub sub-nil : (xs : List A) → Sub [] xs
  unfolding In Sub
  sub-nil xs a i = absurd i

  -- each element passes where `every` does
  pub every_in : (test : A → Bool) (xs : List A) → every test xs ≡ true → (a : A) → In a xs → test a ≡ true
  unfolding In every
  every_in test [] h a x'' = elim x'' [ ]
  every_in test (x ∷ xs) h a (inl e) = rw e (and_left (test x) (every test xs) h)
  every_in test (x ∷ xs) h a (inr i) = every_in test xs (and_right (test x) (every test xs) h) a i

  pub every_of : (test : A → Bool) (xs : List A) → ((a : A) → In a xs → test a ≡ true) → every test xs ≡ true
  unfolding In every
  every_of test [] h = refl
  every_of test (x ∷ xs) h = and_of (h x (inl refl)) (every_of test xs (λ a i. h a (inr i)))

  -- what stands among those that pass stands in the list, and passes
  pub in_those : (test : A → Bool) (xs : List A) (a : A) → In a (those test xs) → In a xs × (test a ≡ true)
  unfolding In those
  in_those test [] a h = elim h [ ]
  in_those test (x ∷ xs) a h =
      by_test (test x)
      (λ t.
      ⊎_elim (λ e. (inl e, ap test e ∙ t)) (λ i. let (j, u) = in_those test xs a i in (inr j, u))
      (subst (In a) (let e : those test (x ∷ xs) ≡ x ∷ those test xs = rw (t, those) in e) h))
      (λ f.
      let (j, u) = in_those test xs a (subst (In a) (let e : those test (x ∷ xs) ≡ those test xs = rw (f, those) in e) h) in
      (inr j, u))

  -- and the other way round
  pub those_in : (test : A → Bool) (xs : List A) (a : A) → In a xs → test a ≡ true → In a (those test xs)
  unfolding In those
  those_in test [] a x'' t = elim x'' [ ]
  those_in test (x ∷ xs) a (inl e) t = rw (ap test (sym e) ∙ t, those) (inl e)
  those_in test (x ∷ xs) a (inr i) t =
      let rest = those_in test xs a i t in
      by_test (test x) (λ u. rw (u, those) (inr rest)) (λ f. rw (f, those) rest)

  -- where all pass, those are all
  pub those-all : (test : A → Bool) (xs : List A) → ((a : A) → In a xs → test a ≡ true) → those test xs ≡ xs
  unfolding In those
  those-all test [] h = refl
  those-all test (x ∷ xs) h = rw (h x (inl refl), those) (ap (λ ys. x ∷ ys) (those-all test xs (λ a i. h a (inr i))))

  -- of two lists, one behind the other, those of the first and then those of the second
  pub those-append : (test : A → Bool) (xs ys : List A) → those test (xs ++ ys) ≡ those test xs ++ those test ys
  unfolding those
  those-append test [] ys = refl
  those-append test (x ∷ xs) ys =
      let rest = those-append test xs ys in
      by_test (test x) (λ t. rw (t, those) (ap (λ zs. x ∷ zs) rest)) (λ f. rw (f, those) rest)

  -- one element: it is left where it passes, and nothing where it does not
  pub those-one : (test : A → Bool) (x : A) → test x ≡ true → those test (x ∷ []) ≡ x ∷ []
  unfolding those
  those-one test x t = rw (t, those)

  pub those_none : (test : A → Bool) (x : A) → test x ≡ false → those test (x ∷ []) ≡ []
  unfolding those
  those_none test x f = rw (f, those)

  -- tests that agree on the list leave the same
  pub those-same : (test other : A → Bool) (xs : List A) → ((a : A) → In a xs → test a ≡ other a) → those test xs ≡ those other xs
  unfolding In those
  those-same test other [] h = refl
  those-same test other (x ∷ xs) h =
      let rest = those-same test other xs (λ a i. h a (inr i)) in
      let same = h x (inl refl) in
      by_test (other x)
      (λ t. rw (same ∙ t, those) (rw (t, those) (ap (λ ys. x ∷ ys) rest)))
      (λ f. rw (same ∙ f, those) (rw (f, those) rest))

  -- of a list that stands in another, those that pass stand among those of the other
  pub those-sub : (test : A → Bool) (xs ys : List A) → Sub xs ys → Sub (those test xs) (those test ys)
  unfolding Sub
  those-sub test xs ys h a i = let (j, t) = in_those test xs a i in those_in test ys a (h a j) t

module _ {A B : Type 0} (f : A → B) where
  -- what stands in a mapped list is the image of something
  pub in_map : (xs : List A) (b : B) → In b (map f xs) → (a : A) × In a xs × (b ≡ f a)
  unfolding In
  in_map [] b x' = elim x' [ ]
  in_map (x ∷ xs) b (inl e) = (x, inl refl, e)
  in_map (x ∷ xs) b (inr h) = let r = in_map xs b h in (r.0, inr r.1, r.2)

  pub map_in : (xs : List A) (a : A) → In a xs → In (f a) (map f xs)
  unfolding In
  map_in [] a x' = elim x' [ ]
  map_in (x ∷ xs) a (inl e) = inl (ap f e)
  map_in (x ∷ xs) a (inr h) = inr (map_in xs a h)

-- functions that agree on the elements have the same images
pub map_same : {A B : Type 0} (f g : A → B) (xs : List A) → ((a : A) → In a xs → f a ≡ g a) → map f xs ≡ map g xs
unfolding In
map_same f g [] h = refl
map_same f g (x ∷ xs) h = let e = h x (inl refl) in let es = map_same f g xs (λ a i. h a (inr i)) in cc

-- a test of sameness that passes exactly for equal things
pub record Faithful {A : Type 0} (same : A → A → Bool) : Type 0 where
  pub equal : (x y : A) → same x y ≡ true → x ≡ y
  pub self : (x : A) → same x x ≡ true

module _ {A : Type 0} (same : A → A → Bool) where
  -- the test whether something stands in one of two lists, one behind the other
  pub has-append : (a : A) (xs ys : List A) → has same a (xs ++ ys) ≡ (has same a xs || has same a ys)
  unfolding has
  has-append a [] ys = refl
  has-append a (x ∷ xs) ys = by_test (same a x) (λ t. rw t) (λ f. rw f (has-append a xs ys))

module _ {A : Type 0} (same : A → A → Bool) (faithful : Faithful same) where
  -- the test whether something stands in a list says just that
  pub has_in : (a : A) (xs : List A) → has same a xs ≡ true → In a xs
  unfolding In has
  has_in a (x ∷ xs) h =
      ⊎_elim (λ e. inl (faithful.equal a x e)) (λ l. inr (has_in a xs l)) (or_cases (same a x) (has same a xs) h)
  has_in a [] h = clash h refl

  pub in_has : (a : A) (xs : List A) → In a xs → has same a xs ≡ true
  unfolding In has
  in_has a [] x' = elim x' [ ]
  in_has a (x ∷ xs) (inl e) = rw (ap (same a) (sym e), faithful.self a)
  in_has a (x ∷ xs) (inr h) = or_right (same a x) (in_has a xs h)

  pub has-not : (a : A) (xs : List A) → has same a xs ≡ false → In a xs → ⊥
  has-not a xs f h = clash (in_has a xs h) f

  pub not-has : (a : A) (xs : List A) → (In a xs → ⊥) → has same a xs ≡ false
  not-has a xs n = fails (has same a xs) (λ t. n (has_in a xs t))

pub eqb_faithful : Faithful eqb
eqb_faithful = record { equal = eqb-true; self = λ x. eq-eqb x x refl }

-- rows are the same by the test exactly when they are equal
pub eq_row_equal : (x y : List ℕ) → eq_row x y ≡ true → x ≡ y
unfolding eq_row
eq_row_equal [] [] h = refl
eq_row_equal [] (y ∷ ys) h = clash h refl
eq_row_equal (x ∷ xs) [] h = clash h refl
eq_row_equal (x ∷ xs) (y ∷ ys) h =
    let e = eqb-true x y (and_left (eqb x y) (eq_row xs ys) h) in
    let es = eq_row_equal xs ys (and_right (eqb x y) (eq_row xs ys) h) in
    cc

pub eq_row_self : (x : List ℕ) → eq_row x x ≡ true
unfolding eq_row
eq_row_self [] = refl
eq_row_self (x ∷ xs) = and_of (eq-eqb x x refl) (eq_row_self xs)

pub eq_row_faithful : Faithful eq_row
eq_row_faithful = record { equal = eq_row_equal; self = eq_row_self }
