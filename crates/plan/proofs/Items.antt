-- Laws of the items of a sheet: bits in front of what is written, each kind of item, items one behind the other, and the
-- items of each of a list. By one item more in front.
use mathlib.Core.Path.{◌≡◌, refl, sym, ◌∙◌, ap}
use mathlib.Core.Bool.{Bool, true, false, ◌&&◌}
use mathlib.Core.List.{List, [], ◌∷◌, ◌++◌, map, append_assoc, append-nil}
use mathlib.Core.Option.{none, some}
use Prim.Native.Nat.{ℕ, ◌+◌, ◌-◌}
use native.Mathlib.Omega.{arith}
use lib.ListN.{length, replicate, length-append, length-replicate}
use lib.Dec.{leb}
use Rattle.plan.specs.Reader.{Fault, unused_variable, count_out}
use Rattle.plan.specs.Lists.{numbers}
use Rattle.plan.specs.Sheet.{first_unused, to_full_byte}
use Rattle.plan.specs.Write.{marks_of, Item, sound, broken, unused, padding, Written, put, refused}
use Rattle.plan.specs.Write.{item, variables_item, unused_items, all_items, behind, written}
use Rattle.plan.proofs.Lists.{by_test}

-- what is written is not refused
pub put_refused {ℓ} : {A : Type 0} {P : Type ℓ} {a : A} {fault : Fault} {detail : ℕ} → put a ≡ refused fault detail → P
put_refused e = absurd (let z : ◌≡◌ {A = ℕ} 0 1 = cc in omega arith)

-- ---- bits in front

-- no bits in front change nothing
pub behind-nil : (w : Written (List Bool)) → behind [] w ≡ w
unfolding behind
behind-nil (put bs) = refl
behind-nil (refused fault detail) = refl

-- bits in front of bits in front
pub behind-behind : (xs bs : List Bool) (w : Written (List Bool)) → behind xs (behind bs w) ≡ behind (xs ++ bs) w
unfolding behind
behind-behind xs bs (put cs) = ap put (sym (append_assoc xs bs cs))
behind-behind xs bs (refused fault detail) = refl

-- bits in front of bits
pub behind-bits : (bs cs : List Bool) → behind bs (put cs) ≡ put (bs ++ cs)
unfolding behind
behind-bits bs cs = refl

-- bits in front of a refusal
pub behind_fault : (bs : List Bool) (fault : Fault) (detail : ℕ)
    → behind bs (refused fault detail) ≡ refused fault detail
unfolding behind
behind_fault bs fault detail = refl

-- where bits with something behind them are written, so is what is behind them
pub behind-put : (bs : List Bool) (w : Written (List Bool)) (cs : List Bool) → behind bs w ≡ put cs
    → (ds : List Bool) × (w ≡ put ds) × (cs ≡ bs ++ ds)
unfolding behind
behind-put bs (put ds) cs e = (ds, refl, cc)
behind-put bs (refused fault detail) cs e = put_refused (sym e)

-- where bits with something behind them are refused, what is behind them is
pub behind-refused : (bs : List Bool) (w : Written (List Bool)) (fault : Fault) (detail : ℕ)
    → behind bs w ≡ refused fault detail → w ≡ refused fault detail
unfolding behind
behind-refused bs (put ds) fault detail e = put_refused e
behind-refused bs (refused f d) fault detail e = e

-- ---- one item

-- no items make no bits
pub written-nil : (at : ℕ) → written [] at ≡ put []
unfolding written
written-nil at = refl

module _ (is : List Item) (at : ℕ) where
  -- a sound item's bits, and then the rest
  pub written-sound : (bs : List Bool) → written (sound bs ∷ is) at ≡ behind bs (written is (at + length bs))
  unfolding written
  written-sound bs = refl

  -- a broken item is refused at its place
  pub written-broken : (fault : Fault) → written (broken fault ∷ is) at ≡ refused fault at
  unfolding written
  written-broken fault = refl

  -- a variable that is not used is told
  pub written-unused : (v : ℕ) → written (unused v ∷ is) at ≡ refused unused_variable v
  unfolding written
  written-unused v = refl

  -- zero bits up to a full byte, and then the rest
  pub written-padding : written (padding ∷ is) at
      ≡ behind (replicate (to_full_byte at) false) (written is (at + to_full_byte at))
  unfolding written
  written-padding = refl

-- one sound item alone
pub written_one : (bs : List Bool) (at : ℕ) → written (sound bs ∷ []) at ≡ put bs
unfolding written behind
written_one bs at = ap put (append-nil bs)

module _ (w : ℕ) (test : ℕ → Bool) (fault : Fault) (x : ℕ) where
  -- a number that passes is a sound item
  pub item_pass : test x ≡ true → item w test fault x ≡ sound (marks_of w x)
  unfolding item
  item_pass t = rw (t, item)

  -- a number that fails is a broken one
  pub item_fail : test x ≡ false → item w test fault x ≡ broken fault
  unfolding item
  item_fail t = rw (t, item)

  -- where a number is written in front of others, it passes
  pub item-put : (is : List Item) (at : ℕ) (cs : List Bool) → written (item w test fault x ∷ is) at ≡ put cs
      → test x ≡ true
  item-put is at cs e =
      by_test (test x) (λ t. t)
      (λ f. put_refused (sym e ∙ ap (λ i. written (i ∷ is) at) (item_fail f) ∙ written-broken is at fault))

module _ (v : ℕ) where
  -- a number of variables from 1 to 16 is a sound item
  pub variables_pass : (leb 1 v && leb v 16) ≡ true → variables_item v ≡ sound (marks_of 4 (v - 1))
  unfolding variables_item
  variables_pass t = rw (t, variables_item)

  -- any other is a broken one
  pub variables_fail : (leb 1 v && leb v 16) ≡ false → variables_item v ≡ broken count_out
  unfolding variables_item
  variables_fail t = rw (t, variables_item)

  -- where a number of variables is written in front of others, it is from 1 to 16
  pub variables-put : (is : List Item) (at : ℕ) (cs : List Bool) → written (variables_item v ∷ is) at ≡ put cs
      → (leb 1 v && leb v 16) ≡ true
  variables-put is at cs e =
      by_test (leb 1 v && leb v 16) (λ t. t)
      (λ f. put_refused (sym e ∙ ap (λ i. written (i ∷ is) at) (variables_fail f) ∙ written-broken is at count_out))

module _ (variables : ℕ) (us : List ℕ) where
  -- where all variables are used, no item tells one
  pub unused_none : first_unused us (numbers 0 variables) ≡ none → unused_items variables us ≡ []
  unfolding unused_items
  unused_none e = rw (e, unused_items)

  -- the lowest that is not used is told
  pub unused-some : (v : ℕ) → first_unused us (numbers 0 variables) ≡ some v → unused_items variables us ≡ unused v ∷ []
  unfolding unused_items
  unused-some v e = rw (e, unused_items)

-- ---- items one behind the other

-- what is written, and then what the bits so far ask for
abbrev follow : Written (List Bool) → (List Bool → Written (List Bool)) → Written (List Bool)
follow (put bs) more = behind bs (more bs)
follow (refused fault detail) more = refused fault detail

follow_behind : (xs : List Bool) (w : Written (List Bool)) (at : ℕ) (js : List Item)
    → follow (behind xs w) (λ bs. written js (at + length bs))
    ≡ behind xs (follow w (λ bs. written js ((at + length xs) + length bs)))
unfolding behind
follow_behind xs (put bs) at js =
    let e : (at + length xs) + length bs ≡ at + length (xs ++ bs) = omega (arith, length-append xs bs) in
    rw e (sym (behind-behind xs bs (written js (at + length (xs ++ bs)))))
follow_behind xs (refused fault detail) at js = refl

written_follow : (is js : List Item) (at : ℕ)
    → written (is ++ js) at ≡ follow (written is at) (λ bs. written js (at + length bs))
unfolding written
written_follow [] js at =
    let e : at + 0 ≡ at = omega arith in
    rw e (sym (behind-nil (written js at)))
written_follow (sound xs ∷ is) js at =
    ap (behind xs) (written_follow is js (at + length xs)) ∙ sym (follow_behind xs (written is (at + length xs)) at js)
written_follow (broken fault ∷ is) js at = refl
written_follow (unused v ∷ is) js at = refl
written_follow (padding ∷ is) js at =
    let xs = replicate (to_full_byte at) false in
    let e : to_full_byte at ≡ length xs = sym (length-replicate (to_full_byte at) false) in
    ap (λ n. behind xs (written (is ++ js) (at + n))) e
    ∙ ap (behind xs) (written_follow is js (at + length xs))
    ∙ sym (follow_behind xs (written is (at + length xs)) at js)
    ∙ ap (λ n. follow (behind xs (written is (at + n))) (λ bs. written js (at + length bs))) (sym e)

module _ (is js : List Item) (at : ℕ) where
  -- what is behind items that are written
  pub written-append : (bs : List Bool) → written is at ≡ put bs
      → written (is ++ js) at ≡ behind bs (written js (at + length bs))
  written-append bs e = written_follow is js at ∙ ap (λ w. follow w (λ cs. written js (at + length cs))) e

  -- nothing is behind items that are refused
  pub written_stop : (fault : Fault) (detail : ℕ) → written is at ≡ refused fault detail
      → written (is ++ js) at ≡ refused fault detail
  written_stop fault detail e = written_follow is js at ∙ ap (λ w. follow w (λ cs. written js (at + length cs))) e

  -- both parts written
  pub written_both : (bs cs : List Bool) → written is at ≡ put bs → written js (at + length bs) ≡ put cs
      → written (is ++ js) at ≡ put (bs ++ cs)
  written_both bs cs e h = written-append bs e ∙ ap (behind bs) h ∙ behind-bits bs cs

  -- where items one behind the other are written, both parts are
  pub written-parts : (cs : List Bool) → written (is ++ js) at ≡ put cs
      → (bs ds : List Bool) × (written is at ≡ put bs) × (written js (at + length bs) ≡ put ds) × (cs ≡ bs ++ ds)
  written-parts cs e = go (written is at) refl
    where
      go : (w : Written (List Bool)) → written is at ≡ w
          → (bs ds : List Bool) × (written is at ≡ put bs) × (written js (at + length bs) ≡ put ds) × (cs ≡ bs ++ ds)
      go (put bs) h =
          let (ds, m, s) = behind-put bs (written js (at + length bs)) cs (sym (written-append bs h) ∙ e) in
          (bs, ds, h, m, s)
      go (refused fault detail) h = put_refused (sym e ∙ written_stop fault detail h)

-- ---- the items of each of a list

module _ {A : Type 0} (items : A → List Item) where
  -- one more in front
  pub all_items-cons : (a : A) (more : List A) → all_items items (a ∷ more) ≡ items a ++ all_items items more
  unfolding all_items
  all_items-cons a more = refl

  -- one list behind another
  pub all_items-append : (xs bs : List A) → all_items items (xs ++ bs) ≡ all_items items xs ++ all_items items bs
  unfolding all_items
  all_items-append [] bs = refl
  all_items-append (a ∷ xs) bs =
      ap (λ is. items a ++ is) (all_items-append xs bs)
      ∙ sym (append_assoc (items a) (all_items items xs) (all_items items bs))

  -- one more at the end
  pub all_items-more : (xs : List A) (a : A) → all_items items (xs ++ (a ∷ [])) ≡ all_items items xs ++ items a
  unfolding all_items
  all_items-more xs a =
      all_items-append xs (a ∷ []) ∙ ap (λ is. all_items items xs ++ is) (append-nil (items a))

-- where each has one item, they are the images
pub all_items-map : {A : Type 0} (f : A → Item) (xs : List A) → all_items (λ a. f a ∷ []) xs ≡ map f xs
unfolding all_items
all_items-map f [] = refl
all_items-map f (a ∷ xs) = ap (λ is. f a ∷ is) (all_items-map f xs)
