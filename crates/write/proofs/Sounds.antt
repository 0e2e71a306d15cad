-- Each item of a sheet that keeps the rules is sound. By one item more in front.
use mathlib.Core.Path.{◌≡◌, refl, ◌∙◌, ap}
use mathlib.Core.Logic.{inl, inr, ⊎_elim}
use mathlib.Core.Bool.{Bool, true, not}
use mathlib.Core.List.{List, [], ◌∷◌, ◌++◌, map}
use mathlib.Core.Option.{none}
use Prim.Native.Nat.{ℕ, ◌≤◌, ◌<◌}
use native.Mathlib.Omega.{arith}
use lib.ListN.{length}
use lib.Dec.{eqb}
use borrow.Author.Tests.{le-leb, lt-ltb, ne_eqb}
use Rattle.plan.specs.Lists.{In, numbers}
use Rattle.plan.specs.Reader.{Fault}
use Rattle.plan.specs.Sheet.{Register, LookUp, Sheet, used, first_unused}
use Rattle.plan.specs.Write.{Item, sound, padding, item, count_item, name_item, variables_item, value_item}
use Rattle.plan.specs.Write.{header_items, register_items, given_items, look_up_items, unused_items, all_items, sheet_items}
use Rattle.plan.specs.Write.{is_sound}
use Rattle.plan.proofs.Lists.{in_append, in_map, in_front, in_behind, in_head, in_tail, in_has, and_of, eqb_faithful}
use Rattle.plan.proofs.Numbers.{in_numbers}
use Rattle.plan.proofs.Items.{item_pass, variables_pass, unused_none}
use Rattle.sheet.specs.Fine.{FineRegister, FineLookUp, Fine}
use Rattle.sheet.proofs.Used.{unused_on}

-- ---- lists of sound items

-- each of the items is sound
abbrev pub Sounds : List Item → Type 0
Sounds is = (i : Item) → In i is → is_sound i ≡ true

-- no items
sounds-nil : Sounds []
unfolding In
sounds-nil i h = absurd h

-- one more in front
sounds-cons : (i : Item) (is : List Item) → is_sound i ≡ true → Sounds is → Sounds (i ∷ is)
unfolding In
sounds-cons i is s more j (inl e) = ap is_sound e ∙ s
sounds-cons i is s more j (inr h) = more j h

-- one list behind another
sounds-append : (is js : List Item) → Sounds is → Sounds js → Sounds (is ++ js)
sounds-append is js s t i h = ⊎_elim (s i) (t i) (in_append i is js h)

-- the images of a list
sounds-map : {A : Type 0} (f : A → Item) (xs : List A) → ((a : A) → In a xs → is_sound (f a) ≡ true) → Sounds (map f xs)
sounds-map f xs h i j = let (a, k, e) = in_map f xs i j in ap is_sound e ∙ h a k

-- the items of each of a list
sounds-all : {A : Type 0} (items : A → List Item) (xs : List A) → ((a : A) → In a xs → Sounds (items a))
    → Sounds (all_items items xs)
unfolding all_items
sounds-all items [] h = sounds-nil
sounds-all items (a ∷ xs) h =
    sounds-append (items a) (all_items items xs) (h a (in_head a xs))
    (sounds-all items xs (λ b i. h b (in_tail b a xs i)))

-- ---- each kind of item

-- bits are sound
bits-sound : (bs : List Bool) → is_sound (sound bs) ≡ true
unfolding is_sound
bits-sound bs = refl

-- a number that passes its test is
item-sound : (w : ℕ) (test : ℕ → Bool) (fault : Fault) (x : ℕ) → test x ≡ true → is_sound (item w test fault x) ≡ true
item-sound w test fault x t = ap is_sound (item_pass w test fault x t) ∙ bits-sound _

-- a count within its range
count_sound : (w low high x : ℕ) → low ≤ x → x ≤ high → is_sound (count_item w low high x) ≡ true
unfolding count_item
count_sound w low high x a b = item-sound w _ _ x (and_of (le-leb low x a) (le-leb x high b))

-- a name of one that is there
name-sound : (n x : ℕ) → x < n → is_sound (name_item n x) ≡ true
unfolding name_item
name-sound n x h = item-sound 4 _ _ x (lt-ltb x n h)

-- a number of variables from 1 to 16
variables-sound : (v : ℕ) → 1 ≤ v → v ≤ 16 → is_sound (variables_item v) ≡ true
variables-sound v a b = ap is_sound (variables_pass v (and_of (le-leb 1 v a) (le-leb v 16 b))) ∙ bits-sound _

-- a value that is not 0
value-sound : (x : ℕ) → (x ≡ 0 → ⊥) → is_sound (value_item x) ≡ true
unfolding value_item
value-sound x n = item-sound 32 _ _ x (ap not (ne_eqb x 0 n))

-- ---- variables that are used

-- a given variable is used
used-given : (given : List ℕ) (ls : List LookUp) (v : ℕ) → In v given → In v (used given ls)
unfolding used
used-given given [] v i = i
used-given given (l ∷ ls) v i = in_behind v l.vars (used given ls) (used-given given ls v i)

-- so is one of a look-up
used-asked : (given : List ℕ) (ls : List LookUp) (l : LookUp) → In l ls → (v : ℕ) → In v l.vars
    → In v (used given ls)
unfolding used In
used-asked given [] l h v i = elim h [ ]
used-asked given (k ∷ ls) l (inl e) v i =
    in_front v k.vars (used given ls) (rw (ap (λ (x : LookUp). x.vars) e) at i)
used-asked given (k ∷ ls) l (inr h) v i = in_behind v k.vars (used given ls) (used-asked given ls l h v i)

-- where each is used, none is the first that is not
none_first : (us vs : List ℕ) → ((v : ℕ) → In v vs → In v us) → first_unused us vs ≡ none
unfolding first_unused
none_first us [] h = refl
none_first us (v ∷ vs) h =
    unused_on us v vs (in_has eqb eqb_faithful v us (h v (in_head v vs)))
    ∙ none_first us vs (λ u i. h u (in_tail u v vs i))

-- ---- the sheet

-- the items of a register
register-sounds : (r : Register) → FineRegister r → Sounds (register_items r)
unfolding register_items
register-sounds r f =
    sounds-cons _ _ (count_sound 3 1 6 r.columns f.columns-low f.columns-high)
    (sounds-cons _ _ (count_sound 4 1 8 (length r.rules) f.rules-low f.rules-high)
    (sounds-map sound r.rules (λ m i. bits-sound m)))

-- the items of a look-up
look_up-sounds : (s : Sheet) (l : LookUp) → FineLookUp s l
    → Sounds (look_up_items (length s.registers) s.variables l)
unfolding look_up_items
look_up-sounds s l f =
    sounds-cons _ _ (name-sound (length s.registers) l.register f.register-low)
    (sounds-map (name_item s.variables) l.vars (λ v i. name-sound s.variables v (f.vars-low v i)))

-- no item tells of a variable
used-sounds : (s : Sheet) → Fine s → Sounds (unused_items s.variables (used s.given s.look_ups))
used-sounds s f =
    let us = used s.given s.look_ups in
    let all : (v : ℕ) → In v (numbers 0 s.variables) → In v us =
    λ v i.
    ⊎_elim (used-given s.given s.look_ups v)
    (λ (x : (l : LookUp) × In l s.look_ups × In v l.vars).
    used-asked s.given s.look_ups x.0 x.1 v x.2)
    (f.all-used v (omega (arith, (in_numbers 0 s.variables v i).1))) in
    rw (unused_none s.variables us (none_first us (numbers 0 s.variables) all)) sounds-nil

-- each item of a fine sheet whose given values are not 0 is sound
pub fine-sounds : (s : Sheet) → Fine s → ((x : ℕ) → In x s.values → x ≡ 0 → ⊥) → Sounds (sheet_items s)
unfolding sheet_items header_items given_items is_sound
fine-sounds s f told =
    let header : Sounds (header_items (length s.registers) s.variables (length s.look_ups)) =
    sounds-cons _ _ refl
    (sounds-cons _ _ (count_sound 4 1 12 (length s.registers) f.registers-low f.registers-high)
    (sounds-cons _ _ (variables-sound s.variables f.variables-low f.variables-high)
    (sounds-cons _ _ (count_sound 4 1 12 (length s.look_ups) f.look_ups-low f.look_ups-high) sounds-nil))) in
    let given : Sounds (given_items s.variables s.given s.values) =
    sounds-cons _ _ refl (sounds-map value_item s.values (λ x i. value-sound x (told x i))) in
    sounds-append _ _ header
    (sounds-append _ _ (sounds-all register_items s.registers (λ r i. register-sounds r (f.registers-fine r i)))
    (sounds-append _ _ given
    (sounds-append _ _
    (sounds-all (look_up_items (length s.registers) s.variables) s.look_ups
    (λ l i. look_up-sounds s l (f.look_ups-fine l i)))
    (sounds-append _ _ (used-sounds s f) (sounds-cons padding [] refl sounds-nil)))))
