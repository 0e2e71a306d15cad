-- Readers that give back the value whose items were written: one law for each reader of a sheet, and one for each way to
-- put readers together.
use mathlib.Core.Path.{◌≡◌, refl, sym, ◌∙◌, ap, ap₂, subst}
use mathlib.Core.Bool.{Bool, true, false}
use mathlib.Core.List.{List, [], ◌∷◌, ◌++◌, map, append-nil}
use mathlib.Core.Option.{Option, none, some}
use Prim.Native.Nat.{ℕ, zero, suc, ◌+◌, ◌-◌, ◌*◌, ◌^◌, ◌≤◌, ◌<◌}
use native.Mathlib.Omega.{arith}
use lib.ListN.{length, get_or, replicate, length-append, length-replicate}
use lib.Seq.{append_snoc}
use lib.Dec.{leb}
use borrow.Author.Tests.{leb-true, ltb-true}
use Rattle.plan.specs.Lists.{In, numbers}
use Rattle.plan.specs.Request.{Rule}
use Rattle.plan.specs.Reader.{Fault, unused_variable, got, Reader, bits_at, marks_at}
use Rattle.plan.specs.Reader.{give, ◌>>=◌, field, marks, tested, each}
use Rattle.plan.specs.Sheet.{Register, LookUp, columns_of, count_from, one_of, register, value}
use Rattle.plan.specs.Sheet.{look_up, first_unused, all_used, to_full_byte, ending}
use Rattle.plan.specs.Write.{marks_of, marks_number, Item, sound, padding, put, item, count_item, name_item}
use Rattle.plan.specs.Write.{variables_item, register_items, value_item, look_up_items}
use Rattle.plan.specs.Write.{unused_items, all_items, behind, written}
use Rattle.plan.proofs.Lists.{and_left, and_right, in_head, in_tail}
use Rattle.plan.proofs.Readers.{bind_go, hold_go, tested_go}
use Rattle.plan.proofs.Marks.{marks-number, marks-long}
use Rattle.plan.proofs.First.{all-used_go, ending_go}
use Rattle.plan.proofs.Items.{put_refused, written-nil, written_one, written-unused, written-padding}
use Rattle.plan.proofs.Items.{written-parts, behind-bits, item_pass, item-put, variables_pass, variables-put}
use Rattle.plan.proofs.Items.{unused_none, unused-some, all_items-more, all_items-map}
use Rattle.plan.proofs.Octets.{bits_of, marks-parts}

-- what was written goes no further than the bytes
abbrev pub Within : ℕ → ℕ → Type 0
Within p end = p ≤ end

-- or just as far as they do
abbrev pub Whole : ℕ → ℕ → Type 0
Whole p end = p ≡ end

-- where the items' bits stand in the bytes, the reader gives the value
abbrev pub Reads : {A : Type 0} → (ℕ → ℕ → Type 0) → List Item → Reader A → A → Type 0
Reads Far is r a =
    (bytes : List ℕ) (at : ℕ) (bs : List Bool) → written is at ≡ put bs → marks_at bytes at (length bs) ≡ bs
    → Far (at + length bs) (8 * length bytes) → r bytes at ≡ got a (at + length bs)

-- one reader, then the next, which may use what the first items say where they are written
pub reads_bind : {A B : Type 0} (Far : ℕ → ℕ → Type 0) → ((p end : ℕ) → Far p end → p ≤ end) → (is js : List Item)
    (r : Reader A) (next : A → Reader B) (a : A) (b : B) (P : Type 0)
    → ((at : ℕ) (bs : List Bool) → written is at ≡ put bs → P)
    → Reads Within is r a → (P → Reads Far js (next a) b) → Reads Far (is ++ js) (r >>= next) b
reads_bind Far near is js r next a b P says here there bytes at cs e m f =
    let (bs, ds, x, y, s) = written-parts is js at cs e in
    let n : length cs ≡ length bs + length ds = ap length s ∙ length-append bs ds in
    let (one, two) = marks-parts bytes at bs ds (ap (marks_at bytes at) (sym n) ∙ m ∙ s) in
    let p : (at + length bs) + length ds ≡ at + length cs = omega arith in
    bind_go r next bytes at a (at + length bs)
    (here bytes at bs x one (omega (arith, near (at + length cs) (8 * length bytes) f)))
    ∙ there (says at bs x) bytes (at + length bs) ds y two (subst (λ q. Far q (8 * length bytes)) (sym p) f)
    ∙ ap (got b) p

-- the same where nothing is asked of the first items
pub reads_then : {A B : Type 0} (Far : ℕ → ℕ → Type 0) → ((p end : ℕ) → Far p end → p ≤ end) → (is js : List Item)
    (r : Reader A) (next : A → Reader B) (a : A) (b : B) → Reads Within is r a → Reads Far js (next a) b
    → Reads Far (is ++ js) (r >>= next) b
reads_then Far near is js r next a b here there =
    reads_bind Far near is js r next a b (Unit {0}) (λ at bs e. tt) here (λ _. there)

-- no items are read as what is given
pub reads-give : {A : Type 0} (Far : ℕ → ℕ → Type 0) (a : A) → Reads Far [] (give a) a
unfolding give
reads-give Far a bytes at bs e m f =
    let z : bs ≡ [] = let w = written-nil at in cc in
    let p : at ≡ at + length bs = rw z (omega arith) in
    ap (got a) p

-- a value made of what was read
pub reads_end : {A B : Type 0} (Far : ℕ → ℕ → Type 0) (is : List Item) (r : Reader A) (f : A → B) (a : A)
    → Reads Far is r a → Reads Far is (r >>= λ x. give (f x)) (f a)
unfolding give
reads_end Far is r f a h bytes at bs e m far =
    bind_go r (λ x. give (f x)) bytes at a (at + length bs) (h bytes at bs e m far)

-- within the bytes is within them
pub within : (p end : ℕ) → p ≤ end → p ≤ end
within p end h = h

-- as far as the bytes is within them
pub whole : (p end : ℕ) → p ≡ end → p ≤ end
whole p end e = omega arith

-- ---- fields

module _ (w : ℕ) (test : ℕ → Bool) (fault : Fault) (x : ℕ) where
  -- the bits of a number are read as that number
  pub reads-field : x < 2 ^ w → Reads Within (sound (marks_of w x) ∷ []) (field w) x
  unfolding field
  reads-field h bytes at bs e m f =
      let z : bs ≡ marks_of w x = let o = written_one (marks_of w x) at in cc in
      let n : length bs ≡ w = ap length z ∙ marks-long w x in
      let k : marks_at bytes at w ≡ marks_of w x = ap (marks_at bytes at) (sym n) ∙ m ∙ z in
      hold_go w _ bytes at (omega arith) ∙ ap₂ (λ (y p : ℕ). got y (at + p)) (bits_of bytes at w x h k) (sym n)

  -- the same with a test that it passes
  pub reads-tested : x < 2 ^ w → test x ≡ true → Reads Within (sound (marks_of w x) ∷ []) (tested w test fault) x
  reads-tested h t bytes at bs e m f =
      tested_go w test fault bytes at x (at + length bs) (reads-field h bytes at bs e m f) t

  -- an item is read as its number, if it has enough bits for those that pass
  pub reads-item : (test x ≡ true → x < 2 ^ w) → Reads Within (item w test fault x ∷ []) (tested w test fault) x
  reads-item h bytes at bs e m f =
      let t = item-put w test fault x [] at bs e in
      reads-tested (h t) t bytes at bs (ap (λ i. written (i ∷ []) at) (sym (item_pass w test fault x t)) ∙ e) m f

-- marks are read as marks
pub reads-marks : (cs : List Bool) → Reads Within (sound cs ∷ []) (marks (length cs)) cs
unfolding marks
reads-marks cs bytes at bs e m f =
    let z : bs ≡ cs = let o = written_one cs at in cc in
    let n : length bs ≡ length cs = ap length z in
    hold_go (length cs) _ bytes at (omega arith)
    ∙ ap₂ (λ (y : List Bool) (p : ℕ). got y (at + p)) (ap (marks_at bytes at) (sym n) ∙ m ∙ z) (sym n)

-- a count is read as that count
pub reads_count : (w low high x : ℕ) → high < 2 ^ w → Reads Within (count_item w low high x ∷ []) (count_from w low high) x
unfolding count_item count_from
reads_count w low high x h =
    reads-item w _ _ x (λ t. omega (arith, leb-true x high (and_right (leb low x) (leb x high) t)))

-- where a count is written it is in its range
pub count_says_lem : (w low high x at : ℕ) (bs : List Bool) → written (count_item w low high x ∷ []) at ≡ put bs
    → (low ≤ x) × (x ≤ high)
unfolding count_item
count_says_lem w low high x at bs e =
    let t = item-put w _ _ x [] at bs e in
    (leb-true low x (and_left (leb low x) (leb x high) t), leb-true x high (and_right (leb low x) (leb x high) t))

-- a name is read as that name
pub reads-name : (n x : ℕ) → n ≤ 16 → Reads Within (name_item n x ∷ []) (one_of n) x
unfolding name_item one_of
reads-name n x h = reads-item 4 _ _ x (λ t. let l : x < 16 = omega (arith, ltb-true x n t) in l)

-- where a name is written it names something
pub name-says : (n x at : ℕ) (bs : List Bool) → written (name_item n x ∷ []) at ≡ put bs → x < n
unfolding name_item
name-says n x at bs e = ltb-true x n (item-put 4 _ _ x [] at bs e)

-- the number of variables is read as that number less 1
pub reads-variables : (v : ℕ) → Reads Within (variables_item v ∷ []) (field 4) (v - 1)
reads-variables v bytes at bs e m f =
    let t = variables-put v [] at bs e in
    let l : v - 1 < 2 ^ 4 = omega (arith, leb-true v 16 (and_right (leb 1 v) (leb v 16) t)) in
    reads-field 4 (λ _. true) unused_variable (v - 1) l bytes at bs
    (ap (λ i. written (i ∷ []) at) (sym (variables_pass v t)) ∙ e) m f

-- where it is written it is from 1 to 16
pub variables-says : (v at : ℕ) (bs : List Bool) → written (variables_item v ∷ []) at ≡ put bs → (1 ≤ v) × (v ≤ 16)
variables-says v at bs e =
    let t = variables-put v [] at bs e in
    (leb-true 1 v (and_left (leb 1 v) (leb v 16) t), leb-true v 16 (and_right (leb 1 v) (leb v 16) t))

-- ---- several of one kind

module _ {A : Type 0} (items : A → List Item) (r : Reader A) where
  each_step : (n : ℕ) (xs : List A) (x : A) → length xs ≡ n → Reads Within (all_items items xs) (each n r) xs
      → Reads Within (items x) r x → Reads Within (all_items items (xs ++ (x ∷ []))) (each (suc n) r) (xs ++ (x ∷ []))
  unfolding each
  each_step n xs x l h one =
      subst (λ js. Reads Within js (each (suc n) r) (xs ++ (x ∷ []))) (sym (all_items-more items xs x))
      (reads_then Within within (all_items items xs) (items x) (each n r) _ xs (xs ++ (x ∷ [])) h
      (reads_end Within (items x) r (λ y. xs ++ (y ∷ [])) x one))

  each_from : (xs ys : List A) → ((x : A) → In x ys → Reads Within (items x) r x)
      → Reads Within (all_items items xs) (each (length xs) r) xs
      → Reads Within (all_items items (xs ++ ys)) (each (length (xs ++ ys)) r) (xs ++ ys)
  each_from xs [] h done =
      subst (λ zs. Reads Within (all_items items zs) (each (length zs) r) zs) (sym (append-nil xs)) done
  each_from xs (y ∷ ys) h done =
      let more = each_step (length xs) xs y refl done (h y (in_head y ys)) in
      let n : suc (length xs) ≡ length (xs ++ (y ∷ [])) = omega (arith, length-append xs (y ∷ [])) in
      subst (λ zs. Reads Within (all_items items zs) (each (length zs) r) zs) (append_snoc xs y ys)
      (each_from (xs ++ (y ∷ [])) ys (λ x i. h x (in_tail x y ys i))
      (subst (λ k. Reads Within (all_items items (xs ++ (y ∷ []))) (each k r) (xs ++ (y ∷ []))) n more))

  -- the items of each are read as the list
  pub reads-each : (n : ℕ) (xs : List A) → length xs ≡ n → ((x : A) → In x xs → Reads Within (items x) r x)
      → Reads Within (all_items items xs) (each n r) xs
  unfolding each all_items
  reads-each n xs l h =
      subst (λ k. Reads Within (all_items items xs) (each k r) xs) l (each_from [] xs h (reads-give Within []))

-- the same where each has one item
pub reads-map : {A : Type 0} (f : A → Item) (r : Reader A) (n : ℕ) (xs : List A) → length xs ≡ n
    → ((x : A) → In x xs → Reads Within (f x ∷ []) r x) → Reads Within (map f xs) (each n r) xs
reads-map f r n xs l h =
    subst (λ js. Reads Within js (each n r) xs) (all_items-map f xs) (reads-each (λ x. f x ∷ []) r n xs l h)

-- ---- the parts of a sheet

-- a register is read as that register
pub reads-register : (x : Register) → ((m : Rule) → In m x.rules → length m ≡ x.columns)
    → Reads Within (register_items x) register x
unfolding register_items register
reads-register x h =
    let c = x.columns in
    let k = length x.rules in
    reads_then Within within (count_item 3 1 6 c ∷ []) _ (count_from 3 1 6) _ c x (reads_count 3 1 6 c (omega arith))
    (reads_then Within within (count_item 4 1 8 k ∷ []) _ (count_from 4 1 8) _ k x (reads_count 4 1 8 k (omega arith))
    (reads_end Within (map sound x.rules) (each k (marks c))
    (λ rules. record { columns = c; rules = rules }) x.rules
    (reads-map sound (marks c) k x.rules refl
    (λ m i. subst (λ w. Reads Within (sound m ∷ []) (marks w) m) (h m i) (reads-marks m)))))

-- a given value is read as that value
pub reads-value : (x : ℕ) → x < 2 ^ 32 → Reads Within (value_item x ∷ []) value x
unfolding value_item value
reads-value x h = reads-item 32 _ _ x (λ t. h)

-- a look-up is read as that look-up
pub reads-look_up : (registers : List Register) (variables : ℕ) (l : LookUp) → length registers ≤ 12 → variables ≤ 16
    → (l.register < length registers → length l.vars ≡ get_or (columns_of registers) l.register 0)
    → Reads Within (look_up_items (length registers) variables l) (look_up registers variables) l
unfolding look_up_items look_up
reads-look_up registers variables l few low h =
    let r = l.register in
    reads_bind Within within (name_item (length registers) r ∷ []) _ (one_of (length registers)) _ r l
    (r < length registers) (name-says (length registers) r) (reads-name (length registers) r (omega arith)) λ there.
    reads_end Within (map (name_item variables) l.vars) (each (get_or (columns_of registers) r 0) (one_of variables))
    (λ vars. record { register = r; vars = vars }) l.vars
    (reads-map (name_item variables) (one_of variables) (get_or (columns_of registers) r 0) l.vars (h there)
    (λ x i. reads-name variables x low))

-- where no item tells a variable that is not used, all are used
pub reads-used : (variables : ℕ) (us : List ℕ) → Reads Within (unused_items variables us) (all_used us variables) tt
reads-used variables us bytes at bs e m f = go (first_unused us (numbers 0 variables)) refl
  where
    go : (x : Option ℕ) → first_unused us (numbers 0 variables) ≡ x
        → all_used us variables bytes at ≡ got tt (at + length bs)
    go none h =
        let z : bs ≡ [] =
        let g : written (unused_items variables us) at ≡ put [] =
        ap (λ is. written is at) (unused_none variables us h) ∙ written-nil at in
        cc in
        let p : at ≡ at + length bs = rw z (omega arith) in
        all-used_go us variables bytes at h ∙ ap (got tt) p
    go (some v) h =
        put_refused (sym e ∙ ap (λ is. written is at) (unused-some variables us v h) ∙ written-unused [] at v)

-- no marks make 0
number-zeros : (n : ℕ) → marks_number 0 (replicate n false) ≡ 0
unfolding marks_number
number-zeros zero = refl
number-zeros (suc n) = number-zeros n

-- the zero bits up to a full byte are read as the sheet's end, where the bytes end
pub reads-ending : Reads Whole (padding ∷ []) ending tt
reads-ending bytes at bs e m f =
    let zeros = replicate (to_full_byte at) false in
    let z : bs ≡ zeros =
    let g : written (padding ∷ []) at ≡ put (zeros ++ []) =
    written-padding [] at ∙ ap (behind zeros) (written-nil (at + to_full_byte at))
    ∙ behind-bits zeros [] in
    let n = append-nil zeros in
    cc in
    let n : length bs ≡ to_full_byte at = ap length z ∙ length-replicate (to_full_byte at) false in
    let low : bits_at bytes at (to_full_byte at) ≡ 0 =
    sym (marks-number bytes at (to_full_byte at))
    ∙ ap (λ w. marks_number 0 (marks_at bytes at w)) (sym n)
    ∙ ap (marks_number 0) (m ∙ z)
    ∙ number-zeros (to_full_byte at) in
    ending_go bytes at low (omega arith) ∙ ap (λ w. got tt (at + w)) (sym n)
