-- Readers whose value has items that are written as the bits that were read: one law for each reader of a sheet, and one
-- for each way to put readers together.
use mathlib.Core.Path.{◌≡◌, refl, sym, ◌∙◌, ap, ap₂, subst}
use mathlib.Core.Bool.{Bool, true, false, ◌&&◌}
use mathlib.Core.List.{List, [], ◌∷◌, ◌++◌, map, append-nil}
use mathlib.Core.Option.{Option, none, some}
use Prim.Native.Nat.{ℕ, zero, suc, ◌+◌, ◌-◌, ◌*◌, ◌%◌, ◌^◌, ◌<◌}
use native.Mathlib.Omega.{arith}
use native.Mathlib.Nat.{zero-div}
use lib.ListN.{length, get_or, replicate}
use lib.Dec.{eqb, leb}
use borrow.Author.Tests.{eqb-true, eqb-false, le-leb}
use Rattle.plan.specs.Lists.{In, numbers}
use Rattle.plan.specs.Request.{Rule}
use Rattle.plan.specs.Reader.{Fault, got, Reader, bits_at, marks_at, give, ◌>>=◌, field, marks, tested, each}
use Rattle.plan.specs.Sheet.{Register, columns_of, count_from, one_of, version, register, value}
use Rattle.plan.specs.Sheet.{look_up, first_unused, all_used, to_full_byte, ending}
use Rattle.plan.specs.Write.{marks_of, Item, sound, padding, put, item, count_item, name_item, variables_item}
use Rattle.plan.specs.Write.{register_items, value_item, look_up_items, unused_items, all_items}
use Rattle.plan.specs.Write.{behind, written}
use Rattle.plan.proofs.Lists.{by_test, and_of}
use Rattle.plan.proofs.Readers.{bits-lt, marks-length, got-bad, bind_got, each-got}
use Rattle.plan.proofs.Readers.{field-got, marks-got, tested-got}
use Rattle.plan.proofs.Seen.{AllOf}
use Rattle.plan.proofs.First.{all-used_go, all-used_stop, ending-bits, ending-long, ending_go}
use Rattle.plan.proofs.Items.{written-nil, written_one, written-padding, written_both, behind-bits, item_pass}
use Rattle.plan.proofs.Items.{variables_pass, unused_none, all_items-more, all_items-map}
use Rattle.plan.proofs.Octets.{marks_of_lem, marks-append}

-- the items are written as the bits of the bytes between two places
abbrev pub Wrote : List ℕ → ℕ → List Item → ℕ → Type 0
Wrote bytes from is p = (w : ℕ) × (p ≡ from + w) × (written is from ≡ put (marks_at bytes from w))

module _ (bytes : List ℕ) where
  -- no items are no bits
  pub wrote-nil : (from : ℕ) → Wrote bytes from [] from
  unfolding marks_at
  wrote-nil from = (0, omega arith, written-nil from)

  -- items one behind the other
  wrote-append : (from m p : ℕ) (is js : List Item) → Wrote bytes from is m → Wrote bytes m js p
      → Wrote bytes from (is ++ js) p
  wrote-append from m p is js (v, e, x) (w, d, y) =
      let n : m ≡ from + length (marks_at bytes from v) = omega (arith, marks-length bytes from v) in (
        v + w,
        omega arith,
        written_both is js from (marks_at bytes from v) (marks_at bytes m w) x (ap (written js) (sym n) ∙ y)
            ∙ ap put (ap (λ k. marks_at bytes from v ++ marks_at bytes k w) e ∙ sym (marks-append bytes from v w)),
      )

  -- what the reader gives has items that are written as what it read, and P holds of it
  abbrev pub Writes : {A : Type 0} → Reader A → (A → List Item) → (A → Type 0) → Type 0
  Writes {A} r items P = (at : ℕ) (a : A) (p : ℕ) → r bytes at ≡ got a p → Wrote bytes at (items a) p × P a

  -- where some items are written so far, what the reader gives is as asked
  abbrev pub Goes : {B : Type 0} → ℕ → List Item → Reader B → (B → List Item) → (B → Type 0) → Type 0
  Goes {B} from done r items Q =
      (at : ℕ) (b : B) (p : ℕ) → Wrote bytes from done at → r bytes at ≡ got b p → Wrote bytes from (items b) p × Q b

  -- one reader, and then the next, with one reader's items more written
  pub goes_bind : {A B : Type 0} (from : ℕ) (done : List Item) (r : Reader A) (next : A → Reader B)
      (items : A → List Item) (P : A → Type 0) (all : B → List Item) (Q : B → Type 0) → Writes r items P
      → ((a : A) → P a → Goes from (done ++ items a) (next a) all Q) → Goes from done (r >>= next) all Q
  goes_bind from done r next items P all Q one more at b p h e =
      let (a, m, f, g) = bind_got r next bytes at b p e in
      let (x, k) = one at a m f in
      more a k m b p (wrote-append from at m done (items a) h x) g

  -- what is given, where all its items are written
  pub goes-give : {B : Type 0} (from : ℕ) (done : List Item) (b : B) (all : B → List Item) (Q : B → Type 0)
      → done ≡ all b → Q b → Goes from done (give b) all Q
  unfolding give
  goes-give from done b all Q e q at c p h g =
      let z : b ≡ c = cc in
      let k : at ≡ p = cc in
      (subst (λ n. Wrote bytes from (all c) n) k (subst (λ is. Wrote bytes from is at) (e ∙ ap all z) h), subst Q z q)

  -- a chain from nothing written
  pub goes-writes : {B : Type 0} (r : Reader B) (all : B → List Item) (Q : B → Type 0)
      → ((from : ℕ) → Goes from [] r all Q) → Writes r all Q
  goes-writes r all Q h at b p e = h at at b p (wrote-nil at) e

  -- ---- fields

  -- a number that was read is written as its bits
  number-wrote : (at w x p : ℕ) → field w bytes at ≡ got x p → Wrote bytes at (sound (marks_of w x) ∷ []) p × (x < 2 ^ w)
  number-wrote at w x p e =
      let (v, h) = field-got w bytes at x p e in (
        (
          w,
          h.next,
          written_one (marks_of w x) at ∙ ap put (ap (marks_of w) v ∙ marks_of_lem bytes at w),
        ),
        subst (λ y. y < 2 ^ w) (sym v) (bits-lt bytes at w),
      )

  -- a number that passed a test is written as an item, and passes
  pub writes-item : (w : ℕ) (test : ℕ → Bool) (fault : Fault)
      → Writes (tested w test fault) (λ x. item w test fault x ∷ []) (λ x. (test x ≡ true) × (x < 2 ^ w))
  writes-item w test fault at x p e =
      let (f, t) = tested-got w test fault bytes at x p e in
      let (h, low) = number-wrote at w x p f in
      (subst (λ i. Wrote bytes at (i ∷ []) p) (sym (item_pass w test fault x t)) h, (t, low))

  -- a version that was read is 1
  pub writes-version : Writes version (λ x. sound (marks_of 3 1) ∷ []) (λ x. Unit {0})
  unfolding version
  writes-version at x p e =
      let (f, t) = tested-got 3 _ _ bytes at x p e in
      let h = number-wrote at 3 x p f in
      (subst (λ n. Wrote bytes at (sound (marks_of 3 n) ∷ []) p) (eqb-true x 1 t) h.0, tt)

  -- a count
  pub writes_count : (w low high : ℕ) → Writes (count_from w low high) (λ x. count_item w low high x ∷ []) (λ x. Unit {0})
  unfolding count_from count_item
  writes_count w low high at x p e = ((writes-item w _ _ at x p e).0, tt)

  -- a name
  pub writes-name : (n : ℕ) → Writes (one_of n) (λ x. name_item n x ∷ []) (λ x. Unit {0})
  unfolding one_of name_item
  writes-name n at x p e = ((writes-item 4 _ _ at x p e).0, tt)

  -- a given value, which has 32 bits
  pub writes-value : Writes value (λ x. value_item x ∷ []) (λ x. x < 2 ^ 32)
  unfolding value value_item
  writes-value at x p e = let (h, k) = writes-item 32 _ _ at x p e in (h, k.1)

  -- the number of variables, which is 1 more than what was read
  pub writes-variables : Writes (field 4) (λ v. variables_item (v + 1) ∷ []) (λ v. Unit {0})
  writes-variables at v p e =
      let (h, low) = number-wrote at 4 v p e in
      let t : (leb 1 (v + 1) && leb (v + 1) 16) ≡ true =
      and_of (le-leb 1 (v + 1) (omega arith)) (le-leb (v + 1) 16 (omega arith)) in
      let k : v ≡ v + 1 - 1 = omega arith in
      (subst (λ i. Wrote bytes at (i ∷ []) p) (ap (λ n. sound (marks_of 4 n)) k ∙ sym (variables_pass (v + 1) t)) h, tt)

  -- marks, as many as were asked
  pub writes-marks : (w : ℕ) → Writes (marks w) (λ bs. sound bs ∷ []) (λ bs. length bs ≡ w)
  writes-marks w at bs p e =
      let (v, h) = marks-got w bytes at bs p e in
      ((w, h.next, written_one bs at ∙ ap put v), ap length v ∙ marks-length bytes at w)

  -- ---- several of one kind

  each-wrote : {A : Type 0} (r : Reader A) (items : A → List Item) (P : A → Type 0) → Writes r items P
      → (n at : ℕ) (xs : List A) (p : ℕ) → each n r bytes at ≡ got xs p → Wrote bytes at (all_items items xs) p
  unfolding each give all_items
  each-wrote r items P one zero at xs p e =
      let z : [] ≡ xs = cc in
      let k : at ≡ p = cc in
      subst (λ ys. Wrote bytes at (all_items items ys) p) z (subst (λ q. Wrote bytes at [] q) k (wrote-nil at))
  each-wrote r items P one (suc n) at xs p e =
      let (ys, m, f, g) = bind_got (each n r) _ bytes at xs p e in
      let (y, q, k, l) = bind_got r _ bytes m xs p g in
      let z : ys ++ (y ∷ []) ≡ xs = cc in
      let j : q ≡ p = cc in
      subst (λ zs. Wrote bytes at (all_items items zs) p) z
      (subst (λ is. Wrote bytes at is p) (sym (all_items-more items ys y))
      (wrote-append at m p (all_items items ys) (items y) (each-wrote r items P one n at ys m f)
      (subst (λ x. Wrote bytes m (items y) x) j (one m y q k).0)))

  -- several readings are written as the items of each
  pub writes-each : {A : Type 0} (r : Reader A) (items : A → List Item) (P : A → Type 0) → Writes r items P → (n : ℕ)
      → Writes (each n r) (all_items items) (AllOf P n)
  writes-each r items P one n at xs p e =
      (each-wrote r items P one n at xs p e, each-got r bytes at P (λ m a q f. (one m a q f).1) n xs p e)

  -- the same where each has one item
  pub writes-map : {A : Type 0} (r : Reader A) (item : A → Item) (P : A → Type 0) → Writes r (λ a. item a ∷ []) P
      → (n : ℕ) → Writes (each n r) (map item) (AllOf P n)
  writes-map r item P one n at xs p e =
      let (h, k) = writes-each r (λ a. item a ∷ []) P one n at xs p e in
      (subst (λ is. Wrote bytes at is p) (all_items-map item xs) h, k)

  -- ---- the parts of a sheet

  -- a register that was read: each rule has a mark per column
  pub writes-register : Writes register register_items (λ x. (m : Rule) → In m x.rules → length m ≡ x.columns)
  unfolding register register_items
  writes-register =
      goes-writes register register_items _ λ from.
      goes_bind from [] (count_from 3 1 6) _ _ _ register_items _ (writes_count 3 1 6) λ c _.
      goes_bind from _ (count_from 4 1 8) _ _ _ register_items _ (writes_count 4 1 8) λ k _.
      goes_bind from _ (each k (marks c)) _ _ _ register_items _
      (writes-map (marks c) sound _ (writes-marks c) k) λ rules all.
      goes-give from _ (record { columns = c; rules = rules }) register_items _
      (ap (λ n. count_item 3 1 6 c ∷ count_item 4 1 8 n ∷ map sound rules) (sym all.0)) all.1

  -- a look-up that was read: a variable per column of its register
  pub writes-look_up : (registers : List Register) (variables : ℕ) → Writes (look_up registers variables)
      (look_up_items (length registers) variables) (λ l. length l.vars ≡ get_or (columns_of registers) l.register 0)
  unfolding look_up look_up_items
  writes-look_up registers variables =
      let n = length registers in
      goes-writes (look_up registers variables) (look_up_items n variables) _ λ from.
      goes_bind from [] (one_of n) _ _ _ (look_up_items n variables) _ (writes-name n) λ r _.
      goes_bind from _ (each (get_or (columns_of registers) r 0) (one_of variables)) _ _ _ (look_up_items n variables) _
      (writes-map (one_of variables) (name_item variables) _ (writes-name variables) (get_or (columns_of registers) r 0))
      λ vars all.
      goes-give from _ (record { register = r; vars = vars }) (look_up_items n variables) _ refl all.0

  -- where all variables are used, no item tells one
  pub writes-used : (us : List ℕ) (variables : ℕ)
      → Writes (all_used us variables) (λ _. unused_items variables us) (λ _. Unit {0})
  writes-used us variables at a p e = go (first_unused us (numbers 0 variables)) refl
    where
      go : (x : Option ℕ) → first_unused us (numbers 0 variables) ≡ x
          → Wrote bytes at (unused_items variables us) p × Unit {0}
      go none h =
          let k : at ≡ p = let g = all-used_go us variables bytes at h in cc in
          let w : Wrote bytes at [] p = subst (Wrote bytes at []) k (wrote-nil at) in
          (subst (λ is. Wrote bytes at is p) (sym (unused_none variables us h)) w, tt)
      go (some v) h = got-bad (sym e ∙ all-used_stop us variables bytes at v h)

  -- the marks of 0 are not set
  zeros : (w : ℕ) → marks_of w 0 ≡ replicate w false
  unfolding marks_of
  zeros zero = refl
  zeros (suc w) = ap₂ (λ (b : Bool) (bs : List Bool). b ∷ bs) (ap (λ x. eqb (x % 2) 1) (zero-div (2 ^ w))) (zeros w)

  -- the sheet's end was read of zero bits
  pub writes-ending : Writes ending (λ _. padding ∷ []) (λ _. Unit {0})
  writes-ending at a p e =
      let w = to_full_byte at in
      by_test (eqb (bits_at bytes at w) 0)
      (λ t.
      let z = eqb-true (bits_at bytes at w) 0 t in
      by_test (eqb (at + w) (8 * length bytes))
      (λ u.
      let k : at + w ≡ p = let g = ending_go bytes at z (eqb-true (at + w) (8 * length bytes) u) in cc in
      let bits : replicate w false ++ [] ≡ marks_at bytes at w =
      append-nil (replicate w false) ∙ sym (zeros w) ∙ ap (marks_of w) (sym z) ∙ marks_of_lem bytes at w in (
        (
          w,
          sym k,
          written-padding [] at ∙ ap (behind (replicate w false)) (written-nil (at + w))
              ∙ behind-bits (replicate w false) [] ∙ ap put bits,
        ),
        tt,
      ))
      (λ n. got-bad (sym e ∙ ending-long bytes at z (eqb-false (at + w) (8 * length bytes) n))))
      (λ n. got-bad (sym e ∙ ending-bits bytes at (eqb-false (bits_at bytes at w) 0 n)))
