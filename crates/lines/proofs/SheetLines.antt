-- What a sheet says can be typed, where its variables stand in order; and the line of it, with that sheet, reads as it.
use mathlib.Core.Path.{◌≡◌, refl, ◌∙◌, ap, subst}
use mathlib.Core.Logic.{⊎_elim}
use mathlib.Core.Bool.{Bool, true, ◌&&◌, not}
use mathlib.Core.List.{List, [], ◌∷◌, ◌++◌}
use Prim.Native.Nat.{ℕ, zero, suc, ◌≤◌, ◌<◌}
use native.Mathlib.Omega.{arith}
use lib.ListN.{length, get_or, length-map}
use lib.Dec.{eqb, leb, ltb}
use borrow.Author.Tests.{leb-true, ltb-true}
use Rattle.plan.specs.Lists.{In, numbers}
use Rattle.plan.specs.Reader.{Fault, not_in_sheet, given_zero, got}
use Rattle.plan.specs.Sheet.{Register, LookUp, Sheet, columns_of, used, read_sheet}
use Rattle.plan.specs.Write.{Item, item, name_item, variables_item, value_item, header_items, register_items, given_items}
use Rattle.plan.specs.Write.{look_up_items, all_items, sheet_items, unused_items, padding, is_sound}
use Rattle.plan.specs.Tokens.{are_names}
use Rattle.plan.specs.Typed.{asks, read_typed, parted, line_of, InTurn, Typable}
use Rattle.plan.proofs.Lists.{by_test, clash, and_right, in_front, in_behind, in_head, in_tail, in_cons, in_nil, in_map, map_in}
use Rattle.plan.proofs.Padded.{in_at}
use Rattle.plan.proofs.Items.{item_fail, variables_fail}
use Rattle.plan.proofs.Broken.{inverse}
use Rattle.lines.proofs.TypedSheet.{Sounds, sound_count, read-sounds, read-got}
use Rattle.lines.proofs.LineBack.{back}

-- items that are sound say what they test
sound-item : (w : ℕ) (test : ℕ → Bool) (fault : Fault) (x : ℕ) → is_sound (item w test fault x) ≡ true → test x ≡ true
unfolding is_sound
sound-item w test fault x h = by_test (test x) (λ t. t) (λ f. clash h (ap is_sound (item_fail w test fault x f)))

sound-variables : (v : ℕ) → is_sound (variables_item v) ≡ true → v ≤ 16
unfolding is_sound
sound-variables v h =
    by_test (leb 1 v && leb v 16) (λ t. leb-true v 16 (and_right (leb 1 v) (leb v 16) t))
    (λ f. clash h (ap is_sound (variables_fail v f)))

sound-name : (n x : ℕ) → is_sound (name_item n x) ≡ true → x < n
unfolding name_item
sound-name n x h = ltb-true x n (sound-item 4 (λ y. ltb y n) not_in_sheet x h)

sound-value : (x : ℕ) → is_sound (value_item x) ≡ true → 1 ≤ x
unfolding value_item
sound-value zero h = clash (sound-item 32 (λ y. not (eqb y 0)) given_zero 0 h) refl
sound-value (suc x) h = omega arith

-- what stands in the items of one stands in the items of all
each_in : {A : Type 0} (items : A → List Item) (xs : List A) (a : A) → In a xs → (i : Item) → In i (items a)
    → In i (all_items items xs)
unfolding all_items
each_in items [] a h i j = absurd (in_nil a h)
each_in items (x ∷ xs) a h i j =
    ⊎_elim (λ e. in_front i (items x) (all_items items xs) (subst (λ b. In i (items b)) e j))
    (λ k. in_behind i (items x) (all_items items xs) (each_in items xs a k i j)) (in_cons a x xs h)

module _ (s : Sheet) (sounds : Sounds (sheet_items s)) where
  abbrev R : ℕ
  R = length s.registers

  abbrev header : List Item
  header = header_items R s.variables (length s.look_ups)

  abbrev registered : List Item
  registered = all_items register_items s.registers

  abbrev givens : List Item
  givens = given_items s.variables s.given s.values

  abbrev asked : List Item
  asked = all_items (look_up_items R s.variables) s.look_ups

  abbrev last : List Item
  last = unused_items s.variables (used s.given s.look_ups) ++ (padding ∷ [])

  of_header : Sounds header
  unfolding sheet_items
  of_header i h = sounds i (in_front i header (registered ++ (givens ++ (asked ++ last))) h)

  of_registers : Sounds registered
  unfolding sheet_items
  of_registers i h =
      sounds i (in_behind i header (registered ++ (givens ++ (asked ++ last)))
      (in_front i registered (givens ++ (asked ++ last)) h))

  of_givens : Sounds givens
  unfolding sheet_items
  of_givens i h =
      sounds i (in_behind i header (registered ++ (givens ++ (asked ++ last)))
      (in_behind i registered (givens ++ (asked ++ last)) (in_front i givens (asked ++ last) h)))

  of_asked : Sounds asked
  unfolding sheet_items
  of_asked i h =
      sounds i (in_behind i header (registered ++ (givens ++ (asked ++ last)))
      (in_behind i registered (givens ++ (asked ++ last))
      (in_behind i givens (asked ++ last) (in_front i asked last h))))

  few : s.variables ≤ 16
  unfolding header_items
  few = sound-variables s.variables (of_header _ (in_tail _ _ _ (in_tail _ _ _ (in_head _ _))))

  many : (1 ≤ length s.look_ups) × (length s.look_ups ≤ 12)
  unfolding header_items
  many =
      sound_count 4 1 12 (length s.look_ups) (of_header _ (in_tail _ _ _ (in_tail _ _ _ (in_tail _ _ _ (in_head _ _)))))

  some-value : (x : ℕ) → In x s.values → 1 ≤ x
  unfolding given_items
  some-value x i = sound-value x (of_givens _ (in_tail _ _ _ (map_in value_item s.values x i)))

  low-register : (l : LookUp) → In l s.look_ups → l.register < R
  unfolding look_up_items
  low-register l i =
      sound-name R l.register (of_asked _ (each_in (look_up_items R s.variables) s.look_ups l i _ (in_head _ _)))

  some-column : (i : ℕ) → i < R → 1 ≤ get_or (columns_of s.registers) i 0
  unfolding register_items
  some-column i h =
      let cs = columns_of s.registers in
      let n = length-map s.registers (λ (r : Register). r.columns) in
      let (r, j, e) = in_map (λ (r : Register). r.columns) s.registers (get_or cs i 0) (in_at cs i 0 (omega arith)) in
      let c = (sound_count 3 1 6 r.columns (of_registers _ (each_in register_items s.registers r j _ (in_head _ _)))).0 in
      omega arith

-- what a sheet says can be typed to its registers, where the given variables are the first and all are numbered by first
-- appearance
pub sheet-typable : (bytes : List ℕ) (s : Sheet) (end : ℕ) → read_sheet bytes ≡ got s end
    → s.given ≡ numbers 0 (length s.values) → InTurn (length s.values) (used [] s.look_ups) s.variables
    → Typable s.registers s
sheet-typable bytes s end e given turns =
    let sounds = read-sounds bytes s end e in
    let formed = inverse.formed bytes s end e in
    record {
      same = refl;
      given = given;
      values = λ x i. (some-value s sounds x i, formed.values_low x i);
      few = few s sounds;
      look_ups-low = (many s sounds).0;
      look_ups-high = (many s sounds).1;
      named = low-register s sounds;
      columns = λ l i. formed.vars-number l i (low-register s sounds l i);
      columns-low = λ l i.
          let c = formed.vars-number l i (low-register s sounds l i) in
          let m = some-column s sounds l.register (low-register s sounds l i) in
          omega arith;
      numbered = turns;
    }

-- and the line that is written for it, with that sheet, reads as what the sheet says
pub sheet-again : (bytes : List ℕ) (s : Sheet) (end : ℕ) → read_sheet bytes ≡ got s end
    → s.given ≡ numbers 0 (length s.values) → InTurn (length s.values) (used [] s.look_ups) s.variables
    → (known names : List (List ℕ)) → are_names (length s.registers) known ≡ true → are_names s.variables names ≡ true
    → read_typed bytes (parted known) (line_of known names s) ≡ asks s
sheet-again bytes s end e given turns known names k n =
    read-got bytes (parted known) (line_of known names s) s end e
    ∙ back s.registers known names s k n (sheet-typable bytes s end e given turns)
