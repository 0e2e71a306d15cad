-- A request that is read from a typed line is what the sheet written for it says, and so are its answer and its route check.
use mathlib.Core.Path.{◌≡◌, refl, sym, ◌∙◌, ap, subst}
use mathlib.Core.Logic.{⊎_elim}
use mathlib.Core.Bool.{Bool, true, ◌&&◌, not}
use mathlib.Core.List.{List, [], ◌∷◌, ◌++◌, map}
use mathlib.Core.Option.{none}
use Prim.Native.Nat.{ℕ, ◌*◌, ◌/◌, ◌≤◌, ◌<◌}
use native.Mathlib.Omega.{arith}
use lib.ListN.{length}
use lib.Dec.{eqb, leb, ltb}
use borrow.Author.Tests.{leb-true, le-leb, lt-ltb, ne_eqb}
use Rattle.plan.specs.Lists.{In, numbers}
use Rattle.plan.specs.Reader.{Fault, count_out, fault_number, Read, got, bad, marks_at}
use Rattle.plan.specs.Sheet.{Register, LookUp, Sheet, used, first_unused, read_sheet}
use Rattle.plan.specs.Answer.{short_table, found_read, room, found, found_priced, is_priced, whole_of, whole_at, full, whole, route_check}
use Rattle.plan.specs.Write.{Item, padding, put, item, count_item, name_item, variables_item, header_items}
use Rattle.plan.specs.Write.{register_items, value_item, given_items, look_up_items, all_items, sheet_items}
use Rattle.plan.specs.Write.{octets, packed, write_sheet, is_sound, Formed}
use Rattle.plan.specs.Typed.{asks, faulty, read_typed, typed_on, whole_asked, whole_typed, check_asked, check_typed}
use Rattle.plan.specs.Typed.{Typable}
use Rattle.plan.proofs.Lists.{by_test, clash, and_left, and_right, and_of, in_append, in_front, in_behind}
use Rattle.plan.proofs.Lists.{in_head, in_tail, in_cons, in_nil, in_map}
use Rattle.plan.proofs.Lists.{in_has, eqb_faithful}
use Rattle.plan.proofs.Numbers.{numbers-length, in_numbers, numbers_in}
use Rattle.plan.proofs.Rising.{numbers_rising}
use Rattle.plan.proofs.Items.{item_pass, item_fail, variables_pass, unused_none}
use Rattle.plan.proofs.Forth.{writes-sheet}
use Rattle.plan.proofs.Broken.{inverse}
use Rattle.plan.proofs.Check.{check_read}
use Rattle.lines.proofs.TypedSaid.{turn_low, turn_in, turn-all, used-given, read-typable}

-- ---- items that are sound

-- all of these items are sound
abbrev pub Sounds : List Item → Type 0
Sounds is = (i : Item) → In i is → is_sound i ≡ true

-- none are
sounds-nil : Sounds []
unfolding In
sounds-nil i h = absurd h

-- one more in front
sounds-cons : (j : Item) (is : List Item) → is_sound j ≡ true → Sounds is → Sounds (j ∷ is)
sounds-cons j is t s i h = ⊎_elim (λ e. ap is_sound e ∙ t) (s i) (in_cons i j is h)

-- one list behind another
sounds-append : (is js : List Item) → Sounds is → Sounds js → Sounds (is ++ js)
sounds-append is js s t i h = ⊎_elim (s i) (t i) (in_append i is js h)

-- an item of each
sounds-map : {A : Type 0} (f : A → Item) (xs : List A) → ((a : A) → In a xs → is_sound (f a) ≡ true) → Sounds (map f xs)
sounds-map f xs s i h = let (a, j, e) = in_map f xs i h in ap is_sound e ∙ s a j

-- the items of each
sounds-each : {A : Type 0} (items : A → List Item) (xs : List A) → ((a : A) → In a xs → Sounds (items a))
    → Sounds (all_items items xs)
unfolding all_items
sounds-each items [] s = sounds-nil
sounds-each items (a ∷ xs) s =
    sounds-append (items a) (all_items items xs) (s a (in_head a xs))
    (sounds-each items xs (λ b h. s b (in_tail b a xs h)))

-- a number that passes is sound
item-sound : (w : ℕ) (test : ℕ → Bool) (fault : Fault) (x : ℕ) → test x ≡ true → is_sound (item w test fault x) ≡ true
unfolding is_sound
item-sound w test fault x t = ap is_sound (item_pass w test fault x t)

-- a count in its range
count_sound : (w low high x : ℕ) → low ≤ x → x ≤ high → is_sound (count_item w low high x) ≡ true
unfolding count_item
count_sound w low high x l h =
    item-sound w (λ y. leb low y && leb y high) count_out x (and_of (le-leb low x l) (le-leb x high h))

-- a number of variables in its range
variables-sound : (v : ℕ) → 1 ≤ v → v ≤ 16 → is_sound (variables_item v) ≡ true
unfolding is_sound
variables-sound v l h = ap is_sound (variables_pass v (and_of (le-leb 1 v l) (le-leb v 16 h)))

-- a name of one of so many
name-sound : (n x : ℕ) → x < n → is_sound (name_item n x) ≡ true
unfolding name_item
name-sound n x h = item-sound 4 (λ y. ltb y n) _ x (lt-ltb x n h)

-- a value that is not 0
value-sound : (x : ℕ) → 1 ≤ x → is_sound (value_item x) ≡ true
unfolding value_item
value-sound x h = item-sound 32 (λ y. not (eqb y 0)) _ x (ap not (ne_eqb x 0 (λ e. omega arith)))

-- where each of the variables is used, none is first
used_none : (us vs : List ℕ) → ((v : ℕ) → In v vs → In v us) → first_unused us vs ≡ none
unfolding first_unused
used_none us [] h = refl
used_none us (v ∷ vs) h =
    rw (in_has eqb eqb_faithful v us (h v (in_head v vs)), first_unused)
    (used_none us vs (λ u i. h u (in_tail u v vs i)))

-- ---- a request that can be typed

-- a list that has some has one
some_in : {A : Type 0} (xs : List A) → 1 ≤ length xs → (a : A) × In a xs
some_in [] h = absurd (let z : ⊥ = omega arith in z)
some_in (x ∷ xs) h = (x, in_head x xs)

-- a look-up's variables are used
vars-used : (ls : List LookUp) (l : LookUp) → In l ls → (v : ℕ) → In v l.vars → In v (used [] ls)
unfolding used
vars-used [] l i v h = absurd (in_nil l i)
vars-used (m ∷ ls) l i v h =
    ⊎_elim (λ e. in_front v m.vars (used [] ls) (subst (λ (k : LookUp). In v k.vars) e h))
    (λ j. in_behind v m.vars (used [] ls) (vars-used ls l j v h)) (in_cons l m ls i)

module _ (registers : List Register) (s : Sheet) (t : Typable registers s) where
  -- a variable of a look-up is one of the request's
  typable-low : (l : LookUp) → In l s.look_ups → (v : ℕ) → In v l.vars → v < s.variables
  typable-low l i v h =
      turn_in (length s.values) (used [] s.look_ups) s.variables t.numbered v
      (vars-used s.look_ups l i v h)

  -- there is a variable
  typable-some : 1 ≤ s.variables
  typable-some =
      let (l, i) = some_in s.look_ups t.look_ups-low in
      let (v, j) = some_in l.vars (t.columns-low l i) in
      let low = typable-low l i v j in
      omega arith

  -- each variable is given or stands in a look-up
  typable-used : (v : ℕ) → In v (numbers 0 s.variables) → In v (used s.given s.look_ups)
  typable-used v i =
      let n = length s.values in
      let us = used [] s.look_ups in
      let (low, high) = in_numbers 0 s.variables v i in
      rw (used-given s.given s.look_ups, t.given)
      (⊎_elim
      (λ h. in_behind v us (numbers 0 n) (numbers_in 0 n v (omega arith) (omega arith)))
      (λ h. in_front v us (numbers 0 n) h)
      (turn-all n us s.variables t.numbered v (omega arith)))

  -- the form is that of a sheet, where the registers' rules have it
  typable-formed : ((r : Register) → In r registers → (m : List Bool) → In m r.rules → length m ≡ r.columns)
      → Formed s
  typable-formed marks =
      let n = length s.values in
      record {
        marks = rw t.same marks;
        given_rising = rw t.given (numbers_rising 0 n);
        given-low = λ v i.
            let low = turn_low n (used [] s.look_ups) s.variables t.numbered in
            let (a, b) = in_numbers 0 n v (rw t.given at i) in
            omega arith;
        values-number = rw t.given (sym (numbers-length 0 n));
        values_low = λ x i. (t.values x i).1;
        vars-number = λ l i _. rw t.same (t.columns l i);
      }

  -- each item is sound, where those of the registers are
  typable-sounds : 1 ≤ length registers → length registers ≤ 12 → Sounds (all_items register_items registers)
      → Sounds (sheet_items s)
  unfolding sheet_items header_items given_items look_up_items is_sound
  typable-sounds low high each =
      rw t.same
      (sounds-append _ _
      (sounds-cons _ _ refl
      (sounds-cons _ _ (count_sound 4 1 12 (length registers) low high)
      (sounds-cons _ _ (variables-sound s.variables typable-some t.few)
      (sounds-cons _ _ (count_sound 4 1 12 (length s.look_ups) t.look_ups-low t.look_ups-high) sounds-nil))))
      (sounds-append _ _ each
      (sounds-append _ _
      (sounds-cons _ _ refl (sounds-map value_item s.values (λ x i. value-sound x (t.values x i).0)))
      (sounds-append _ _
      (sounds-each (look_up_items (length registers) s.variables) s.look_ups
      (λ l i.
      sounds-cons _ _ (name-sound (length registers) l.register (t.named l i))
      (sounds-map (name_item s.variables) l.vars
      (λ v j. name-sound s.variables v (typable-low l i v j)))))
      (rw (unused_none s.variables (used s.given s.look_ups)
      (used_none (used s.given s.look_ups) (numbers 0 s.variables) typable-used))
      (sounds-cons padding [] refl sounds-nil))))))

-- ---- the registers of a sheet that was read

-- a count that is sound is in its range
pub sound_count : (w low high x : ℕ) → is_sound (count_item w low high x) ≡ true → (low ≤ x) × (x ≤ high)
unfolding count_item is_sound
sound_count w low high x h =
    let test : ℕ → Bool = λ y. leb low y && leb y high in
    by_test (leb low x && leb x high)
    (λ t. (
      leb-true low x (and_left (leb low x) (leb x high) t),
      leb-true x high (and_right (leb low x) (leb x high) t),
    ))
    (λ f. clash h (ap is_sound (item_fail w test count_out x f)))

-- the items of a sheet that was read are sound, whatever its bytes
pub read-sounds : (bytes : List ℕ) (t : Sheet) (end : ℕ) → read_sheet bytes ≡ got t end → Sounds (sheet_items t)
unfolding read_sheet write_sheet packed
read-sounds bytes t end e =
    let (w, p, h) = (writes-sheet bytes 0 t end e).0 in
    let bits = marks_at bytes 0 w in
    (inverse.sounds t).1 (octets (length bits / 8) bits, ap packed h)

-- a sheet with sound items has 1 to 12 registers
registers-number : (t : Sheet) → Sounds (sheet_items t) → (1 ≤ length t.registers) × (length t.registers ≤ 12)
unfolding sheet_items header_items
registers-number t s = sound_count 4 1 12 (length t.registers) (s _ (in_tail _ _ _ (in_head _ _)))

-- and their items are sound
registers-sound : (t : Sheet) → Sounds (sheet_items t) → Sounds (all_items register_items t.registers)
unfolding sheet_items
registers-sound t s i h =
    s i (in_behind i (header_items (length t.registers) t.variables (length t.look_ups)) _
    (in_front i (all_items register_items t.registers) _ h))

-- ---- the typed request

module _ (sheet second line : List ℕ) where
  -- a line is read to the registers of a sheet that is read
  pub read-got : (t : Sheet) (end : ℕ) → read_sheet sheet ≡ got t end
      → read_typed sheet second line ≡ typed_on t.registers second line
  unfolding read_typed
  read-got t end e = rw (e, read_typed)

  -- the sheet's own refusals come first
  pub read-bad : (fault : Fault) (detail : ℕ) → read_sheet sheet ≡ bad fault detail
      → read_typed sheet second line ≡ faulty (fault_number fault) detail
  unfolding read_typed
  read-bad fault detail e = rw (e, read_typed)

-- a request that is read was read from a sheet, and can be typed to its registers
read-request : (sheet second line : List ℕ) (s : Sheet) → read_typed sheet second line ≡ asks s
    → (t : Sheet) × (end : ℕ) × (read_sheet sheet ≡ got t end) × Typable t.registers s
read-request sheet second line s e = go (read_sheet sheet) refl
  where
    go : (r : Read Sheet) → read_sheet sheet ≡ r
        → (t : Sheet) × (end : ℕ) × (read_sheet sheet ≡ got t end) × Typable t.registers s
    go (got t end) h =
        let typed = sym (read-got sheet second line t end h) ∙ e in
        (t, end, h, (read-typable t.registers second line s typed).1)
    go (bad fault detail) h =
        let g = read-bad sheet second line fault detail h in
        absurd (let z : ◌≡◌ {A = ℕ} 0 1 = cc in omega arith)

-- the request is what the sheet that is written for it says
pub typed_same : (sheet second line : List ℕ) (s : Sheet) → read_typed sheet second line ≡ asks s
    → (bytes : List ℕ) × (write_sheet s ≡ put bytes) × (read_sheet bytes ≡ got s (8 * length bytes))
typed_same sheet second line s e =
    let (t, end, h, typable) = read-request sheet second line s e in
    let sounds = read-sounds sheet t end h in
    let (low, high) = registers-number t sounds in
    let (bytes, w) = (inverse.sounds s).0
    (typable-sounds t.registers s typable low high (registers-sound t sounds)) in
    let formed = typable-formed t.registers s typable (inverse.formed sheet t end h).marks in
    (bytes, w, inverse.back s formed bytes w)

-- all that comes back for a typed request is all that comes back for a sheet that says it
whole_same : (sheet second line : List ℕ) (s : Sheet) (bytes : List ℕ) (end : ℕ) → read_typed sheet second line ≡ asks s
    → read_sheet bytes ≡ got s end → (words table other : List ℕ)
    → whole_typed sheet second line words table other ≡ whole bytes words table other
unfolding whole_typed whole_asked whole whole_at found found_priced is_priced full found_read whole_of
whole_same sheet second line s bytes end e h words table other =
    by_test (leb (room full) (length table) && leb (room full) (length other))
    (λ t.
    let typed : whole_typed sheet second line words table other
    ≡ whole_asked full (read_typed sheet second line) words table other = rw (t, whole_typed) in
    let read : found full bytes words table other ≡ found_read full (read_sheet bytes) words = rw (t, found) in
    typed ∙ ap (λ r. whole_asked full r words table other) e
    ∙ sym (ap (λ f. whole_of full f table other) (read ∙ ap (λ r. found_read full r words) h)))
    (λ f.
    let short : found full bytes words table other ≡ short_table = rw (f, found) in
    let typed : whole_typed sheet second line words table other ≡ whole_of full short_table table other = rw (f, whole_typed) in
    typed ∙ sym (ap (λ x. whole_of full x table other) short))

-- and so are its answer and its route check
pub typed_answers : (sheet second line : List ℕ) (s : Sheet) (bytes : List ℕ) → read_typed sheet second line ≡ asks s
    → write_sheet s ≡ put bytes → (words table other : List ℕ)
    → (whole_typed sheet second line words table other ≡ whole bytes words table other)
    × (check_typed sheet second line ≡ route_check bytes)
unfolding check_typed check_asked
typed_answers sheet second line s bytes e w words table other =
    let (made, x, h) = typed_same sheet second line s e in
    let same : made ≡ bytes = cc in
    let read : read_sheet bytes ≡ got s (8 * length bytes) = rw same at h in (
      whole_same sheet second line s bytes (8 * length bytes) e read words table other,
      ap check_asked e ∙ sym (check_read bytes s (8 * length bytes) read []),
    )
