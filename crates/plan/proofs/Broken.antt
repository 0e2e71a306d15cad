-- A sheet is refused by the first item that is not sound, and written where all are; and all that is claimed of writing.
-- By one item more in front.
use mathlib.Core.Path.{◌≡◌, refl, sym, ◌∙◌, ap, subst}
use mathlib.Core.Logic.{◌↔◌, inl, inr, ⊎_elim}
use mathlib.Core.Bool.{Bool, true, false}
use mathlib.Core.List.{List, [], ◌∷◌, ◌++◌}
use Prim.Native.Nat.{ℕ, ◌+◌, ◌*◌, ◌/◌}
use lib.ListN.{length, replicate}
use Rattle.plan.specs.Lists.{In}
use Rattle.plan.specs.Reader.{Fault}
use Rattle.plan.specs.Sheet.{Sheet, to_full_byte}
use Rattle.plan.specs.Write.{Item, sound, broken, unused, padding, Written, put, refused, behind, written}
use Rattle.plan.specs.Write.{octets, packed, sheet_items, write_sheet, Formed}
use Rattle.plan.specs.Write.{is_sound, place_behind, Tells, FirstBroken, Inverse}
use Rattle.plan.proofs.Lists.{clash, in_head, in_tail, in_cons}
use Rattle.plan.proofs.First.{sheet-bytes}
use Rattle.plan.proofs.Items.{put_refused, behind-put, behind-refused, behind-bits, behind_fault, written-nil}
use Rattle.plan.proofs.Items.{written-sound, written-broken, written-unused, written-padding}
use Rattle.plan.proofs.Back.{read_back, written_low}
use Rattle.plan.proofs.Forth.{read-forth, read-formed}

-- ---- the first item that is not sound

-- the first item that is not sound, where the items stand from a place on
record FirstFrom (items : List Item) (at : ℕ) (fault : Fault) (detail : ℕ) : Type 0 where
  before : List Item
  here : Item
  after : List Item
  whole : items ≡ before ++ (here ∷ after)
  all_sound : (i : Item) → In i before → is_sound i ≡ true
  tells : Tells (place_behind before at) here fault detail

-- one sound item more in front
first_more : (i : Item) (is : List Item) (at next : ℕ) (fault : Fault) (detail : ℕ) → is_sound i ≡ true
    → ((before : List Item) → place_behind (i ∷ before) at ≡ place_behind before next) → FirstFrom is next fault detail
    → FirstFrom (i ∷ is) at fault detail
first_more i is at next fault detail t far f =
    record {
      before = i ∷ f.before;
      here = f.here;
      after = f.after;
      whole = ap (λ js. i ∷ js) f.whole;
      all_sound = λ j h. ⊎_elim (λ e. ap is_sound e ∙ t) (f.all_sound j) (in_cons j i f.before h);
      tells = subst (λ p. Tells p f.here fault detail) (sym (far f.before)) f.tells;
    }

-- items that are refused have a first that is not sound
refused-first : (is : List Item) (at : ℕ) (fault : Fault) (detail : ℕ) → written is at ≡ refused fault detail
    → FirstFrom is at fault detail
unfolding place_behind is_sound Tells In
refused-first [] at fault detail e = put_refused (sym (written-nil at) ∙ e)
refused-first (sound bs ∷ is) at fault detail e =
    first_more (sound bs) is at (at + length bs) fault detail refl (λ before. refl)
    (refused-first is (at + length bs) fault detail
    (behind-refused bs (written is (at + length bs)) fault detail (sym (written-sound is at bs) ∙ e)))
refused-first (broken told ∷ is) at fault detail e =
    let g = sym (written-broken is at told) ∙ e in
    record {
      before = [];
      here = broken told;
      after = is;
      whole = refl;
      all_sound = λ i h. absurd h;
      tells = (cc, cc);
    }
refused-first (unused v ∷ is) at fault detail e =
    let g = sym (written-unused is at v) ∙ e in
    record {
      before = [];
      here = unused v;
      after = is;
      whole = refl;
      all_sound = λ i h. absurd h;
      tells = (cc, cc);
    }
refused-first (padding ∷ is) at fault detail e =
    let w = to_full_byte at in
    first_more padding is at (at + w) fault detail refl (λ before. refl)
    (refused-first is (at + w) fault detail
    (behind-refused (replicate w false) (written is (at + w)) fault detail (sym (written-padding is at) ∙ e)))

-- an item that is not sound is refused at its place
tells-refused : (i : Item) (is : List Item) (at : ℕ) (fault : Fault) (detail : ℕ) → Tells at i fault detail
    → written (i ∷ is) at ≡ refused fault detail
unfolding Tells
tells-refused (sound bs) is at fault detail t = absurd t
tells-refused (broken told) is at fault detail t = let (f, d) = t in written-broken is at told ∙ cc
tells-refused (unused v) is at fault detail t = let (f, d) = t in written-unused is at v ∙ cc
tells-refused padding is at fault detail t = absurd t

-- what stands behind sound items is refused where it is refused alone
first-refused : (before : List Item) (here : Item) (after : List Item) (at : ℕ) (fault : Fault) (detail : ℕ)
    → ((i : Item) → In i before → is_sound i ≡ true) → Tells (place_behind before at) here fault detail
    → written (before ++ (here ∷ after)) at ≡ refused fault detail
unfolding place_behind is_sound
first-refused [] here after at fault detail s t = tells-refused here after at fault detail t
first-refused (sound bs ∷ before) here after at fault detail s t =
    let more =
    first-refused before here after (at + length bs) fault detail (λ i h. s i (in_tail i (sound bs) before h)) t in
    written-sound (before ++ (here ∷ after)) at bs ∙ ap (behind bs) more ∙ behind_fault bs fault detail
first-refused (broken told ∷ before) here after at fault detail s t =
    clash (s (broken told) (in_head (broken told) before)) refl
first-refused (unused v ∷ before) here after at fault detail s t =
    clash (s (unused v) (in_head (unused v) before)) refl
first-refused (padding ∷ before) here after at fault detail s t =
    let w = to_full_byte at in
    let more = first-refused before here after (at + w) fault detail (λ i h. s i (in_tail i padding before h)) t in
    written-padding (before ++ (here ∷ after)) at ∙ ap (behind (replicate w false)) more
    ∙ behind_fault (replicate w false) fault detail

-- ---- sound items

-- sound items are written
sounds-put : (is : List Item) (at : ℕ) → ((i : Item) → In i is → is_sound i ≡ true)
    → (bs : List Bool) × (written is at ≡ put bs)
unfolding is_sound
sounds-put [] at s = ([], written-nil at)
sounds-put (sound bs ∷ is) at s =
    let (cs, e) = sounds-put is (at + length bs) (λ i h. s i (in_tail i (sound bs) is h)) in
    (bs ++ cs, written-sound is at bs ∙ ap (behind bs) e ∙ behind-bits bs cs)
sounds-put (broken told ∷ is) at s = clash (s (broken told) (in_head (broken told) is)) refl
sounds-put (unused v ∷ is) at s = clash (s (unused v) (in_head (unused v) is)) refl
sounds-put (padding ∷ is) at s =
    let bs = replicate (to_full_byte at) false in
    let (cs, e) = sounds-put is (at + to_full_byte at) (λ i h. s i (in_tail i padding is h)) in
    (bs ++ cs, written-padding is at ∙ ap (behind bs) e ∙ behind-bits bs cs)

-- items that are written are sound
put-sounds : (is : List Item) (at : ℕ) (bs : List Bool) → written is at ≡ put bs
    → (i : Item) → In i is → is_sound i ≡ true
unfolding is_sound In
put-sounds [] at bs e i h = absurd h
put-sounds (sound cs ∷ is) at bs e i (inl g) = ap is_sound g
put-sounds (sound cs ∷ is) at bs e i (inr h) =
    let (ds, x, y) = behind-put cs (written is (at + length cs)) bs (sym (written-sound is at cs) ∙ e) in
    put-sounds is (at + length cs) ds x i h
put-sounds (broken told ∷ is) at bs e i h = put_refused (sym e ∙ written-broken is at told)
put-sounds (unused v ∷ is) at bs e i h = put_refused (sym e ∙ written-unused is at v)
put-sounds (padding ∷ is) at bs e i (inl g) = ap is_sound g
put-sounds (padding ∷ is) at bs e i (inr h) =
    let w = to_full_byte at in
    let (ds, x, y) = behind-put (replicate w false) (written is (at + w)) bs (sym (written-padding is at) ∙ e) in
    put-sounds is (at + w) ds x i h

-- ---- the sheet

-- bits as bytes are refused exactly where the bits are
packed-refused : (w : Written (List Bool)) (fault : Fault) (detail : ℕ) → packed w ≡ refused fault detail
    → w ≡ refused fault detail
unfolding packed
packed-refused (put bits) fault detail e = put_refused e
packed-refused (refused f d) fault detail e = let x : f ≡ fault = cc in let y : d ≡ detail = cc in cc

refused-packed : (w : Written (List Bool)) (fault : Fault) (detail : ℕ) → w ≡ refused fault detail
    → packed w ≡ refused fault detail
unfolding packed
refused-packed w fault detail e = ap packed e

-- and written exactly where the bits are
packed-put : (w : Written (List Bool)) (bytes : List ℕ) → packed w ≡ put bytes → (bits : List Bool) × (w ≡ put bits)
unfolding packed
packed-put (put bits) bytes e = (bits, refl)
packed-put (refused f d) bytes e = put_refused (sym e)

put-packed : (w : Written (List Bool)) (bits : List Bool) → w ≡ put bits → (bytes : List ℕ) × (packed w ≡ put bytes)
unfolding packed
put-packed w bits e = (octets (length bits / 8) bits, ap packed e)

-- a sheet is refused exactly where an item is not sound, by the first of them
pub first-broken : (s : Sheet) (fault : Fault) (detail : ℕ)
    → (write_sheet s ≡ refused fault detail) ↔ FirstBroken (sheet_items s) fault detail
unfolding write_sheet
first-broken s fault detail = (
  λ e.
      let f = refused-first (sheet_items s) 0 fault detail (packed-refused (written (sheet_items s) 0) fault detail e) in
      record {
        before = f.before;
        here = f.here;
        after = f.after;
        whole = f.whole;
        all_sound = f.all_sound;
        tells = f.tells;
      },
  λ (f : FirstBroken (sheet_items s) fault detail).
      refused-packed (written (sheet_items s) 0) fault detail
      (ap (λ is. written is 0) f.whole
      ∙ first-refused f.before f.here f.after 0 fault detail f.all_sound f.tells),
)

-- a sheet is written exactly where all its items are sound
pub all-sounds : (s : Sheet) → ((i : Item) → In i (sheet_items s) → is_sound i ≡ true)
    ↔ ((bytes : List ℕ) × (write_sheet s ≡ put bytes))
unfolding write_sheet
all-sounds s = (
  λ h. let (bs, e) = sounds-put (sheet_items s) 0 h in put-packed (written (sheet_items s) 0) bs e,
  λ (x : (bytes : List ℕ) × (packed (written (sheet_items s) 0) ≡ put bytes)).
      let (bs, e) = packed-put (written (sheet_items s) 0) x.0 x.1 in put-sounds (sheet_items s) 0 bs e,
)

-- ---- all that is claimed

-- two sheets are never written alike
written_once : (s t : Sheet) → Formed s → Formed t → (bytes : List ℕ) → write_sheet s ≡ put bytes
    → write_sheet t ≡ put bytes → s ≡ t
written_once s t f g bytes e h =
    let x = read_back s f bytes e in
    let y = read_back t g bytes h in
    cc

-- writing a sheet and reading it are inverse, and a sheet that is not written is refused by its first broken item
pub inverse : Inverse
inverse =
    record {
      back = read_back;
      forth = read-forth;
      formed = read-formed;
      once = written_once;
      small = λ s f bytes e. (
        written_low s bytes e,
        sheet-bytes bytes s (8 * length bytes) (read_back s f bytes e),
      );
      first = first-broken;
      sounds = all-sounds;
    }
