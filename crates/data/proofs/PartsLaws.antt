-- Laws of the row data's parts: what is known of parts that were found, and how they are found one after the other.
use mathlib.Core.Path.{◌≡◌, refl, sym, ◌∙◌, ap, subst}
use mathlib.Core.Bool.{Bool, true, false, ◌&&◌}
use mathlib.Core.List.{List, [], ◌∷◌, ◌++◌, map, append-nil}
use mathlib.Core.Option
use mathlib.Core.Option.{Option, none, some, none-ne-some, some-injective, map-eq-some_iff}
use Prim.Native.Nat.{ℕ, zero, suc, ◌+◌, ◌-◌, ◌*◌, ◌≤◌, ◌<◌}
use native.Mathlib.Omega.{arith}
use native.Mathlib.Numerals.{add-one}
use lib.ListN.{length, get_or, take, drop, set, replicate, length-append, length-map, drop_of_length-le}
use lib.Seq.{drop-cons, get_or-take, length-take-le, append_snoc}
use lib.Dec.{eqb, leb, ltb}
use borrow.Author.Tests.{ltb-true, leb-true, leb-false, lt-ltb, le-leb, lt-leb, eq-eqb, ne_eqb}
use Rattle.plan.specs.Lists.{padded}
use Rattle.plan.specs.RowData.{Part, part_at, parts_from, parts}
use Rattle.plan.proofs.Lists.{by_test, and_left, and_right, and_of}
use Rattle.plan.proofs.Padded.{map_at, padded_at, stored_more}
use Rattle.data.specs.declared.Parts.{Parts}
use Rattle.data.specs.declared.Part as Held
use Rattle.data.specs.Parts.{Narrow, place_held, no_place, parts_held, parts_of, part_of}
use Rattle.std.specs.Prelude.{None, Some}
use Rattle.std.specs.Prelude as Given

-- ---- one part

-- a part that lies in the data: its register's columns, its count before its rows, and its rows before the end
pub record PartFits (words : List ℕ) (columns : ℕ) (p : Part) : Type 0 where
  pub width : p.columns ≡ columns
  pub few : p.rows ≤ 512
  pub behind : 1 ≤ p.start
  pub count : p.rows ≡ get_or words (p.start - 1) 0
  pub within : p.start + p.rows * columns ≤ length words

-- the data goes on at the place, the count there is at most 512, and the rows behind it end within the data
abbrev pub Lies : List ℕ → ℕ → ℕ → ℕ → Type 0
Lies words at columns count =
    (at < length words) × (count ≤ 512) × (at + 1 + count * columns ≤ length words)

module _ (words : List ℕ) (at columns : ℕ) where
  -- the test of a part
  sound : Bool
  sound =
      ltb at (length words)
      && leb (get_or words at 0) 512
      && leb (at + 1 + get_or words at 0 * columns) (length words)

  -- what it says
  sound-says : sound ≡ true → Lies words at columns (get_or words at 0)
  unfolding sound
  sound-says h =
      let early = ltb at (length words) in
      let few = leb (get_or words at 0) 512 in
      let long = leb (at + 1 + get_or words at 0 * columns) (length words) in
      let both = and_left (early && few) long h in (
        ltb-true at (length words) (and_left early few both),
        leb-true (get_or words at 0) 512 (and_right early few both),
        leb-true (at + 1 + get_or words at 0 * columns) (length words) (and_right (early && few) long h),
      )

  -- the part whose count stands at the place
  abbrev part_there : Part
  part_there = record { columns = columns; start = at + 1; rows = get_or words at 0 }

  -- the test decides whether it is given
  part_sound : sound ≡ true → part_at words at columns ≡ some part_there
  unfolding sound part_at
  part_sound h = rw (h, part_at)

  part_unsound : sound ≡ false → part_at words at columns ≡ none
  unfolding sound part_at
  part_unsound h = rw (h, part_at)

  -- it is given where it lies in the data
  part-given : Lies words at columns (get_or words at 0) → part_at words at columns ≡ some part_there
  unfolding sound
  part-given h =
      part_sound
      (and_of
      (and_of (lt-ltb at (length words) h.0) (le-leb (get_or words at 0) 512 h.1))
      (le-leb (at + 1 + get_or words at 0 * columns) (length words) h.2))

  -- and refused elsewhere
  part-refused : (Lies words at columns (get_or words at 0) → ⊥) → part_at words at columns ≡ none
  part-refused h = by_test sound (λ t. absurd (h (sound-says t))) part_unsound

  -- a part that is given lies in the data, right behind the place
  part-fits : (p : Part) → part_at words at columns ≡ some p → PartFits words columns p × (p.start ≡ at + 1)
  part-fits p h =
      by_test
      sound
      (λ t.
      let says = sound-says t in
      let e : part_there ≡ p = some-injective part_there p (sym (part_sound t) ∙ h) in
      subst (λ (q : Part). PartFits words columns q × (q.start ≡ at + 1)) e (there says, refl))
      (λ f. absurd (none-ne-some p (sym (part_unsound f) ∙ h)))
    where
      there : Lies words at columns (get_or words at 0) → PartFits words columns part_there
      there says =
          let e : at ≡ at + 1 - 1 = omega arith in
          record {
            width = refl;
            few = says.1;
            behind = omega arith;
            count = ap (λ (k : ℕ). get_or words k 0) e;
            within = says.2;
          }

-- ---- parts one after the other

-- where a part ends
abbrev pub part_end : Part → ℕ
part_end p = p.start + p.rows * p.columns

module _ (words : List ℕ) where
  -- a part that is refused refuses all
  from_none : (at c : ℕ) (cs : List ℕ) → part_at words at c ≡ none → parts_from words at (c ∷ cs) ≡ none
  unfolding parts_from
  from_none at c cs h = rw (h, parts_from)

  -- the next part starts where this one ends
  from_some : (at c : ℕ) (cs : List ℕ) (p : Part) → part_at words at c ≡ some p
      → parts_from words at (c ∷ cs)
      ≡ Option.map (λ (ps : List Part). p ∷ ps) (parts_from words (p.start + p.rows * c) cs)
  unfolding parts_from
  from_some at c cs p h = rw (h, parts_from)

  -- parts that were found, taken apart
  record First (at c : ℕ) (cs : List ℕ) (ps : List Part) : Type 0 where
    part : Part
    others : List Part
    split : ps ≡ part ∷ others
    fits : PartFits words c part
    place : part.start ≡ at + 1
    rest : parts_from words (part_end part) cs ≡ some others

  -- where there is a register there is a first part
  from_cons : (at c : ℕ) (cs : List ℕ) (ps : List Part) → parts_from words at (c ∷ cs) ≡ some ps → First at c cs ps
  from_cons at c cs ps h = go (part_at words at c) refl
    where
      go : (o : Option Part) → part_at words at c ≡ o → First at c cs ps
      go none e = absurd (none-ne-some ps (sym (from_none at c cs e) ∙ h))
      go (some p) e =
          let (qs, f, s) =
          (map-eq-some_iff (λ (ps : List Part). p ∷ ps) (parts_from words (p.start + p.rows * c) cs) {b = ps}).0
          (sym (from_some at c cs p e) ∙ h) in
          let (fits, place) = part-fits words at c p e in
          record {
            part = p;
            others = qs;
            split = sym s;
            fits = fits;
            place = place;
            rest = ap (λ (w : ℕ). parts_from words (p.start + p.rows * w) cs) fits.width ∙ f;
          }

  -- with no register left there is no part, and nothing follows
  from_nil : (at : ℕ) (ps : List Part) → parts_from words at [] ≡ some ps → ps ≡ []
  unfolding parts_from
  from_nil at ps h =
      by_test
      (eqb at (length words))
      (λ t. some-injective ps [] (sym h ∙ rw (t, parts_from)))
      (λ f. absurd (none-ne-some ps (sym (rw (f, parts_from)) ∙ h)))

  -- a part for each register
  from_length : (at : ℕ) (cs : List ℕ) (ps : List Part) → parts_from words at cs ≡ some ps → length ps ≡ length cs
  from_length at [] ps h = ap length (from_nil at ps h)
  from_length at (c ∷ cs) ps h =
      let s = from_cons at c cs ps h in
      ap length s.split ∙ ap suc (from_length (part_end s.part) cs s.others s.rest)

  -- part i lies in the data, with its register's columns
  from_fits : (at : ℕ) (cs : List ℕ) (ps : List Part) → parts_from words at cs ≡ some ps
      → (i : ℕ) (d : Part) → i < length cs → PartFits words (get_or cs i 0) (get_or ps i d)
  from_fits at [] ps h i d l = absurd (let z : ⊥ = omega arith in z)
  from_fits at (c ∷ cs) ps h zero d l =
      let s = from_cons at c cs ps h in
      subst (λ (qs : List Part). PartFits words c (get_or qs 0 d)) (sym s.split) s.fits
  from_fits at (c ∷ cs) ps h (suc i) d l =
      let s = from_cons at c cs ps h in
      let k : i < length cs = omega arith in
      subst
      (λ (qs : List Part). PartFits words (get_or cs i 0) (get_or qs (suc i) d))
      (sym s.split)
      (from_fits (part_end s.part) cs s.others s.rest i d k)

  -- the first part starts one word behind the place
  from_first : (at : ℕ) (cs : List ℕ) (ps : List Part) → parts_from words at cs ≡ some ps
      → (d : Part) → 0 < length cs → (get_or ps 0 d).start ≡ at + 1
  from_first at [] ps h d l = absurd (let z : ⊥ = omega arith in z)
  from_first at (c ∷ cs) ps h d l =
      let s = from_cons at c cs ps h in
      ap (λ (qs : List Part). (get_or qs 0 d).start) s.split ∙ s.place

  -- and each later one a word behind where the part before it ended
  from_next : (at : ℕ) (cs : List ℕ) (ps : List Part) → parts_from words at cs ≡ some ps
      → (i : ℕ) (d : Part) → suc i < length cs → (get_or ps (suc i) d).start ≡ part_end (get_or ps i d) + 1
  from_next at [] ps h i d l = absurd (let z : ⊥ = omega arith in z)
  from_next at (c ∷ cs) ps h zero d l =
      let s = from_cons at c cs ps h in
      let k : 0 < length cs = omega arith in
      subst
      (λ (qs : List Part). (get_or qs 1 d).start ≡ part_end (get_or qs 0 d) + 1)
      (sym s.split)
      (from_first (part_end s.part) cs s.others s.rest d k)
  from_next at (c ∷ cs) ps h (suc i) d l =
      let s = from_cons at c cs ps h in
      let k : suc i < length cs = omega arith in
      subst
      (λ (qs : List Part). (get_or qs (suc (suc i)) d).start ≡ part_end (get_or qs (suc i) d) + 1)
      (sym s.split)
      (from_next (part_end s.part) cs s.others s.rest i d k)

-- ---- the parts of the row data

-- data of more than 16,384 words is refused
pub parts-long : (cs words : List ℕ) → 16384 < length words → parts cs words ≡ none
unfolding parts
parts-long cs words h = rw (lt-leb (length words) 16384 h, parts)

-- data of up to 16,384 words is read from its first word on
pub parts-short : (cs words : List ℕ) → length words ≤ 16384 → parts cs words ≡ parts_from words 0 cs
unfolding parts
parts-short cs words h = rw (le-leb (length words) 16384 h, parts)

module _ (cs words : List ℕ) (ps : List Part) (found : parts cs words ≡ some ps) where
  -- data whose parts were found has at most 16,384 words
  pub parts-words : length words ≤ 16384
  parts-words =
      by_test
      (leb (length words) 16384)
      (leb-true (length words) 16384)
      (λ f. absurd (none-ne-some ps (sym (parts-long cs words (leb-false (length words) 16384 f)) ∙ found)))

  -- the parts were found from the first word on
  begun : parts_from words 0 cs ≡ some ps
  begun = sym (parts-short cs words parts-words) ∙ found

  -- there is a part for each register
  pub parts-length : length ps ≡ length cs
  parts-length = from_length words 0 cs ps begun

  -- part i lies in the data: it has its register's columns and at most 512 rows, its count stands before it, and it
  -- ends within the data
  pub parts-fit : (i : ℕ) (d : Part) → i < length cs → PartFits words (get_or cs i 0) (get_or ps i d)
  parts-fit = from_fits words 0 cs ps begun

  -- the first part's count is the first word
  pub parts_first : (d : Part) → 0 < length cs → (get_or ps 0 d).start ≡ 1
  parts_first d l = from_first words 0 cs ps begun d l

  -- each later part's count stands where the part before it ended
  pub parts_next : (i : ℕ) (d : Part) → i + 1 < length cs → (get_or ps (i + 1) d).start ≡ part_end (get_or ps i d) + 1
  parts_next i d l =
      let k : suc i < length cs = omega arith in
      ap (λ (j : ℕ). (get_or ps j d).start) (add-one i) ∙ from_next words 0 cs ps begun i d k

-- ---- the struct

-- where no parts are given the row data was refused
pub sound_none : (r : Given.Option Parts) (o : Option (List Part)) → r ≡ parts_of o → r ≡ None → o ≡ none
unfolding parts_of
sound_none r none e n = refl
sound_none r (some ps) e n = cc

-- and the parts that are given are those of the row data
pub sound-some : (r : Given.Option Parts) (o : Option (List Part)) (p : Parts) → r ≡ parts_of o → r ≡ Some p
    → (ps : List Part) × (o ≡ some ps) × (p ≡ parts_held ps)
unfolding parts_of
sound-some r none p e t = cc
sound-some r (some ps) p e t = (ps, refl, cc)

module _ (ps : List Part) (i : ℕ) (d : Part) (h : i < length ps) where
  -- an entry is where the part starts and how many rows it has
  pub held_at : part_of (parts_held ps) i ≡ place_held (get_or ps i d)
  held_at = padded_at 12 no_place (map place_held ps) i no_place (omega (arith, length-map ps place_held)) ∙ map_at place_held ps i no_place d h

  -- where the part starts
  pub start_at : (part_of (parts_held ps) i).start ≡ (get_or ps i d).start
  start_at = ap (λ (p : Held.Part). p.start) held_at

  -- how many rows it has
  pub rows_at : (part_of (parts_held ps) i).rows ≡ (get_or ps i d).rows
  rows_at = ap (λ (p : Held.Part). p.rows) held_at

-- the columns of the first registers
pub narrow_front : (columns : List ℕ) (registers : ℕ) → registers ≤ length columns → Narrow columns registers
    → Narrow (take registers columns) (length (take registers columns))
narrow_front columns registers long narrow =
    let size = length-take-le registers columns long in
    record {
      few = omega (arith, size, narrow.few);
      narrow = λ i l.
          let h : i < registers = omega (arith, size) in
          rw (get_or-take registers columns i 0 h) (narrow.narrow i h);
    }

-- ---- finding them

-- parts in front of one part in front of others
in_front : (done : List Part) (p : Part) (o : Option (List Part))
    → Option.map (λ (ps : List Part). done ++ ps) (Option.map (λ (ps : List Part). p ∷ ps) o)
    ≡ Option.map (λ (ps : List Part). done ++ (p ∷ []) ++ ps) o
in_front done p none = refl
in_front done p (some ps) = ap {B = Option (List Part)} some (sym (append_snoc done p ps))

module _ (words columns : List ℕ) where
  -- the first parts are found, and those from the place on are left to be found
  pub record Found (part : List Held.Part) (at next : ℕ) : Type 0 where
    pub done : List Part
    pub many : length done ≡ next
    pub held : part ≡ padded 12 no_place (map place_held done)
    pub on : parts columns words
        ≡ Option.map (λ (ps : List Part). done ++ ps) (parts_from words at (drop next columns))

  -- at first all are left
  pub found_none : length words ≤ 16384 → Found (replicate 12 no_place) 0 0
  unfolding padded
  found_none h =
      record {
        done = [];
        many = refl;
        held = refl;
        on = parts-short columns words h ∙ sym (same (parts_from words 0 columns));
      }
    where
      same : (o : Option (List Part)) → Option.map (λ (ps : List Part). [] ++ ps) o ≡ o
      same none = refl
      same (some ps) = refl

  -- from what is found so far
  module _ (part : List Held.Part) (at next : ℕ) (f : Found part at next) where
    module _ (l : next < length columns) where
      -- the columns of the next register come first of those left
      next_columns : drop next columns
          ≡ get_or columns next 0 ∷ drop (suc next) columns
      next_columns = drop-cons columns next 0 l

      -- where the next part is refused the data is
      pub found-refused : (count : ℕ) → count ≡ get_or words at 0 → (Lies words at (get_or columns next 0) count → ⊥)
          → parts_of (parts columns words) ≡ None
      unfolding parts_of
      found-refused count e h =
          let c = get_or columns next 0 in
          let rest = drop (suc next) columns in
          let bad : part_at words at c ≡ none =
          part-refused words at c (subst (λ (n : ℕ). Lies words at c n → ⊥) e h) in
          ap parts_of (f.on
          ∙ ap (λ (o : Option (List Part)). Option.map (λ (ps : List Part). f.done ++ ps) o)
          (ap (parts_from words at) next_columns ∙ from_none words at c rest bad))

      -- where it is given it is found, and those behind it are left
      pub found-more : length columns ≤ 12 → (count : ℕ) → count ≡ get_or words at 0
          → Lies words at (get_or columns next 0) count
          → Found (set part next (record { start = at + 1; rows = count })) (at + 1 + count * get_or columns next 0) (next + 1)
      found-more few count e h =
          let c = get_or columns next 0 in
          let rest = drop (suc next) columns in
          let p : Part = record { columns = c; start = at + 1; rows = count } in
          let given : part_at words at c ≡ some p =
          subst
          (λ (n : ℕ). part_at words at c ≡ some (record { columns = c; start = at + 1; rows = n }))
          (sym e)
          (part-given words at c (subst (Lies words at c) e h)) in
          let found : parts columns words
          ≡ Option.map (λ (ps : List Part). f.done ++ (p ∷ []) ++ ps) (parts_from words (at + 1 + count * c) rest) =
          f.on
          ∙ ap (λ (o : Option (List Part)). Option.map (λ (ps : List Part). f.done ++ ps) o)
          (ap (parts_from words at) next_columns ∙ from_some words at c rest p given)
          ∙ in_front f.done p (parts_from words (at + 1 + count * c) rest) in
          record {
            done = f.done ++ (p ∷ []);
            many = omega (arith, length-append f.done (p ∷ []), f.many);
            held = stored_more 12 no_place place_held part f.done next p _ f.many (omega arith) refl f.held;
            on = rw (add-one next) found;
          }

    module _ (all : next ≡ length columns) where
      -- no columns are left behind the last register's
      no_columns : drop next columns ≡ []
      no_columns = drop_of_length-le columns {i = next} (omega arith)

      -- with no register left, the whole is what the end says
      found-end : (o : Option (List Part)) → parts_from words at [] ≡ o
          → parts columns words ≡ Option.map (λ (ps : List Part). f.done ++ ps) o
      found-end o e =
          f.on
          ∙ ap (λ (o : Option (List Part)). Option.map (λ (ps : List Part). f.done ++ ps) o)
          (ap (parts_from words at) no_columns ∙ e)

      -- words that are left over refuse the data
      pub found-over : at < length words → parts_of (parts columns words) ≡ None
      unfolding parts_from parts_of
      found-over h = ap parts_of (found-end none (rw (ne_eqb at (length words) (λ e. omega arith), parts_from)))

      -- and where none are the parts are those found
      pub found_all : at ≡ length words
          → parts_of (parts columns words) ≡ Some (record { part = part })
      unfolding parts_from parts_of
      found_all h =
          ap parts_of (found-end (some []) (rw (eq-eqb at (length words) h, parts_from))
          ∙ ap {B = Option (List Part)} some (append-nil f.done))
          ∙ ap (λ (x : List Held.Part). Some (let p : Parts = record { part = x } in p)) (sym f.held)
