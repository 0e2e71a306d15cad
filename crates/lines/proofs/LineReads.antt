-- The lines that are read, as a relation without places: what may come at each stage, and what is said with it. A line is
-- read so exactly where its walk finds a request.
use mathlib.Core.Path.{◌≡◌, refl, sym, ◌∙◌, ap, subst}
use mathlib.Core.Logic.{◌≢◌, ⊎_elim}
use mathlib.Core.Bool.{true, false, ◌&&◌, not}
use mathlib.Core.List.{List, [], ◌∷◌, ◌++◌}
use Prim.Native.Nat.{ℕ, zero, suc, ◌+◌, ◌≤◌, ◌<◌, min}
use native.Mathlib.Omega.{arith}
use lib.ListN.{length, get_or, length-append}
use lib.Dec.{eqb, leb, ltb}
use borrow.Author.Tests.{ltb-true, ltb-false, leb-false, eqb-true, eqb-false, not-false, lt-ltb, le-ltb, lt-leb}
use borrow.Author.Tests.{eq-eqb, ne_eqb}
use Rattle.plan.specs.Lists.{every, has}
use Rattle.plan.specs.Sheet.{Register, Sheet, columns_of}
use Rattle.plan.specs.Tokens.{equals, colon, opening, closing, space, over, is_letter, is_digit, is_mark, run, decimal}
use Rattle.plan.specs.Tokens.{value_of, cut, cut_of, cuts_from, cuts, place_of}
use Rattle.plan.specs.Typed.{no_mark, one_mark, two_marks, a_name, a_mark, turn, follows, is_nowhere, Typing, nothing_said}
use Rattle.plan.specs.Typed.{Role, of_given, of_register, of_column, role, names_for, which_name, noted_name, noted_value}
use Rattle.plan.specs.Typed.{noted_look_up, noted, is_nought, is_other, is_unknown_name, is_unknown, is_miscounted, is_name_over}
use Rattle.plan.specs.Typed.{is_over, is_again_name, is_again, first_fit, Stand, beginning, asks}
use Rattle.plan.specs.Typed.{sheet_typed, fits_at, stepped, walk, behind_all}
use Rattle.plan.specs.declared.Token.TheVariants.{Name, Number, Mark, Other, End}
use Rattle.plan.specs.declared.Cut.{Cut}
use Rattle.plan.specs.declared.Stage.{Stage}
use Rattle.plan.specs.declared.Stage.TheVariants.{Given, Equals, Value, GivenGap, ColonGap, Asked, Opening, Column}
use Rattle.plan.specs.declared.Stage.TheVariants.{ColumnGap, Closed, Nowhere}
use Rattle.plan.proofs.Lists.{clash, and_left, or_none_left, or_none_right}
use Rattle.lines.proofs.Cuts.{digit_range, decimal-some, cut-mark, cut_other, cut-end}
use Rattle.lines.proofs.TypedWalk.{walk_on, walk-asks, Sound, sound-fit, fit-sound, one-mark, two-marks, end_closed}
use Rattle.lines.proofs.LineCuts.{Spelt, View, at_end, at_name, at_number, at_mark, at_other, view, cut_spelt, cut-number}
use Rattle.lines.proofs.LineCuts.{farther, cuts_token, cuts_last, name-here}

-- a number that may be a given value, and that ends where the rest begins: its first digit is not 0
pub record Counted (d : ℕ) (ds rest : List ℕ) : Type 0 where
  pub digits : every is_digit (d ∷ ds) ≡ true
  pub ends : run is_digit rest ≡ 0
  pub low : 49 ≤ d
  pub high : decimal 0 (d ∷ ds) < over

-- what is left of a line at a stage, behind what was said, is read, and all that is said behind it
module _ (registers : List Register) (known : List (List ℕ)) where
  pub data Reads : Stage → Typing → List ℕ → Typing → Type 0 where
    finish : {s : Typing} → Reads Closed s [] s
    a_given : {s t : Typing} {x rest : List ℕ} → Spelt x rest → length x ≤ 12 → length s.names ≤ place_of x s.names
        → place_of x s.names < 16 → Reads Equals (noted_name of_given known x s) rest t → Reads Given s (x ++ rest) t
    an_equals : {s t : Typing} {rest : List ℕ} → Reads Value s rest t → Reads Equals s (equals ∷ rest) t
    a_value : {s t : Typing} {d : ℕ} {ds rest : List ℕ} → Counted d ds rest
        → Reads GivenGap (noted_value (decimal 0 (d ∷ ds)) s) rest t → Reads Value s ((d ∷ ds) ++ rest) t
    given_gap : {s t : Typing} {rest : List ℕ} → Reads Given s rest t → Reads GivenGap s (space ∷ rest) t
    the_colon : {s t : Typing} {rest : List ℕ} → Reads ColonGap s rest t → Reads Given s (colon ∷ rest) t
    colon_gap : {s t : Typing} {rest : List ℕ} → Reads Asked s rest t → Reads ColonGap s (space ∷ rest) t
    a_register : {s t : Typing} {x rest : List ℕ} → Spelt x rest → place_of x known < length known → length s.look_ups < 12
        → Reads Opening (noted_name of_register known x s) rest t → Reads Asked s (x ++ rest) t
    opens : {s t : Typing} {rest : List ℕ} → Reads Column s rest t → Reads Opening s (opening ∷ rest) t
    a_variable : {s t : Typing} {x rest : List ℕ} → Spelt x rest → length x ≤ 12 → place_of x s.names < 16
        → Reads ColumnGap (noted_name of_column known x s) rest t → Reads Column s (x ++ rest) t
    column_gap : {s t : Typing} {rest : List ℕ} → Reads Column s rest t → Reads ColumnGap s (space ∷ rest) t
    closes : {s t : Typing} {rest : List ℕ} → length s.vars ≡ get_or (columns_of registers) s.register 0
        → Reads Closed (noted_look_up s) rest t → Reads ColumnGap s (closing ∷ rest) t
    look_up_gap : {s t : Typing} {rest : List ℕ} → Reads Asked s rest t → Reads Closed s (space ∷ rest) t

-- ---- numbers

-- the digit 0 alone makes 0
only_zero : (d : ℕ) (ds : List ℕ) → d ≡ 48 → ltb 1 (length (d ∷ ds)) ≡ false → decimal 0 (d ∷ ds) ≡ 0
unfolding decimal
only_zero d [] q h = omega arith
only_zero d (e ∷ ds) q h = absurd (let few = ltb-false 1 (length (d ∷ e ∷ ds)) h in omega arith)

-- a number that is sound as a given's value may be one: it is not 0, and has no leading zero
counted_of : (d : ℕ) (ds rest : List ℕ) → every is_digit (d ∷ ds) ≡ true → run is_digit rest ≡ 0
    → (eqb d 48 && ltb 1 (length (d ∷ ds))) ≡ false → (value_of (d ∷ ds) ≡ 0 → ⊥) → value_of (d ∷ ds) < over → Counted d ds rest
unfolding every value_of
counted_of d ds rest e z led some high =
    let (least, most) = digit_range d (and_left (is_digit d) (every is_digit ds) e) in
    let first : d ≢ 48 = λ q. some (ap (λ (n : ℕ). min over n) (only_zero d ds q (rw (eq-eqb d 48 q) at led))) in
    record { digits = e; ends = z; low = omega arith; high = omega arith }

-- ---- a line by its walk

module _ (registers : List Register) (known : List (List ℕ)) (line : List ℕ) where
  abbrev stand : Stage → Typing → Stand
  stand st s = record { stage = st; said = s }

  -- no number of a refusal fits a token where the line stands
  abbrev SoundAt : Stage → Typing → Cut → ℕ → Type 0
  SoundAt st s c which =
      Sound st c which (length known) (length s.names) (length s.look_ups) (length s.vars)
      (get_or (columns_of registers) s.register 0)

  -- a sound token has no fault
  sound_at : (st : Stage) (s : Typing) (c : Cut) (which : ℕ) → which_name known line (role st) s.names c.token ≡ which
      → SoundAt st s c which → first_fit (fits_at registers known line (stand st s) c) ≡ 0
  unfolding fits_at
  sound_at st s c which e h = rw e (sound-fit st c which _ _ _ _ _ h)

  -- and one without a fault is sound
  at_sound : (st : Stage) (s : Typing) (c : Cut) (which : ℕ) → which_name known line (role st) s.names c.token ≡ which
      → first_fit (fits_at registers known line (stand st s) c) ≡ 0 → SoundAt st s c which
  unfolding fits_at
  at_sound st s c which e h = fit-sound st c which _ _ _ _ _ (rw e at h)

  -- a name's token
  abbrev name_cut : List ℕ → List ℕ → Cut
  name_cut front x = cut (Name (length front) (length x)) (length front) (length x) false

  module _ (front x rest : List ℕ) (whole : line ≡ front ++ (x ++ rest)) where
    -- it is looked up as this name
    which_name_lem : (r : Role) (names : List (List ℕ))
        → which_name known line r names (name_cut front x).token ≡ place_of x (names_for r known names)
    unfolding which_name cut
    which_name_lem r names = ap (λ y. place_of y (names_for r known names)) (name-here line front (x ++ rest) whole x rest refl)

    -- and where the line stands behind it
    stepped-name : (st : Stage) (s : Typing)
        → stepped registers known line (stand st s) (name_cut front x) ≡ stand (turn st).name (noted_name (role st) known x s)
    unfolding stepped noted follows cut
    stepped-name st s =
        ap (λ y. stand (turn st).name (noted_name (role st) known y s)) (name-here line front (x ++ rest) whole x rest refl)

  -- a number's token
  abbrev number_cut : List ℕ → ℕ → List ℕ → Cut
  number_cut front d ds =
      cut (Number (value_of (d ∷ ds))) (length front) (length (d ∷ ds)) (eqb d 48 && ltb 1 (length (d ∷ ds)))

  -- what is left of the line at a stage is walked to its end, which says all this
  record Ends (st : Stage) (s : Typing) (front rest : List ℕ) (t : Typing) : Type 0 where
    asked : (n : ℕ) → length rest ≤ n
        → walk registers known line (stand st s) (cuts_from n line (length front)) ≡ asks (sheet_typed registers t)
    last : (n : ℕ) → length rest ≤ n
        → (behind_all registers known line (stand st s) (cuts_from n line (length front))).said ≡ t

  -- the walk goes on behind a sound token of some bytes
  ends_on : (st next : Stage) (s u t : Typing) (front x rest : List ℕ) (c : Cut) → line ≡ front ++ (x ++ rest) → 1 ≤ length x
      → cut_of (length front) (x ++ rest) ≡ c → c.next ≡ length front + length x
      → first_fit (fits_at registers known line (stand st s) c) ≡ 0
      → stepped registers known line (stand st s) c ≡ stand next u → Ends next u (front ++ x) rest t
      → Ends st s front (x ++ rest) t
  unfolding behind_all
  ends_on st next s u t front x rest c whole some e far fit step h = record { asked = asked_on; last = last_on }
    where
      asked_on : (n : ℕ) → length (x ++ rest) ≤ n
          → walk registers known line (stand st s) (cuts_from n line (length front)) ≡ asks (sheet_typed registers t)
      asked_on zero le = absurd (omega (arith, length-append x rest))
      asked_on (suc n) le =
          ap (walk registers known line (stand st s)) (cuts_token line front x rest n c whole some e far)
          ∙ walk_on registers known line (stand st s) c (cuts_from n line (length (front ++ x))) fit
          ∙ ap (λ (p : Stand). walk registers known line p (cuts_from n line (length (front ++ x)))) step
          ∙ h.asked n (omega (arith, length-append x rest))

      last_on : (n : ℕ) → length (x ++ rest) ≤ n
          → (behind_all registers known line (stand st s) (cuts_from n line (length front))).said ≡ t
      last_on zero le = absurd (omega (arith, length-append x rest))
      last_on (suc n) le =
          ap (λ (cs : List Cut). (behind_all registers known line (stand st s) cs).said)
          (cuts_token line front x rest n c whole some e far)
          ∙ ap (λ (p : Stand). (behind_all registers known line p (cuts_from n line (length (front ++ x)))).said) step
          ∙ h.last n (omega (arith, length-append x rest))

  -- behind a name
  name_on : (st : Stage) (s t : Typing) (front x rest : List ℕ) → line ≡ front ++ (x ++ rest) → Spelt x rest
      → SoundAt st s (name_cut front x) (place_of x (names_for (role st) known s.names))
      → Ends (turn st).name (noted_name (role st) known x s) (front ++ x) rest t → Ends st s front (x ++ rest) t
  unfolding cut
  name_on st s t front x rest whole spelt sound h =
      ends_on st (turn st).name s (noted_name (role st) known x s) t front x rest (name_cut front x) whole spelt.some
      (cut_spelt (length front) x rest spelt) refl
      (sound_at st s (name_cut front x) _ (which_name_lem front x rest whole (role st) s.names) sound)
      (stepped-name front x rest whole st s) h

  -- behind a number
  number_on : (st : Stage) (s t : Typing) (front : List ℕ) (d : ℕ) (ds rest : List ℕ) → line ≡ front ++ ((d ∷ ds) ++ rest)
      → every is_digit (d ∷ ds) ≡ true → run is_digit rest ≡ 0 → SoundAt st s (number_cut front d ds) 0
      → Ends (turn st).number (noted_value (value_of (d ∷ ds)) s) (front ++ (d ∷ ds)) rest t → Ends st s front ((d ∷ ds) ++ rest) t
  unfolding cut which_name stepped noted follows
  number_on st s t front d ds rest whole digits ends sound h =
      ends_on st (turn st).number s (noted_value (value_of (d ∷ ds)) s) t front (d ∷ ds) rest (number_cut front d ds) whole
      (omega arith) (cut-number (length front) d ds rest digits ends) refl
      (sound_at st s (number_cut front d ds) 0 refl sound) refl h

  -- behind a mark
  mark_on : (st : Stage) (s t : Typing) (front : List ℕ) (b : ℕ) (rest : List ℕ) → line ≡ front ++ (b ∷ rest)
      → is_letter b ≡ false → is_digit b ≡ false → is_mark b ≡ true → is_nowhere ((turn st).mark b) ≡ false
      → is_miscounted (Mark b) (length s.vars) (get_or (columns_of registers) s.register 0) ≡ false
      → Ends ((turn st).mark b) (noted known line (role st) (Mark b) s) (front ++ (b ∷ [])) rest t → Ends st s front (b ∷ rest) t
  unfolding cut which_name stepped follows is_nought is_other is_unknown is_over is_again
  mark_on st s t front b rest whole l d m place counted h =
      let c : Cut = cut (Mark b) (length front) 1 false in
      let sound : SoundAt st s c 0 =
      record { nought = refl; other = refl; place = place; unknown = refl; miscounted = counted; over = refl; again = refl } in
      ends_on st ((turn st).mark b) s (noted known line (role st) (Mark b) s) t front (b ∷ []) rest c whole (omega arith)
      (cut-mark (length front) b rest l d m) refl (sound_at st s c 0 refl sound) refl h

  -- at the line's end the walk ends
  end-ends : (s : Typing) (front : List ℕ) → line ≡ front ++ [] → Ends Closed s front [] s
  unfolding cut which_name stepped noted follows turn role is_nought is_other is_nowhere is_unknown is_miscounted is_over is_again walk behind_all
  end-ends s front whole =
      let c : Cut = cut End (length front) 0 false in
      let cuts_are : (n : ℕ) → cuts_from n line (length front) ≡ c ∷ [] =
      λ n. cuts_last line front [] whole n refl ∙ ap (λ (d : Cut). d ∷ []) (cut-end (length front)) in
      let sound : SoundAt Closed s c 0 =
      record { nought = refl; other = refl; place = refl; unknown = refl; miscounted = refl; over = refl; again = refl } in
      record {
        asked = λ n le.
            ap (walk registers known line (stand Closed s)) (cuts_are n)
            ∙ walk_on registers known line (stand Closed s) c [] (sound_at Closed s c 0 refl sound);
        last = λ n le. ap (λ (cs : List Cut). (behind_all registers known line (stand Closed s) cs).said) (cuts_are n);
      }

  -- a number below the limit is its own value
  value-below : (ds : List ℕ) → decimal 0 ds < over → value_of ds ≡ decimal 0 ds
  unfolding value_of
  value-below ds h = omega arith

  -- a line that is read is walked to its end
  reads-ends : {st : Stage} {s t : Typing} {rest : List ℕ} (front : List ℕ) → line ≡ front ++ rest
      → Reads registers known st s rest t → Ends st s front rest t
  unfolding cut turn a_name a_mark no_mark one_mark two_marks role follows names_for noted is_nought is_other is_nowhere is_unknown is_unknown_name is_miscounted is_over is_name_over is_again is_again_name is_letter is_digit is_mark has
  reads-ends front whole (finish {s}) = end-ends s front whole
  reads-ends front whole (a_given {s} {t} {x} {rest} spelt short new few r) =
      name_on Given s t front x rest whole spelt
      (record {
        nought = refl;
        other = refl;
        place = refl;
        unknown = refl;
        miscounted = refl;
        over = rw (le-ltb 12 (length x) short) (lt-leb 16 (place_of x s.names) few);
        again = le-ltb (place_of x s.names) (length s.names) new;
      })
      (reads-ends (front ++ x) (farther line front x rest whole) r)
  reads-ends front whole (an_equals {s} {t} {rest} r) =
      mark_on Equals s t front equals rest whole refl refl refl refl refl
      (reads-ends (front ++ (equals ∷ [])) (farther line front (equals ∷ []) rest whole) r)
  reads-ends front whole (a_value {s} {t} {d} {ds} {rest} h r) =
      let value = value-below (d ∷ ds) h.high in
      let low = h.low in
      let some : 1 ≤ value_of (d ∷ ds) = rw value (decimal-some d ds low) in
      number_on Value s t front d ds rest whole h.digits h.ends
      (record {
        nought = ne_eqb (value_of (d ∷ ds)) 0 (λ z. omega arith);
        other = rw (ne_eqb d 48 (λ z. omega arith));
        place = refl;
        unknown = refl;
        miscounted = refl;
        over = lt-leb over (value_of (d ∷ ds)) (rw value h.high);
        again = refl;
      })
      (rw value (reads-ends (front ++ (d ∷ ds)) (farther line front (d ∷ ds) rest whole) r))
  reads-ends front whole (given_gap {s} {t} {rest} r) =
      mark_on GivenGap s t front space rest whole refl refl refl refl refl
      (reads-ends (front ++ (space ∷ [])) (farther line front (space ∷ []) rest whole) r)
  reads-ends front whole (the_colon {s} {t} {rest} r) =
      mark_on Given s t front colon rest whole refl refl refl refl refl
      (reads-ends (front ++ (colon ∷ [])) (farther line front (colon ∷ []) rest whole) r)
  reads-ends front whole (colon_gap {s} {t} {rest} r) =
      mark_on ColonGap s t front space rest whole refl refl refl refl refl
      (reads-ends (front ++ (space ∷ [])) (farther line front (space ∷ []) rest whole) r)
  reads-ends front whole (a_register {s} {t} {x} {rest} spelt found few r) =
      name_on Asked s t front x rest whole spelt
      (record {
        nought = refl;
        other = refl;
        place = refl;
        unknown = rw (lt-ltb (place_of x known) (length known) found);
        miscounted = refl;
        over = lt-leb 12 (length s.look_ups) few;
        again = refl;
      })
      (reads-ends (front ++ x) (farther line front x rest whole) r)
  reads-ends front whole (opens {s} {t} {rest} r) =
      mark_on Opening s t front opening rest whole refl refl refl refl refl
      (reads-ends (front ++ (opening ∷ [])) (farther line front (opening ∷ []) rest whole) r)
  reads-ends front whole (a_variable {s} {t} {x} {rest} spelt short few r) =
      name_on Column s t front x rest whole spelt
      (record {
        nought = refl;
        other = refl;
        place = refl;
        unknown = refl;
        miscounted = refl;
        over = rw (le-ltb 12 (length x) short) (lt-leb 16 (place_of x s.names) few);
        again = refl;
      })
      (reads-ends (front ++ x) (farther line front x rest whole) r)
  reads-ends front whole (column_gap {s} {t} {rest} r) =
      mark_on ColumnGap s t front space rest whole refl refl refl refl refl
      (reads-ends (front ++ (space ∷ [])) (farther line front (space ∷ []) rest whole) r)
  reads-ends front whole (closes {s} {t} {rest} same r) =
      mark_on ColumnGap s t front closing rest whole refl refl refl refl (rw (eq-eqb _ _ same))
      (reads-ends (front ++ (closing ∷ [])) (farther line front (closing ∷ []) rest whole) r)
  reads-ends front whole (look_up_gap {s} {t} {rest} r) =
      mark_on Closed s t front space rest whole refl refl refl refl refl
      (reads-ends (front ++ (space ∷ [])) (farther line front (space ∷ []) rest whole) r)

  -- what is left of the line is read, and says the request
  pub record Read (st : Stage) (s : Typing) (rest : List ℕ) (q : Sheet) : Type 0 where
    pub last : Typing
    pub reads : Reads registers known st s rest last
    pub asked : q ≡ sheet_typed registers last

  -- more is read where what is behind it is
  read_more : {st next : Stage} {s u : Typing} {more rest : List ℕ} {q : Sheet}
      → ((t : Typing) → Reads registers known next u rest t → Reads registers known st s more t) → Read next u rest q
      → Read st s more q
  read_more f r = record { last = r.last; reads = f r.last r.reads; asked = r.asked }

  -- the end is sound only behind a look-up
  end_read : (st : Stage) (s : Typing) (q : Sheet) → is_nowhere (follows st End) ≡ false → q ≡ sheet_typed registers s
      → Read st s [] q
  end_read st s q h e =
      subst (λ g. Read g s [] q) (sym (end_closed st h)) (record { last = s; reads = finish; asked = e })

  -- a name is sound only as a given's, a register's or a variable's
  name-read : (st : Stage) (s : Typing) (front x rest : List ℕ) (q : Sheet) → Spelt x rest
      → SoundAt st s (name_cut front x) (place_of x (names_for (role st) known s.names))
      → Read (turn st).name (noted_name (role st) known x s) rest q → Read st s (x ++ rest) q
  unfolding cut follows turn a_name a_mark is_nowhere role names_for is_unknown is_unknown_name is_over is_name_over is_again is_again_name
  name-read Given s front x rest q spelt h r =
      let w = place_of x s.names in
      read_more
      (λ t.
      a_given spelt
      (ltb-false 12 (length x) (or_none_left (ltb 12 (length x)) (leb 16 w) h.over))
      (ltb-false w (length s.names) h.again)
      (leb-false 16 w (or_none_right (ltb 12 (length x)) (leb 16 w) h.over)))
      r
  name-read Equals s front x rest q spelt h r = clash refl h.place
  name-read Value s front x rest q spelt h r = clash refl h.place
  name-read GivenGap s front x rest q spelt h r = clash refl h.place
  name-read ColonGap s front x rest q spelt h r = clash refl h.place
  name-read Asked s front x rest q spelt h r =
      read_more
      (λ t.
      a_register spelt
      (ltb-true (place_of x known) (length known) (not-false (ltb (place_of x known) (length known)) h.unknown))
      (leb-false 12 (length s.look_ups) h.over))
      r
  name-read Opening s front x rest q spelt h r = clash refl h.place
  name-read Column s front x rest q spelt h r =
      let w = place_of x s.names in
      read_more
      (λ t.
      a_variable spelt
      (ltb-false 12 (length x) (or_none_left (ltb 12 (length x)) (leb 16 w) h.over))
      (leb-false 16 w (or_none_right (ltb 12 (length x)) (leb 16 w) h.over)))
      r
  name-read ColumnGap s front x rest q spelt h r = clash refl h.place
  name-read Closed s front x rest q spelt h r = clash refl h.place
  name-read Nowhere s front x rest q spelt h r = clash refl h.place

  -- a number is sound only as a given's value
  number_read : (st : Stage) (s : Typing) (front : List ℕ) (d : ℕ) (ds rest : List ℕ) (q : Sheet)
      → every is_digit (d ∷ ds) ≡ true → run is_digit rest ≡ 0 → SoundAt st s (number_cut front d ds) 0
      → Read (turn st).number (noted_value (value_of (d ∷ ds)) s) rest q → Read st s ((d ∷ ds) ++ rest) q
  unfolding cut follows turn a_name a_mark is_nowhere role is_nought is_other is_over
  number_read Given s front d ds rest q e z h r = clash refl h.place
  number_read Equals s front d ds rest q e z h r = clash refl h.place
  number_read Value s front d ds rest q e z h r =
      let some = eqb-false (value_of (d ∷ ds)) 0 h.nought in
      let high = leb-false over (value_of (d ∷ ds)) h.over in
      let counted = counted_of d ds rest e z h.other some high in
      read_more (λ t. a_value counted) (rw (value-below (d ∷ ds) counted.high) at r)
  number_read GivenGap s front d ds rest q e z h r = clash refl h.place
  number_read ColonGap s front d ds rest q e z h r = clash refl h.place
  number_read Asked s front d ds rest q e z h r = clash refl h.place
  number_read Opening s front d ds rest q e z h r = clash refl h.place
  number_read Column s front d ds rest q e z h r = clash refl h.place
  number_read ColumnGap s front d ds rest q e z h r = clash refl h.place
  number_read Closed s front d ds rest q e z h r = clash refl h.place
  number_read Nowhere s front d ds rest q e z h r = clash refl h.place

  -- a mark is sound only where it may come
  mark-read : (st : Stage) (s : Typing) (b : ℕ) (rest : List ℕ) (q : Sheet) → is_nowhere ((turn st).mark b) ≡ false
      → is_miscounted (Mark b) (length s.vars) (get_or (columns_of registers) s.register 0) ≡ false
      → Read ((turn st).mark b) (noted known line (role st) (Mark b) s) rest q → Read st s (b ∷ rest) q
  unfolding follows turn a_name a_mark no_mark is_nowhere role noted is_miscounted one_mark two_marks
  mark-read Given s b rest q h c r =
      let e = one-mark colon ColonGap b h in
      let r' : Read ColonGap s rest q = rw e at r in
      rw e (read_more (λ t. the_colon) r')
  mark-read Equals s b rest q h c r =
      let e = one-mark equals Value b h in
      let r' : Read Value s rest q = rw e at r in
      rw e (read_more (λ t. an_equals) r')
  mark-read Value s b rest q h c r = clash refl h
  mark-read GivenGap s b rest q h c r =
      let e = one-mark space Given b h in
      let r' : Read Given s rest q = rw e at r in
      rw e (read_more (λ t. given_gap) r')
  mark-read ColonGap s b rest q h c r =
      let e = one-mark space Asked b h in
      let r' : Read Asked s rest q = rw e at r in
      rw e (read_more (λ t. colon_gap) r')
  mark-read Asked s b rest q h c r = clash refl h
  mark-read Opening s b rest q h c r =
      let e = one-mark opening Column b h in
      let r' : Read Column s rest q = rw e at r in
      rw e (read_more (λ t. opens) r')
  mark-read Column s b rest q h c r = clash refl h
  mark-read ColumnGap s b rest q h c r =
      ⊎_elim
      (λ e.
      let r' : Read Column s rest q = rw e at r in
      rw e (read_more (λ t. column_gap) r'))
      (λ e.
      let r' : Read Closed (noted_look_up s) rest q = rw e at r in
      let c' : not (eqb (length s.vars) (get_or (columns_of registers) s.register 0)) ≡ false = rw e at c in
      rw e (read_more (λ t. closes (eqb-true _ _ (not-false _ c'))) r'))
      (two-marks space Column closing Closed b h)
  mark-read Closed s b rest q h c r =
      let e = one-mark space Asked b h in
      let r' : Read Asked s rest q = rw e at r in
      rw e (read_more (λ t. look_up_gap) r')
  mark-read Nowhere s b rest q h c r = clash refl h

  -- a line whose walk finds a request at its end is read
  walk_last : (n : ℕ) (front rest : List ℕ) (st : Stage) (s : Typing) (q : Sheet) → line ≡ front ++ rest → rest ≡ []
      → walk registers known line (stand st s) (cuts_from n line (length front)) ≡ asks q → Read st s rest q
  unfolding cut which_name stepped noted walk
  walk_last n front rest st s q whole e h =
      let c : Cut = cut End (length front) 0 false in
      let cuts_are : cuts_from n line (length front) ≡ c ∷ [] =
      cuts_last line front rest whole n e ∙ ap (λ (l : List ℕ). cut_of (length front) l ∷ []) e
      ∙ ap (λ (d : Cut). d ∷ []) (cut-end (length front)) in
      let w : walk registers known line (stand st s) (c ∷ []) ≡ asks q = rw cuts_are at h in
      let (fit, end) = walk-asks registers known line (stand st s) c [] q w in
      let sound : SoundAt st s c 0 = at_sound st s c 0 refl fit in
      let same : asks (sheet_typed registers s) ≡ asks q = end in
      rw e (end_read st s q sound.place (cc))

  -- what the walk finds behind a sound token of some bytes
  behind_token : (n : ℕ) (front x rest : List ℕ) (p : Stand) (c : Cut) (q : Sheet) → line ≡ front ++ (x ++ rest) → 1 ≤ length x
      → cut_of (length front) (x ++ rest) ≡ c → c.next ≡ length front + length x
      → walk registers known line p (cuts_from (suc n) line (length front)) ≡ asks q
      → (first_fit (fits_at registers known line p c) ≡ 0)
      × (walk registers known line (stepped registers known line p c) (cuts_from n line (length (front ++ x))) ≡ asks q)
  behind_token n front x rest p c q whole some e far h =
      let cs = cuts_from n line (length (front ++ x)) in
      walk-asks registers known line p c cs q (rw (cuts_token line front x rest n c whole some e far) at h)

  -- with at most n bytes left, a line whose walk finds a request is read
  abbrev Walks : ℕ → Type 0
  Walks n = (front rest : List ℕ) (st : Stage) (s : Typing) (q : Sheet) → line ≡ front ++ rest → length rest ≤ n
      → walk registers known line (stand st s) (cuts_from n line (length front)) ≡ asks q → Read st s rest q

  -- one byte more, by what the rest begins with
  walk_view : (n : ℕ) → Walks n → (front rest : List ℕ) (st : Stage) (s : Typing) (q : Sheet) → line ≡ front ++ rest
      → length rest ≤ suc n → walk registers known line (stand st s) (cuts_from (suc n) line (length front)) ≡ asks q → View rest
      → Read st s rest q
  unfolding cut which_name stepped follows is_other noted
  walk_view n ih front rest st s q whole le h (at_end e) = walk_last (suc n) front rest st s q whole e h
  walk_view n ih front rest st s q whole le h (at_name x more e spelt) =
      let some = spelt.some in
      let whole' : line ≡ front ++ (x ++ more) = rw e at whole in
      let few : length more ≤ n = omega (arith, ap length e, length-append x more) in
      let c = name_cut front x in
      let (fit, w) = behind_token n front x more (stand st s) c q whole' some (cut_spelt (length front) x more spelt) refl h in
      let sound = at_sound st s c _ (which_name_lem front x more whole' (role st) s.names) fit in
      let cs = cuts_from n line (length (front ++ x)) in
      let w' = ap (λ (p : Stand). walk registers known line p cs) (sym (stepped-name front x more whole' st s)) ∙ w in
      rw e
      (name-read st s front x more q spelt sound
      (ih (front ++ x) more (turn st).name (noted_name (role st) known x s) q (farther line front x more whole') few w'))
  walk_view n ih front rest st s q whole le h (at_number d ds more e digits ends) =
      let whole' : line ≡ front ++ ((d ∷ ds) ++ more) = rw e at whole in
      let few : length more ≤ n = omega (arith, ap length e, length-append (d ∷ ds) more) in
      let c = number_cut front d ds in
      let e' = cut-number (length front) d ds more digits ends in
      let (fit, w) = behind_token n front (d ∷ ds) more (stand st s) c q whole' (omega arith) e' refl h in
      let sound = at_sound st s c 0 refl fit in
      rw e
      (number_read st s front d ds more q digits ends sound
      (ih (front ++ (d ∷ ds)) more (turn st).number (noted_value (value_of (d ∷ ds)) s) q
      (farther line front (d ∷ ds) more whole') few w))
  walk_view n ih front rest st s q whole le h (at_mark b more e l d m) =
      let whole' : line ≡ front ++ ((b ∷ []) ++ more) = rw e at whole in
      let few : length more ≤ n = omega (arith, ap length e) in
      let c : Cut = cut (Mark b) (length front) 1 false in
      let e' = cut-mark (length front) b more l d m in
      let (fit, w) = behind_token n front (b ∷ []) more (stand st s) c q whole' (omega arith) e' refl h in
      let sound : SoundAt st s c 0 = at_sound st s c 0 refl fit in
      rw e
      (mark-read st s b more q sound.place sound.miscounted
      (ih (front ++ (b ∷ [])) more ((turn st).mark b) (noted known line (role st) (Mark b) s) q
      (farther line front (b ∷ []) more whole') few w))
  walk_view n ih front rest st s q whole le h (at_other b more e l d m) =
      let whole' : line ≡ front ++ ((b ∷ []) ++ more) = rw e at whole in
      let c : Cut = cut Other (length front) 1 false in
      let e' = cut_other (length front) b more l d m in
      let (fit, w) = behind_token n front (b ∷ []) more (stand st s) c q whole' (omega arith) e' refl h in
      let sound : SoundAt st s c 0 = at_sound st s c 0 refl fit in
      clash refl sound.other

  -- so with any number of bytes
  walk-read : (n : ℕ) → Walks n
  walk-read zero front rest st s q whole le h =
      walk_last zero front rest st s q whole (empty rest le) h
    where
      empty : (l : List ℕ) → length l ≤ 0 → l ≡ []
      empty [] le = refl
      empty (b ∷ bs) le = absurd (omega arith)
  walk-read (suc n) front rest st s q whole le h = walk_view n (walk-read n) front rest st s q whole le h (view rest)

  -- a line that is read is a request, and says just this
  pub reads-asks : (t : Typing) → Reads registers known Given nothing_said line t
      → (walk registers known line beginning (cuts line) ≡ asks (sheet_typed registers t))
      × ((behind_all registers known line beginning (cuts line)).said ≡ t)
  unfolding cuts beginning
  reads-asks t r =
      let e = reads-ends [] refl r in
      (e.asked (length line) (omega arith), e.last (length line) (omega arith))

  -- and a line that is a request is read
  pub asks_read : (q : Sheet) → walk registers known line beginning (cuts line) ≡ asks q → Read Given nothing_said line q
  unfolding cuts beginning
  asks_read q h = walk-read (length line) [] line Given nothing_said q refl (omega arith) h
