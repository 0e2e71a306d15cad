-- A line that is read says a request that can be typed: what each token leaves true of what the line has said so far.
use mathlib.Core.Path.{◌≡◌, refl, sym, ◌∙◌, ap, ap₂, subst}
use mathlib.Core.Logic.{◌⊎◌, inl, inr, ⊎_elim}
use mathlib.Core.Bool.{true, false}
use mathlib.Core.List.{List, [], ◌∷◌, ◌++◌, append_assoc, append-nil}
use Prim.Native.Nat.{ℕ, suc, ◌+◌, ◌≤◌, ◌<◌}
use native.Mathlib.Omega.{arith}
use lib.ListN.{get_or, length, length-append}
use lib.Dec.{eqb, ltb}
use borrow.Author.Tests.{ltb-true, ltb-false, leb-false, eqb-true, eqb-false, not-false, lt-ltb, le-ltb}
use Rattle.plan.specs.Lists.{In}
use Rattle.plan.specs.Sheet.{Register, LookUp, Sheet, columns_of, used}
use Rattle.plan.specs.Tokens.{equals, colon, opening, closing, space, over, place_of, are_names, pieces, cuts}
use Rattle.plan.specs.Typed.{turn, follows, is_nowhere, no_mark, one_mark, two_marks, a_name, a_mark, Typing, nothing_said}
use Rattle.plan.specs.Typed.{role, name_at, names_for, which_name, with_name, noted_name, noted_value, noted_look_up, noted}
use Rattle.plan.specs.Typed.{is_nought, is_unknown, is_unknown_name, is_miscounted, is_over, is_name_over, is_again, is_again_name}
use Rattle.plan.specs.Typed.{first_fit, Stand, beginning, asks, sheet_typed, fits_at, stepped, walk, typed_on, InTurn, Typable}
use Rattle.plan.specs.declared.Token.{Token}
use Rattle.plan.specs.declared.Token.TheVariants.{Name, Number, Mark, Other, End}
use Rattle.plan.specs.declared.Cut.{Cut}
use Rattle.plan.specs.declared.Stage.{Stage}
use Rattle.plan.specs.declared.Stage.TheVariants.{Given, Equals, Value, GivenGap, ColonGap, Asked, Opening}
use Rattle.plan.specs.declared.Stage.TheVariants.{Column, ColumnGap, Closed, Nowhere}
use Rattle.plan.proofs.Lists.{by_test, clash, or_none_right, in_append, in_cons, in_nil}
use Rattle.lines.proofs.NameLaws.{place-low, names-named}
use Rattle.lines.proofs.TypedWalk.{walk_end, walk-asks, typed_named, typed_unnamed, fit-sound, one-mark, two-marks}
use Rattle.lines.proofs.TypedWalk.{end_closed, line_ended}

-- ---- variables numbered by first appearance

-- a variable that has appeared comes again
turn_old : (n : ℕ) (xs : List ℕ) (all v : ℕ) → InTurn n xs all → v < all → InTurn n (xs ++ (v ∷ [])) all
unfolding InTurn
turn_old n [] all v e h = inl (omega arith, e)
turn_old n (x ∷ xs) all v (inl (l, m)) h = inl (l, turn_old n xs all v m h)
turn_old n (x ∷ xs) all v (inr (l, m)) h = inr (l, turn_old (suc n) xs all v m h)

-- the next variable appears
turn_new : (n : ℕ) (xs : List ℕ) (all : ℕ) → InTurn n xs all → InTurn n (xs ++ (all ∷ [])) (suc all)
unfolding InTurn
turn_new n [] all e = inr (sym e, ap suc e)
turn_new n (x ∷ xs) all (inl (l, m)) = inl (l, turn_new n xs all m)
turn_new n (x ∷ xs) all (inr (l, m)) = inr (l, turn_new (suc n) xs all m)

-- those that have appeared before are among all
pub turn_low : (n : ℕ) (xs : List ℕ) (all : ℕ) → InTurn n xs all → n ≤ all
unfolding InTurn
turn_low n [] all e = omega arith
turn_low n (x ∷ xs) all (inl (l, m)) = turn_low n xs all m
turn_low n (x ∷ xs) all (inr (l, m)) = let h = turn_low (suc n) xs all m in omega arith

-- each is among all
pub turn_in : (n : ℕ) (xs : List ℕ) (all : ℕ) → InTurn n xs all → (v : ℕ) → In v xs → v < all
unfolding InTurn In
turn_in n [] all e v i = absurd i
turn_in n (x ∷ xs) all (inl (l, m)) v (inl e) = let h = turn_low n xs all m in omega arith
turn_in n (x ∷ xs) all (inl (l, m)) v (inr i) = turn_in n xs all m v i
turn_in n (x ∷ xs) all (inr (l, m)) v (inl e) = let h = turn_low (suc n) xs all m in omega arith
turn_in n (x ∷ xs) all (inr (l, m)) v (inr i) = turn_in (suc n) xs all m v i

-- all of them have appeared, before or now
pub turn-all : (n : ℕ) (xs : List ℕ) (all : ℕ) → InTurn n xs all → (v : ℕ) → v < all → (v < n) ⊎ In v xs
unfolding InTurn In
turn-all n [] all e v h = inl (omega arith)
turn-all n (x ∷ xs) all (inl (l, m)) v h = ⊎_elim inl (λ i. inr (inr i)) (turn-all n xs all m v h)
turn-all n (x ∷ xs) all (inr (l, m)) v h =
    ⊎_elim
    (λ k. by_test (ltb v n)
    (λ t. inl (ltb-true v n t))
    (λ f. inr (inl (let g = ltb-false v n f in omega arith))))
    (λ i. inr (inr i))
    (turn-all (suc n) xs all m v h)

-- the variables of one look-up more
pub used-more : (ls : List LookUp) (l : LookUp) → used [] (ls ++ (l ∷ [])) ≡ used [] ls ++ l.vars
unfolding used
used-more [] l = append-nil l.vars
used-more (m ∷ ls) l = ap (λ vs. m.vars ++ vs) (used-more ls l) ∙ sym (append_assoc m.vars (used [] ls) l.vars)

-- given variables stand behind those of the look-ups
pub used-given : (given : List ℕ) (ls : List LookUp) → used given ls ≡ used [] ls ++ given
unfolding used
used-given given [] = refl
used-given given (m ∷ ls) = ap (λ vs. m.vars ++ vs) (used-given given ls) ∙ sym (append_assoc m.vars (used [] ls) given)

-- ---- names

module _ (x : List ℕ) (names : List (List ℕ)) where
  -- a name that is one of them adds none
  pub with_old : place_of x names < length names → with_name x names ≡ names
  unfolding with_name
  with_old h = rw (lt-ltb (place_of x names) (length names) h, with_name)

  -- one that is not is put behind them
  pub with_new : length names ≤ place_of x names → with_name x names ≡ names ++ (x ∷ [])
  unfolding with_name
  with_new h = rw (le-ltb (place_of x names) (length names) h, with_name)

  -- which is one more
  pub with_more : length names ≤ place_of x names → length (with_name x names) ≡ suc (length names)
  with_more h = let e = ap length (with_new h) in let l = length-append names (x ∷ []) in omega arith

  -- the names stay few where the name's number is low
  pub with_few : length names ≤ 16 → place_of x names < 16 → length (with_name x names) ≤ 16
  with_few h l =
      let low = place-low x names in
      by_test (ltb (place_of x names) (length names))
      (λ t. let e = ap length (with_old (ltb-true (place_of x names) (length names) t)) in omega arith)
      (λ f.
      let g = ltb-false (place_of x names) (length names) f in
      let e = with_more g in
      omega arith)

  -- variables stay numbered by first appearance
  pub with_turn : (n : ℕ) (xs : List ℕ) → InTurn n xs (length names)
      → InTurn n (xs ++ (place_of x names ∷ [])) (length (with_name x names))
  with_turn n xs h =
      let low = place-low x names in
      by_test (ltb (place_of x names) (length names))
      (λ t.
      let l = ltb-true (place_of x names) (length names) t in
      rw (with_old l) (turn_old n xs (length names) (place_of x names) h l))
      (λ f.
      let l = ltb-false (place_of x names) (length names) f in
      let e : place_of x names ≡ length names = omega arith in
      rw (with_more l, e) (turn_new n xs (length names) h))

-- ---- what is true of what a line has said

module _ (registers : List Register) where
  -- a look-up that is whole: of a register, with a variable for each column
  pub record WholeLookUp (l : LookUp) : Type 0 where
    pub named : l.register < length registers
    pub columns : length l.vars ≡ get_or (columns_of registers) l.register 0
    pub some : 1 ≤ length l.vars

  -- at every stage: few names, values in their range, few look-ups, each of them whole
  pub record Said (s : Typing) : Type 0 where
    pub few : length s.names ≤ 16
    pub values : (x : ℕ) → In x s.values → (1 ≤ x) × (x < over)
    pub most : length s.look_ups ≤ 12
    pub wholes : (l : LookUp) → In l s.look_ups → WholeLookUp l

  -- among givens: each name so far has a value, but for so many
  pub record Giving (lacking : ℕ) (s : Typing) : Type 0 where
    pub early : s.look_ups ≡ []
    pub valued : length s.names ≡ lacking + length s.values

  -- between look-ups: the variables are those of the givens and of the look-ups
  pub record Between (least : ℕ) (s : Typing) : Type 0 where
    pub numbered : InTurn (length s.values) (used [] s.look_ups) (length s.names)
    pub asked : least ≤ length s.look_ups

  -- in a look-up: and those in its brackets so far
  pub record Inside (least : ℕ) (s : Typing) : Type 0 where
    pub numbered : InTurn (length s.values) (used [] s.look_ups ++ s.vars) (length s.names)
    pub named : s.register < length registers
    pub fewer : length s.look_ups < 12
    pub some : least ≤ length s.vars

  -- what is true at each stage
  unfoldable pub AtStage : Stage → Typing → Type 0
  AtStage Given s = Giving 0 s
  AtStage Equals s = Giving 1 s
  AtStage Value s = Giving 1 s
  AtStage GivenGap s = Giving 0 s
  AtStage ColonGap s = Between 0 s
  AtStage Asked s = Between 0 s
  AtStage Opening s = Inside 0 s
  AtStage Column s = Inside 0 s
  AtStage ColumnGap s = Inside 1 s
  AtStage Closed s = Between 1 s
  AtStage Nowhere s = ⊥

  -- what is true where a line stands
  pub record Holds (stage : Stage) (s : Typing) : Type 0 where
    pub said : Said s
    pub here : AtStage stage s

  -- with the same values and look-ups, and few names, it is still true
  said_as : (s t : Typing) → length t.names ≤ 16 → s.values ≡ t.values → s.look_ups ≡ t.look_ups → Said s → Said t
  said_as s t few values look_ups h =
      record {
        few = few;
        values = subst (λ xs. (x : ℕ) → In x xs → (1 ≤ x) × (x < over)) values h.values;
        most = subst (λ (ls : List LookUp). length ls ≤ 12) look_ups h.most;
        wholes = subst (λ ls. (l : LookUp) → In l ls → WholeLookUp l) look_ups h.wholes;
      }

  -- where every name has a value, the variables are those of the givens
  pub giving_between : (s : Typing) → Giving 0 s → Between 0 s
  unfolding InTurn used
  giving_between s g = record { numbered = rw g.early (omega (arith, g.valued)); asked = omega arith }

  -- nothing that was said
  pub holds-nothing : Holds Given nothing_said
  unfolding AtStage nothing_said In
  holds-nothing =
      record {
        said = record { few = omega arith; values = λ x i. absurd i; most = omega arith; wholes = λ l i. absurd i };
        here = record { early = refl; valued = refl };
      }

  -- ---- one token

  module _ (known : List (List ℕ)) (line : List ℕ) (many : length known ≡ length registers) where
    -- no number fits a token: the tests that a proof needs, one by one
    pub record NoFit (stage : Stage) (t : Token) (s : Typing) : Type 0 where
      pub nought : is_nought stage t ≡ false
      pub placed : is_nowhere (follows stage t) ≡ false
      pub read : is_unknown (role stage) t (which_name known line (role stage) s.names t) (length known) ≡ false
      pub counted : is_miscounted t (length s.vars) (get_or (columns_of registers) s.register 0) ≡ false
      pub limited : is_over (role stage) t (which_name known line (role stage) s.names t) (length s.look_ups) ≡ false
      pub once : is_again (role stage) t (which_name known line (role stage) s.names t) (length s.names) ≡ false

    -- what holds behind a token
    abbrev Behind : Stage → Token → Typing → Type 0
    Behind stage t s = Holds (follows stage t) (noted known line (role stage) t s)

    -- a name: of a given variable, of a register, of a variable in brackets
    name-holds : (stage : Stage) (at letters : ℕ) (s : Typing) → NoFit stage (Name at letters) s → Holds stage s
        → Behind stage (Name at letters) s
    unfolding follows turn a_name a_mark is_nowhere noted noted_name role which_name names_for AtStage is_unknown is_unknown_name is_over is_name_over is_again is_again_name
    name-holds Given at letters s n h =
        let x = name_at line at letters in
        let low = leb-false 16 (place_of x s.names) (or_none_right (ltb 12 letters) _ n.limited) in
        let new : length s.names ≤ place_of x s.names = ltb-false (place_of x s.names) (length s.names) n.once in
        let e = with_more x s.names new in
        let v = h.here.valued in
        record {
          said = said_as s _ (with_few x s.names h.said.few low) refl refl h.said;
          here = record { early = h.here.early; valued = omega arith };
        }
    name-holds Equals at letters s n h = clash refl n.placed
    name-holds Value at letters s n h = clash refl n.placed
    name-holds GivenGap at letters s n h = clash refl n.placed
    name-holds ColonGap at letters s n h = clash refl n.placed
    name-holds Asked at letters s n h =
        let x = name_at line at letters in
        let low = ltb-true (place_of x known) (length known) (not-false (ltb (place_of x known) (length known)) n.read) in
        let few = leb-false 12 (length s.look_ups) n.limited in
        record {
          said = said_as s _ h.said.few refl refl h.said;
          here = record {
            numbered = rw (append-nil (used [] s.look_ups)) h.here.numbered;
            named = omega arith;
            fewer = few;
            some = omega arith;
          };
        }
    name-holds Opening at letters s n h = clash refl n.placed
    name-holds Column at letters s n h =
        let x = name_at line at letters in
        let low = leb-false 16 (place_of x s.names) (or_none_right (ltb 12 letters) _ n.limited) in
        let l = length-append s.vars (place_of x s.names ∷ []) in
        record {
          said = said_as s _ (with_few x s.names h.said.few low) refl refl h.said;
          here = record {
            numbered = rw (← append_assoc (used [] s.look_ups) s.vars (place_of x s.names ∷ []))
                (with_turn x s.names (length s.values) (used [] s.look_ups ++ s.vars) h.here.numbered);
            named = h.here.named;
            fewer = h.here.fewer;
            some = omega arith;
          };
        }
    name-holds ColumnGap at letters s n h = clash refl n.placed
    name-holds Closed at letters s n h = clash refl n.placed
    name-holds Nowhere at letters s n h = clash refl n.placed

    -- a number: the value of the last name
    number-holds : (stage : Stage) (x : ℕ) (s : Typing) → NoFit stage (Number x) s → Holds stage s
        → Behind stage (Number x) s
    unfolding follows turn a_name a_mark is_nowhere noted noted_value role is_nought is_over AtStage
    number-holds Given x s n h = clash refl n.placed
    number-holds Equals x s n h = clash refl n.placed
    number-holds Value x s n h =
        let low = leb-false over x n.limited in
        let some = eqb-false x 0 n.nought in
        let l = length-append s.values (x ∷ []) in
        let v = h.here.valued in
        record {
          said = record {
            few = h.said.few;
            values = λ y i.
                ⊎_elim (h.said.values y)
                (λ j.
                ⊎_elim {C = (1 ≤ y) × (y < over)} (λ e. (omega arith, omega arith)) (λ k. absurd (in_nil y k))
                (in_cons y x [] j))
                (in_append y s.values (x ∷ []) i);
            most = h.said.most;
            wholes = h.said.wholes;
          };
          here = record { early = h.here.early; valued = omega arith };
        }
    number-holds GivenGap x s n h = clash refl n.placed
    number-holds ColonGap x s n h = clash refl n.placed
    number-holds Asked x s n h = clash refl n.placed
    number-holds Opening x s n h = clash refl n.placed
    number-holds Column x s n h = clash refl n.placed
    number-holds ColumnGap x s n h = clash refl n.placed
    number-holds Closed x s n h = clash refl n.placed
    number-holds Nowhere x s n h = clash refl n.placed

    -- the closing bracket: the look-up is whole
    closing-holds : (s : Typing) → NoFit ColumnGap (Mark closing) s → Holds ColumnGap s → Behind ColumnGap (Mark closing) s
    unfolding follows turn a_mark two_marks one_mark noted noted_look_up is_miscounted AtStage
    closing-holds s n h =
        let l : LookUp = record { register = s.register; vars = s.vars } in
        let columns = get_or (columns_of registers) s.register 0 in
        let full = eqb-true (length s.vars) columns (not-false (eqb (length s.vars) columns) n.counted) in
        let w : WholeLookUp l = record { named = h.here.named; columns = full; some = h.here.some } in
        let m = length-append s.look_ups (l ∷ []) in
        let f = h.here.fewer in
        record {
          said = record {
            few = h.said.few;
            values = h.said.values;
            most = omega arith;
            wholes = λ k i.
                ⊎_elim (h.said.wholes k)
                (λ j. ⊎_elim (λ e. subst WholeLookUp (sym e) w) (λ z. absurd (in_nil k z)) (in_cons k l [] j))
                (in_append k s.look_ups (l ∷ []) i);
          };
          here = record { numbered = rw (used-more s.look_ups l) h.here.numbered; asked = omega arith };
        }

    -- a mark
    mark-holds : (stage : Stage) (b : ℕ) (s : Typing) → NoFit stage (Mark b) s → Holds stage s → Behind stage (Mark b) s
    unfolding follows turn a_name a_mark no_mark one_mark two_marks is_nowhere noted AtStage
    mark-holds Given b s n h =
        subst (λ m. Behind Given (Mark m) s) (sym (one-mark colon ColonGap b n.placed))
        (record { said = h.said; here = giving_between s h.here })
    mark-holds Equals b s n h =
        subst (λ m. Behind Equals (Mark m) s) (sym (one-mark equals Value b n.placed))
        (record { said = h.said; here = h.here })
    mark-holds Value b s n h = clash refl n.placed
    mark-holds GivenGap b s n h =
        subst (λ m. Behind GivenGap (Mark m) s) (sym (one-mark space Given b n.placed))
        (record { said = h.said; here = h.here })
    mark-holds ColonGap b s n h =
        subst (λ m. Behind ColonGap (Mark m) s) (sym (one-mark space Asked b n.placed))
        (record { said = h.said; here = h.here })
    mark-holds Asked b s n h = clash refl n.placed
    mark-holds Opening b s n h =
        subst (λ m. Behind Opening (Mark m) s) (sym (one-mark opening Column b n.placed))
        (record { said = h.said; here = h.here })
    mark-holds Column b s n h = clash refl n.placed
    mark-holds ColumnGap b s n h =
        ⊎_elim
        (λ (e : b ≡ space).
        subst (λ m. Behind ColumnGap (Mark m) s) (sym e)
        (record {
          said = h.said;
          here = record {
            numbered = h.here.numbered;
            named = h.here.named;
            fewer = h.here.fewer;
            some = omega arith;
          };
        }))
        (λ (e : b ≡ closing).
        subst (λ m. Behind ColumnGap (Mark m) s) (sym e)
        (closing-holds s (subst (λ m. NoFit ColumnGap (Mark m) s) e n) h))
        (two-marks space Column closing Closed b n.placed)
    mark-holds Closed b s n h =
        subst (λ m. Behind Closed (Mark m) s) (sym (one-mark space Asked b n.placed))
        (record { said = h.said; here = record { numbered = h.here.numbered; asked = omega arith } })
    mark-holds Nowhere b s n h = clash refl n.placed

    -- each token
    token_holds : (stage : Stage) (t : Token) (s : Typing) → NoFit stage t s → Holds stage s → Behind stage t s
    unfolding follows turn is_nowhere noted
    token_holds stage (Name at letters) s n h = name-holds stage at letters s n h
    token_holds stage (Number x) s n h = number-holds stage x s n h
    token_holds stage (Mark b) s n h = mark-holds stage b s n h
    token_holds stage Other s n h = clash refl n.placed
    token_holds stage End s n h =
        let e = end_closed stage n.placed in
        subst (λ g. Holds (follows g End) s) (sym e) (subst (λ g. Holds g s) e h)

    -- where no number is first, none fits
    pub no_fit : (p : Stand) (c : Cut) → first_fit (fits_at registers known line p c) ≡ 0
        → NoFit p.stage c.token p.said
    unfolding fits_at
    no_fit p c e =
        let f = fit-sound p.stage c _ _ _ _ _ _ e in
        record {
          nought = f.nought;
          placed = f.place;
          read = f.unknown;
          counted = f.miscounted;
          limited = f.over;
          once = f.again;
        }

    -- behind a token that nothing fits, the same is true
    pub stepped-holds : (p : Stand) (c : Cut) → first_fit (fits_at registers known line p c) ≡ 0
        → Holds p.stage p.said
        → Holds (stepped registers known line p c).stage (stepped registers known line p c).said
    unfolding stepped
    stepped-holds p c e h = token_holds p.stage c.token p.said (no_fit p c e) h

    -- ---- the whole line

    -- a line that is read has ended behind a look-up
    walk_closed : (before : List Cut) (last : Cut) (p : Stand) (s : Sheet) → last.token ≡ End
        → Holds p.stage p.said → walk registers known line p (before ++ (last ∷ [])) ≡ asks s
        → (q : Typing) × Holds Closed q × (sheet_typed registers q ≡ s)
    unfolding stepped follows turn
    walk_closed [] last p s end h e =
        let (f, g) = walk-asks registers known line p last [] s e in
        let q = stepped registers known line p last in
        let placed = (no_fit p last f).placed in
        let closed = end_closed p.stage (subst (λ t. is_nowhere (follows p.stage t) ≡ false) end placed) in
        let z : follows p.stage last.token ≡ Closed = ap₂ follows closed end in
        let d = walk_end registers known line q in
        (q.said, subst (λ g. Holds g q.said) z (stepped-holds p last f h), (cc))
    walk_closed (c ∷ before) last p s end h e =
        let (f, g) = walk-asks registers known line p c (before ++ (last ∷ [])) s e in
        walk_closed before last (stepped registers known line p c) s end (stepped-holds p c f h) g

  -- what a line has said at its end can be typed
  closed_typable : (q : Typing) → Holds Closed q → Typable registers (sheet_typed registers q)
  unfolding sheet_typed AtStage
  closed_typable q h =
      record {
        same = refl;
        given = refl;
        values = h.said.values;
        few = h.said.few;
        look_ups-low = h.here.asked;
        look_ups-high = h.said.most;
        named = λ l i. (h.said.wholes l i).named;
        columns = λ l i. (h.said.wholes l i).columns;
        columns-low = λ l i. (h.said.wholes l i).some;
        numbered = h.here.numbered;
      }

  -- a line that is read is a request that can be typed, and the second line is names
  pub read-typable : (second line : List ℕ) (s : Sheet) → typed_on registers second line ≡ asks s
      → (are_names (length registers) (pieces second) ≡ true) × Typable registers s
  unfolding beginning
  read-typable second line s e =
      let known = pieces second in
      by_test (are_names (length registers) known)
      (λ t.
      let ended = line_ended line in
      let many = (names-named (length registers) known t).count in
      let g : walk registers known line beginning (cuts line) ≡ asks s = sym (typed_named registers second line t) ∙ e in
      let (q, h, x) = walk_closed known line many ended.before ended.last beginning s ended.end holds-nothing
      (rw ended.whole at g) in
      (t, subst (Typable registers) x (closed_typable q h)))
      (λ f. absurd (let g = typed_unnamed registers second line f in let z : ◌≡◌ {A = ℕ} 0 1 = cc in omega arith))
