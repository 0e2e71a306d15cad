-- Laws of a typed line: the walk over its tokens, the numbers that fit one, the tokens that may come, and how the line is cut
-- into them.
use mathlib.Core.Path.{◌≡◌, refl, sym, ◌∙◌, ap}
use mathlib.Core.Logic.{◌⊎◌, inl, inr}
use mathlib.Core.Bool.{true, false, ◌||◌}
use mathlib.Core.List.{List, [], ◌∷◌, ◌++◌}
use Prim.Native.Nat.{ℕ, zero, suc, ◌+◌, ◌-◌, ◌≤◌, ◌<◌}
use native.Mathlib.Omega.{arith}
use lib.ListN.{get_or, length, drop, length-drop}
use lib.Seq.{drop-cons}
use lib.Dec.{eqb, ltb}
use borrow.Author.Tests.{ltb-true, ltb-false, lt-ltb, le-ltb, eqb-true}
use Rattle.plan.specs.Lists.{In, every}
use Rattle.plan.specs.Sheet.{Register, Sheet}
use Rattle.plan.specs.Tokens.{is_letter, run, cut, cut_at, cuts_from, cuts, are_names, pieces}
use Rattle.plan.specs.Typed.{Stand, beginning, asks, faulty, name_at, Fit, first_fit, fits_of, fits_at, stepped, sheet_typed}
use Rattle.plan.specs.Typed.{walk, typed_on, one_mark, two_marks, a_name, a_mark, turn, follows, is_nowhere, role}
use Rattle.plan.specs.Typed.{is_nought, is_other, is_unknown, is_miscounted, is_over, is_again}
use Rattle.plan.specs.declared.Token.TheVariants.{Name, End}
use Rattle.plan.specs.declared.Cut.{Cut}
use Rattle.plan.specs.declared.Stage.{Stage}
use Rattle.plan.specs.declared.Stage.TheVariants.{Given, Equals, Value, GivenGap, ColonGap, Asked, Opening, Column}
use Rattle.plan.specs.declared.Stage.TheVariants.{ColumnGap, Closed, Nowhere}
use Rattle.plan.proofs.Lists.{by_test, clash}
use Rattle.lines.proofs.Cuts.{run-low, run-every, cut-tells, cut_moves}
use Rattle.lines.proofs.NameLaws.{cut-name}

-- ---- one token of a walk

module _ (registers : List Register) (known : List (List ℕ)) (line : List ℕ) (p : Stand) where
  -- where no token is left, the request is what was said
  pub walk_end : walk registers known line p [] ≡ asks (sheet_typed registers p.said)
  unfolding walk
  walk_end = refl

  -- a token that nothing fits: the line goes on behind it
  pub walk_on : (c : Cut) (cs : List Cut) → first_fit (fits_at registers known line p c) ≡ 0
      → walk registers known line p (c ∷ cs) ≡ walk registers known line (stepped registers known line p c) cs
  unfolding walk
  walk_on c cs e = rw (e, walk)

  -- a token that a number fits: the line is faulty there
  pub walk-faulty : (c : Cut) (cs : List Cut) (k : ℕ) → first_fit (fits_at registers known line p c) ≡ suc k
      → walk registers known line p (c ∷ cs) ≡ faulty (suc k) c.at
  unfolding walk
  walk-faulty c cs k e = rw (e, walk)

  -- where the line is a request, nothing fits a token
  pub walk-asks : (c : Cut) (cs : List Cut) (s : Sheet) → walk registers known line p (c ∷ cs) ≡ asks s
      → (first_fit (fits_at registers known line p c) ≡ 0)
      × (walk registers known line (stepped registers known line p c) cs ≡ asks s)
  walk-asks c cs s e = go (first_fit (fits_at registers known line p c)) refl
    where
      go : (k : ℕ) → first_fit (fits_at registers known line p c) ≡ k
          → (first_fit (fits_at registers known line p c) ≡ 0)
          × (walk registers known line (stepped registers known line p c) cs ≡ asks s)
      go zero f = (f, sym (walk_on c cs f) ∙ e)
      go (suc k) f = let g = walk-faulty c cs k f in absurd (let z : ◌≡◌ {A = ℕ} 0 1 = cc in omega arith)

-- a second line of names: the walk over the line's tokens
pub typed_named : (registers : List Register) (second line : List ℕ) → are_names (length registers) (pieces second) ≡ true
    → typed_on registers second line ≡ walk registers (pieces second) line beginning (cuts line)
unfolding typed_on
typed_named registers second line h = rw (h, typed_on)

-- and one that is not: 31
pub typed_unnamed : (registers : List Register) (second line : List ℕ) → are_names (length registers) (pieces second) ≡ false
    → typed_on registers second line ≡ faulty 31 0
unfolding typed_on
typed_unnamed registers second line h = rw (h, typed_on)

-- ---- the numbers that fit

-- a fit that holds is the first
pub first_on : (f : Fit) (fs : List Fit) → f.fits ≡ true → first_fit (f ∷ fs) ≡ f.number
unfolding first_fit
first_on f fs t = rw (t, first_fit)

-- one that does not is passed by
pub first_off : (f : Fit) (fs : List Fit) → f.fits ≡ false → first_fit (f ∷ fs) ≡ first_fit fs
unfolding first_fit
first_off f fs h = rw (h, first_fit)

-- where none is first, the first does not hold, and none of the rest is first
pub first_passed : (f : Fit) (fs : List Fit) → 1 ≤ f.number → first_fit (f ∷ fs) ≡ 0
    → (f.fits ≡ false) × (first_fit fs ≡ 0)
first_passed f fs low e =
    by_test f.fits
    (λ t. let h = first_on f fs t in absurd (omega arith))
    (λ h. (h, sym (first_off f fs h) ∙ e))

-- and so none holds
pub first_none : (fs : List Fit) → ((f : Fit) → In f fs → 1 ≤ f.number) → first_fit fs ≡ 0 → (f : Fit) → In f fs
    → f.fits ≡ false
unfolding In
first_none [] low e f i = absurd i
first_none (g ∷ fs) low e f (inl s) = rw s (first_passed g fs (low g (inl refl)) e).0
first_none (g ∷ fs) low e f (inr i) =
    first_none fs (λ x j. low x (inr j)) (first_passed g fs (low g (inl refl)) e).1 f i

-- among none no number is first
first-nil : first_fit [] ≡ 0
unfolding first_fit
first-nil = refl

-- no number of a refusal fits a token
pub record Sound (stage : Stage) (c : Cut) (which known variables look_ups columns needed : ℕ) : Type 0 where
  pub nought : is_nought stage c.token ≡ false
  pub other : (is_other c.token || c.zero) ≡ false
  pub place : is_nowhere (follows stage c.token) ≡ false
  pub unknown : is_unknown (role stage) c.token which known ≡ false
  pub miscounted : is_miscounted c.token columns needed ≡ false
  pub over : is_over (role stage) c.token which look_ups ≡ false
  pub again : is_again (role stage) c.token which variables ≡ false

module _ (stage : Stage) (c : Cut) (which known variables look_ups columns needed : ℕ) where
  -- a sound token has no first number
  pub sound-fit : Sound stage c which known variables look_ups columns needed
      → first_fit (fits_of stage c which known variables look_ups columns needed) ≡ 0
  unfolding fits_of
  sound-fit h =
      first_off _ _ h.nought ∙ first_off _ _ h.other ∙ first_off _ _ h.place ∙ first_off _ _ h.unknown
      ∙ first_off _ _ h.miscounted ∙ first_off _ _ h.over ∙ first_off _ _ h.again ∙ first-nil

  -- and one without is sound
  pub fit-sound : first_fit (fits_of stage c which known variables look_ups columns needed) ≡ 0
      → Sound stage c which known variables look_ups columns needed
  unfolding fits_of
  fit-sound e =
      let (a, e1) = first_passed _ _ (omega arith) e in
      let (b, e2) = first_passed _ _ (omega arith) e1 in
      let (d, e3) = first_passed _ _ (omega arith) e2 in
      let (f, e4) = first_passed _ _ (omega arith) e3 in
      let (g, e5) = first_passed _ _ (omega arith) e4 in
      let (h, e6) = first_passed _ _ (omega arith) e5 in
      let (i, e7) = first_passed _ _ (omega arith) e6 in
      record { nought = a; other = b; place = d; unknown = f; miscounted = g; over = h; again = i }

-- ---- the tokens that may come

-- where one mark may come, it is the one that comes
pub one-mark : (m : ℕ) (behind : Stage) (b : ℕ) → is_nowhere (one_mark m behind b) ≡ false → b ≡ m
unfolding one_mark is_nowhere
one-mark m behind b h =
    by_test (eqb b m) (eqb-true b m)
    (λ f. clash (let e : is_nowhere (one_mark m behind b) ≡ true = rw (f, one_mark) in e) h)

-- where one of two may come, it is one of them
pub two-marks : (m : ℕ) (behind : Stage) (other : ℕ) (behindOther : Stage) (b : ℕ)
    → is_nowhere (two_marks m behind other behindOther b) ≡ false → (b ≡ m) ⊎ (b ≡ other)
unfolding two_marks
two-marks m behind other behindOther b h =
    by_test (eqb b m) (λ t. inl (eqb-true b m t)) (λ f. inr (one-mark other behindOther b (rw (f, two_marks) at h)))

-- the line's end comes behind a look-up alone
pub end_closed : (stage : Stage) → is_nowhere (follows stage End) ≡ false → stage ≡ Closed
unfolding follows turn a_name a_mark is_nowhere
end_closed Given h = clash refl h
end_closed Equals h = clash refl h
end_closed Value h = clash refl h
end_closed GivenGap h = clash refl h
end_closed ColonGap h = clash refl h
end_closed Asked h = clash refl h
end_closed Opening h = clash refl h
end_closed Column h = clash refl h
end_closed ColumnGap h = clash refl h
end_closed Closed h = refl
end_closed Nowhere h = clash refl h

-- ---- one token of a line

-- what a name's token is: the letters from its place on, as many as there are
pub record NameCut (line : List ℕ) (at a k : ℕ) : Type 0 where
  pub place : a ≡ at
  pub some : 1 ≤ k
  pub inside : at + k ≤ length line
  pub letters : every is_letter (name_at line a k) ≡ true
  pub all : k ≡ run is_letter (drop at line)

module _ (line : List ℕ) (at : ℕ) where
  -- a token of a line tells its place
  pub cut_at_at : (cut_at line at).at ≡ at
  unfolding cut_at
  cut_at_at = cut-tells at (drop at line)

  -- a token of a line has a byte, and ends in the line
  pub cut_next : at < length line → (at < (cut_at line at).next) × ((cut_at line at).next ≤ length line)
  unfolding cut_at
  cut_next h =
      let m = cut_moves at (get_or line at 0) (drop (suc at) line) in
      let d = length-drop (suc at) line in
      rw (drop-cons line at 0 h) (omega arith)

  -- a name of a line
  pub cut_at-name : (a k : ℕ) → (cut_at line at).token ≡ Name a k → NameCut line at a k
  cut_at-name a k e =
      let (place, all, some, next) = cut-name line at a k e in
      let low = run-low is_letter (drop at line) in
      let d = length-drop at line in
      record {
        place = place;
        some = some;
        inside = omega arith;
        letters = rw (place, all) (run-every is_letter (drop at line));
        all = all;
      }

-- ---- the tokens of a line

-- at the line's end only the end is left, whatever the fuel
pub cuts-end : (n : ℕ) (line : List ℕ) (at : ℕ) → length line ≤ at → cuts_from n line at ≡ cut_at line at ∷ []
unfolding cuts_from
cuts-end zero line at h = refl
cuts-end (suc n) line at h = rw (le-ltb at (length line) h, cuts_from)

-- before it a token, and then those behind it
pub cuts-more : (n : ℕ) (line : List ℕ) (at : ℕ) → at < length line
    → cuts_from (suc n) line at ≡ cut_at line at ∷ cuts_from n line (cut_at line at).next
unfolding cuts_from
cuts-more n line at h = rw (lt-ltb at (length line) h, cuts_from)

-- fuel for all bytes that are left is enough: more changes nothing
cuts_fuel : (n m : ℕ) (line : List ℕ) (at : ℕ) → length line - at ≤ n → length line - at ≤ m
    → cuts_from n line at ≡ cuts_from m line at
cuts_fuel zero m line at h g =
    let e : length line ≤ at = omega arith in
    cuts-end zero line at e ∙ sym (cuts-end m line at e)
cuts_fuel (suc n) zero line at h g =
    let e : length line ≤ at = omega arith in
    cuts-end (suc n) line at e ∙ sym (cuts-end zero line at e)
cuts_fuel (suc n) (suc m) line at h g =
    by_test (ltb at (length line))
    (λ t.
    let l = ltb-true at (length line) t in
    let (far, inside) = cut_next line at l in
    cuts-more n line at l
    ∙ ap (λ cs. cut_at line at ∷ cs) (cuts_fuel n m line (cut_at line at).next (omega arith) (omega arith))
    ∙ sym (cuts-more m line at l))
    (λ f.
    let e = ltb-false at (length line) f in
    cuts-end (suc n) line at e ∙ sym (cuts-end (suc m) line at e))

-- with fuel enough on both sides, a token and then those behind it
pub cuts_on : (n m : ℕ) (line : List ℕ) (at : ℕ) → at < length line → length line - at ≤ n
    → length line - (cut_at line at).next ≤ m
    → cuts_from n line at ≡ cut_at line at ∷ cuts_from m line (cut_at line at).next
cuts_on n m line at l h g =
    let (far, inside) = cut_next line at l in
    cuts_fuel n (suc n) line at h (omega arith)
    ∙ cuts-more n line at l
    ∙ ap (λ cs. cut_at line at ∷ cs) (cuts_fuel n m line (cut_at line at).next (omega arith) g)

-- the token at the line's end is the end
pub cut_at-end : (line : List ℕ) (at : ℕ) → length line ≤ at → (cut_at line at).token ≡ End
unfolding cut
cut_at-end line at h = ap (λ (c : Cut). c.token) (Rattle.lines.proofs.Cuts.cut_at-end line at h)

-- tokens of which the last is the end
pub record Ended (cs : List Cut) : Type 0 where
  pub before : List Cut
  pub last : Cut
  pub whole : cs ≡ before ++ (last ∷ [])
  pub end : last.token ≡ End

-- a line's tokens from a place on are such
cuts_ended : (n : ℕ) (line : List ℕ) (at : ℕ) → length line - at ≤ n → Ended (cuts_from n line at)
cuts_ended zero line at h = let e : length line ≤ at = omega arith in
    record { before = []; last = cut_at line at; whole = cuts-end zero line at e; end = cut_at-end line at e }
cuts_ended (suc n) line at h =
    by_test (ltb at (length line))
    (λ t.
    let l = ltb-true at (length line) t in
    let (far, inside) = cut_next line at l in
    let more = cuts_ended n line (cut_at line at).next (omega arith) in
    record {
      before = cut_at line at ∷ more.before;
      last = more.last;
      whole = cuts-more n line at l ∙ ap (λ cs. cut_at line at ∷ cs) more.whole;
      end = more.end;
    })
    (λ f.
    let e = ltb-false at (length line) f in
    record { before = []; last = cut_at line at; whole = cuts-end (suc n) line at e; end = cut_at-end line at e })

-- and so are all of them
pub line_ended : (line : List ℕ) → Ended (cuts line)
unfolding cuts
line_ended line = cuts_ended (length line) line 0 (omega arith)
