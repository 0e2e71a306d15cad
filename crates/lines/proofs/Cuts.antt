-- Laws of single tokens of a typed line: bytes that pass a test, the number that digits make, one token by its first byte,
-- and the part that is handed back.
use mathlib.Core.Path.{◌≡◌, refl, sym, ◌∙◌, ap, subst}
use mathlib.Core.Bool.{Bool, true, false, ◌&&◌}
use mathlib.Core.List.{List, [], ◌∷◌, ◌++◌}
use Prim.Native.Nat.{ℕ, suc, ◌+◌, ◌-◌, ◌*◌, ◌≤◌, ◌<◌, min}
use native.Mathlib.Numerals.{add-one}
use native.Mathlib.Omega.{arith}
use lib.ListN.{get_or, length, take, drop, drop_of_length-le, length-drop}
use lib.Seq.{drop-cons}
use lib.Dec.{leb}
use borrow.Author.Tests.{le-leb, lt-leb, leb-true}
use Rattle.plan.specs.Lists.{every}
use Rattle.plan.specs.Tokens.{over, is_letter, is_digit, is_mark, run, decimal, cut, cut_number, cut_of, cut_at}
use Rattle.plan.specs.Typed.{of_line, part_place, part_length}
use Rattle.plan.specs.declared.Token.TheVariants.{Name, Mark, Other, End}
use Rattle.plan.specs.declared.Cut.{Cut}
use Rattle.plan.proofs.Lists.{by_test, fails, and_left, and_right, and_of}

-- ---- bytes that pass a test

module _ (test : ℕ → Bool) where
  -- of no bytes none pass
  pub run-nil : run test [] ≡ 0
  unfolding run
  run-nil = refl

  -- a byte that passes is one more
  pub run_pass : (b : ℕ) (bs : List ℕ) → test b ≡ true → run test (b ∷ bs) ≡ suc (run test bs)
  unfolding run
  run_pass b bs t = rw (t, run)

  -- none pass where the first does not
  pub run_stop : (b : ℕ) (bs : List ℕ) → test b ≡ false → run test (b ∷ bs) ≡ 0
  unfolding run
  run_stop b bs f = rw (f, run)

  -- at most all pass
  pub run-low : (bs : List ℕ) → run test bs ≤ length bs
  unfolding run
  run-low [] = omega arith
  run-low (b ∷ bs) =
      let more = run-low bs in
      by_test (test b) (λ t. rw (t, run) (omega arith)) (λ f. rw (f, run) (omega arith))

  -- each of them passes
  pub run-every : (bs : List ℕ) → every test (take (run test bs) bs) ≡ true
  unfolding run every
  run-every [] = refl
  run-every (b ∷ bs) =
      let more = run-every bs in
      by_test (test b) (λ t. rw (t, run) (and_of t more)) (λ f. rw (f, run))

  -- all of the first bytes pass, and the next does not: so far it runs
  pub run-over : (x rest : List ℕ) → every test x ≡ true → run test rest ≡ 0 → run test (x ++ rest) ≡ length x
  unfolding every
  run-over [] rest e z = z
  run-over (b ∷ x) rest e z =
      run_pass b (x ++ rest) (and_left (test b) (every test x) e)
      ∙ ap suc (run-over x rest (and_right (test b) (every test x) e) z)

  -- bytes parted where the test no longer runs
  pub record Run (bytes : List ℕ) : Type 0 where
    pub first : List ℕ
    pub rest : List ℕ
    pub whole : bytes ≡ first ++ rest
    pub passes : every test first ≡ true
    pub ends : run test rest ≡ 0

  -- any bytes can be parted so
  pub runs : (bytes : List ℕ) → Run bytes
  unfolding every
  runs [] = record { first = []; rest = []; whole = refl; passes = refl; ends = run-nil }
  runs (b ∷ bs) =
      let r = runs bs in
      by_test (test b)
      (λ t.
      record {
        first = b ∷ r.first;
        rest = r.rest;
        whole = ap (λ l. b ∷ l) r.whole;
        passes = and_of t r.passes;
        ends = r.ends;
      })
      (λ f. record { first = []; rest = b ∷ bs; whole = refl; passes = refl; ends = run_stop b bs f })

  module _ (line : List ℕ) (at : ℕ) where
    -- from a place on, where its byte passes: one more than from the next
    pub run_on : at < length line → test (get_or line at 0) ≡ true
        → run test (drop at line) ≡ suc (run test (drop (at + 1) line))
    run_on h t = rw (drop-cons line at 0 h, add-one at) (run_pass (get_or line at 0) (drop (suc at) line) t)

    -- none, where its byte does not pass
    pub run_none : at < length line → test (get_or line at 0) ≡ false → run test (drop at line) ≡ 0
    run_none h f = rw (drop-cons line at 0 h) (run_stop (get_or line at 0) (drop (suc at) line) f)

    -- and none at the line's end
    pub run_end : length line ≤ at → run test (drop at line) ≡ 0
    run_end h = rw (drop_of_length-le line h) run-nil

    -- they end in the line
    run_inside : at ≤ length line → at + run test (drop at line) ≤ length line
    run_inside h = let low = run-low (drop at line) in let d = length-drop at line in omega arith

    -- those that pass, where the place's byte does: it, and those from the next place on
    pub took_on : at < length line → test (get_or line at 0) ≡ true
        → take (run test (drop at line)) (drop at line)
        ≡ get_or line at 0 ∷ take (run test (drop (at + 1) line)) (drop (at + 1) line)
    took_on h t = rw (run_on h t, drop-cons line at 0 h, add-one at)

-- ---- the number that digits make

-- a number over the limit stays over it, whatever digits follow: it may be told as the least that is
decimal-over : (n : ℕ) (ds : List ℕ) → min over (decimal (min over n) ds) ≡ min over (decimal n ds)
unfolding decimal
decimal-over n [] = omega arith
decimal-over n (d ∷ ds) =
    let e : min over (min over n * 10 + (d - 48)) ≡ min over (n * 10 + (d - 48)) = omega arith in
    sym (decimal-over (min over n * 10 + (d - 48)) ds)
    ∙ ap (λ m. min over (decimal m ds)) e
    ∙ decimal-over (n * 10 + (d - 48)) ds

-- one more digit
pub decimal_on : (n d : ℕ) (ds : List ℕ)
    → min over (decimal n (d ∷ ds)) ≡ min over (decimal (min over (n * 10 + (d - 48))) ds)
unfolding decimal
decimal_on n d ds = sym (decimal-over (n * 10 + (d - 48)) ds)

-- digits make at least the number that they stand behind
decimal-low : (n : ℕ) (ds : List ℕ) → n ≤ decimal n ds
unfolding decimal
decimal-low n [] = omega arith
decimal-low n (d ∷ ds) = let more = decimal-low (n * 10 + (d - 48)) ds in omega arith

-- a number whose first digit is not 0 is not 0
pub decimal-some : (d : ℕ) (ds : List ℕ) → 49 ≤ d → 1 ≤ decimal 0 (d ∷ ds)
unfolding decimal
decimal-some d ds low = let more = decimal-low (0 * 10 + (d - 48)) ds in omega arith

-- ---- one token

-- a digit is one of ten bytes
pub digit_range : (b : ℕ) → is_digit b ≡ true → (48 ≤ b) × (b ≤ 57)
unfolding is_digit
digit_range b t = (leb-true 48 b (and_left (leb 48 b) (leb b 57) t), leb-true b 57 (and_right (leb 48 b) (leb b 57) t))

-- and no letter
digit_no_letter : (b : ℕ) → is_digit b ≡ true → is_letter b ≡ false
unfolding is_letter
digit_no_letter b t = let (low, high) = digit_range b t in rw (lt-leb 97 b (omega arith))

module _ (at b : ℕ) (bs : List ℕ) where
  -- a letter begins a name
  pub cut_letter : is_letter b ≡ true
      → cut_of at (b ∷ bs) ≡ cut (Name at (run is_letter (b ∷ bs))) at (run is_letter (b ∷ bs)) false
  unfolding cut_of
  cut_letter t = rw (t, cut_of)

  -- a digit begins a number
  pub cut_digit : is_digit b ≡ true → cut_of at (b ∷ bs) ≡ cut_number at b (b ∷ bs) (run is_digit (b ∷ bs))
  unfolding cut_of
  cut_digit t = rw (digit_no_letter b t, t, cut_of)

  -- a mark stands alone
  pub cut-mark : is_letter b ≡ false → is_digit b ≡ false → is_mark b ≡ true → cut_of at (b ∷ bs) ≡ cut (Mark b) at 1 false
  unfolding cut_of
  cut-mark f g t = rw (f, g, t, cut_of)

  -- and so does another byte
  pub cut_other : is_letter b ≡ false → is_digit b ≡ false → is_mark b ≡ false → cut_of at (b ∷ bs) ≡ cut Other at 1 false
  unfolding cut_of
  cut_other f g h = rw (f, g, h, cut_of)

-- where nothing is left is the end
pub cut-end : (at : ℕ) → cut_of at [] ≡ cut End at 0 false
unfolding cut_of
cut-end at = refl

-- what holds of each kind of token holds of the one where a byte is left
pub cut-cases : (P : Cut → Type 0) (at b : ℕ) (bs : List ℕ)
    → (is_letter b ≡ true → P (cut (Name at (run is_letter (b ∷ bs))) at (run is_letter (b ∷ bs)) false))
    → (is_digit b ≡ true → P (cut_number at b (b ∷ bs) (run is_digit (b ∷ bs))))
    → (is_mark b ≡ true → P (cut (Mark b) at 1 false))
    → (is_mark b ≡ false → P (cut Other at 1 false))
    → P (cut_of at (b ∷ bs))
cut-cases P at b bs name number mark other =
    by_test (is_letter b) (λ t. subst P (sym (cut_letter at b bs t)) (name t))
    (λ f.
    by_test (is_digit b) (λ t. subst P (sym (cut_digit at b bs t)) (number t))
    (λ g.
    by_test (is_mark b)
    (λ t. subst P (sym (cut-mark at b bs f g t)) (mark t))
    (λ h. subst P (sym (cut_other at b bs f g h)) (other h))))

-- a token tells its place
pub cut-tells : (at : ℕ) (rest : List ℕ) → (cut_of at rest).at ≡ at
unfolding cut cut_number cut_of
cut-tells at [] = refl
cut-tells at (b ∷ bs) = cut-cases (λ c. c.at ≡ at) at b bs (λ t. refl) (λ t. refl) (λ t. refl) (λ f. refl)

-- a token has a byte, and ends in the line
pub cut_moves : (at b : ℕ) (bs : List ℕ)
    → (at < (cut_of at (b ∷ bs)).next) × ((cut_of at (b ∷ bs)).next ≤ at + length (b ∷ bs))
unfolding cut cut_number
cut_moves at b bs =
    cut-cases (λ c. (at < c.next) × (c.next ≤ at + length (b ∷ bs))) at b bs
    (λ t. let e = run_pass is_letter b bs t in let low = run-low is_letter (b ∷ bs) in omega arith)
    (λ t. let e = run_pass is_digit b bs t in let low = run-low is_digit (b ∷ bs) in omega arith)
    (λ t. omega arith)
    (λ f. omega arith)

-- ---- the token at a place of a line

module _ (line : List ℕ) (at : ℕ) where
  module _ (h : at < length line) where
    -- a letter begins a name
    pub cut_at_letter : is_letter (get_or line at 0) ≡ true
        → cut_at line at ≡ cut (Name at (run is_letter (drop at line))) at (run is_letter (drop at line)) false
    unfolding cut_at
    cut_at_letter t = rw (drop-cons line at 0 h) (cut_letter at (get_or line at 0) (drop (suc at) line) t)

    -- a digit begins a number
    pub cut_at_digit : is_digit (get_or line at 0) ≡ true
        → cut_at line at ≡ cut_number at (get_or line at 0) (drop at line) (run is_digit (drop at line))
    unfolding cut_at
    cut_at_digit t = rw (drop-cons line at 0 h) (cut_digit at (get_or line at 0) (drop (suc at) line) t)

    -- a mark stands alone, and so does another byte
    pub cut_at-one : is_letter (get_or line at 0) ≡ false → is_digit (get_or line at 0) ≡ false
        → cut_at line at
        ≡ elim (is_mark (get_or line at 0)) [ true ↦ cut (Mark (get_or line at 0)) at 1 false | false ↦ cut Other at 1 false ]
    unfolding cut_at cut_of
    cut_at-one f g = rw (drop-cons line at 0 h, f, g, cut_of)

  -- where nothing is left is the end
  pub cut_at-end : length line ≤ at → cut_at line at ≡ cut End at 0 false
  unfolding cut_at
  cut_at-end h = rw (drop_of_length-le line h) (cut-end at)

-- ---- the part that is handed back

module _ (number detail : ℕ) (line : List ℕ) where
  -- a place that is told is in the line
  told-inside : of_line number detail line ≡ true → detail ≤ length line
  unfolding of_line
  told-inside t =
      leb-true detail (length line) (and_right (leb 20 number && leb number 25) (leb detail (length line)) t)

  -- no byte, at the line's beginning: what is handed back for every number but 20 to 25, and beyond the line
  abbrev pub Nothing : Type 0
  Nothing = (part_place number detail line ≡ 0) × (part_length number detail line ≡ 0)

  untold : of_line number detail line ≡ false → Nothing
  unfolding part_place part_length
  untold f = (rw (f, part_place), rw (f, part_length))

  -- for a number below 20, one above 25, and a place that the line does not have
  pub part_low : number < 20 → Nothing
  unfolding of_line
  part_low h = untold (rw (lt-leb 20 number h))

  pub part-high : 25 < number → Nothing
  unfolding of_line
  part-high h = untold (rw (le-leb 20 number (omega arith), lt-leb number 25 h))

  pub part_far : length line < detail → Nothing
  part_far h = untold (fails (of_line number detail line) (λ t. let d = told-inside t in omega arith))

  -- for every other, the name that begins there
  pub part-told : 20 ≤ number → number ≤ 25 → detail ≤ length line
      → (part_place number detail line ≡ detail) × (part_length number detail line ≡ run is_letter (drop detail line))
  unfolding of_line part_place part_length
  part-told a b c =
      let t : of_line number detail line ≡ true = rw (le-leb 20 number a, le-leb number 25 b, le-leb detail (length line) c) in
      (rw (t, part_place), rw (t, part_length))

  -- the part lies in the line
  pub part-inside : part_place number detail line + part_length number detail line ≤ length line
  unfolding part_place part_length
  part-inside =
      by_test (of_line number detail line)
      (λ t. rw (t, part_place, part_length) (run_inside is_letter line detail (told-inside t)))
      (λ f. rw (f, part_place, part_length) (omega arith))
