-- The tokens of a line by its bytes: the token with which the rest of a line begins, and the tokens from there on, where the
-- line is what stands in front and the rest.
use mathlib.Core.Path.{◌≡◌, refl, sym, ◌∙◌, ap}
use mathlib.Core.Bool.{true, false, ◌&&◌}
use mathlib.Core.List.{List, [], ◌∷◌, ◌++◌, append_assoc}
use Prim.Native.Nat.{ℕ, suc, ◌+◌, ◌≤◌, ◌<◌}
use native.Mathlib.Omega.{arith}
use lib.ListN.{length, take, drop, length-append}
use lib.Seq.{take-append_seam, drop-append_seam}
use lib.Dec.{eqb, ltb}
use Rattle.plan.specs.Lists.{every}
use Rattle.plan.specs.Tokens.{is_letter, is_digit, is_mark, run, value_of, cut, cut_number, cut_of, cut_at, cuts_from, is_name}
use Rattle.plan.specs.declared.Token.TheVariants.{Name, Number}
use Rattle.plan.specs.declared.Cut.{Cut}
use Rattle.plan.proofs.Lists.{by_test, and_left, and_of}
use Rattle.lines.proofs.Cuts.{run-over, runs, cut_letter, cut_digit}
use Rattle.lines.proofs.NameLaws.{name_of, name-letters, name-short}
use Rattle.lines.proofs.TypedWalk.{cuts-end, cuts-more}

-- ---- the token with which the rest of a line begins

-- letters that end where the rest begins
pub record Spelt (x rest : List ℕ) : Type 0 where
  pub some : 1 ≤ length x
  pub letters : every is_letter x ≡ true
  pub ends : run is_letter rest ≡ 0

-- a name ends where no letter follows
pub name_spelt : (x rest : List ℕ) → is_name x ≡ true → run is_letter rest ≡ 0 → Spelt x rest
name_spelt x rest h z = record { some = (name-short x h).0; letters = name-letters x h; ends = z }

-- letters that are not too many are a name
pub spelt_name : (x rest : List ℕ) → Spelt x rest → length x ≤ 12 → is_name x ≡ true
spelt_name x rest h short = name_of x h.some short h.letters

-- such letters are a token
pub cut_spelt : (at : ℕ) (x rest : List ℕ) → Spelt x rest
    → cut_of at (x ++ rest) ≡ cut (Name at (length x)) at (length x) false
unfolding every
cut_spelt at [] rest h = absurd (let some = h.some in omega arith)
cut_spelt at (b ∷ x) rest h =
    cut_letter at b (x ++ rest) (and_left (is_letter b) (every is_letter x) h.letters)
    ∙ ap (λ (n : ℕ). cut (Name at n) at n false) (run-over is_letter (b ∷ x) rest h.letters h.ends)

-- and so are digits
pub cut-number : (at b : ℕ) (x rest : List ℕ) → every is_digit (b ∷ x) ≡ true → run is_digit rest ≡ 0
    → cut_of at ((b ∷ x) ++ rest)
    ≡ cut (Number (value_of (b ∷ x))) at (length (b ∷ x)) (eqb b 48 && ltb 1 (length (b ∷ x)))
unfolding every cut_number
cut-number at b x rest e z =
    cut_digit at b (x ++ rest) (and_left (is_digit b) (every is_digit x) e)
    ∙ ap (cut_number at b ((b ∷ x) ++ rest)) (run-over is_digit (b ∷ x) rest e z)
    ∙ ap (λ (l : List ℕ). cut (Number (value_of l)) at (length (b ∷ x)) (eqb b 48 && ltb 1 (length (b ∷ x))))
    (take-append_seam (b ∷ x) rest)

-- what the rest of a line begins with
pub data View (rest : List ℕ) : Type 0 where
  at_end : rest ≡ [] → View rest
  at_name : (x more : List ℕ) → rest ≡ x ++ more → Spelt x more → View rest
  at_number : (b : ℕ) (x more : List ℕ) → rest ≡ (b ∷ x) ++ more → every is_digit (b ∷ x) ≡ true → run is_digit more ≡ 0 → View rest
  at_mark : (b : ℕ) (more : List ℕ) → rest ≡ b ∷ more → is_letter b ≡ false → is_digit b ≡ false → is_mark b ≡ true → View rest
  at_other : (b : ℕ) (more : List ℕ) → rest ≡ b ∷ more → is_letter b ≡ false → is_digit b ≡ false → is_mark b ≡ false → View rest

-- any rest begins with one of these
pub view : (rest : List ℕ) → View rest
unfolding every
view [] = at_end refl
view (b ∷ bs) =
    by_test (is_letter b)
    (λ l.
    let r = runs is_letter bs in
    at_name (b ∷ r.first) r.rest (ap (λ z. b ∷ z) r.whole)
    (record { some = omega arith; letters = and_of l r.passes; ends = r.ends }))
    (λ l.
    by_test (is_digit b)
    (λ d.
    let r = runs is_digit bs in
    at_number b r.first r.rest (ap (λ z. b ∷ z) r.whole) (and_of d r.passes) r.ends)
    (λ d. by_test (is_mark b) (λ m. at_mark b bs refl l d m) (λ m. at_other b bs refl l d m)))

-- ---- the tokens from a place on, where the line is what stands in front and the rest

module _ (line front rest : List ℕ) (whole : line ≡ front ++ rest) where
  -- the token there
  cut-here : cut_at line (length front) ≡ cut_of (length front) rest
  unfolding cut_at
  cut-here = ap (cut_of (length front)) (ap (drop (length front)) whole ∙ drop-append_seam front rest)

  -- the bytes of a name there
  pub name-here : (x more : List ℕ) → rest ≡ x ++ more → take (length x) (drop (length front) line) ≡ x
  name-here x more e =
      ap (λ (l : List ℕ). take (length x) (drop (length front) l)) whole
      ∙ ap (take (length x)) (drop-append_seam front rest ∙ e)
      ∙ take-append_seam x more

  -- at the end only the end
  pub cuts_last : (n : ℕ) → rest ≡ [] → cuts_from n line (length front) ≡ cut_of (length front) rest ∷ []
  cuts_last n e =
      let far : length line ≤ length front = omega (arith, ap length whole, length-append front rest, ap length e) in
      cuts-end n line (length front) far ∙ ap (λ (c : Cut). c ∷ []) cut-here

-- some bytes more stand in front
pub farther : (line front x rest : List ℕ) → line ≡ front ++ (x ++ rest) → line ≡ (front ++ x) ++ rest
farther line front x rest whole = whole ∙ sym (append_assoc front x rest)

-- a token of some bytes, and those behind it
pub cuts_token : (line front x rest : List ℕ) (n : ℕ) (c : Cut) → line ≡ front ++ (x ++ rest) → 1 ≤ length x
    → cut_of (length front) (x ++ rest) ≡ c → c.next ≡ length front + length x
    → cuts_from (suc n) line (length front) ≡ c ∷ cuts_from n line (length (front ++ x))
cuts_token line front x rest n c whole some e next =
    let far : length front < length line =
    omega (arith, ap length whole, length-append front (x ++ rest), length-append x rest) in
    cuts-more n line (length front) far
    ∙ ap (λ (d : Cut). d ∷ cuts_from n line d.next) (cut-here line front (x ++ rest) whole ∙ e)
    ∙ ap (λ (k : ℕ). c ∷ cuts_from n line k) (next ∙ sym (length-append front x))
