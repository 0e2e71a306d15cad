-- Laws of what is taken from the places: a register and a look-up; and the words of the first row.
use mathlib.Core.Path.{◌≡◌, refl, sym, ap, ◌∙◌}
use mathlib.Core.Bool.{Bool, true, false, ◌&&◌}
use mathlib.Core.List.{List, [], ◌∷◌, map}
use Prim.Native.Nat.{ℕ, zero, suc, ◌+◌, ◌≤◌, ◌<◌}
use native.Mathlib.Omega.{arith}
use lib.ListN.{length, get_or, take, drop, length-drop}
use lib.Seq.{length-take-le, get_or-take, get_or-drop, drop-drop}
use lib.Dec.{leb}
use borrow.Author.Tests.{leb-true}
use Rattle.std.proofs.Common.{min}
use Rattle.std.specs.List.{list_all}
use Rattle.std.proofs.lemmas.List.{ext_get_or}
use Rattle.export.specs.Writing.{byte_of, rule_of, row_in, words_fit, register_from, look_up_from}

-- ---- a register and a look-up, from a place on

module _ (places : List ℕ) (at : ℕ) where
  first_at : get_or (drop at places) 0 0 ≡ get_or places at 0
  first_at = let e : at + 0 ≡ at = omega arith in get_or-drop at places 0 0 ∙ ap (λ (k : ℕ). get_or places k 0) e

  pub register-made : (columns rules : ℕ) (rule : List ℕ) → columns ≡ byte_of (get_or places at 0)
      → rules ≡ byte_of (get_or places (at + 1) 0) → rule ≡ map rule_of (take 8 (drop (at + 2) places))
      → record { columns = columns; rules = rules; rule = rule } ≡ register_from (drop at places)
  unfolding register_from
  register-made columns rules rule c n r = λ t.
      record {
        columns = (c ∙ ap byte_of (sym first_at)) t;
        rules = (n ∙ ap byte_of (sym (get_or-drop at places 1 0))) t;
        rule = (r ∙ ap (λ (l : List ℕ). map rule_of (take 8 l)) (sym (drop-drop 2 at places))) t;
      }

  pub look_up-made : (register columns : ℕ) (vars : List ℕ) → register ≡ byte_of (get_or places at 0)
      → columns ≡ byte_of (get_or places (at + 1) 0) → vars ≡ map byte_of (take 6 (drop (at + 2) places))
      → record { register = register; columns = columns; vars = vars } ≡ look_up_from (drop at places)
  unfolding look_up_from
  look_up-made register columns vars r c v = λ t.
      record {
        register = (r ∙ ap byte_of (sym first_at)) t;
        columns = (c ∙ ap byte_of (sym (get_or-drop at places 1 0))) t;
        vars = (v ∙ ap (λ (l : List ℕ). map byte_of (take 6 l)) (sym (drop-drop 2 at places))) t;
      }

-- ---- the words of the first row

-- a word of 32 bits
abbrev pub fits : ℕ → Bool
fits w = leb w 4294967295

-- both tests pass where both pass at once
and_both : (a b : Bool) → (a && b) ≡ true → (a ≡ true) × (b ≡ true)
and_both true b e = (refl, e)
and_both false b e = cc

-- each word of a list that fits does
all_at : (test : ℕ → Bool) (xs : List ℕ) (i : ℕ) → list_all test xs ≡ true → i < length xs → test (get_or xs i 0) ≡ true
all_at test [] i e h = absurd (omega arith)
all_at test (x ∷ xs) zero e h = (and_both (test x) (list_all test xs) e).0
all_at test (x ∷ xs) (suc i) e h = all_at test xs i (and_both (test x) (list_all test xs) e).1 (omega arith)

-- the words that are taken from the first row are its own, where all of them fit
pub row_kept : (places row : List ℕ) → 238 ≤ length places → words_fit places ≡ true → length row ≡ 16
    → ((v : ℕ) → v < 16 → get_or row v 0 ≡ min (get_or places (6 + v) 0) 4294967295) → row ≡ row_in places
unfolding words_fit
row_kept places row room fit long each =
    let sixteen : length (row_in places) ≡ 16 = length-take-le 16 (drop 6 places) (omega (arith, length-drop 6 places)) in
    let here : (v : ℕ) → v < 16 → get_or (row_in places) v 0 ≡ get_or places (6 + v) 0 =
    λ v h. get_or-take 16 (drop 6 places) v 0 h ∙ get_or-drop 6 places v 0 in
    let low : (v : ℕ) → v < 16 → get_or (row_in places) v 0 ≤ 4294967295 =
    λ v h. leb-true (get_or (row_in places) v 0) 4294967295 (all_at fits (row_in places) v fit (omega arith)) in
    ext_get_or 0 row (row_in places) (long ∙ sym sixteen)
    (λ v h. let b : v < 16 = omega arith in omega (arith, each v b, here v b, low v b))
