-- Laws of the rows that are looked at: one variable more of a row, and one row more of a list.
use mathlib.Core.Path.{◌≡◌, refl, sym, ◌∙◌, ap}
use mathlib.Core.Bool.{Bool, true, false, ◌&&◌, ◌||◌, or-true, and-false}
use mathlib.Core.List.{List, ◌∷◌}
use Prim.Native.Nat.{ℕ, zero, suc, ◌+◌, ◌-◌, ◌*◌, ◌≤◌, ◌<◌}
use native.Mathlib.Omega.{arith}
use lib.Dec.{eqb, leb}
use lib.ListN.{get_or, drop}
use lib.Seq.{drop-drop}
use borrow.Author.Tests.{eq-eqb, ne_eqb}
use Rattle.plan.specs.Lists.{has, every, numbers, lt_row, in_set, vars_in}
use Rattle.plan.specs.Request.{Row, row_words, rows_by}
use Rattle.plan.specs.Apart.{is_ascending, is_blank, is_list, list_rows}
use Rattle.plan.proofs.Numbers.{numbers_from}
use Rattle.plan.proofs.Sets.{vars-has}
use Rattle.list.specs.Order.{row_of}
use Rattle.stand.specs.Held.{comes_before}

-- ---- variables of a row

module _ (known : ℕ) (row : Row) where
  -- the row is 0 at variable v, or v is known
  abbrev fits : ℕ → Bool
  fits v = has eqb v (vars_in known) || eqb (get_or row v 0) 0

  -- so at the variables from v on
  abbrev pub blank_from : ℕ → Bool
  blank_from v = every fits (numbers v (row_words - v))

  -- at all of them
  pub blank_all : is_blank (vars_in known) row ≡ blank_from 0
  unfolding is_blank
  blank_all = refl

  -- no variable is left
  pub blank_end : blank_from 16 ≡ true
  unfolding every numbers
  blank_end = refl

  module _ (v : ℕ) (low : v < 16) where
    next : blank_from v ≡ (fits v && blank_from (v + 1))
    unfolding every
    next = ap (every fits) (numbers_from v 16 low)

    -- the variable is known
    pub blank_known : in_set known v ≡ true → blank_from v ≡ blank_from (v + 1)
    blank_known h =
        next ∙ ap (λ b. (b || eqb (get_or row v 0) 0) && blank_from (v + 1)) (vars-has known v low ∙ h)

    -- its word is 0
    pub blank_zero : get_or row v 0 ≡ 0 → blank_from v ≡ blank_from (v + 1)
    blank_zero e =
        next
        ∙ ap (λ b. (has eqb v (vars_in known) || b) && blank_from (v + 1)) (eq-eqb _ 0 e)
        ∙ ap (λ b. b && blank_from (v + 1)) (or-true (has eqb v (vars_in known)))

    -- neither
    pub blank_not : (get_or row v 0 ≡ 0 → ⊥) → in_set known v ≡ false → blank_from v ≡ false
    blank_not n h =
        next
        ∙ ap (λ b. (b || eqb (get_or row v 0) 0) && blank_from (v + 1)) (vars-has known v low ∙ h)
        ∙ ap (λ b. b && blank_from (v + 1)) (ne_eqb _ 0 n)

-- ---- a row and the next one

-- the last row
pub before_last : (i rows : ℕ) (t : List ℕ) → i + 1 ≡ rows → comes_before i rows t ≡ true
unfolding comes_before
before_last i rows t e = rw (eq-eqb (i + 1) rows e, comes_before)

-- another row
pub before_next : (i rows : ℕ) (t : List ℕ) → (i + 1 ≡ rows → ⊥) → comes_before i rows t ≡ lt_row (row_of t i) (row_of t (i + 1))
unfolding comes_before
before_next i rows t n = rw (ne_eqb (i + 1) rows n, comes_before)

-- ---- rows of a list

-- tests of a first row put before those of the others
regroup : (a b c d : Bool) → ((a && b) && (c && d)) ≡ (c && (a && (b && d)))
regroup true true c d = refl
regroup true false c d = sym (and-false c)
regroup false b c d = sym (and-false c)

module _ (ks : List ℕ) (rows : ℕ) (t : List ℕ) where
  -- the rows from row i on hold together
  abbrev pub list_from : ℕ → Bool
  list_from i = is_list ks (rows_by row_words (rows - i) (drop (i * row_words) t))

  -- all rows
  pub list_all : is_list ks (rows_by row_words rows t) ≡ list_from 0
  list_all = ap (λ n. is_list ks (rows_by row_words n t)) (let e : rows ≡ rows - 0 = omega arith in e)

  -- no row is left
  pub list-end : (i : ℕ) → rows ≤ i → list_from i ≡ true
  unfolding is_list is_ascending every rows_by
  list-end i h =
      ap (λ n. is_list ks (rows_by row_words n (drop (i * row_words) t))) (let e : rows - i ≡ 0 = omega arith in e)

  module _ (i : ℕ) (low : i < rows) where
    -- so many rows behind row i
    behind : ℕ → List Row
    behind n = rows_by row_words n (drop ((i + 1) * row_words) t)

    -- row i, and those behind it
    from : rows_by row_words (rows - i) (drop (i * row_words) t) ≡ row_of t i ∷ behind (rows - (i + 1))
    unfolding behind rows_by
    from =
        ap (λ n. rows_by row_words n (drop (i * row_words) t)) (let e : rows - i ≡ suc (rows - (i + 1)) = omega arith in e)
        ∙ ap (λ u. row_of t i ∷ rows_by row_words (rows - (i + 1)) u)
        (drop-drop row_words (i * row_words) t
        ∙ ap (λ k. drop k t) (let e : i * row_words + row_words ≡ (i + 1) * row_words = omega arith in e))

    -- by the tests of row i, and those of the others
    one : (n : ℕ) → rows - (i + 1) ≡ n
        → is_list ks (row_of t i ∷ behind n) ≡ (is_blank ks (row_of t i) && (comes_before i rows t && is_list ks (behind n)))
    unfolding behind rows_by is_list is_ascending every
    one zero e = rw (before_last i rows t (let z : i + 1 ≡ rows = omega arith in z))
    one (suc n) e =
        rw (before_next i rows t (λ z. let w : ⊥ = omega arith in w))
        (regroup (lt_row (row_of t i) (row_of t (i + 1))) _ (is_blank ks (row_of t i)) _)

    row_next : list_from i ≡ (is_blank ks (row_of t i) && (comes_before i rows t && list_from (i + 1)))
    unfolding behind
    row_next = ap (is_list ks) from ∙ one (rows - (i + 1)) refl

    -- row i has a word at a variable that is not known
    pub list-not_blank : is_blank ks (row_of t i) ≡ false → list_from i ≡ false
    list-not_blank f = row_next ∙ rw f

    -- it does not come before the next
    pub list-not-before : comes_before i rows t ≡ false → list_from i ≡ false
    list-not-before f = row_next ∙ rw f (and-false (is_blank ks (row_of t i)))

    -- it passes both
    pub list-more : is_blank ks (row_of t i) ≡ true → comes_before i rows t ≡ true → list_from i ≡ list_from (i + 1)
    list-more b c = row_next ∙ rw (b, c)

-- ---- how many rows are the list

-- all of them
pub rows_all : (ks : List ℕ) (rows : ℕ) (t : List ℕ) → (leb rows 512 && is_list ks (rows_by row_words rows t)) ≡ true
    → list_rows ks rows t ≡ rows
unfolding list_rows
rows_all ks rows t h = rw (h, list_rows)

-- or none
pub rows_none : (ks : List ℕ) (rows : ℕ) (t : List ℕ) → (leb rows 512 && is_list ks (rows_by row_words rows t)) ≡ false
    → list_rows ks rows t ≡ 0
unfolding list_rows
rows_none ks rows t h = rw (h, list_rows)
