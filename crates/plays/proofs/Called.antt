-- The list of calls: the different combinations of the must-give values, ascending. In any state it has at most 512 calls of at
-- most 6 values, so at most 3,072 words.
use mathlib.Core.Path.{◌≡◌, sym, ◌∙◌, ap}
use mathlib.Core.Logic.{◌↔◌}
use mathlib.Core.Bool.{◌&&◌}
use mathlib.Core.List.{List, [], ◌∷◌, map}
use Prim.Native.Nat.{ℕ, ◌*◌, ◌≤◌}
use native.Mathlib.Omega.{arith}
use native.Mathlib.Nat.{mul-le-mul}
use lib.ListN.{length, length-map}
use lib.Dec.{leb}
use borrow.Author.Tests.{leb-true}
use Rattle.plan.specs.Lists.{In, Sub, NoRepeat, eq_row, Ascending}
use Rattle.plan.specs.Request.{Row, Request, reads, row_words, rows_by, flat}
use Rattle.plan.specs.Route.{Pick}
use Rattle.plan.specs.Grow.{known, gives, combinations}
use Rattle.plan.specs.Apart.{asked_in, is_list, list_rows, list_in, call_list}
use Rattle.plan.specs.declared.State.{State}
use Rattle.plan.proofs.Lists.{by_test, and_left, in_map, eq_row_faithful}
use Rattle.plan.proofs.Different.{different-is, different-length}
use Rattle.plan.proofs.Order.{lt_row_irrefl, in_ordered, ordered_in, ordered-ascending}
use Rattle.plan.proofs.Table.{Wide, length-rows, length-flat}
use Rattle.plays.proofs.Bounds.{gives-few}

-- ---- the calls of a pick

-- in ascending rows nothing stands twice
pub ascending-once : (rows : List Row) → Ascending rows → NoRepeat rows
unfolding Ascending NoRepeat
ascending-once [] a = tt
ascending-once (r ∷ rows) a = (λ i. lt_row_irrefl r (a.0 r i), ascending-once rows a.1)

module _ (q : Request) (s : Pick) (l : List Row) where
  -- they ascend
  pub called-ascending : Ascending (call_list q s l)
  unfolding call_list
  called-ascending = ordered-ascending _

  -- they are what the rows show at the must-give variables
  pub called-are : (c : Row) → In c (call_list q s l) ↔ In c (map (λ (r : Row). reads r (gives q s)) l)
  unfolding call_list
  called-are c = (in_ordered c _, ordered_in c _)

  -- so many
  pub called_count : length (call_list q s l) ≡ combinations (gives q s) l
  unfolding combinations Sub
  called_count =
      sym (different-is eq_row eq_row_faithful (map (λ (r : Row). reads r (gives q s)) l) (call_list q s l)
      (ascending-once (call_list q s l) called-ascending) (λ c i. (called-are c).1 i) (λ c i. (called-are c).0 i))

  -- no more than rows
  called-rows : length (call_list q s l) ≤ length l
  unfolding combinations
  called-rows =
      omega (
        arith,
        called_count,
        different-length eq_row eq_row_faithful (map (λ (r : Row). reads r (gives q s)) l),
        length-map l (λ (r : Row). reads r (gives q s)),
      )

  -- each has a value for each must-give variable
  called-wide : Wide (length (gives q s)) (call_list q s l)
  unfolding Wide reads
  called-wide c i =
      let (r, j, e) = in_map (λ (r : Row). reads r (gives q s)) l c ((called-are c).0 i) in
      ap length e ∙ length-map (gives q s) _

-- ---- the list of a state

-- at most 512 rows are the list
pub rows_few : (known : List ℕ) (rows : ℕ) (table : List ℕ) → list_rows known rows table ≤ 512
unfolding list_rows
rows_few known rows table =
    by_test
    (leb rows 512 && is_list known (rows_by row_words rows table))
    (λ t. rw (t, list_rows) (leb-true rows 512 (and_left (leb rows 512) _ t)))
    (λ f. rw (f, list_rows) (omega arith))

pub list-few : (q : Request) (A : List ℕ) (rows : ℕ) (first : List ℕ) → length (list_in q A rows first) ≤ 512
unfolding list_in
list-few q [] rows first = omega arith
list-few q (i ∷ A) rows first =
    let ks = known q (i ∷ A) in
    omega (arith, length-rows row_words (list_rows ks rows first) first, rows_few ks rows first)

-- so the calls of a state take at most 3,072 words
pub called-words : (st : State) (s : Pick) (l : List Row) → length l ≤ 512 → length (flat (call_list (asked_in st) s l)) ≤ 3072
called-words st s l h =
    let q = asked_in st in
    let most : length (call_list q s l) * length (gives q s) ≤ 512 * 6 =
    mul-le-mul (let k : length (call_list q s l) ≤ 512 = omega (arith, called-rows q s l) in k) (gives-few st s) in
    omega (arith, most, length-flat (length (gives q s)) (call_list q s l) (called-wide q s l))
