-- A list that stands in the first table is read back from it as the list of a state: it ascends, and is 0 at variables that are not
-- known.
use mathlib.Core.Path.{◌≡◌, refl, ◌∙◌, ap}
use mathlib.Core.Bool.{true, ◌&&◌, ◌||◌}
use mathlib.Core.List.{List, [], ◌∷◌}
use Prim.Native.Nat.{ℕ, ◌≤◌}
use lib.ListN.{length, get_or}
use lib.Dec.{eqb, leb}
use borrow.Author.Tests.{le-leb, eq-eqb}
use Rattle.plan.specs.Lists.{In, Ascending, has, numbers}
use Rattle.plan.specs.Request.{Row, Request, row_words, rows_by, holding}
use Rattle.plan.specs.Grow.{known}
use Rattle.plan.specs.Apart.{is_ascending, is_blank, is_list, list_rows, list_in}
use Rattle.plan.proofs.Lists.{and_of, or_right, every_of, in_has, in_head, in_nil, eqb_faithful}
use Rattle.plan.proofs.Numbers.{by_in}
use Rattle.plan.proofs.Table.{Wide}
use Rattle.plays.proofs.Tables.{held_rows}

-- ascending rows ascend by the test
ascends : (rows : List Row) → Ascending rows → is_ascending rows ≡ true
unfolding Ascending is_ascending
ascends [] a = refl
ascends (r ∷ []) a = refl
ascends (r ∷ s ∷ rows) a = and_of (a.0 s (in_head s rows)) (ascends (s ∷ rows) a.1)

-- a row that is 0 at variables not known is so by the test
blank : (ks : List ℕ) (r : Row) → ((v : ℕ) → (In v ks → ⊥) → get_or r v 0 ≡ 0) → is_blank ks r ≡ true
unfolding is_blank
blank ks r z =
    every_of (λ v. has eqb v ks || eqb (get_or r v 0) 0) (numbers 0 row_words)
    (λ v i.
    by_in v ks
    (λ k. rw (in_has eqb eqb_faithful v ks k))
    (λ n. or_right (has eqb v ks) (eq-eqb (get_or r v 0) 0 (z v n))))

-- such rows hold together as a list
is-list : (ks : List ℕ) (rows : List Row) → Ascending rows → ((r : Row) → In r rows → (v : ℕ) → (In v ks → ⊥) → get_or r v 0 ≡ 0)
    → is_list ks rows ≡ true
unfolding is_list
is-list ks rows a z = and_of (ascends rows a) (every_of (is_blank ks) rows (λ r i. blank ks r (z r i)))

-- at most 512 of them that stand in the table are all the list
rows_all : (ks : List ℕ) (rows : List Row) (t : List ℕ) → length rows ≤ 512 → rows_by row_words (length rows) t ≡ rows
    → is_list ks rows ≡ true → list_rows ks (length rows) t ≡ length rows
unfolding list_rows
rows_all ks rows t few are l =
    let all : (leb (length rows) 512 && is_list ks (rows_by row_words (length rows) t)) ≡ true =
    and_of (le-leb (length rows) 512 few) (ap (is_list ks) are ∙ l) in
    rw (all, list_rows)

-- so where a look-up is answered they are the list
pub list_held : (q : Request) (A : List ℕ) (i : ℕ) → In i A → (rows : List Row) (t : List ℕ) → length rows ≤ 512 → Wide 16 rows
    → Ascending rows → ((r : Row) → In r rows → (v : ℕ) → (In v (known q A) → ⊥) → get_or r v 0 ≡ 0)
    → list_in q A (length rows) (holding 8192 rows t) ≡ rows
unfolding list_in
list_held q [] i h rows t few w a z = absurd (in_nil i h)
list_held q (j ∷ A) i h rows t few w a z =
    let ks = known q (j ∷ A) in
    let table = holding 8192 rows t in
    let are = held_rows 8192 rows t w in
    ap (λ n. rows_by row_words n table) (rows_all ks rows table few are (is-list ks rows a z)) ∙ are
