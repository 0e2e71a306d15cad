-- A right delivery for a step: it is whole rows, each was asked for, its different rows are the rows sent, and joined with the list
-- it gives the next list. A register row that agrees with a list row on every known variable agrees with the call of that row, so
-- the join misses no row that is not delivered.
use mathlib.Core.Path.{◌≡◌, refl, sym, ◌∙◌, ap}
use mathlib.Core.Bool.{true, false}
use mathlib.Core.List.{List, [], ◌∷◌, append-nil}
use Prim.Native.Nat.{ℕ, ◌*◌, ◌/◌, ◌%◌, ◌≤◌}
use native.Mathlib.Omega.{arith}
use native.Mathlib.Nat.{mul-div_cancel, mul-mod_left}
use lib.ListN.{length, get_or}
use borrow.Author.Tests.{le-leb, eq-eqb}
use Rattle.plan.specs.Lists.{In, Sub, those, different, eq_row}
use Rattle.plan.specs.Request.{Row, Rule, Request, goal_at, reads, writes, rows_by, flat}
use Rattle.plan.specs.Zero.{matches, matching, never_zero_in}
use Rattle.plan.specs.Route.{Pick}
use Rattle.plan.specs.Grow.{must_give, known, gives, usable, agrees, join, listed, is_sent, sent_of, sent}
use Rattle.plan.specs.Apart.{is_whole, delivered_rows, all_asked}
use Rattle.plan.specs.Demands.{rule_of, RightDelivery}
use Rattle.plan.proofs.Words.{Sound}
use Rattle.plan.proofs.Lists.{and_of, every_of, in_those, those_in, in_has, map_in, eq_row_faithful}
use Rattle.plan.proofs.Different.{in_equal, different-same}
use Rattle.plan.proofs.Order.{ordered-ascending, ascending_equal}
use Rattle.plan.proofs.Rows.{reads_of, agrees-reads, agrees-known, in_join, join_in}
use Rattle.plan.proofs.Listed.{listed_more}
use Rattle.plan.proofs.Calls.{gives-known}
use Rattle.plan.proofs.Charges.{delivered_is, sent-said}
use Rattle.plan.proofs.Table.{Wide, rows-flat, length-flat}
use Rattle.plays.proofs.Stored.{Fits}

-- ---- whole rows

module _ (w : ℕ) (rows : List Row) (came : List ℕ) (low : 1 ≤ w) (wide : Wide w rows) (words : came ≡ flat rows) where
  -- so many words
  came-length : length came ≡ length rows * w
  came-length = ap length words ∙ length-flat w rows wide

  -- so many rows
  came_count : length came / w ≡ length rows
  came_count = ap (λ n. n / w) came-length ∙ mul-div_cancel (length rows) low

  -- the words of at most 512 rows are whole rows
  pub whole-rows : length rows ≤ 512 → is_whole w (length came) ≡ true
  unfolding is_whole
  whole-rows few =
      and_of
      (eq-eqb (length came % w) 0 (ap (λ n. n % w) came-length ∙ mul-mod_left (length rows) w))
      (le-leb (length came / w) 512 (omega (arith, came_count)))

  -- these
  pub rows_delivered : delivered_rows w came ≡ rows
  unfolding delivered_rows
  rows_delivered =
      ap (λ n. rows_by w n came) came_count
      ∙ ap (rows_by w (length rows)) (words ∙ sym (append-nil (flat rows)))
      ∙ rows-flat w rows [] wide

-- ---- the join goes by the rows that agree

module _ (ks vs : List ℕ) (l : List Row) where
  -- more register rows, more rows in the join
  joins-sub : (xs ys : List Row) → ((r x : Row) → In r l → In x xs → agrees ks vs r x ≡ true → In x ys)
      → Sub (join ks vs xs l) (join ks vs ys l)
  unfolding Sub
  joins-sub xs ys h s i =
      let m = in_join ks vs xs l s i in
      let j = h m.old m.row m.listed m.stored m.agree in
      rw m.made (join_in ks vs ys l m.old m.row m.listed j m.agree)

  -- the join with register rows is the join with those of them that agree with some list row
  join-agrees : (xs ys : List Row) → Sub xs ys → ((r x : Row) → In r l → In x ys → agrees ks vs r x ≡ true → In x xs)
      → join ks vs xs l ≡ join ks vs ys l
  unfolding Sub join
  join-agrees xs ys h k =
      ascending_equal (join ks vs xs l) (join ks vs ys l) (ordered-ascending _) (ordered-ascending _)
      (joins-sub xs ys (λ r x i j a. h x j)) (joins-sub ys xs k)

-- ---- what a row shows in the must-give columns

-- what a row that shows a register row shows there
must_reads : (rule : Rule) (r : Row) (vs : List ℕ) → must_give rule (reads r vs) ≡ reads r (must_give rule vs)
unfolding must_give reads
must_reads [] r vs = refl
must_reads (b ∷ bs) r [] = refl
must_reads (true ∷ bs) r (v ∷ vs) = ap (λ xs. get_or r v 0 ∷ xs) (must_reads bs r vs)
must_reads (false ∷ bs) r (v ∷ vs) = must_reads bs r vs

-- a register row that agrees with a list row on every known variable agrees with the call of that row
agrees-call : (q : Request) (A : List ℕ) (s : Pick) → usable q A s ≡ true → (r x : Row)
    → agrees (known q A) (goal_at q s.lookup).vars r x ≡ true → must_give (rule_of q s) x ≡ reads r (gives q s)
unfolding gives Sub
agrees-call q A s can r x a =
    let vs = (goal_at q s.lookup).vars in
    let w = writes r vs x in
    ap (must_give (rule_of q s)) (sym (agrees-reads (known q A) vs r x a))
    ∙ must_reads (rule_of q s) w vs
    ∙ reads_of w r (gives q s) (λ v i. agrees-known (known q A) vs r x a v (gives-known q A s can v i))

-- ---- a right delivery

module _ (q : Request) (A : List ℕ) (s : Pick) (came : List ℕ) (d : RightDelivery q A s came) where
  -- the look-up's variables
  abbrev vs : List ℕ
  vs = (goal_at q s.lookup).vars

  module _ (fits : Fits (goal_at q s.lookup)) where
    -- its rows have a word for each column
    right_wide : Wide (length vs) d.rows
    unfolding Wide
    right_wide x i = fits.wide x ((d.exactly x).0 i).0

    -- it is whole rows
    pub right_whole : is_whole (length vs) (length came) ≡ true
    right_whole = whole-rows (length vs) d.rows came fits.columns right_wide d.words d.few

    -- these
    pub right_rows : delivered_rows (length vs) came ≡ d.rows
    right_rows = rows_delivered (length vs) d.rows came fits.columns right_wide d.words

  -- each was asked for
  pub right_asked : all_asked q s (listed q A) d.rows ≡ true
  unfolding all_asked is_sent gives
  right_asked =
      every_of (is_sent (rule_of q s) vs (listed q A)) d.rows (λ x i. in_has eq_row eq_row_faithful _ _ ((d.exactly x).0 i).1)

  -- the different rows are the rows sent
  pub right_sent : different eq_row d.rows ≡ sent q A s
  unfolding sent_of Sub
  right_sent =
      different-same eq_row eq_row_faithful d.rows _
      (λ x i. (delivered_is q A s x).1 ((d.exactly x).0 i))
      (λ x i. (d.exactly x).1 ((delivered_is q A s x).0 i))
      ∙ sent-said q A s

  -- joined with the list they give the next one
  pub right_joined : Sound q → usable q A s ≡ true
      → join (known q A) vs (matching (never_zero_in q) vs d.rows) (listed q A) ≡ listed q (s.lookup ∷ A)
  unfolding matching Sub
  right_joined sound can =
      let test = matches (never_zero_in q) vs in
      let stored = (goal_at q s.lookup).stored in
      join-agrees (known q A) vs (listed q A) (those test d.rows) (those test stored)
      (λ x i. let (j, t) = in_those test d.rows x i in those_in test stored x ((d.exactly x).0 j).0 t)
      (λ r x i j a.
      let (k, t) = in_those test stored x j in
      let asked = in_equal _ (sym (agrees-call q A s can r x a)) (map_in (λ (r : Row). reads r (gives q s)) (listed q A) r i) in
      those_in test d.rows x ((d.exactly x).1 (k, asked)) t)
      ∙ ap (λ xs. join (known q A) vs xs (listed q A)) (sym (sound.rows s.lookup))
      ∙ sym (listed_more q s.lookup A)
