-- Laws of tables that hold rows, whatever their widths: the words beyond stay, so what is held twice is held once.
use mathlib.Core.Path.{◌≡◌, ◌∙◌, ap}
use mathlib.Core.List.{List, [], ◌++◌, append_assoc}
use Prim.Native.Nat.{ℕ, ◌-◌, ◌≤◌}
use native.Mathlib.Omega.{arith}
use lib.ListN.{length, drop, replicate, length-append, length-replicate}
use lib.Seq.{drop_at}
use Rattle.plan.specs.Lists.{padded}
use Rattle.plan.specs.Request.{Row, rows_by, flat, holding}
use Rattle.plan.proofs.Padded.{length-padded}
use Rattle.plan.proofs.Table.{Wide, rows-flat}

module _ (size : ℕ) (rows : List Row) (t : List ℕ) where
  -- the words beyond stay
  pub held-beyond : length (flat rows) ≤ size → drop size (holding size rows t) ≡ drop size t
  unfolding holding
  held-beyond h = drop_at (padded size 0 (flat rows)) (drop size t) size (length-padded size 0 (flat rows) h)

  -- the table is long enough for them
  pub held-long : size ≤ length (holding size rows t)
  unfolding holding padded
  held-long =
      let xs = flat rows in
      let zeros = replicate {A = ℕ} (size - length xs) 0 in
      omega (
        arith,
        length-append (xs ++ zeros) (drop size t),
        length-append xs zeros,
        length-replicate {A = ℕ} (size - length xs) 0,
      )

  -- rows of 16 words are read back from it
  pub held_rows : Wide 16 rows → rows_by 16 (length rows) (holding size rows t) ≡ rows
  unfolding holding padded
  held_rows w =
      let zeros = replicate {A = ℕ} (size - length (flat rows)) 0 in
      ap (rows_by 16 (length rows)) (append_assoc (flat rows) zeros (drop size t)) ∙ rows-flat 16 rows (zeros ++ drop size t) w

-- only the words beyond are taken from the table before
pub held-over : (size : ℕ) (rows old : List Row) (t : List ℕ) → length (flat old) ≤ size
    → holding size rows (holding size old t) ≡ holding size rows t
unfolding holding
held-over size rows old t h = ap (λ u. padded size 0 (flat rows) ++ u) (held-beyond size old t h)

-- no rows have no words
pub none_fits : {size : ℕ} → length (flat []) ≤ size
unfolding flat
none_fits = omega arith
