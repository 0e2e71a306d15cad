-- The pattern of the reading loops: i readings gave these values, of which something holds (that they stand in the
-- arrays), and the reader stands behind them. By one value more at the end.
use mathlib.Core.Path.{◌≡◌, refl, sym, ◌∙◌, ap}
use mathlib.Core.List.{List, [], ◌∷◌, ◌++◌}
use Prim.Native.Nat.{ℕ, ◌+◌, ◌<◌}
use lib.ListN.{length}
use Rattle.plan.specs.Reader.{got, Reader, each}
use Rattle.plan.proofs.Readers.{each_none, each_more, each-got}
use Rattle.plan.specs.declared.Refused.{Refused}
use Rattle.sheet.specs.declared.bits.Reader as Stand
use Rattle.sheet.specs.Reads.{Stops, Goes}
use Rattle.sheet.proofs.Readers.{stops-each}

-- i readings gave values of which `shows` holds, and the reader stands behind them
pub record Reading {A : Type 0} (r : Reader A) (before : Stand.Reader) (i : ℕ) (now : Stand.Reader) (shows : List A → Type 0)
    : Type 0 where
  pub values : List A
  pub is : each i r before.sheet.now before.at ≡ got values now.at
  pub sheet : now.sheet ≡ before.sheet
  pub shown : shows values

-- as many values as readings
pub each-length : {A : Type 0} (r : Reader A) (bytes : List ℕ) (at n : ℕ) (xs : List A) (p : ℕ) → each n r bytes at ≡ got xs p
    → length xs ≡ n
each-length r bytes at n xs p e = (each-got r bytes at (λ x. Unit {0}) (λ m a q h. tt) n xs p e).0

module _ {A : Type 0} (r : Reader A) (before : Stand.Reader) where
  -- before the first
  pub reading_none : (shows : List A → Type 0) → shows [] → Reading r before 0 before shows
  reading_none shows h =
      record { values = []; is = each_none r before.sheet.now before.at; sheet = refl; shown = h }

  -- one more
  pub reading-more : {T : Type 0} (show : A → T) (i : ℕ) (now after : Stand.Reader) (shows shows' : List A → Type 0) (value : T)
      → Reading r before i now shows → (g : Goes show r now value after)
      → ((xs : List A) → length xs ≡ i → shows xs → shows' (xs ++ (g.read ∷ []))) → Reading r before (i + 1) after shows'
  reading-more show i now after shows shows' value s g step =
      record {
        values = s.values ++ (g.read ∷ []);
        is = each_more r before.sheet.now before.at i s.values now.at g.read after.at s.is
            (ap (λ t. r t.now now.at) (sym s.sheet) ∙ g.is);
        sheet = g.sheet ∙ s.sheet;
        shown = step s.values (each-length r before.sheet.now before.at i s.values now.at s.is) s.shown;
      }

  -- a fault in the next
  pub reading-stops : (i n : ℕ) (now : Stand.Reader) (shows : List A → Type 0) {e : Refused} → i < n
      → Reading r before i now shows → Stops (r now.sheet.now now.at) e → Stops (each n r before.sheet.now before.at) e
  reading-stops i n now shows h s t =
      stops-each r before.sheet.now before.at i n h s.is (rw (sym (ap (λ u. r u.now now.at) s.sheet)) t)

  -- all of them, where the values are shown so
  pub reading-all : {T : Type 0} (show : List A → T) (i n : ℕ) (now : Stand.Reader) (v : T) → i ≡ n
      → Reading r before i now (λ xs. v ≡ show xs) → Goes show (each n r) before v now
  reading-all show i n now v e s =
      record {
        read = s.values;
        is = ap (λ k. each k r before.sheet.now before.at) (sym e) ∙ s.is;
        shown = s.shown;
        sheet = s.sheet;
      }
