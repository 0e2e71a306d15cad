-- Laws of numbers that a loop goes through, and of the items that its turns put.
use mathlib.Core.Path.{◌≡◌, sym, ◌∙◌, ap, subst}
use mathlib.Core.List.{List, [], ◌∷◌, ◌++◌, map}
use Prim.Native.Nat.{ℕ, ◌+◌, ◌-◌, ◌≤◌, ◌<◌}
use native.Mathlib.Omega.{arith}
use lib.ListN.{length, get_or, take, length-map}
use lib.Seq.{take_all, length-take-le, get_or-take}
use lib.Dec.{ltb}
use borrow.Author.Tests.{ltb-true, ltb-false}
use Rattle.plan.proofs.Lists.{by_test}
use Rattle.plan.proofs.Numbers.{numbers_from}
use Rattle.plan.proofs.Padded.{map_at}
use Rattle.plan.proofs.Told.{told-list}
use Rattle.plan.specs.Lists.{numbers}
use Rattle.plan.specs.Request.{reads}
use Rattle.plan.specs.Write.{Item, written}
use Rattle.plan.specs.declared.Refused.{Refused}
use Rattle.sheet.specs.declared.Register.{Register}
use Rattle.sheet.specs.Fields.{register_beyond}
use Rattle.write.specs.declared.bits.Writer.{Writer}
use Rattle.write.specs.Puts.{most_bits, Open, Goes, Stops, Narrow}
use Rattle.write.proofs.PutsLaws.{Come, come_none, come_open, come_as, come_on, come_stop, come_end}

-- the first entries, number by number
pub reads_first : (xs : List ℕ) (n : ℕ) → n ≤ length xs → reads xs (numbers 0 n) ≡ take n xs
unfolding reads
reads_first xs n h =
    told-list (λ k. get_or xs k 0) n (take n xs) 0 (length-take-le n xs h) (λ i b. sym (get_or-take n xs i 0 b))

-- and all
pub reads_all : (xs : List ℕ) → reads xs (numbers 0 (length xs)) ≡ xs
reads_all xs = reads_first xs (length xs) (omega arith) ∙ take_all (length xs) xs (omega arith)

-- what is told of the first entries, number by number
pub told_first : {A : Type 0} (f : ℕ → A) (xs : List ℕ) (n : ℕ) → n ≤ length xs
    → map (λ k. f (get_or xs k 0)) (numbers 0 n) ≡ map f (take n xs)
told_first f xs n h =
    let long = length-take-le n xs h in
    told-list (λ k. f (get_or xs k 0)) n (map f (take n xs)) (f 0) (length-map (take n xs) f ∙ long)
    (λ i b. sym (map_at f (take n xs) i (f 0) 0 (omega (arith, long)) ∙ ap f (get_or-take n xs i 0 b)))

-- and of all
pub told_all : {A : Type 0} (f : ℕ → A) (xs : List ℕ) → map (λ k. f (get_or xs k 0)) (numbers 0 (length xs)) ≡ map f xs
told_all f xs = told_first f xs (length xs) (omega arith) ∙ ap (map f) (take_all (length xs) xs (omega arith))

-- at the end of the numbers none is left
none_left : (k n : ℕ) → n ≤ k → numbers k (n - k) ≡ []
unfolding numbers
none_left k n h = let e : n - k ≡ 0 = omega arith in ap (numbers k) e

-- the items of the first i of n numbers are put
pub record Turned (items : List ℕ → List Item) (n : ℕ) (before : Writer) (i : ℕ) (now : Writer) : Type 0 where
  pub come : Come (written (items (numbers 0 n)) before.at) (written (items (numbers i (n - i))) now.at) before now

-- at the start none is
pub turned_none : (items : List ℕ → List Item) (n : ℕ) (before : Writer) → Turned items n before 0 before
turned_none items n before =
    let e : n ≡ n - 0 = omega arith in
    record { come = come_as (ap (λ (k : ℕ). written (items (numbers 0 k)) before.at) e) (come_none _ before) }

module _ {items : List ℕ → List Item} {n : ℕ} {before : Writer} {i : ℕ} {now : Writer} (t : Turned items n before i now) where
  -- there is room for more
  pub turned_open : (most some : ℕ) → Open most before → now.at + some ≤ most_bits → Open some now
  turned_open most some o r = come_open most some o t.come r

  module _ (h : i < n) where
    -- the rest begins with what number i has
    front : (one : List Item) → ((ks : List ℕ) → items (i ∷ ks) ≡ one ++ items ks)
        → Come (written (items (numbers 0 n)) before.at) (written (one ++ items (numbers (i + 1) (n - (i + 1)))) now.at) before now
    front one next =
        come_as
        (ap (λ (is : List Item). written is now.at) (ap items (numbers_from i n h) ∙ next (numbers (i + 1) (n - (i + 1)))))
        t.come

    -- one number more
    pub turned_on : (one : List Item) → ((ks : List ℕ) → items (i ∷ ks) ≡ one ++ items ks) → {after : Writer}
        → Goes (written one now.at) now after → Turned items n before (i + 1) after
    turned_on one next p = record { come = come_on one _ (front one next) p }

    -- one that has no item
    pub turned_past : ((ks : List ℕ) → items (i ∷ ks) ≡ items ks) → Turned items n before (i + 1) now
    turned_past next = record { come = front [] next }

    -- one that is refused
    pub turned_stop : (one : List Item) → ((ks : List ℕ) → items (i ∷ ks) ≡ one ++ items ks) → {told : Refused}
        → Stops (written one now.at) told → Stops (written (items (numbers 0 n)) before.at) told
    turned_stop one next p = come_stop one _ (front one next) p

  -- at the end all are put
  pub turned_all : items [] ≡ [] → n ≤ i → Goes (written (items (numbers 0 n)) before.at) before now
  turned_all e h =
      come_end now.at (come_as (ap (λ (is : List Item). written is now.at) (ap items (none_left i n h) ∙ e)) t.come)

-- one entry more with at most 6 columns
pub narrow-more : (i : ℕ) (register : List Register) → Narrow i register → (get_or register i register_beyond).columns ≤ 6
    → Narrow (i + 1) register
narrow-more i register n h j l =
    by_test (ltb j i) (λ t. n j (ltb-true j i t))
    (λ f. let b : i ≤ j = ltb-false j i f in let e : i ≡ j = omega arith in
    subst (λ k. (get_or register k register_beyond).columns ≤ 6) e h)
