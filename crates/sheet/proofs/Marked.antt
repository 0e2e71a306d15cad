-- Laws of the given variables: the marks of the first variables, and the values read for those that are marked. By one
-- variable more.
use mathlib.Core.Path.{◌≡◌, refl, sym, ◌∙◌, ap, ap₂}
use mathlib.Core.Bool.{Bool, true, false}
use mathlib.Core.List.{List, [], ◌∷◌, ◌++◌}
use Prim.Native.Nat.{ℕ, zero, suc, ◌+◌, ◌-◌, ◌*◌, ◌%◌, ◌^◌, ◌≤◌, ◌<◌}
use native.Mathlib.Omega.{arith}
use native.Mathlib.Numerals.{add-one}
use lib.ListN.{length, set, replicate, length-append}
use lib.Dec.{eqb}
use lib.Bits.{bit_or}
use borrow.Author.Tests.{eq-eqb, ne_eqb}
use Rattle.plan.specs.Lists.{set_of}
use Rattle.plan.specs.Request.{writes}
use Rattle.plan.specs.Reader.{bit_at, marks_at, give, each}
use Rattle.plan.specs.Sheet.{marked, value}
use Rattle.plan.proofs.Lists.{by_test}
use Rattle.plan.proofs.Sets.{set-nil, set-put}
use Rattle.sheet.specs.Stages.{given_at}
use Rattle.sheet.specs.Parts.{first_row_of}
use Rattle.plan.specs.declared.Refused.{Refused}
use Rattle.sheet.specs.declared.bits.Reader as Stand
use Rattle.plan.proofs.Readers.{marks-length, bind_go}
use Rattle.sheet.specs.Reads.{Stops, Goes}
use Rattle.sheet.proofs.Readers.{stops_first}
use Rattle.sheet.proofs.Arrays.{Reading, reading_none, reading-more, reading-stops}

-- one mark more
marks-more : (bytes : List ℕ) (at w : ℕ)
    → marks_at bytes at (suc w) ≡ marks_at bytes at w ++ (eqb (bit_at bytes (at + w)) 1 ∷ [])
unfolding marks_at
marks-more bytes at zero = let e : at ≡ at + 0 = omega arith in ap (λ k. eqb (bit_at bytes k) 1 ∷ []) e
marks-more bytes at (suc w) =
    let e : suc at + w ≡ at + suc w = omega arith in
    ap (λ t. eqb (bit_at bytes at) 1 ∷ t)
    (marks-more bytes (suc at) w ∙ ap (λ k. marks_at bytes (suc at) w ++ (eqb (bit_at bytes k) 1 ∷ [])) e)

-- the place of one mark more
marked_on : (i : ℕ) (bs : List Bool) → marked i (bs ++ (true ∷ [])) ≡ marked i bs ++ ((i + length bs) ∷ [])
unfolding marked
marked_on i [] = let e : i ≡ i + 0 = omega arith in ap (λ k. k ∷ []) e
marked_on i (true ∷ bs) =
    let e : suc i + length bs ≡ i + suc (length bs) = omega arith in
    ap (λ t. i ∷ t) (marked_on (suc i) bs ∙ ap (λ k. marked (suc i) bs ++ (k ∷ [])) e)
marked_on i (false ∷ bs) =
    let e : suc i + length bs ≡ i + suc (length bs) = omega arith in
    marked_on (suc i) bs ∙ ap (λ k. marked (suc i) bs ++ (k ∷ [])) e

-- a mark that is not set has no place
marked_off : (i : ℕ) (bs : List Bool) → marked i (bs ++ (false ∷ [])) ≡ marked i bs
unfolding marked
marked_off i [] = refl
marked_off i (true ∷ bs) = ap (λ t. i ∷ t) (marked_off (suc i) bs)
marked_off i (false ∷ bs) = marked_off (suc i) bs

-- the row with one value more
pub writes_more : (row vs xs : List ℕ) (v x : ℕ) → length vs ≡ length xs
    → writes row (vs ++ (v ∷ [])) (xs ++ (x ∷ [])) ≡ set (writes row vs xs) v x
unfolding writes
writes_more row [] [] v x e = refl
writes_more row [] (y ∷ xs) v x e = absurd (omega arith)
writes_more row (u ∷ vs) [] v x e = absurd (omega arith)
writes_more row (u ∷ vs) (y ∷ xs) v x e = writes_more (set row u y) vs xs v x (omega arith)

-- those of the first n variables that are given
unfoldable pub given_of : List ℕ → ℕ → ℕ → List ℕ
given_of bytes at n = marked 0 (marks_at bytes at n)

module _ (bytes : List ℕ) (at n : ℕ) where
  -- variable n is given
  given_on : bit_at bytes (at + n) ≡ 1 → given_of bytes at (suc n) ≡ given_of bytes at n ++ (n ∷ [])
  unfolding given_of
  given_on h =
      let e : 0 + length (marks_at bytes at n) ≡ n = omega (arith, marks-length bytes at n) in
      ap (marked 0) (marks-more bytes at n
      ∙ ap (λ b. marks_at bytes at n ++ (b ∷ [])) (eq-eqb (bit_at bytes (at + n)) 1 h))
      ∙ marked_on 0 (marks_at bytes at n) ∙ ap (λ k. marked 0 (marks_at bytes at n) ++ (k ∷ [])) e

  -- variable n is not given
  given_off : (bit_at bytes (at + n) ≡ 1 → ⊥) → given_of bytes at (suc n) ≡ given_of bytes at n
  unfolding given_of
  given_off h =
      ap (marked 0) (marks-more bytes at n
      ∙ ap (λ b. marks_at bytes at n ++ (b ∷ [])) (ne_eqb (bit_at bytes (at + n)) 1 h))
      ∙ marked_off 0 (marks_at bytes at n)

  -- one variable more, and no fewer given ones
  given_grows : length (given_of bytes at n) ≤ length (given_of bytes at (suc n))
  given_grows =
      by_test (eqb (bit_at bytes (at + n)) 1)
      (λ t. omega (
        arith,
        ap length (given_on (borrow.Author.Tests.eqb-true (bit_at bytes (at + n)) 1 t)),
        length-append (given_of bytes at n) (n ∷ []),
      ))
      (λ f. omega (arith, ap length (given_off (borrow.Author.Tests.eqb-false (bit_at bytes (at + n)) 1 f))))

-- no fewer variables are given among more
given_mono : (bytes : List ℕ) (at n k : ℕ) → length (given_of bytes at n) ≤ length (given_of bytes at (k + n))
given_mono bytes at n zero = let e : 0 + n ≡ n = omega arith in rw e (omega arith)
given_mono bytes at n (suc k) =
    let e : suc k + n ≡ suc (k + n) = omega arith in
    rw e (omega (arith, given_mono bytes at n k, given_grows bytes at (k + n)))

-- the values of these variables were read from a place on: their set and their row
pub record Valued (before : Stand.Reader) (vs : List ℕ) (m : ℕ) (now : Stand.Reader) (start : List ℕ) : Type 0 where
  pub reading : Reading value before (length vs) now (λ xs. start ≡ writes (replicate 16 0) vs xs)
  pub set_is : m ≡ set_of vs

-- one variable more, and its value
valued_put : (before : Stand.Reader) (vs : List ℕ) (m : ℕ) (now : Stand.Reader) (start : List ℕ) (v x : ℕ) (after : Stand.Reader)
    → Valued before vs m now start → v < 16 → Goes (λ n. n) value now x after
    → Valued before (vs ++ (v ∷ [])) (bit_or m ((1 * 2 ^ v) % 2 ^ 16)) after (set start v x)
valued_put before vs m now start v x after s low g =
    record {
      reading = rw (length-append vs (v ∷ []))
          (reading-more value before (λ n. n) (length vs) now after _ _ x s.reading g
          (λ xs l w. ap₂ (λ t y. set t v y) w g.shown ∙ sym (writes_more (replicate 16 0) vs xs v g.read (sym l))));
      set_is = set-put vs v m low s.set_is;
    }

module _ (before : Stand.Reader) (from : ℕ) where
  -- before the first
  pub valued_none : Valued before (given_of before.sheet.now from 0) 0 before (replicate 16 0)
  unfolding given_of marks_at marked writes
  valued_none = record { reading = reading_none value before _ refl; set_is = sym set-nil }

  module _ (n m : ℕ) (now : Stand.Reader) (start : List ℕ)
      (s : Valued before (given_of before.sheet.now from n) m now start) where
    -- a variable that is not given
    pub valued_skip : (bit_at before.sheet.now (from + n) ≡ 1 → ⊥)
        → Valued before (given_of before.sheet.now from (n + 1)) m now start
    valued_skip h = rw (add-one n, given_off before.sheet.now from n h) s

    -- a variable that is given, and its value
    pub valued_more : (x : ℕ) (after : Stand.Reader) → bit_at before.sheet.now (from + n) ≡ 1 → n < 16
        → Goes (λ n. n) value now x after
        → Valued before (given_of before.sheet.now from (n + 1)) (bit_or m ((1 * 2 ^ n) % 2 ^ 16)) after (set start n x)
    valued_more x after h low g =
        let k : given_of before.sheet.now from (n + 1) ≡ given_of before.sheet.now from n ++ (n ∷ [])
        = ap (given_of before.sheet.now from) (add-one n) ∙ given_on before.sheet.now from n h in
        rw k (valued_put before (given_of before.sheet.now from n) m now start n x after s low g)

    -- a fault in reading the value
    pub valued_stops : (variables : ℕ) {e : Refused} → bit_at before.sheet.now (from + n) ≡ 1 → n < variables
        → Stops (value now.sheet.now now.at) e
        → Stops (given_at (marks_at before.sheet.now from variables) before.sheet.now before.at) e
    unfolding given_at given_of
    valued_stops variables h low t =
        let bytes = before.sheet.now in
        let e : variables - suc n + suc n ≡ variables = omega arith in
        let k = rw e at (given_mono bytes from (suc n) (variables - suc n)) in
        let j = ap length (given_on bytes from n h) ∙ length-append (given_of bytes from n) (n ∷ []) in
        stops_first (each (length (given_of bytes from variables)) value) _ bytes before.at
        (reading-stops value before (length (given_of bytes from n)) (length (given_of bytes from variables)) now _
        (omega (arith, k, j)) s.reading t)

  -- all values
  pub valued_read : (variables m : ℕ) (now : Stand.Reader) (start : List ℕ)
      → Valued before (given_of before.sheet.now from variables) m now start
      → Goes first_row_of (given_at (marks_at before.sheet.now from variables)) before (record { given = m; start = start }) now
  unfolding given_at give given_of first_row_of
  valued_read variables m now start s =
      let r = s.reading in
      record {
        read = record { given = given_of before.sheet.now from variables; values = r.values };
        is = bind_go (each (length (given_of before.sheet.now from variables)) value) _ before.sheet.now before.at r.values
            now.at r.is;
        shown = rw (s.set_is, r.shown);
        sheet = r.sheet;
      }
