-- Laws of what is printed for the two files: what the library gives is what is found, an answer is small, and the rows
-- that are printed stand in the first table.
use mathlib.Core.Path.{◌≡◌, refl, sym, ap, subst, ◌∙◌}
use mathlib.Core.Bool.{true, false}
use mathlib.Core.List.{List, [], ◌++◌, map}
use mathlib.Core.Option.{Option, none, some}
use Prim.Native.Nat.{ℕ, ◌+◌, ◌*◌, ◌%◌, ◌≤◌, ◌<◌}
use native.Mathlib.Omega.{arith}
use lib.ListN.{length, get_or, length-map}
use lib.Seq.{take-length, length-take-le}
use lib.Dec.{eqb}
use borrow.Author.Tests.{eq-eqb, ne_eqb, le-leb}
use Rattle.std.specs.Prelude.{Result, Ok, Err, MatchResult}
use Rattle.plan.specs.Request.{Row, row_words}
use Rattle.plan.specs.Reader.{fault_number, Read, got, bad}
use Rattle.plan.specs.Sheet.{Sheet, columns_of, read_sheet}
use Rattle.plan.specs.RowData.{Part, parts, part_rows, never_zero_on, goal_of, request_of}
use Rattle.plan.specs.Route.{Pick}
use Rattle.plan.specs.Answer.{Outcome, no_route, too_many, answered, list_after}
use Rattle.plan.specs.Answer.{Found, short_table, bad_price, bad_sheet, bad_data, came, found_said, found_read, is_priced, found_priced, found}
use Rattle.plan.specs.Answer.{answered_by, refusal, Whole, whole_of, full, whole}
use Rattle.plan.specs.Demands.{RouteOf, size}
use Rattle.plan.specs.declared.Refused.{Refused}
use Rattle.plan.specs.Answer.{Answer}
use Rattle.plan.proofs.Lists.{by_test, and_of}
use Rattle.plan.proofs.Table.{holding_word}
use Rattle.plan.proofs.Outcomes.{Comes, without, over, within, comes}
use Rattle.plan.proofs.Demands.{request-sound, said-bad, said-came, whole_of_lem}
use Rattle.sheet.specs.Fine.{Fine}
use Rattle.sheet.specs.Fields.{sheet_read}
use Rattle.sheet.specs.declared.Fields.{Fields}
use Rattle.sheet.specs.declared.Got.{Got}
use Rattle.sheet.proofs.Fine.{read-fine}
use Rattle.sheet.proofs.Shown.{fields_variables, sheet-got, sheet-refused}
use Rattle.data.proofs.PartsLaws.{parts-long}
use Rattle.ebbcandle.specs.Moving.{IsPrefixLen}
use Rattle.ebbcandle.specs.Words.{words_of}
use Rattle.lay.specs.Put.{joined}
use Rattle.lay.proofs.PutLaws.{joined_same}
use Rattle.ebbcandle.specs.Lines.{spaced, newline, step_lines, calls_line, row_line, refused_line, printed}
use Rattle.ebbcandle.specs.Ascii.{ascii}
use Rattle.ebbcandle.specs.Files.{found_files, variables_of, printed_files}

-- no more bytes than the buffer has are a count of those at its start
pub counts_of : (n : ℕ) (xs : List ℕ) → n ≤ length xs → IsPrefixLen n xs
counts_of n xs h = (h, sym (length-take-le n xs h))

-- ---- what the library gives is what is found

module _ (bytes words : List ℕ) where
  -- bytes are left over, and the library is lent more words than row data may have
  found_left_over : (r : Read Sheet) → (length bytes % 4 ≡ 0 → ⊥) → 16384 < length words
      → found_read full r words ≡ found_files r bytes
  unfolding found_read found_files
  found_left_over (bad fault detail) n h = refl
  found_left_over (got s end) n h =
      said-bad full s words (parts-long (columns_of s.registers) words h)
      ∙ rw (ne_eqb (length bytes % 4) 0 n, found_files)

  -- no bytes are left over
  found-words : (r : Read Sheet) → length bytes % 4 ≡ 0 → words ≡ words_of bytes
      → found_read full r words ≡ found_files r bytes
  unfolding found_read found_files
  found-words (bad fault detail) n e = refl
  found-words (got s end) n e = ap (found_said full s) e ∙ rw (eq-eqb (length bytes % 4) 0 n, found_files)

  -- with tables long enough, the library gives what is found
  module _ (sheet first second : List ℕ) (h : 8192 ≤ length first) (k : 8192 ≤ length second) where
    whole-found : found_read full (read_sheet sheet) words ≡ found_files (read_sheet sheet) bytes
        → whole sheet words first second ≡ whole_of full (found_files (read_sheet sheet) bytes) first second
    unfolding whole found found_priced is_priced full
    whole-found e =
        whole_of_lem full sheet words first second (found_files (read_sheet sheet) bytes)
        (rw (and_of (le-leb 8192 (length first) h) (le-leb 8192 (length second) k), found) e)

    pub whole_left_over : (length bytes % 4 ≡ 0 → ⊥) → 16385 ≡ length words
        → whole sheet words first second ≡ whole_of full (found_files (read_sheet sheet) bytes) first second
    whole_left_over n l = whole-found (found_left_over (read_sheet sheet) n (omega arith))

    pub whole_words : length bytes % 4 ≡ 0 → words ≡ words_of bytes
        → whole sheet words first second ≡ whole_of full (found_files (read_sheet sheet) bytes) first second
    whole_words n e = whole-found (found-words (read_sheet sheet) n e)

-- ---- an answer is small

-- at most 12 steps and 512 rows
pub record Few (a : Answer) : Type 0 where
  pub made : a.made ≤ 12
  pub rows : a.rows ≤ 512

few-refusal : (number detail : ℕ) → Few (refusal number detail)
unfolding refusal
few-refusal number detail = record { made = omega arith; rows = omega arith }

module _ (first second : List ℕ) where
  -- the answer to what is found
  abbrev back : Found → Answer
  back f = (whole_of full f first second).answer

  few-outcome : (s : Sheet) (rows : List (List Row)) → Fine s → (o : Outcome) → Comes full (request_of s rows) o
      → Few (back (came (request_of s rows) o))
  unfolding whole_of full answered_by RouteOf size request_of
  few-outcome s rows f o (without n) = few-refusal 4 _
  few-outcome s rows f o (over p r k a) = few-refusal 5 k
  few-outcome s rows f o (within p r few) =
      let q = request_of s rows in
      let places : length p ≡ size q = r.is_route.whole.places in
      let goals : size q ≡ length s.look_ups = length-map s.look_ups (goal_of (never_zero_on s) s.registers rows) in
      let one : 1 ≤ length p = omega (arith, f.look_ups-low) in
      record {
        made = omega (arith, f.look_ups-high);
        rows = subst (λ (x : List Pick). length (list_after q x) ≤ 512) (take-length p) (few (length p) one (omega arith));
      }

  few-said : (s : Sheet) → Fine s → (words : List ℕ) (o : Option (List Part))
      → parts (columns_of s.registers) words ≡ o → Few (back (found_said full s words))
  unfolding whole_of
  few-said s f words none e = subst (λ (x : Found). Few (back x)) (sym (said-bad full s words e)) (few-refusal 3 0)
  few-said s f words (some ps) e =
      let rows = map (part_rows words) ps in
      subst (λ (x : Found). Few (back x)) (sym (said-came full s words ps e))
      (few-outcome s rows f _ (comes full (request_of s rows) (request-sound s rows)))

  few-found : (sheet bytes : List ℕ) (r : Read Sheet) → read_sheet sheet ≡ r → Few (back (found_files r bytes))
  unfolding found_files whole_of
  few-found sheet bytes (bad fault detail) e = few-refusal (fault_number fault) detail
  few-found sheet bytes (got s end) e =
      by_test
      (eqb (length bytes % 4) 0)
      (λ t. rw (t, found_files) (few-said s (read-fine sheet s end e) (words_of bytes) _ refl))
      (λ f. rw (f, found_files) (few-refusal 3 0))

  -- and so is the answer that comes back
  pub few-back : (sheet bytes : List ℕ) (w : Whole) → w ≡ whole_of full (found_files (read_sheet sheet) bytes) first second
      → Few w.answer
  few-back sheet bytes w e =
      subst (λ (x : Whole). Few x.answer) (sym e) (few-found sheet bytes (read_sheet sheet) refl)

-- the number of variables, as the code has it
pub variables-read : (sheet : List ℕ) (r : Result (Got Fields) Refused) (n : ℕ) → r ≡ sheet_read (read_sheet sheet)
    → MatchResult r (λ g. n ≡ g.value.variables) (λ x. n ≡ 0) → n ≡ variables_of (read_sheet sheet)
unfolding variables_of
variables-read sheet (Ok g) n e m =
    let (s, is, same, fine) = sheet-got sheet g e in
    m ∙ ap (λ (f : Fields). f.variables) same ∙ fields_variables s ∙ sym (ap variables_of is)
variables-read sheet (Err x) n e m = let (fault, is, same) = sheet-refused sheet x e in m ∙ sym (ap variables_of is)

-- and it is at most 16
pub variables-few : (sheet : List ℕ) → variables_of (read_sheet sheet) ≤ 16
unfolding variables_of
variables-few sheet = go (read_sheet sheet) refl
  where
    go : (r : Read Sheet) → read_sheet sheet ≡ r → variables_of r ≤ 16
    go (got s end) e = (read-fine sheet s end e).variables-high
    go (bad fault detail) e = omega arith

-- ---- the rows that are printed stand in the first table

-- the line of a row, by two tables that agree
row_same : (t u : List ℕ) (variables i : ℕ) → variables ≤ 16 → i < 512
    → ((k : ℕ) → k < 8192 → get_or t k 0 ≡ get_or u k 0)
    → row_line t variables i ≡ row_line u variables i
unfolding row_line
row_same t u variables i v l e =
    ap (λ (x : List ℕ). ascii "row" ++ x ++ newline)
    (joined_same
    (λ j. spaced (get_or t (i * row_words + j) 0))
    (λ j. spaced (get_or u (i * row_words + j) 0))
    variables
    (λ j h. ap spaced (e (i * row_words + j) (omega arith))))

-- the lines of an answer, by two tables that agree
answered-same : (a : Answer) (t u : List ℕ) (variables : ℕ) → variables ≤ 16 → a.rows ≤ 512
    → ((k : ℕ) → k < 8192 → get_or t k 0 ≡ get_or u k 0)
    → printed a t variables ≡ printed a u variables
unfolding printed
answered-same a t u variables v r e =
    ap (λ (l : List ℕ). elim (eqb a.number 0) [
      | true ↦ step_lines a ++ calls_line a.calls ++ l
      | false ↦ refused_line a.number a.detail
    ])
    (joined_same
    (row_line t variables)
    (row_line u variables)
    a.rows
    (λ i h. row_same t u variables i v (omega arith) e))

-- what is printed for all that comes back
abbrev pub shown : ℕ → Whole → List ℕ
shown variables w = printed w.answer w.first variables

-- whatever stood in the tables, the same is printed for what is found
printed-found : (f : Found) (first second : List ℕ) (variables : ℕ) → variables ≤ 16
    → Few (whole_of full f first second).answer
    → shown variables (whole_of full f first second) ≡ shown variables (whole_of full f [] [])
unfolding whole_of full printed refusal joined
printed-found short_table first second variables v few = refl
printed-found bad_price first second variables v few = refl
printed-found (bad_sheet fault detail) first second variables v few = refl
printed-found bad_data first second variables v few = refl
printed-found (came q (no_route bits)) first second variables v few = refl
printed-found (came q (too_many step)) first second variables v few = refl
printed-found (came q (answered p)) first second variables v few =
    let rows = list_after q p in
    answered-same (answered_by full q p) _ _ variables v few.rows
    (λ k l. holding_word 8192 rows first k l ∙ sym (holding_word 8192 rows [] k l))

-- all that is printed, from the answer, the first table and the number of variables
pub printed_files_lem : (sheet bytes first second : List ℕ) (w : Whole) (n : ℕ)
    → w ≡ whole_of full (found_files (read_sheet sheet) bytes) first second → n ≡ variables_of (read_sheet sheet)
    → printed w.answer w.first n ≡ printed_files sheet bytes
unfolding printed_files
printed_files_lem sheet bytes first second w n e d =
    let f = found_files (read_sheet sheet) bytes in
    ap (shown n) e ∙ ap (λ v. shown v (whole_of full f first second)) d
    ∙ printed-found f first second (variables_of (read_sheet sheet)) (variables-few sheet)
    (few-found first second sheet bytes (read_sheet sheet) refl)
