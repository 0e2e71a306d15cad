-- Bytes past those that the program reads change nothing: a sheet is read by fewer bits than these bytes have, and more
-- words than row data may have are refused, cut or not.
use mathlib.Core.Path.{◌≡◌, refl, sym, ap, ◌∙◌}
use mathlib.Core.List.{List, []}
use Prim.Native.Nat.{ℕ, ◌*◌, ◌/◌, ◌%◌, ◌<◌}
use native.Mathlib.Omega.{arith}
use lib.ListN.{length, take, length-map}
use lib.Seq.{take_all, length-take-le}
use lib.Dec.{eqb, leb}
use borrow.Author.Tests.{eqb-true, leb-true, leb-false}
use Rattle.plan.specs.Reader.{Read, got, bad}
use Rattle.plan.specs.Sheet.{Sheet, columns_of, read_sheet}
use Rattle.plan.specs.Request.{rows_by}
use Rattle.plan.specs.Answer.{Found, bad_data, whole_of, full}
use Rattle.plan.proofs.Lists.{by_test}
use Rattle.plan.proofs.Table.{length-rows}
use Rattle.plan.proofs.First.{cut-read}
use Rattle.plan.proofs.Demands.{said-bad}
use Rattle.data.proofs.PartsLaws.{parts-long}
use Rattle.ebbcandle.specs.Words.{word_of, words_of}
use Rattle.ebbcandle.specs.Files.{found_files, variables_of, printed_files}
use Rattle.ebbcandle.proofs.FileLaws.{shown}

-- ---- the sheet

-- no more than 194 bytes of it count
cut-sheet : (sheet bytes : List ℕ) → printed_files (take 194 sheet) bytes ≡ printed_files sheet bytes
unfolding printed_files
cut-sheet sheet bytes =
    ap (λ (r : Read Sheet). shown (variables_of r) (whole_of full (found_files r bytes) [] [])) (cut-read sheet)

-- ---- the row data

-- four bytes make a word
words-length : (bytes : List ℕ) → length (words_of bytes) ≡ length bytes / 4
unfolding words_of
words-length bytes =
    length-map (rows_by 4 (length bytes / 4) bytes) word_of ∙ length-rows 4 (length bytes / 4) bytes

-- row data of more bytes than it may have is refused
said-many : (s : Sheet) (end : ℕ) (bytes : List ℕ) → 4 * 16384 < length bytes
    → found_files (got s end) bytes ≡ bad_data
unfolding found_files
said-many s end bytes h =
    by_test
    (eqb (length bytes % 4) 0)
    (λ t. rw (t, found_files)
    (said-bad full s (words_of bytes) (parts-long (columns_of s.registers) (words_of bytes)
    (omega (arith, words-length bytes, eqb-true (length bytes % 4) 0 t)))))
    (λ f. rw (f, found_files))

-- so the same is found for such bytes and for their first 65,540, also where the sheet is refused
found-cut : (r : Read Sheet) (bytes : List ℕ) → 65540 < length bytes
    → found_files r (take 65540 bytes) ≡ found_files r bytes
unfolding found_files
found-cut (bad fault detail) bytes h = refl
found-cut (got s end) bytes h =
    let l : length (take 65540 bytes) ≡ 65540 = length-take-le 65540 bytes (omega arith) in
    said-many s end (take 65540 bytes) (omega arith) ∙ sym (said-many s end bytes (omega arith))

-- so no more than 65,540 bytes of it count
cut_data : (sheet bytes : List ℕ) → printed_files sheet (take 65540 bytes) ≡ printed_files sheet bytes
unfolding printed_files
cut_data sheet bytes =
    by_test
    (leb (length bytes) 65540)
    (λ t. ap (printed_files sheet) (take_all 65540 bytes (leb-true (length bytes) 65540 t)))
    (λ n. ap (λ (f : Found). shown (variables_of (read_sheet sheet)) (whole_of full f [] []))
    (found-cut (read_sheet sheet) bytes (leb-false (length bytes) 65540 n)))

-- bytes past the first 194 of the sheet and the first 65,540 of the row data change nothing of what is printed
pub cut_changes_nothing : (sheet bytes : List ℕ)
    → printed_files (take 194 sheet) (take 65540 bytes) ≡ printed_files sheet bytes
cut_changes_nothing sheet bytes = cut-sheet sheet (take 65540 bytes) ∙ cut_data sheet bytes
