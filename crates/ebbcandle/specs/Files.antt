-- What is printed for what stands in the two files.
use Rattle.std.specs.Prelude.{true, false, List, [], ℕ, ◌%◌, length, eqb}
use Rattle.plan.specs.Reader.{Read, got, bad}
use Rattle.plan.specs.Sheet.{Sheet, read_sheet}
use Rattle.plan.specs.Answer.{Found, bad_sheet, bad_data, found_said, whole_of, full}
use Rattle.ebbcandle.specs.Words.{words_of}
use Rattle.ebbcandle.specs.Lines.{printed}

-- what is found from what reading the sheet gives, and the bytes of the row data: a left-over is one word too many, so
-- the row data is refused whatever its words are (§6.5)
unfoldable pub found_files : Read Sheet → List ℕ → Found
found_files (bad fault detail) bytes = bad_sheet fault detail
found_files (got s end) bytes =
    elim (eqb (length bytes % 4) 0) [ true ↦ found_said full s (words_of bytes) | false ↦ bad_data ]

-- the number of variables of a sheet that was read
unfoldable pub variables_of : Read Sheet → ℕ
variables_of (bad fault detail) = 0
variables_of (got s end) = s.variables

-- all that is printed for the two files
unfoldable pub printed_files : List ℕ → List ℕ → List ℕ
printed_files sheet bytes =
    let read = read_sheet sheet in
    let w = whole_of full (found_files read bytes) [] [] in
    printed w.answer w.first (variables_of read)
