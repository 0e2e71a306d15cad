-- The depot case (docs/RULES.md, §8.1) as files: what is printed for it, letter for letter.
use Rattle.std.specs.Prelude.{◌≡◌, List, [], ◌∷◌, ◌++◌, ℕ}
use Prim.Native.String.{String}
use Rattle.plan.specs.Cases.{depot_sheet, depot, depot_data}
use Rattle.ebbcandle.specs.Ascii.{ascii}
use Rattle.ebbcandle.specs.Lines.{newline}
use Rattle.ebbcandle.specs.Files.{printed_files}

-- a line of text
unfoldable pub line : String → List ℕ
line text = ascii text ++ newline

-- words below 256 as a file's bytes: four bytes each, highest first
unfoldable pub bytes_of : List ℕ → List ℕ
bytes_of [] = []
bytes_of (word ∷ words) = 0x00 ∷ 0x00 ∷ 0x00 ∷ word ∷ bytes_of words

-- the program's output for the depot case, in full
unfoldable pub depot_text : List ℕ
depot_text =
    line "step 1 lookup 2 rule 0 calls 1 rows 3"
    ++ line "step 2 lookup 0 rule 0 calls 3 rows 2"
    ++ line "step 3 lookup 1 rule 0 calls 2 rows 2"
    ++ line "calls 6"
    ++ line "row 7 101 1 51"
    ++ line "row 7 103 1 52"

-- what is printed, case by case
pub record CasesPrinted : Type 0 where
  -- the depot case
  pub answered : printed_files depot (bytes_of depot_data) ≡ depot_text
  -- the last sheet byte 41: one line, the fault and its place (§6.3, §2.13)
  pub refused : printed_files (depot_sheet 0x1c (0x41 ∷ [])) (bytes_of depot_data) ≡ line "refused 11 146"
