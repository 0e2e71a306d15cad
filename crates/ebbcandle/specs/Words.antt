-- The words that the bytes of `data.bin` make.
use Rattle.std.specs.Prelude.{List, map, ℕ, ◌+◌, ◌*◌, ◌/◌, length, get_or}
use Rattle.plan.specs.Request.{rows_by}

-- a word of four bytes, highest first (§6.1)
unfoldable pub word_of : List ℕ → ℕ
word_of bytes = ((get_or bytes 0 0 * 256 + get_or bytes 1 0) * 256 + get_or bytes 2 0) * 256 + get_or bytes 3 0

-- the words of the bytes, four bytes each; a left-over of fewer than four bytes makes no word
unfoldable pub words_of : List ℕ → List ℕ
words_of bytes = map word_of (rows_by 4 (length bytes / 4) bytes)
