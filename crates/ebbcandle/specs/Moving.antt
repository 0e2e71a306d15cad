-- What is read of the two files and written of the output, by what the system's reads and writes answer.
use Rattle.std.specs.Prelude.{◌≡◌, List, length, take, ℕ, zero, suc, ◌+◌, ◌<◌, ◌≤◌, Result, Ok, Err}
use Rattle.std.specs.Result.{result_unwrap_or}
use Rattle.std.specs.declared.io.Error.{Error}
use Rattle.std.specs.declared.io.ErrorKind.TheVariants.{BrokenPipe}
use Rattle.std.specs.IoError.{error_kind}
use Rattle.ebbcandle.specs.declared.Moving.{Moving}
use Rattle.ebbcandle.specs.Ascii.{ascii}

-- a file, what is told of it where it can't be read, and the room for it: one byte more than the longest sheet has, one
-- word more than row data may have
pub data RoomFor : List ℕ → List ℕ → ℕ → Type 0 where
  sheet_room : RoomFor (ascii "sheet.bin") (ascii "ebbcandle: sheet.bin") 194
  data_room : RoomFor (ascii "data.bin") (ascii "ebbcandle: data.bin") 65540

-- the first n of the bytes are in bounds, and they are n bytes
abbrev pub IsPrefixLen : ℕ → List ℕ → Type 0
IsPrefixLen n xs = (n ≤ length xs) × (n ≡ length (take n xs))

-- what a call that is handed n bytes may answer: an error, or how many bytes it moved, at most n
abbrev pub Moved : ℕ → Result ℕ Error → Type 0
Moved n (Ok k) = k ≤ n
Moved n (Err e) = Unit {0}

-- the answer of a call that moved bytes
abbrev pub MovedSome : Result ℕ Error → Type 0
MovedSome moved = 0 < result_unwrap_or moved 0

-- how far it came with one call more, by its answer: the bytes before it, and those that it moved
unfoldable pub after_move : ℕ → Result ℕ Error → Moving
after_move done (Ok more) = record { done = done + more; last = Ok more }
after_move done (Err e) = record { done = done; last = Err e }

-- how many of so many bytes were moved, by the last answer
unfoldable pub Came : ℕ → ℕ → Result ℕ Error → Type 0
-- bytes: all
Came size done (Ok (suc more)) = done ≡ size
-- nothing, or a failure: not all
Came size done (Ok zero) = done < size
Came size done (Err e) = done < size

-- how many bytes of a file are kept in a room, by the last answer: those that were read, and none where a read failed (§6.4)
unfoldable pub Kept : ℕ → ℕ → Result ℕ Error → Type 0
Kept room done (Ok k) = Came room done (Ok k)
Kept room done (Err e) = done ≡ 0

-- the answer to a write where nobody reads the output any more
abbrev pub IsGone : Result ℕ Error → Type 0
IsGone (Ok k) = ⊥
IsGone (Err e) = error_kind e ≡ BrokenPipe
