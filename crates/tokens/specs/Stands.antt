-- Where a part of a line stands.
use Rattle.std.specs.Prelude.{◌≡◌, List, ℕ, ◌+◌, take, drop}
use Rattle.std.specs.Borrow.{Bor}

-- a part of a line: so many bytes of it from a place on, as a slice that points into the line itself, at that place
pub record Stands (line : Bor (List ℕ)) (place bytes : ℕ) (part : Bor (List ℕ)) : Type 0 where
  pub shows : part.now ≡ take bytes (drop place line.now)
  pub block : part.ref_ptr.0 ≡ line.ref_ptr.0
  pub offset : part.ref_ptr.1 ≡ line.ref_ptr.1 + place
