-- Items put into a lent buffer.
use Rattle.std.specs.Prelude.{◌≡◌, List, [], ◌++◌, ℕ, zero, suc, ◌+◌, length, take, drop}

-- the buffer with the items from a place on; what stands before and behind them stays
unfoldable pub laid : {A : Type 0} → List A → ℕ → List A → List A
laid out at items = take at out ++ (items ++ drop (at + length items) out)

-- the items stand in the buffer from the place on, and this is the place behind them
pub record Put {A : Type 0} (out : List A) (at : ℕ) (items out' : List A) (next : ℕ) : Type 0 where
  pub ends : next ≡ at + length items
  pub holds : out' ≡ laid out at items

-- the items of 0 up to n, without n, one behind the other
unfoldable pub joined : (ℕ → List ℕ) → ℕ → List ℕ
joined items zero = []
joined items (suc n) = joined items n ++ items n
