-- Names that are known by the places in a text where they begin.
use Rattle.std.specs.Prelude.{◌≡◌, true, false, List, Option, Some, None, map, ℕ, ◌≤◌, length, take, drop}
use Rattle.plan.specs.Tokens.{is_letter, run, pieces, are_names}

-- the name that begins at a place of the text: it runs as far as it can
unfoldable pub name_from : List ℕ → ℕ → List ℕ
name_from text place = take (run is_letter (drop place text)) (drop place text)

-- the names that begin at the first places
unfoldable pub names_held : List ℕ → List ℕ → ℕ → List (List ℕ)
names_held text places count = map (name_from text) (take count places)

-- there is room for the most places, and so many are taken
pub record RoomFor (most : ℕ) (places : List ℕ) (count : ℕ) : Type 0 where
  pub room : length places ≡ most
  pub few : count ≤ most

-- the places of the names of the second line, where it is one name for each register; none where it is not
abbrev pub NamesFound : List ℕ → ℕ → Option (List ℕ) → Type 0
NamesFound second registers None = are_names registers (pieces second) ≡ false
NamesFound second registers (Some places) =
    (are_names registers (pieces second) ≡ true)
    × (names_held second places registers ≡ pieces second)
    × RoomFor 12 places registers
