-- The struct that says where each register's rows stand.
use Rattle.std.specs.Prelude.{List, map, ℕ, ◌≤◌, ◌<◌, get_or, Option, None, Some}
use Rattle.std.proofs.Math.Option.{none, some}
use Rattle.std.proofs.Math.Option as Math
use Rattle.plan.specs.Lists.{padded}
use Rattle.plan.specs.RowData.{Part}
use Rattle.data.specs.declared.Part as Held
use Rattle.data.specs.declared.Parts.{Parts}

-- there are at most 12 registers, and each has at most 6 columns
pub record Narrow (columns : List ℕ) (registers : ℕ) : Type 0 where
  pub few : registers ≤ 12
  pub narrow : (i : ℕ) → i < registers → get_or columns i 0 ≤ 6

-- where a part starts, and how many rows it has
abbrev pub place_held : Part → Held.Part
place_held p = record { start = p.start; rows = p.rows }

-- a part that is not there
abbrev pub no_place : Held.Part
no_place = record { start = 0; rows = 0 }

-- the places and counts of the parts
abbrev pub parts_held : List Part → Parts
parts_held ps = record { part = padded 12 no_place (map place_held ps) }

-- the part of register r
abbrev pub part_of : Parts → ℕ → Held.Part
part_of ps r = get_or ps.part r no_place

-- what the parts of the row data give, or none where it is refused
unfoldable pub parts_of : Math.Option (List Part) → Option Parts
parts_of none = None
parts_of (some ps) = Some (parts_held ps)
