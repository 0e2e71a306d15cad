-- Sets of variables, as 16-bit numbers, and whether one of several is part of another.
use Rattle.std.specs.Prelude.{Bool, List, ℕ, eqb}
use Rattle.std.specs.Int.Bits.{bit_and}
use Rattle.std.specs.List.{list_any}

-- whether one of these sets is part of a set
abbrev pub includes_one : ℕ → List ℕ → Bool
includes_one own sets = list_any (λ s. eqb (bit_and s own) s) sets
