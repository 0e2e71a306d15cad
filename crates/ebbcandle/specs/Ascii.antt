-- Quoted text as bytes.
use Rattle.std.specs.Prelude.{List, [] as none_left, ◌∷◌ as ◌first◌, ℕ}
use Prim.Native.Char.{code}
use Prim.Native.String.{String, [], ◌∷◌}

-- the code of each character
abbrev pub ascii : String → List ℕ
ascii [] = none_left
ascii (c ∷ s) = code c first ascii s
