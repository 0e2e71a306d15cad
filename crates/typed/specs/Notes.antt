-- What the code keeps of what a line has said.
use Rattle.std.specs.Prelude.{◌≡◌, true, false, List, map, ℕ, suc, ◌+◌, ◌^◌, ◌≤◌, ◌<◌, length, take, set, ltb}
use Rattle.plan.specs.Lists.{every, padded}
use Rattle.plan.specs.Tokens.{is_letter, closing}
use Rattle.plan.specs.Typed.{Typing, of_register, role, name_at, which_name, noted}
use Rattle.plan.specs.declared.Token.{Token}
use Rattle.plan.specs.declared.Token.TheVariants.{Name, Number, Mark, Other, End}
use Rattle.plan.specs.declared.Stage.{Stage}
use Rattle.sheet.specs.Fields.{empty_look_up, look_up_of}
use Rattle.typed.specs.Names.{name_from, names_held, RoomFor}
use Rattle.typed.specs.declared.notes.Said.{Said}

-- the struct holds what was said, beside the names: of the variables in brackets the first six
pub record Noted (t : Typing) (s : Said) : Type 0 where
  pub given : s.given ≡ length t.values
  pub start : s.start ≡ padded 16 0 t.values
  pub lookups : s.lookups ≡ length t.look_ups
  pub lookup : s.lookup ≡ padded 12 empty_look_up (map look_up_of t.look_ups)
  pub register : s.register ≡ t.register
  pub register-low : t.register < 12
  pub columns : s.columns ≡ length t.vars
  pub vars : s.vars ≡ padded 6 0 (take 6 t.vars)

-- there is room for what a token says
pub record Room (stage : Stage) (token : Token) (which : ℕ) (s : Said) : Type 0 where
  pub low : which < 16
  pub register-low : role stage ≡ of_register → which < 12
  pub value : (x : ℕ) → token ≡ Number x → (s.given < 16) × (x < 2 ^ 32)
  pub whole : token ≡ Mark closing → (s.lookups < 12) × (s.columns ≤ 6) × (s.register < 12)
  pub column : s.columns + 1 < 2 ^ 64

-- a name's token is of the line: letters, all that there are from its place on
unfoldable pub Within : List ℕ → Token → Type 0
Within line (Name at letters) =
    (at + letters ≤ length line) × (every is_letter (name_at line at letters) ≡ true) × (name_from line at ≡ name_at line at letters)
Within line (Number x) = Unit {0}
Within line (Mark b) = Unit {0}
Within line Other = Unit {0}
Within line End = Unit {0}

-- the places of names, with one more where the name's number is not that of one so far
unfoldable pub count_added : ℕ → ℕ → ℕ
count_added which count = elim (ltb which count) [ true ↦ count | false ↦ suc count ]

unfoldable pub places_added : ℕ → ℕ → ℕ → List ℕ → List ℕ
places_added at which count places = elim (ltb which count) [ true ↦ places | false ↦ set places count at ]

-- the places of names with a token are those of the names with it
pub record NamesNoted (stage : Stage) (token : Token) (which count : ℕ) (places : List ℕ) (count' : ℕ) (places' : List ℕ)
    : Type 0 where
  pub fits : RoomFor 16 places count → RoomFor 16 places' count'
  pub held : (line : List ℕ) (known : List (List ℕ)) (t : Typing) → Within line token → RoomFor 16 places count
      → names_held line places count ≡ t.names → which ≡ which_name known line (role stage) t.names token
      → names_held line places' count' ≡ (noted known line (role stage) token t).names
