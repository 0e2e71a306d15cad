-- Typed requests (docs/RULES.md, section 11): the grammar of a line, its faults, the request that it stands for, and what
-- comes back for it.
use Rattle.std.specs.Prelude.{◌≡◌, ◌⊎◌, ◌↔◌, Bool, true, false, ◌&&◌, ◌||◌, not, List, [], ◌∷◌, ◌++◌, map, ℕ, zero, suc, ◌+◌, ◌*◌, ◌/◌, ◌%◌, ◌≤◌, ◌<◌, get_or, length, take, drop, eqb, leb, ltb}
use Rattle.plan.specs.Lists.{In, numbers}
use Rattle.plan.specs.Reader.{Fault, fault_number, got, bad}
use Rattle.plan.specs.Sheet.{Register, LookUp, Sheet, columns_of, used, read_sheet}
use Rattle.plan.specs.RowData.{request_of}
use Rattle.plan.specs.Grow.{calls}
use Rattle.plan.specs.Answer.{found_said, refusal, never_answerable, room, Whole, whole_of, full, whole, checked_of, route_check}
use Rattle.plan.specs.Write.{put, write_sheet}
use Rattle.plan.specs.Tokens.{equals, colon, opening, closing, space, over, is_letter, is_digit, is_mark, run}
use Rattle.plan.specs.Tokens.{cut, cut_number, cut_at, cuts, place_of, are_names, pieces}
use Rattle.plan.specs.declared.Token.{Token}
use Rattle.plan.specs.declared.Token.TheVariants.{Name, Number, Mark, Other, End}
use Rattle.plan.specs.declared.Cut.{Cut}
use Rattle.plan.specs.declared.Stage.{Stage}
use Rattle.plan.specs.declared.Stage.TheVariants.{Given, Equals, Value, GivenGap, ColonGap, Asked, Opening, Column, ColumnGap, Closed, Nowhere}
use Rattle.plan.specs.declared.Setting.{Setting}
use Rattle.plan.specs.Answer.{Checked}

-- ---- the grammar: givens, the colon, look-ups, parted by one space each, as are the variables in brackets

-- the stage behind each token that may come: behind a name, a number, each mark, and the line's end
pub record Turn : Type 0 where
  pub name : Stage
  pub number : Stage
  pub mark : ℕ → Stage
  pub finish : Stage

-- no mark may come
unfoldable pub no_mark : ℕ → Stage
no_mark b = Nowhere

-- one mark may come
unfoldable pub one_mark : ℕ → Stage → ℕ → Stage
one_mark m behind b = elim (eqb b m) [ true ↦ behind | false ↦ Nowhere ]

-- one of two marks may come
unfoldable pub two_marks : ℕ → Stage → ℕ → Stage → ℕ → Stage
two_marks m behind other behindOther b = elim (eqb b m) [ true ↦ behind | false ↦ one_mark other behindOther b ]

-- a name may come, and one mark or none
unfoldable pub a_name : Stage → (ℕ → Stage) → Turn
a_name behind mark = record { name = behind; number = Nowhere; mark = mark; finish = Nowhere }

-- only marks may come
unfoldable pub a_mark : (ℕ → Stage) → Turn
a_mark mark = record { name = Nowhere; number = Nowhere; mark = mark; finish = Nowhere }

-- what may come at each stage: a given's name or the colon; `=`; a number; a space; behind the colon a space; a register's
-- name; the opening bracket; a variable's name; a space or the closing bracket; a space or the line's end
unfoldable pub turn : Stage → Turn
turn Given = a_name Equals (one_mark colon ColonGap)
turn Equals = a_mark (one_mark equals Value)
turn Value = record { name = Nowhere; number = GivenGap; mark = no_mark; finish = Nowhere }
turn GivenGap = a_mark (one_mark space Given)
turn ColonGap = a_mark (one_mark space Asked)
turn Asked = a_name Opening no_mark
turn Opening = a_mark (one_mark opening Column)
turn Column = a_name ColumnGap no_mark
turn ColumnGap = a_mark (two_marks space Column closing Closed)
turn Closed = record { name = Nowhere; number = Nowhere; mark = one_mark space Asked; finish = Closed }
turn Nowhere = a_mark no_mark

-- the stage behind a token; another byte is out of place everywhere
unfoldable pub follows : Stage → Token → Stage
follows stage (Name at letters) = (turn stage).name
follows stage (Number x) = (turn stage).number
follows stage (Mark b) = (turn stage).mark b
follows stage Other = Nowhere
follows stage End = (turn stage).finish

-- the stage that is behind a token out of place
unfoldable pub is_nowhere : Stage → Bool
is_nowhere Given = false
is_nowhere Equals = false
is_nowhere Value = false
is_nowhere GivenGap = false
is_nowhere ColonGap = false
is_nowhere Asked = false
is_nowhere Opening = false
is_nowhere Column = false
is_nowhere ColumnGap = false
is_nowhere Closed = false
is_nowhere Nowhere = true

-- ---- what a line has said

-- what a line has said: the names of its variables in the order of their first appearance; the given values, which are those of
-- the first variables; the look-ups; and of the look-up that is being read its register and its variables
pub record Typing : Type 0 where
  pub names : List (List ℕ)
  pub values : List ℕ
  pub look_ups : List LookUp
  pub register : ℕ
  pub vars : List ℕ

-- nothing is said before the first token
unfoldable pub nothing_said : Typing
nothing_said = record { names = []; values = []; look_ups = []; register = 0; vars = [] }

-- what a name stands for, by the stage: a given variable, a register, a variable in brackets, or nothing
pub data Role : Type 0 where
  of_given : Role
  of_register : Role
  of_column : Role
  of_nothing : Role

unfoldable pub role : Stage → Role
role Given = of_given
role Equals = of_nothing
role Value = of_nothing
role GivenGap = of_nothing
role ColonGap = of_nothing
role Asked = of_register
role Opening = of_nothing
role Column = of_column
role ColumnGap = of_nothing
role Closed = of_nothing
role Nowhere = of_nothing

-- the name at a place of the line
abbrev pub name_at : List ℕ → ℕ → ℕ → List ℕ
name_at line at letters = take letters (drop at line)

-- the names among which a name is looked for: those of registers and of variables are different spaces
unfoldable pub names_for : Role → List (List ℕ) → List (List ℕ) → List (List ℕ)
names_for of_given known names = names
names_for of_register known names = known
names_for of_column known names = names
names_for of_nothing known names = names

-- the number of the name that a token is, among those; 0 for a token that is no name
unfoldable pub which_name : List (List ℕ) → List ℕ → Role → List (List ℕ) → Token → ℕ
which_name known line role names (Name at letters) = place_of (name_at line at letters) (names_for role known names)
which_name known line role names (Number x) = 0
which_name known line role names (Mark b) = 0
which_name known line role names Other = 0
which_name known line role names End = 0

-- the names with one more behind them, unless it is one of them: variables are numbered by first appearance
unfoldable pub with_name : List ℕ → List (List ℕ) → List (List ℕ)
with_name x names = elim (ltb (place_of x names) (length names)) [ true ↦ names | false ↦ names ++ (x ∷ []) ]

-- what is said with a name
unfoldable pub noted_name : Role → List (List ℕ) → List ℕ → Typing → Typing
noted_name of_given known x s =
    record { names = with_name x s.names; values = s.values; look_ups = s.look_ups; register = s.register; vars = s.vars }
noted_name of_register known x s =
    record { names = s.names; values = s.values; look_ups = s.look_ups; register = place_of x known; vars = [] }
noted_name of_column known x s =
    record {
      names = with_name x s.names;
      values = s.values;
      look_ups = s.look_ups;
      register = s.register;
      vars = s.vars ++ (place_of x s.names ∷ []);
    }
noted_name of_nothing known x s = s

-- what is said with a given value
unfoldable pub noted_value : ℕ → Typing → Typing
noted_value x s =
    record { names = s.names; values = s.values ++ (x ∷ []); look_ups = s.look_ups; register = s.register; vars = s.vars }

-- what is said with the closing bracket: the look-up is whole
unfoldable pub noted_look_up : Typing → Typing
noted_look_up s =
    record {
      names = s.names;
      values = s.values;
      look_ups = s.look_ups ++ (record { register = s.register; vars = s.vars } ∷ []);
      register = s.register;
      vars = s.vars;
    }

-- what is said with a token
unfoldable pub noted : List (List ℕ) → List ℕ → Role → Token → Typing → Typing
noted known line role (Name at letters) s = noted_name role known (name_at line at letters) s
noted known line role (Number x) s = noted_value x s
noted known line role (Mark b) s = elim (eqb b closing) [ true ↦ noted_look_up s | false ↦ s ]
noted known line role Other s = s
noted known line role End s = s

-- ---- the faults of a line

-- 12: a given 0
unfoldable pub is_nought : Stage → Token → Bool
is_nought stage (Name at letters) = false
is_nought stage (Number x) = not (is_nowhere (turn stage).number) && eqb x 0
is_nought stage (Mark b) = false
is_nought stage Other = false
is_nought stage End = false

-- 20: another byte
unfoldable pub is_other : Token → Bool
is_other (Name at letters) = false
is_other (Number x) = false
is_other (Mark b) = false
is_other Other = true
is_other End = false

-- 22: a name that is not a register's, where a register's is
unfoldable pub is_unknown_name : Role → ℕ → ℕ → Bool
is_unknown_name of_given which known = false
is_unknown_name of_register which known = not (ltb which known)
is_unknown_name of_column which known = false
is_unknown_name of_nothing which known = false

-- 22: an unknown register
unfoldable pub is_unknown : Role → Token → ℕ → ℕ → Bool
is_unknown role (Name at letters) which known = is_unknown_name role which known
is_unknown role (Number x) which known = false
is_unknown role (Mark b) which known = false
is_unknown role Other which known = false
is_unknown role End which known = false

-- 23: the wrong number of columns, at the closing bracket
unfoldable pub is_miscounted : Token → ℕ → ℕ → Bool
is_miscounted (Name at letters) columns needed = false
is_miscounted (Number x) columns needed = false
is_miscounted (Mark b) columns needed = eqb b closing && not (eqb columns needed)
is_miscounted Other columns needed = false
is_miscounted End columns needed = false

-- 24: a name over its limit: of over 12 letters, or of a 17th variable; of a register for a 13th look-up
unfoldable pub is_name_over : Role → ℕ → ℕ → ℕ → Bool
is_name_over of_given letters which look_ups = ltb 12 letters || leb 16 which
is_name_over of_register letters which look_ups = leb 12 look_ups
is_name_over of_column letters which look_ups = ltb 12 letters || leb 16 which
is_name_over of_nothing letters which look_ups = false

-- 24: a name, a number, a 17th variable or a 13th look-up over its limit
unfoldable pub is_over : Role → Token → ℕ → ℕ → Bool
is_over role (Name at letters) which look_ups = is_name_over role letters which look_ups
is_over role (Number x) which look_ups = leb over x
is_over role (Mark b) which look_ups = false
is_over role Other which look_ups = false
is_over role End which look_ups = false

-- 25: a name of a variable so far, where a given's is
unfoldable pub is_again_name : Role → ℕ → ℕ → Bool
is_again_name of_given which variables = ltb which variables
is_again_name of_register which variables = false
is_again_name of_column which variables = false
is_again_name of_nothing which variables = false

-- 25: a name given twice
unfoldable pub is_again : Role → Token → ℕ → ℕ → Bool
is_again role (Name at letters) which variables = is_again_name role which variables
is_again role (Number x) which variables = false
is_again role (Mark b) which variables = false
is_again role Other which variables = false
is_again role End which variables = false

-- a number of a refusal, and whether it fits
pub record Fit : Type 0 where
  pub number : ℕ
  pub fits : Bool

-- the first number that fits, or 0
unfoldable pub first_fit : List Fit → ℕ
first_fit [] = 0
first_fit (f ∷ fs) = elim f.fits [ true ↦ f.number | false ↦ first_fit fs ]

-- which numbers fit a token at a stage, in ascending order; `which` is the number of the name that it is, `columns` how many
-- variables stand in the brackets so far, and `needed` how many columns the register has
unfoldable pub fits_of : Stage → Cut → ℕ → ℕ → ℕ → ℕ → ℕ → ℕ → List Fit
fits_of stage c which known variables look_ups columns needed =
    record { number = 12; fits = is_nought stage c.token }
    ∷ record { number = 20; fits = is_other c.token || c.zero }
    ∷ record { number = 21; fits = is_nowhere (follows stage c.token) }
    ∷ record { number = 22; fits = is_unknown (role stage) c.token which known }
    ∷ record { number = 23; fits = is_miscounted c.token columns needed }
    ∷ record { number = 24; fits = is_over (role stage) c.token which look_ups }
    ∷ record { number = 25; fits = is_again (role stage) c.token which variables }
    ∷ []

-- ---- the request that a line stands for

-- where a line stands behind some of its tokens: what may come next, and what it has said
pub record Stand : Type 0 where
  pub stage : Stage
  pub said : Typing

-- where a line begins: with a given or the colon
unfoldable pub beginning : Stand
beginning = record { stage = Given; said = nothing_said }

-- what a line is found to be: a request, or faulty, with a number and its detail
pub data Typed : Type 0 where
  asks : Sheet → Typed
  faulty : ℕ → ℕ → Typed

-- the request: the registers are those of the sheet
unfoldable pub sheet_typed : List Register → Typing → Sheet
sheet_typed registers s =
    record {
      registers = registers;
      variables = length s.names;
      given = numbers 0 (length s.values);
      values = s.values;
      look_ups = s.look_ups;
    }

module _ (registers : List Register) (known : List (List ℕ)) (line : List ℕ) where
  -- which numbers fit a token where the line stands
  unfoldable pub fits_at : Stand → Cut → List Fit
  fits_at p c =
      fits_of
      p.stage
      c
      (which_name known line (role p.stage) p.said.names c.token)
      (length known)
      (length p.said.names)
      (length p.said.look_ups)
      (length p.said.vars)
      (get_or (columns_of registers) p.said.register 0)

  -- where the line stands behind a token
  unfoldable pub stepped : Stand → Cut → Stand
  stepped p c =
      record { stage = follows p.stage c.token; said = noted known line (role p.stage) c.token p.said }

  -- the tokens in their order: the first that is faulty, with the lowest number that fits it, at its place; or the request
  unfoldable pub walk : Stand → List Cut → Typed
  walk p [] = asks (sheet_typed registers p.said)
  walk p (c ∷ cs) = elim (first_fit (fits_at p c)) [ zero ↦ walk (stepped p c) cs | suc k ↦ faulty (suc k) c.at ]

  -- where the line stands behind all of these tokens
  unfoldable pub behind_all : Stand → List Cut → Stand
  behind_all p [] = p
  behind_all p (c ∷ cs) = behind_all (stepped p c) cs

-- the line as a request to registers, by the second line: 31 where that is not one name for each, before any fault of the line
unfoldable pub typed_on : List Register → List ℕ → List ℕ → Typed
typed_on registers second line =
    elim (are_names (length registers) (pieces second)) [
      | true ↦ walk registers (pieces second) line beginning (cuts line)
      | false ↦ faulty 31 0
    ]

-- a typed request to the registers of a sheet: the sheet's own refusals come first
unfoldable pub read_typed : List ℕ → List ℕ → List ℕ → Typed
read_typed sheet second line =
    elim (read_sheet sheet) [ bad fault detail ↦ faulty (fault_number fault) detail | got s end ↦ typed_on s.registers second line ]

-- a refusal with a number from 20 to 25, and a place that the line has
unfoldable pub of_line : ℕ → ℕ → List ℕ → Bool
of_line number detail line = leb 20 number && leb number 25 && leb detail (length line)

-- the part that is handed back: the name that begins at the fault's place, or an empty part there; for every other number, 12
-- too, and a place beyond the line, an empty part at the line's beginning
unfoldable pub part_place : ℕ → ℕ → List ℕ → ℕ
part_place number detail line = elim (of_line number detail line) [ true ↦ detail | false ↦ 0 ]

unfoldable pub part_length : ℕ → ℕ → List ℕ → ℕ
part_length number detail line = elim (of_line number detail line) [ true ↦ run is_letter (drop detail line) | false ↦ 0 ]

-- ---- the answer, and the route check

-- all that comes back for a typed request that is read, with tables that are long enough
unfoldable pub whole_asked : Setting → Typed → List ℕ → List ℕ → List ℕ → Whole
whole_asked tool (asks s) words first second = whole_of tool (found_said tool s words) first second
whole_asked tool (faulty number detail) words first second =
    record { answer = refusal number detail; first = first; second = second }

-- all that comes back for a typed request: 1 first, as for a sheet
unfoldable pub whole_typed : List ℕ → List ℕ → List ℕ → List ℕ → List ℕ → List ℕ → Whole
whole_typed sheet names line words first second =
    elim (leb (room full) (length first) && leb (room full) (length second)) [
      | true ↦ whole_asked full (read_typed sheet names line) words first second
      | false ↦ record { answer = refusal 1 0; first = first; second = second }
    ]

-- the route check of a typed request
unfoldable pub check_asked : Typed → Checked
check_asked (asks s) = checked_of (never_answerable calls (request_of s []))
check_asked (faulty number detail) = record { number = number; detail = detail }

unfoldable pub check_typed : List ℕ → List ℕ → List ℕ → Checked
check_typed sheet names line = check_asked (read_typed sheet names line)

-- ---- what is claimed of typed requests

-- the digits of a number without leading zeros, of at most n + 1
unfoldable pub digits_of_lem : ℕ → ℕ → List ℕ
digits_of_lem zero x = (48 + x) ∷ []
digits_of_lem (suc n) x = elim (ltb x 10) [ true ↦ (48 + x) ∷ [] | false ↦ digits_of_lem n (x / 10) ++ ((48 + x % 10) ∷ []) ]

-- the givens, with a space behind each
unfoldable pub given_text : List (List ℕ) → List ℕ → List ℕ
given_text names [] = []
given_text [] (x ∷ xs) = []
given_text (name ∷ names) (x ∷ xs) = name ++ (equals ∷ (digits_of_lem 9 x ++ (space ∷ given_text names xs)))

-- names, with a space before each
unfoldable pub spaced : List (List ℕ) → List ℕ
spaced [] = []
spaced (name ∷ names) = space ∷ (name ++ spaced names)

-- names parted by one space
unfoldable pub parted : List (List ℕ) → List ℕ
parted [] = []
parted (name ∷ names) = name ++ spaced names

-- look-ups, with a space before each: the register's name, and the variables in brackets
unfoldable pub look_up_text : List (List ℕ) → List (List ℕ) → List LookUp → List ℕ
look_up_text known names [] = []
look_up_text known names (l ∷ ls) =
    space
    ∷ (get_or known l.register []
    ++ (opening ∷ (parted (map (λ v. get_or names v []) l.vars) ++ (closing ∷ look_up_text known names ls))))

-- the line of a request, by the registers' names and the variables': the givens, the colon, the look-ups
unfoldable pub line_of : List (List ℕ) → List (List ℕ) → Sheet → List ℕ
line_of known names s = given_text names s.values ++ (colon ∷ look_up_text known names s.look_ups)

-- variables that are numbered by first appearance, where n have appeared before and `all` have behind them
unfoldable pub InTurn : ℕ → List ℕ → ℕ → Type 0
InTurn n [] all = n ≡ all
InTurn n (v ∷ vs) all = ((v < n) × InTurn n vs all) ⊎ ((v ≡ n) × InTurn (suc n) vs all)

-- a request that can be typed: to these registers; the given variables are the first, with values that are not 0; look-ups with
-- a variable for each column; variables numbered by first appearance
pub record Typable (registers : List Register) (s : Sheet) : Type 0 where
  pub same : s.registers ≡ registers
  pub given : s.given ≡ numbers 0 (length s.values)
  pub values : (x : ℕ) → In x s.values → (1 ≤ x) × (x < over)
  pub few : s.variables ≤ 16
  pub look_ups-low : 1 ≤ length s.look_ups
  pub look_ups-high : length s.look_ups ≤ 12
  pub named : (l : LookUp) → In l s.look_ups → l.register < length registers
  pub columns : (l : LookUp) → In l s.look_ups → length l.vars ≡ get_or (columns_of registers) l.register 0
  pub columns-low : (l : LookUp) → In l s.look_ups → 1 ≤ length l.vars
  pub numbered : InTurn (length s.values) (used [] s.look_ups) s.variables

-- the first faulty token of a line, with the lowest number that fits it
pub record FirstFaulty (registers : List Register) (known : List (List ℕ)) (line : List ℕ) (number place : ℕ) : Type 0 where
  pub before : List Cut
  pub here : Cut
  pub after : List Cut
  pub whole : cuts line ≡ before ++ (here ∷ after)
  -- nothing fits a token before it
  pub sound : (earlier : List Cut) (c : Cut) (later : List Cut) → before ≡ earlier ++ (c ∷ later)
      → (f : Fit) → In f (fits_at registers known line (behind_all registers known line beginning earlier) c) → f.fits ≡ false
  -- this number fits it, and no lower one
  pub fit : In (record { number = number; fits = true })
      (fits_at registers known line (behind_all registers known line beginning before) here)
  pub lowest : (f : Fit) → In f (fits_at registers known line (behind_all registers known line beginning before) here)
      → f.fits ≡ true → number ≤ f.number
  pub told : here.at ≡ place

-- the tokens of a line from a place on: each is the one at its place, the next begins where it ended, and the last is the line's
-- end, at its length
unfoldable pub Covers : List ℕ → ℕ → List Cut → Type 0
Covers line at [] = ⊥
Covers line at (c ∷ cs) =
    (c ≡ cut_at line at)
    × (c.at ≡ at)
    × (((at ≡ length line) × (c.token ≡ End) × (cs ≡ []))
    ⊎ ((at < c.next) × (c.next ≤ length line) × Covers line c.next cs))

-- so many bytes are the longest run that passes a test: each of them passes, and the one behind them, if there is one, does not
pub record Longest (test : ℕ → Bool) (bytes : List ℕ) (n : ℕ) : Type 0 where
  pub inside : n ≤ length bytes
  pub passes : (i : ℕ) → i < n → test (get_or bytes i 0) ≡ true
  pub ends : n < length bytes → test (get_or bytes n 0) ≡ false

-- how many letters the name has that a token is; 0 for a token that is no name
unfoldable pub letters_of : Token → ℕ
letters_of (Name at letters) = letters
letters_of (Number x) = 0
letters_of (Mark b) = 0
letters_of Other = 0
letters_of End = 0

-- what is claimed of typed requests
pub record TypedClaims : Type 0 where
  -- the line that is written for a request reads as it
  pub back : (registers : List Register) (known names : List (List ℕ)) (s : Sheet) → are_names (length registers) known ≡ true
      → are_names s.variables names ≡ true → Typable registers s
      → typed_on registers (parted known) (line_of known names s) ≡ asks s
  -- a line that reads as a request is the one that is written for it, by some names: so the reading is unique
  pub forth : (registers : List Register) (second line : List ℕ) (s : Sheet) → typed_on registers second line ≡ asks s
      → Typable registers s
      × (are_names (length registers) (pieces second) ≡ true)
      × (second ≡ parted (pieces second))
      × ((names : List (List ℕ)) × (are_names s.variables names ≡ true) × (line ≡ line_of (pieces second) names s))
  -- no line stands for two requests, nor for one by other names
  pub once : (registers : List Register) (known names others : List (List ℕ)) (s t : Sheet)
      → are_names (length registers) known ≡ true → are_names s.variables names ≡ true → are_names t.variables others ≡ true
      → Typable registers s → Typable registers t → line_of known names s ≡ line_of known others t → (s ≡ t) × (names ≡ others)
  -- the request is what the sheet that is written for it says
  pub same : (sheet second line : List ℕ) (s : Sheet) → read_typed sheet second line ≡ asks s
      → (bytes : List ℕ) × (write_sheet s ≡ put bytes) × (read_sheet bytes ≡ got s (8 * length bytes))
  -- and so are its answer and its route check
  pub answers : (sheet second line : List ℕ) (s : Sheet) (bytes : List ℕ) → read_typed sheet second line ≡ asks s
      → write_sheet s ≡ put bytes → (words table other : List ℕ)
      → (whole_typed sheet second line words table other ≡ whole bytes words table other)
      × (check_typed sheet second line ≡ route_check bytes)
  -- a line is refused exactly at its first faulty token, by the lowest number that fits it
  pub first : (registers : List Register) (second line : List ℕ) → are_names (length registers) (pieces second) ≡ true
      → (number place : ℕ)
      → (typed_on registers second line ≡ faulty number place) ↔ FirstFaulty registers (pieces second) line number place
  -- a sheet's own refusal comes before any of the lines
  pub own : (sheet second line : List ℕ) (fault : Fault) (detail : ℕ) → read_sheet sheet ≡ bad fault detail
      → read_typed sheet second line ≡ faulty (fault_number fault) detail
  -- a sheet that reads lends its registers, and nothing else of it is looked at
  pub named : (sheet second line : List ℕ) (s : Sheet) (end : ℕ) → read_sheet sheet ≡ got s end
      → read_typed sheet second line ≡ typed_on s.registers second line
  -- a second line that is not one name for each register is told as 31, whatever the line
  pub unnamed : (registers : List Register) (second line : List ℕ) → are_names (length registers) (pieces second) ≡ false
      → typed_on registers second line ≡ faulty 31 0
  -- the tokens of a line cover it
  pub covers : (line : List ℕ) → Covers line 0 (cuts line)
  -- a run is the longest
  pub longest : (test : ℕ → Bool) (bytes : List ℕ) → Longest test bytes (run test bytes)
  -- a letter begins a name of all letters there
  pub letters : (line : List ℕ) (at : ℕ) → at < length line → is_letter (get_or line at 0) ≡ true
      → (k : ℕ) × Longest is_letter (drop at line) k × (cut_at line at ≡ cut (Name at k) at k false)
  -- a digit begins a number of all digits there
  pub digits : (line : List ℕ) (at : ℕ) → at < length line → is_digit (get_or line at 0) ≡ true
      → (k : ℕ) × Longest is_digit (drop at line) k × (cut_at line at ≡ cut_number at (get_or line at 0) (drop at line) k)
  -- a byte that is neither stands alone, as a mark or as another byte
  pub alone : (line : List ℕ) (at : ℕ) → at < length line → is_letter (get_or line at 0) ≡ false
      → is_digit (get_or line at 0) ≡ false
      → (is_mark (get_or line at 0) ≡ true → cut_at line at ≡ cut (Mark (get_or line at 0)) at 1 false)
      × (is_mark (get_or line at 0) ≡ false → cut_at line at ≡ cut Other at 1 false)
  -- a line is refused at a place of its own, as 12 or as 20 to 25
  pub places : (registers : List Register) (second line : List ℕ) → are_names (length registers) (pieces second) ≡ true
      → (number place : ℕ) → typed_on registers second line ≡ faulty number place
      → (place ≤ length line) × ((number ≡ 12) ⊎ ((20 ≤ number) × (number ≤ 25)))
  -- for 20 to 25 and a place of the line the part stands there, and is the name that the token there is, or empty
  pub part : (number place : ℕ) (line : List ℕ) → 20 ≤ number → number ≤ 25 → place ≤ length line
      → (part_place number place line ≡ place) × (part_length number place line ≡ letters_of (cut_at line place).token)
  -- for every other number, as 31 and the sheet's own, and behind the line's end, it is empty, at the line's beginning
  pub partless : (number place : ℕ) (line : List ℕ) → (number < 20) ⊎ ((25 < number) ⊎ (length line < place))
      → (part_place number place line ≡ 0) × (part_length number place line ≡ 0)
  -- what a sheet says can be typed to its registers, if the given variables are the first and all are numbered by first appearance
  pub typable : (bytes : List ℕ) (s : Sheet) (end : ℕ) → read_sheet bytes ≡ got s end
      → s.given ≡ numbers 0 (length s.values) → InTurn (length s.values) (used [] s.look_ups) s.variables
      → Typable s.registers s
  -- and the line that is written for it, with that sheet, reads as what the sheet says
  pub sheets : (bytes : List ℕ) (s : Sheet) (end : ℕ) → read_sheet bytes ≡ got s end
      → s.given ≡ numbers 0 (length s.values) → InTurn (length s.values) (used [] s.look_ups) s.variables
      → (known names : List (List ℕ)) → are_names (length s.registers) known ≡ true → are_names s.variables names ≡ true
      → read_typed bytes (parted known) (line_of known names s) ≡ asks s
  -- what comes back where a table is too short: 1, and both tables as they came
  pub short : (sheet second line words table other : List ℕ) → (length table < room full) ⊎ (length other < room full)
      → ◌≡◌ {A = Whole} (whole_typed sheet second line words table other)
      (record { answer = refusal 1 0; first = table; second = other })
  -- what comes back for a refused request otherwise: its number and its detail, and both tables as they came
  pub refused : (sheet second line : List ℕ) (number detail : ℕ) → read_typed sheet second line ≡ faulty number detail
      → (words table other : List ℕ) → room full ≤ length table → room full ≤ length other
      → ◌≡◌ {A = Whole} (whole_typed sheet second line words table other)
      (record { answer = refusal number detail; first = table; second = other })
  -- and the route check of it: the same number and detail
  pub told : (sheet second line : List ℕ) (number detail : ℕ) → read_typed sheet second line ≡ faulty number detail
      → ◌≡◌ {A = Checked} (check_typed sheet second line) (record { number = number; detail = detail })
