-- What a `match` leaves for the other stages, and for the other tokens: a law by cases for each.
use mathlib.Core.Path.{◌≡◌, refl, sym, ap, ◌∙◌}
use mathlib.Core.Bool.{Bool, true, false, not, ◌&&◌}
use mathlib.Core.List.{List}
use Prim.Native.Nat.{ℕ, ◌≤◌}
use native.Mathlib.Omega.{arith}
use lib.Dec.{eqb, ltb}
use borrow.Author.Tests.{ne_eqb}
use Rattle.plan.specs.declared.Stage.{Stage}
use Rattle.plan.specs.declared.Stage.TheVariants.{Given, Equals, Value, GivenGap, ColonGap, Asked}
use Rattle.plan.specs.declared.Stage.TheVariants.{Opening, Column, ColumnGap, Closed, Nowhere}
use Rattle.plan.specs.declared.Token.{Token}
use Rattle.plan.specs.declared.Token.TheVariants.{Name, Number, Mark, Other, End}
use Rattle.plan.specs.declared.Refusal.{Refusal}
use Rattle.plan.specs.declared.Refusal.TheVariants.{ShortTable, EndsEarly, BadData, NoRoute, TooManyRows, Uncountable}
use Rattle.plan.specs.declared.Refusal.TheVariants.{WrongVersion, CountOut, NotInSheet, UnusedVariable, BadPadding, GivenZero}
use Rattle.plan.specs.declared.Refusal.TheVariants.{ShortBuffer, NoSuchStep, NotAsked, BadPrice, NoToken, OutOfPlace}
use Rattle.plan.specs.declared.Refusal.TheVariants.{UnknownRegister, Miscounted, OverLimit, GivenAgain, NotNames, NotWhole}
use Rattle.plan.specs.Refusals.{number_of}
use Rattle.plan.specs.Tokens.{closing}
use Rattle.plan.specs.Typed.{no_mark, a_name, a_mark, turn, is_nowhere, Role}
use Rattle.plan.specs.Typed.{role, names_for, which_name, is_nought, is_other, is_unknown_name}
use Rattle.plan.specs.Typed.{is_unknown, is_miscounted, is_name_over, is_over, is_again_name, is_again}

-- no name may come at another stage
pub no_name : (s : Stage) → (s ≡ Given → ⊥) → (s ≡ Asked → ⊥) → (s ≡ Column → ⊥) → Nowhere ≡ (turn s).name
unfolding turn a_mark
no_name Given n1 n2 n3 = absurd (n1 refl)
no_name Equals n1 n2 n3 = refl
no_name Value n1 n2 n3 = refl
no_name GivenGap n1 n2 n3 = refl
no_name ColonGap n1 n2 n3 = refl
no_name Asked n1 n2 n3 = absurd (n2 refl)
no_name Opening n1 n2 n3 = refl
no_name Column n1 n2 n3 = absurd (n3 refl)
no_name ColumnGap n1 n2 n3 = refl
no_name Closed n1 n2 n3 = refl
no_name Nowhere n1 n2 n3 = refl

-- no number may come at another stage
pub no_number : (s : Stage) → (s ≡ Value → ⊥)
    → Nowhere ≡ (turn s).number
unfolding turn a_name a_mark
no_number Given n = refl
no_number Equals n = refl
no_number Value n = absurd (n refl)
no_number GivenGap n = refl
no_number ColonGap n = refl
no_number Asked n = refl
no_number Opening n = refl
no_number Column n = refl
no_number ColumnGap n = refl
no_number Closed n = refl
no_number Nowhere n = refl

-- no mark may come at another stage
pub no_mark_lem : (b : ℕ) (s : Stage) → (s ≡ Given → ⊥) → (s ≡ Equals → ⊥) → (s ≡ GivenGap → ⊥) → (s ≡ ColonGap → ⊥)
    → (s ≡ Opening → ⊥) → (s ≡ ColumnGap → ⊥) → (s ≡ Closed → ⊥) → Nowhere ≡ (turn s).mark b
unfolding turn a_name a_mark no_mark
no_mark_lem b Given n1 n2 n3 n4 n5 n6 n7 = absurd (n1 refl)
no_mark_lem b Equals n1 n2 n3 n4 n5 n6 n7 = absurd (n2 refl)
no_mark_lem b Value n1 n2 n3 n4 n5 n6 n7 = refl
no_mark_lem b GivenGap n1 n2 n3 n4 n5 n6 n7 = absurd (n3 refl)
no_mark_lem b ColonGap n1 n2 n3 n4 n5 n6 n7 = absurd (n4 refl)
no_mark_lem b Asked n1 n2 n3 n4 n5 n6 n7 = refl
no_mark_lem b Opening n1 n2 n3 n4 n5 n6 n7 = absurd (n5 refl)
no_mark_lem b Column n1 n2 n3 n4 n5 n6 n7 = refl
no_mark_lem b ColumnGap n1 n2 n3 n4 n5 n6 n7 = absurd (n6 refl)
no_mark_lem b Closed n1 n2 n3 n4 n5 n6 n7 = absurd (n7 refl)
no_mark_lem b Nowhere n1 n2 n3 n4 n5 n6 n7 = refl

-- the line may end at no other stage
pub no_end : (s : Stage) → (s ≡ Closed → ⊥)
    → Nowhere ≡ (turn s).finish
unfolding turn a_name a_mark
no_end Given n = refl
no_end Equals n = refl
no_end Value n = refl
no_end GivenGap n = refl
no_end ColonGap n = refl
no_end Asked n = refl
no_end Opening n = refl
no_end Column n = refl
no_end ColumnGap n = refl
no_end Closed n = absurd (n refl)
no_end Nowhere n = refl

-- every other stage is somewhere
pub somewhere : (s : Stage) → (s ≡ Nowhere → ⊥) → false ≡ is_nowhere s
unfolding is_nowhere
somewhere Given n = refl
somewhere Equals n = refl
somewhere Value n = refl
somewhere GivenGap n = refl
somewhere ColonGap n = refl
somewhere Asked n = refl
somewhere Opening n = refl
somewhere Column n = refl
somewhere ColumnGap n = refl
somewhere Closed n = refl
somewhere Nowhere n = absurd (n refl)

-- a test whether a stage is somewhere
pub somewhere_test : (s : Stage) (b : Bool) → (b ≡ true → s ≡ Nowhere → ⊥) → (b ≡ false → s ≡ Nowhere) → b ≡ not (is_nowhere s)
unfolding is_nowhere
somewhere_test s true y n = ap not (somewhere s (y refl))
somewhere_test s false y n = sym (ap (λ (g : Stage). not (is_nowhere g)) (n refl))

-- nowhere itself
pub nowhere : (s : Stage) → s ≡ Nowhere → is_nowhere s ≡ true
unfolding is_nowhere
nowhere s e = ap is_nowhere e

-- a register's name is unknown where its number is not one of those that are known
pub unknown : (which known at letters : ℕ) → not (ltb which known) ≡ is_unknown (role Asked) (Name at letters) which known
unfolding is_unknown is_unknown_name role
unknown which known at letters = refl

-- a register is named at no other stage
pub not_unknown : (which known at letters : ℕ) (s : Stage) → (s ≡ Asked → ⊥)
    → false ≡ is_unknown (role s) (Name at letters) which known
unfolding is_unknown is_unknown_name role
not_unknown which known at letters Given n = refl
not_unknown which known at letters Equals n = refl
not_unknown which known at letters Value n = refl
not_unknown which known at letters GivenGap n = refl
not_unknown which known at letters ColonGap n = refl
not_unknown which known at letters Asked n = absurd (n refl)
not_unknown which known at letters Opening n = refl
not_unknown which known at letters Column n = refl
not_unknown which known at letters ColumnGap n = refl
not_unknown which known at letters Closed n = refl
not_unknown which known at letters Nowhere n = refl

-- no name has a limit at another stage
pub not_over : (letters which look_ups : ℕ) (s : Stage) → (s ≡ Given → ⊥) → (s ≡ Asked → ⊥) → (s ≡ Column → ⊥)
    → false ≡ is_name_over (role s) letters which look_ups
unfolding is_name_over role
not_over letters which look_ups Given n1 n2 n3 = absurd (n1 refl)
not_over letters which look_ups Equals n1 n2 n3 = refl
not_over letters which look_ups Value n1 n2 n3 = refl
not_over letters which look_ups GivenGap n1 n2 n3 = refl
not_over letters which look_ups ColonGap n1 n2 n3 = refl
not_over letters which look_ups Asked n1 n2 n3 = absurd (n2 refl)
not_over letters which look_ups Opening n1 n2 n3 = refl
not_over letters which look_ups Column n1 n2 n3 = absurd (n3 refl)
not_over letters which look_ups ColumnGap n1 n2 n3 = refl
not_over letters which look_ups Closed n1 n2 n3 = refl
not_over letters which look_ups Nowhere n1 n2 n3 = refl

-- a variable's name is given twice where its number is that of one so far
pub again : (which variables at letters : ℕ) → ltb which variables ≡ is_again (role Given) (Name at letters) which variables
unfolding is_again is_again_name role
again which variables at letters = refl

-- a variable is given at no other stage
pub not_again : (which variables at letters : ℕ) (s : Stage)
    → (s ≡ Given → ⊥)
    → false ≡ is_again (role s) (Name at letters) which variables
unfolding is_again is_again_name role
not_again which variables at letters Given n = absurd (n refl)
not_again which variables at letters Equals n = refl
not_again which variables at letters Value n = refl
not_again which variables at letters GivenGap n = refl
not_again which variables at letters ColonGap n = refl
not_again which variables at letters Asked n = refl
not_again which variables at letters Opening n = refl
not_again which variables at letters Column n = refl
not_again which variables at letters ColumnGap n = refl
not_again which variables at letters Closed n = refl
not_again which variables at letters Nowhere n = refl

-- what stands before a test that fails, and before one that holds
and_none : (b : Bool) → false ≡ (b && false)
and_none true = refl
and_none false = refl

and_all : (b : Bool) → b ≡ (b && true)
and_all true = refl
and_all false = refl

-- the number 0 is one where a number may come
pub nought : (s : Stage) (t : Token) → t ≡ Number 0 → not (is_nowhere (turn s).number) ≡ is_nought s t
unfolding is_nought
nought s t e = and_all (not (is_nowhere (turn s).number)) ∙ sym (ap (is_nought s) e)

-- only the number 0 is a given 0
pub not_nought : (s : Stage) (t : Token) → (t ≡ Number 0 → ⊥) → false ≡ is_nought s t
unfolding is_nought
not_nought s (Name at letters) n = refl
not_nought s (Number x) n =
    let some : eqb x 0 ≡ false = ne_eqb x 0 (λ e. n (ap Number e)) in
    rw some (and_none (not (is_nowhere (turn s).number)))
not_nought s (Mark b) n = refl
not_nought s Other n = refl
not_nought s End n = refl

-- all else is no other byte
pub not_other : (t : Token) → (t ≡ Other → ⊥) → false ≡ is_other t
unfolding is_other
not_other (Name at letters) n = refl
not_other (Number x) n = refl
not_other (Mark b) n = refl
not_other Other n = absurd (n refl)
not_other End n = refl

-- only a name is an unknown register
pub no_register : (r : Role) (which known : ℕ) (t : Token) → ((at letters : ℕ) → t ≡ Name at letters → ⊥)
    → false ≡ is_unknown r t which known
unfolding is_unknown
no_register r which known (Name at letters) n = absurd (n at letters refl)
no_register r which known (Number x) n = refl
no_register r which known (Mark b) n = refl
no_register r which known Other n = refl
no_register r which known End n = refl

-- only the closing bracket closes
pub no_bracket : (columns needed : ℕ) (t : Token) → (t ≡ Mark closing → ⊥) → false ≡ is_miscounted t columns needed
unfolding is_miscounted
no_bracket columns needed (Name at letters) n = refl
no_bracket columns needed (Number x) n = refl
no_bracket columns needed (Mark b) n =
    let other : eqb b closing ≡ false = ne_eqb b closing (λ e. n (ap Mark e)) in
    sym (ap (λ (k : Bool). k && not (eqb columns needed)) other)
no_bracket columns needed Other n = refl
no_bracket columns needed End n = refl

-- marks, other bytes and the end have no limit
pub no_limit : (r : Role) (which look_ups : ℕ) (t : Token) → ((at letters : ℕ) → t ≡ Name at letters → ⊥)
    → ((x : ℕ) → t ≡ Number x → ⊥)
    → false ≡ is_over r t which look_ups
unfolding is_over
no_limit r which look_ups (Name at letters) n1 n2 = absurd (n1 at letters refl)
no_limit r which look_ups (Number x) n1 n2 = absurd (n2 x refl)
no_limit r which look_ups (Mark b) n1 n2 = refl
no_limit r which look_ups Other n1 n2 = refl
no_limit r which look_ups End n1 n2 = refl

-- only a name is given twice
pub no_given : (r : Role) (which variables : ℕ) (t : Token) → ((at letters : ℕ) → t ≡ Name at letters → ⊥)
    → false ≡ is_again r t which variables
unfolding is_again
no_given r which variables (Name at letters) n = absurd (n at letters refl)
no_given r which variables (Number x) n = refl
no_given r which variables (Mark b) n = refl
no_given r which variables Other n = refl
no_given r which variables End n = refl

-- a token that is no name has the number 0
pub no_name_token : (known : List (List ℕ)) (line : List ℕ) (r : Role) (names : List (List ℕ)) (t : Token)
    → ((at letters : ℕ) → t ≡ Name at letters → ⊥) → 0 ≡ which_name known line r names t
unfolding which_name
no_name_token known line r names (Name at letters) n = absurd (n at letters refl)
no_name_token known line r names (Number x) n = refl
no_name_token known line r names (Mark b) n = refl
no_name_token known line r names Other n = refl
no_name_token known line r names End n = refl

-- at every stage but one a name is looked for among the variables'
pub of_variables : (known names : List (List ℕ)) (s : Stage)
    → (s ≡ Asked → ⊥) → names ≡ names_for (role s) known names
unfolding names_for role
of_variables known names Given n = refl
of_variables known names Equals n = refl
of_variables known names Value n = refl
of_variables known names GivenGap n = refl
of_variables known names ColonGap n = refl
of_variables known names Asked n = absurd (n refl)
of_variables known names Opening n = refl
of_variables known names Column n = refl
of_variables known names ColumnGap n = refl
of_variables known names Closed n = refl
of_variables known names Nowhere n = refl

-- each refusal has a number
pub number_low : (r : Refusal) → 1 ≤ number_of r
number_low ShortTable = omega arith
number_low EndsEarly = omega arith
number_low BadData = omega arith
number_low NoRoute = omega arith
number_low TooManyRows = omega arith
number_low Uncountable = omega arith
number_low WrongVersion = omega arith
number_low CountOut = omega arith
number_low NotInSheet = omega arith
number_low UnusedVariable = omega arith
number_low BadPadding = omega arith
number_low GivenZero = omega arith
number_low ShortBuffer = omega arith
number_low NoSuchStep = omega arith
number_low NotAsked = omega arith
number_low BadPrice = omega arith
number_low NoToken = omega arith
number_low OutOfPlace = omega arith
number_low UnknownRegister = omega arith
number_low Miscounted = omega arith
number_low OverLimit = omega arith
number_low GivenAgain = omega arith
number_low NotNames = omega arith
number_low NotWhole = omega arith

pub number_some : (r : Refusal) → number_of r ≡ 0 → ⊥
number_some r z = let low = number_low r in omega arith
