-- The refusals and their numbers (docs/RULES.md, section 5).
use Rattle.std.specs.Prelude.{◌≡◌, ℕ}
use Rattle.plan.specs.Reader.{Fault, ends_early, wrong_version, count_out, not_in_sheet, unused_variable, bad_padding, given_zero}
use Rattle.plan.specs.declared.Case.{Case}
use Rattle.plan.specs.declared.Case.TheVariants.{Refused}
use Rattle.plan.specs.declared.Refusal.{Refusal}
use Rattle.plan.specs.declared.Refusal.TheVariants.{ShortTable, EndsEarly, BadData, NoRoute, TooManyRows, Uncountable, WrongVersion, CountOut, NotInSheet, UnusedVariable, BadPadding, GivenZero, ShortBuffer, NoSuchStep, NotAsked, BadPrice, NoToken, OutOfPlace, UnknownRegister, Miscounted, OverLimit, GivenAgain, NotNames, NotWhole}

-- the number of a refusal
abbrev pub number_of : Refusal → ℕ
number_of ShortTable = 1
number_of EndsEarly = 2
number_of BadData = 3
number_of NoRoute = 4
number_of TooManyRows = 5
number_of Uncountable = 6
number_of WrongVersion = 7
number_of CountOut = 8
number_of NotInSheet = 9
number_of UnusedVariable = 10
number_of BadPadding = 11
number_of GivenZero = 12
number_of ShortBuffer = 13
number_of NoSuchStep = 15
number_of NotAsked = 16
number_of BadPrice = 17
number_of NoToken = 20
number_of OutOfPlace = 21
number_of UnknownRegister = 22
number_of Miscounted = 23
number_of OverLimit = 24
number_of GivenAgain = 25
number_of NotNames = 31
number_of NotWhole = 32

-- a number is that of the refusal
abbrev pub HasNumber : Refusal → ℕ → Type 0
HasNumber refusal number = number ≡ number_of refusal

-- the refusal of a sheet that has a fault
abbrev pub refusal_of : Fault → Refusal
refusal_of ends_early = EndsEarly
refusal_of wrong_version = WrongVersion
refusal_of count_out = CountOut
refusal_of not_in_sheet = NotInSheet
refusal_of unused_variable = UnusedVariable
refusal_of bad_padding = BadPadding
refusal_of given_zero = GivenZero

-- choosing or taking is refused, with a detail
abbrev pub refused_with : Refusal → ℕ → Case
refused_with refusal detail = Refused (record { refusal = refusal; detail = detail })
