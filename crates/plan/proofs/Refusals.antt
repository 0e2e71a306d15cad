-- Refusals and their numbers, and that what is told of a function's result fixes the result.
use Rattle.std.specs.Prelude.{◌≡◌, ℕ, List, [], ◌∷◌, get_or, Result, Ok, Err}
use mathlib.Core.Path.{refl, sym, ◌∙◌, ap, ap₂}
use Rattle.plan.specs.Reader.{Fault, fault_number, ends_early, wrong_version, count_out, not_in_sheet, unused_variable, bad_padding, given_zero}
use Rattle.plan.specs.declared.Refusal.{Refusal}
use Rattle.plan.specs.declared.Refusal.TheVariants.{ShortTable, EndsEarly, BadData, NoRoute, TooManyRows, Uncountable, WrongVersion, CountOut, NotInSheet, UnusedVariable, BadPadding, GivenZero, ShortBuffer, NoSuchStep, NotAsked, BadPrice, NoToken, OutOfPlace, UnknownRegister, Miscounted, OverLimit, GivenAgain, NotNames, NotWhole}
use Rattle.plan.specs.declared.Refused.{Refused}
use Rattle.plan.specs.declared.Answered.{Answered}
use Rattle.plan.specs.declared.State.{State}
use Rattle.plan.specs.Answer.{Answer, Checked, Counted, told, told_check, told_count, refusal}
use Rattle.plan.specs.Write.{SheetWritten, told_writing}
use Rattle.plan.specs.Apart.{Started, told_start}
use Rattle.plan.specs.Refusals.{number_of, refusal_of}

-- the refusal of a fault has the fault's number
pub number_of-fault : (f : Fault) → number_of (refusal_of f) ≡ fault_number f
unfolding fault_number
number_of-fault ends_early = refl
number_of-fault wrong_version = refl
number_of-fault count_out = refl
number_of-fault not_in_sheet = refl
number_of-fault unused_variable = refl
number_of-fault bad_padding = refl
number_of-fault given_zero = refl

-- each refusal has a number of its own, and none has 0
refusal_by : ℕ → Refusal
refusal_by n = get_or refusals n ShortTable
  where
    refusals : List Refusal
    refusals = ShortTable ∷ ShortTable ∷ EndsEarly ∷ BadData ∷ NoRoute ∷ TooManyRows ∷ Uncountable ∷ WrongVersion ∷ CountOut ∷ NotInSheet ∷ UnusedVariable ∷ BadPadding ∷ GivenZero ∷ ShortBuffer ∷ ShortTable ∷ NoSuchStep ∷ NotAsked ∷ BadPrice ∷ ShortTable ∷ ShortTable ∷ NoToken ∷ OutOfPlace ∷ UnknownRegister ∷ Miscounted ∷ OverLimit ∷ GivenAgain ∷ ShortTable ∷ ShortTable ∷ ShortTable ∷ ShortTable ∷ ShortTable ∷ NotNames ∷ NotWhole ∷ []

by_number : (r : Refusal) → refusal_by (number_of r) ≡ r
unfolding refusal_by
by_number ShortTable = refl
by_number EndsEarly = refl
by_number BadData = refl
by_number NoRoute = refl
by_number TooManyRows = refl
by_number Uncountable = refl
by_number WrongVersion = refl
by_number CountOut = refl
by_number NotInSheet = refl
by_number UnusedVariable = refl
by_number BadPadding = refl
by_number GivenZero = refl
by_number ShortBuffer = refl
by_number NoSuchStep = refl
by_number NotAsked = refl
by_number BadPrice = refl
by_number NoToken = refl
by_number OutOfPlace = refl
by_number UnknownRegister = refl
by_number Miscounted = refl
by_number OverLimit = refl
by_number GivenAgain = refl
by_number NotNames = refl
by_number NotWhole = refl

pub number_of_own : (r s : Refusal) → number_of r ≡ number_of s → r ≡ s
number_of_own r s e = sym (by_number r) ∙ ap refusal_by e ∙ by_number s

some_number : (r : Refusal) → 0 ≡ number_of r → ⊥
some_number ShortTable e = cc
some_number EndsEarly e = cc
some_number BadData e = cc
some_number NoRoute e = cc
some_number TooManyRows e = cc
some_number Uncountable e = cc
some_number WrongVersion e = cc
some_number CountOut e = cc
some_number NotInSheet e = cc
some_number UnusedVariable e = cc
some_number BadPadding e = cc
some_number GivenZero e = cc
some_number ShortBuffer e = cc
some_number NoSuchStep e = cc
some_number NotAsked e = cc
some_number BadPrice e = cc
some_number NoToken e = cc
some_number OutOfPlace e = cc
some_number UnknownRegister e = cc
some_number Miscounted e = cc
some_number OverLimit e = cc
some_number GivenAgain e = cc
some_number NotNames e = cc
some_number NotWhole e = cc

-- what is told fixes the refusal with its detail
refused_own : (r s : Refused) → number_of r.refusal ≡ number_of s.refusal → r.detail ≡ s.detail → r ≡ s
refused_own r s e d =
    ap₂ {C = Refused} (λ (k : Refusal) (n : ℕ). record { refusal = k; detail = n }) (number_of_own r.refusal s.refusal e) d

-- and the whole result of the answer
pub told_own : (r s : Result Answered Refused) → told r ≡ told s → r ≡ s
unfolding refusal
told_own (Ok a) (Ok b) e =
    ap {B = Result Answered Refused}
    (λ (x : Answer).
    Ok (record { steps = x.steps; made = x.made; calls = x.calls; charge = x.charge; rows = x.rows }))
    e
told_own (Ok a) (Err s) e = absurd (some_number s.refusal (ap (λ (x : Answer). x.number) e))
told_own (Err r) (Ok b) e = absurd (some_number r.refusal (sym (ap (λ (x : Answer). x.number) e)))
told_own (Err r) (Err s) e = ap Err (refused_own r s (ap (λ (x : Answer). x.number) e) (ap (λ (x : Answer). x.detail) e))

-- of the route check, which gives nothing where a route exists
pub told_check_own : (r s : Result (Unit {0}) Refused) → told_check r ≡ told_check s → r ≡ s
told_check_own (Ok a) (Ok b) e = refl
told_check_own (Ok a) (Err s) e = absurd (some_number s.refusal (ap (λ (x : Checked). x.number) e))
told_check_own (Err r) (Ok b) e = absurd (some_number r.refusal (sym (ap (λ (x : Checked). x.number) e)))
told_check_own (Err r) (Err s) e = ap Err (refused_own r s (ap (λ (x : Checked). x.number) e) (ap (λ (x : Checked). x.detail) e))

-- of the count
pub told_count_own : (r s : Result ℕ Refusal) → told_count r ≡ told_count s → r ≡ s
told_count_own (Ok a) (Ok b) e = ap (λ (x : Counted). Ok x.values) e
told_count_own (Ok a) (Err s) e = absurd (some_number s (ap (λ (x : Counted). x.number) e))
told_count_own (Err r) (Ok b) e = absurd (some_number r (sym (ap (λ (x : Counted). x.number) e)))
told_count_own (Err r) (Err s) e = ap Err (number_of_own r s (ap (λ (x : Counted). x.number) e))

-- of writing a sheet
pub told_writing_own : (r s : Result ℕ Refused) → told_writing r ≡ told_writing s → r ≡ s
told_writing_own (Ok a) (Ok b) e = ap (λ (x : SheetWritten). Ok x.bytes) e
told_writing_own (Ok a) (Err s) e = absurd (some_number s.refusal (ap (λ (x : SheetWritten). x.number) e))
told_writing_own (Err r) (Ok b) e = absurd (some_number r.refusal (sym (ap (λ (x : SheetWritten). x.number) e)))
told_writing_own (Err r) (Err s) e =
    ap Err (refused_own r s (ap (λ (x : SheetWritten). x.number) e) (ap (λ (x : SheetWritten). x.detail) e))

-- and of starting a request that is answered step by step
pub told_start_own : (r s : Result State Refused) → told_start r ≡ told_start s → r ≡ s
told_start_own (Ok a) (Ok b) e = ap (λ (x : Started). Ok x.state) e
told_start_own (Ok a) (Err s) e = absurd (some_number s.refusal (ap (λ (x : Started). x.number) e))
told_start_own (Err r) (Ok b) e = absurd (some_number r.refusal (sym (ap (λ (x : Started). x.number) e)))
told_start_own (Err r) (Err s) e = ap Err (refused_own r s (ap (λ (x : Started). x.number) e) (ap (λ (x : Started). x.detail) e))
