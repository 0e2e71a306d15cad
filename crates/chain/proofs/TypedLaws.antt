-- What comes back for a typed request: what was read of it gives what the definitions say, and meets every demand of the
-- sheet that would say it.
use mathlib.Core.Path.{◌≡◌, sym, ◌∙◌, ap}
use mathlib.Core.Bool.{Bool, true, false, ◌&&◌, not}
use mathlib.Core.List.{List}
use Prim.Native.Nat.{ℕ}
use lib.ListN.{length}
use lib.Dec.{leb}
use Rattle.std.specs.Prelude.{Result, Ok, Err, IfOk}
use Rattle.plan.specs.Answer.{refusal, charging, full}
use Rattle.plan.specs.Typed.{read_typed, whole_asked, whole_typed, check_asked, check_typed}
use Rattle.plan.specs.Refusals.{number_of}
use Rattle.plan.specs.declared.Refused.{Refused}
use Rattle.sheet.specs.Fine.{Small}
use Rattle.sheet.specs.declared.Fields.{Fields}
use Rattle.typed.specs.Request.{told_typed, told_read}
use Rattle.typed.proofs.Shown.{typed_cases, typed_small, typed_asks}
use Rattle.chain.specs.Answered.{whole_read, checked_read}
use Rattle.chain.proofs.Whole.{short-test, long-test}

module _ (sheet names line : List ℕ) where
  -- the fields of a request are small
  pub typed_fits : (r : Result Fields Refused) → told_read r ≡ told_typed (read_typed sheet names line) → IfOk r Small
  typed_fits (Ok f) read = typed_small sheet names line f read
  typed_fits (Err e) read = tt

  -- what comes back for what was read is what comes back for the typed request
  pub whole-asked : (r : Result Fields Refused) → told_read r ≡ told_typed (read_typed sheet names line)
      → (words first second : List ℕ)
      → whole_read (charging 1 0) r words first second ≡ whole_asked full (read_typed sheet names line) words first second
  unfolding whole_asked full
  whole-asked (Ok f) read words first second =
      sym (ap (λ x. whole_asked full x words first second) (typed_asks sheet names line f read))
  whole-asked (Err e) read words first second =
      sym (ap (λ x. whole_asked full x words first second) (typed_cases sheet names line (Err e) read))

  -- and so for the route check
  pub check_asked_lem : (r : Result Fields Refused) → told_read r ≡ told_typed (read_typed sheet names line)
      → checked_read r ≡ check_typed sheet names line
  unfolding check_typed check_asked
  check_asked_lem (Ok f) read = sym (ap check_asked (typed_asks sheet names line f read))
  check_asked_lem (Err e) read = sym (ap check_asked (typed_cases sheet names line (Err e) read))

-- what the route check tells of a typed request with a fault is the fault
pub fault_asked : (sheet names line : List ℕ) (r : Result Fields Refused) (fault : Refused)
    → told_read r ≡ told_typed (read_typed sheet names line) → r ≡ Err fault
    → record { number = number_of fault.refusal; detail = fault.detail } ≡ check_typed sheet names line
fault_asked sheet names line r fault read is = ap checked_read (sym is) ∙ check_asked_lem sheet names line r read

module _ (sheet names line words first second : List ℕ) (short : Bool)
    (is : short ≡ not (leb 8192 (length first) && leb 8192 (length second))) where
  -- a short table is told first
  pub typed_short : short ≡ true
      → record { answer = refusal 1 0; first = first; second = second } ≡ whole_typed sheet names line words first second
  unfolding whole_typed
  typed_short t = sym (rw (short-test first second short is t, whole_typed))

  -- with long tables the typed request is read
  pub typed_long : short ≡ false
      → whole_asked full (read_typed sheet names line) words first second ≡ whole_typed sheet names line words first second
  unfolding whole_typed
  typed_long f = sym (rw (long-test first second short is f, whole_typed))

  -- and so is what the answer tells
  pub fault_typed : short ≡ false → (r : Result Fields Refused) (fault : Refused) → told_read r ≡ told_typed (read_typed sheet names line)
      → r ≡ Err fault
      → record { answer = refusal (number_of fault.refusal) fault.detail; first = first; second = second } ≡ whole_typed sheet names line words first second
  fault_typed f r fault read e =
      ap (λ x. whole_read (charging 1 0) x words first second) (sym e)
      ∙ whole-asked sheet names line r read words first second
      ∙ typed_long f
