-- What starting gives, by what the route check gives.
use mathlib.Core.Path.{◌≡◌, refl, sym, ◌∙◌, ap, ap₂}
use mathlib.Core.List.{List}
use Prim.Native.Nat.{ℕ, zero, suc, ◌≤◌}
use native.Mathlib.Omega.{arith}
use lib.ListN.{length}
use Rattle.std.specs.Prelude.{Result, Ok, Err}
use Rattle.std.specs.Result.{IsErrAnd}
use Rattle.std.proofs.lemmas.Result.{err_from_is_err_and}
use Rattle.plan.specs.Reader.{Read, got, bad}
use Rattle.plan.specs.Sheet.{Sheet, read_sheet}
use Rattle.plan.specs.Refusals.{number_of}
use Rattle.plan.specs.Answer.{Checked, Counted, route_check}
use Rattle.plan.specs.Apart.{Started, no_state, start_of, started, told_start}
use Rattle.plan.specs.declared.Refusal.{Refusal}
use Rattle.plan.specs.declared.Refused.{Refused}
use Rattle.plan.specs.declared.State.{State}
use Rattle.plan.proofs.Check.{check_bad}
use Rattle.plan.proofs.Faults.{number_positive}
use Rattle.plan.proofs.First.{sheet-bytes}
use Rattle.plan.proofs.Refusals.{told_count_own}

-- no refusal has number 0
refusal-number : (r : Refusal) → number_of r ≡ 0 → ⊥
refusal-number r e =
    let same = told_count_own (Err r) (Ok 0) (ap {B = Counted} (λ (n : ℕ). record { number = n; values = 0 }) e) in
    let z : ◌≡◌ {A = ℕ} 0 1 = ap (λ (x : Result ℕ Refusal). elim x [ Ok v ↦ 1 | Err w ↦ 0 ]) same in
    omega arith

module _ (sheet : List ℕ) where
  -- a refusal of the route check
  refused-is : (k : ℕ) → (route_check sheet).number ≡ suc k
      → started sheet ≡ record { number = suc k; detail = (route_check sheet).detail; state = no_state }
  unfolding started
  refused-is k e = rw (e, started)

  start-told : (r : Refused) → record { number = number_of r.refusal; detail = r.detail } ≡ route_check sheet
      → told_start (Err r) ≡ started sheet
  start-told r is = by (number_of r.refusal) refl
    where
      by : (m : ℕ) → number_of r.refusal ≡ m → told_start (Err r) ≡ started sheet
      by zero e = absurd (refusal-number r.refusal e)
      by (suc k) e =
          ap₂ {C = Started} (λ (x y : ℕ). record { number = x; detail = y; state = no_state }) e (ap (λ (x : Checked). x.detail) is)
          ∙ sym (refused-is k (sym (ap (λ (x : Checked). x.number) is) ∙ e))

  pub start-refused : (r : Refused) (s : Result State Refused) → IsErrAnd s (λ d. d ≡ r)
      → record { number = number_of r.refusal; detail = r.detail } ≡ route_check sheet → told_start s ≡ started sheet
  start-refused r s h is = let p = err_from_is_err_and s h in rw (p.1, p.2) (start-told r is)

  module _ (is : record { number = 0; detail = 0 } ≡ route_check sheet) where
    number : (route_check sheet).number ≡ 0
    number = sym (ap (λ (x : Checked). x.number) is)

    -- a sheet that is not refused has at most 193 bytes
    pub start-room : length sheet ≤ 193
    start-room = by (read_sheet sheet) refl
      where
        by : (r : Read Sheet) → read_sheet sheet ≡ r → length sheet ≤ 193
        by (got s end) e = sheet-bytes sheet s end e
        by (bad fault detail) e =
            absurd (let x : ⊥ = omega (arith, ap (λ (y : Checked). y.number) (check_bad sheet fault detail e), number, number_positive fault) in x)

    found-is : started sheet ≡ record { number = 0; detail = 0; state = start_of sheet }
    unfolding started
    found-is = rw (number, started)

    pub start-found : (st : State) → st ≡ start_of sheet → told_start (Ok st) ≡ started sheet
    start-found st g = ap {B = Started} (λ (x : State). record { number = 0; detail = 0; state = x }) g ∙ sym found-is
