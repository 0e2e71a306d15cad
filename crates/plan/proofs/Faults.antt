-- The faults of a sheet: their numbers are all different and their own, and where they are not told apart each is refusal 2.
use mathlib.Core.Path.{◌≡◌, refl, sym, ◌∙◌, ap}
use mathlib.Core.Bool.{true, false}
use mathlib.Core.List.{List}
use Prim.Native.Nat.{ℕ, zero, suc, ◌≤◌}
use native.Mathlib.Omega.{arith}
use lib.Dec.{eqb}
use borrow.Author.Tests.{eqb-false}
use Rattle.plan.specs.Lists.{has}
use Rattle.plan.specs.Reader.{Fault, ends_early, wrong_version, count_out, not_in_sheet, unused_variable, bad_padding, given_zero}
use Rattle.plan.specs.Reader.{fault_number}
use Rattle.plan.specs.declared.Setting.{Setting}
use Rattle.plan.specs.Answer.{no_route, too_many, answered, Found, short_table, bad_price, bad_sheet, bad_data, came}
use Rattle.plan.specs.Answer.{answered_by, refusal, Whole, whole_of, checked_of}
use Rattle.plan.specs.Demands.{other_numbers, FaultNumbers, is_fault, merged, merged_of, merged_check}
use Rattle.plan.proofs.Lists.{has-not, eqb_faithful}

-- the fault that has this number
fault_with : ℕ → Fault
fault_with number =
    elim (eqb number 2) [
      | true ↦ ends_early
      | false ↦ elim (eqb number 7) [
        | true ↦ wrong_version
        | false ↦ elim (eqb number 8) [
          | true ↦ count_out
          | false ↦ elim (eqb number 9) [
            | true ↦ not_in_sheet
            | false ↦ elim (eqb number 10) [
              | true ↦ unused_variable
              | false ↦ elim (eqb number 11) [ true ↦ bad_padding | false ↦ given_zero ]
            ]
          ]
        ]
      ]
    ]

with_number : (f : Fault) → fault_with (fault_number f) ≡ f
unfolding fault_with fault_number
with_number ends_early = refl
with_number wrong_version = refl
with_number count_out = refl
with_number not_in_sheet = refl
with_number unused_variable = refl
with_number bad_padding = refl
with_number given_zero = refl

-- a fault is known by its number
pub number_differs : (f g : Fault) → fault_number f ≡ fault_number g → f ≡ g
number_differs f g e = sym (with_number f) ∙ ap fault_with e ∙ with_number g

-- faults with different numbers are different
pub apart : (f g : Fault) → eqb (fault_number f) (fault_number g) ≡ false → f ≡ g → ⊥
apart f g n e = eqb-false (fault_number f) (fault_number g) n (ap fault_number e)

-- no other refusal has it
own-number : (f : Fault) → has eqb (fault_number f) other_numbers ≡ false
unfolding has fault_number
own-number ends_early = refl
own-number wrong_version = refl
own-number count_out = refl
own-number not_in_sheet = refl
own-number unused_variable = refl
own-number bad_padding = refl
own-number given_zero = refl

pub fault_numbers : FaultNumbers
fault_numbers = record { differ = number_differs; own = λ f. has-not eqb eqb_faithful (fault_number f) _ (own-number f) }

-- it is no answer's
pub number_positive : (f : Fault) → 1 ≤ fault_number f
unfolding fault_number
number_positive ends_early = omega arith
number_positive wrong_version = omega arith
number_positive count_out = omega arith
number_positive not_in_sheet = omega arith
number_positive unused_variable = omega arith
number_positive bad_padding = omega arith
number_positive given_zero = omega arith

-- ---- faults that are not told apart

is_fault_lem : (f : Fault) → is_fault (fault_number f) ≡ true
unfolding is_fault has fault_number
is_fault_lem ends_early = refl
is_fault_lem wrong_version = refl
is_fault_lem count_out = refl
is_fault_lem not_in_sheet = refl
is_fault_lem unused_variable = refl
is_fault_lem bad_padding = refl
is_fault_lem given_zero = refl

bad-merged : (fault : Fault) (detail : ℕ) → merged (refusal (fault_number fault) detail) ≡ refusal 2 0
unfolding merged refusal
bad-merged fault detail = rw (is_fault_lem fault, merged)

-- all that comes back is refusal 2 for a bad sheet, and else the same
pub merged_of_lem : (tool : Setting) (f : Found) (first second : List ℕ)
    → ◌≡◌ {A = Whole}
    (record {
      answer = merged (whole_of tool f first second).answer;
      first = (whole_of tool f first second).first;
      second = (whole_of tool f first second).second;
    })
    (merged_of tool f first second)
unfolding whole_of merged_of merged is_fault has fault_number refusal answered_by
merged_of_lem tool short_table first second = refl
merged_of_lem tool bad_price first second = refl
merged_of_lem tool (bad_sheet fault detail) first second =
    λ t. record { answer = bad-merged fault detail t; first = first; second = second }
merged_of_lem tool bad_data first second = refl
merged_of_lem tool (came q (no_route bits)) first second = refl
merged_of_lem tool (came q (too_many k)) first second = refl
merged_of_lem tool (came q (answered p)) first second = refl

-- the route check is 2 for a bad sheet
pub check_merged : (fault : Fault) (detail : ℕ)
    → merged_check (record { number = fault_number fault; detail = detail }) ≡ record { number = 2; detail = 0 }
unfolding merged_check
check_merged fault detail = rw (is_fault_lem fault, merged_check)

-- and else the same
pub check_kept : (m : ℕ) → merged_check (checked_of m) ≡ checked_of m
unfolding merged_check checked_of is_fault has fault_number
check_kept zero = refl
check_kept (suc m) = refl
