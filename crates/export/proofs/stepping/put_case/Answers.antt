-- `export::stepping::put_case` meets its contract: in each arm the numbers that are put are those of its case.
use mathlib.Core.Path.{refl, ap}
use mathlib.Core.List.{◌∷◌}
use Rattle.plan.specs.Lists.{padded}
use Rattle.plan.specs.Apart.{case_number, case_detail, case_values}
use Rattle.plan.specs.declared.Step.{Step}
use Rattle.export.specs.Exported.{step_numbers, refused_numbers}
use Rattle.export.specs.Stepping.{case_kind, case_numbers}
use Rattle.export.proofs.SteppingLaws.{case_told}
use Rattle.export.proofs.stepping.put_case.Goals as goal

pub returns-in-Refused : goal.returns-in-Refused
unfolding refused_numbers case_numbers case_number case_detail case_kind case_values padded step_numbers
returns-in-Refused c =
    let p = c.put_refused in
    let a = c.args in
    let all = case_told a.case.now _ a.out.now _ _ _ c.in-Refused.is p.ensures.value p.ensures.out_after refl in
    record { value = all.0; out_after = all.1 }

pub returns-in-Calls : goal.returns-in-Calls
unfolding case_numbers case_number case_detail case_kind case_values padded step_numbers
returns-in-Calls c =
    let p = c.put_values in
    let a = c.args in
    let all = case_told a.case.now _ a.out.now _ _ _ c.in-Calls.is refl p.ensures
    (ap (λ (v : Step). 0 ∷ 0 ∷ 1 ∷ step_numbers v) c.first_three.ensures) in
    record { value = all.0; out_after = all.1 }

pub returns-in-AllTaken : goal.returns-in-AllTaken
unfolding case_numbers case_number case_detail case_kind case_values padded step_numbers
returns-in-AllTaken c =
    let p = c.put_values-in-AllTaken in
    let a = c.args in
    let all = case_told a.case.now _ a.out.now _ _ _ c.in-AllTaken.is refl p.ensures
    (ap (λ (v : Step). 0 ∷ 0 ∷ 2 ∷ step_numbers v) c.first_three-nothing.ensures) in
    record { value = all.0; out_after = all.1 }

pub returns-in-Taken : goal.returns-in-Taken
unfolding case_numbers case_number case_detail case_kind case_values padded step_numbers
returns-in-Taken c =
    let p = c.put_values-in-Taken in
    let a = c.args in
    let all = case_told a.case.now _ a.out.now _ _ _ c.in-Taken.is refl p.ensures refl in
    record { value = all.0; out_after = all.1 }

pub returns-in-Already : goal.returns-in-Already
unfolding case_numbers case_number case_detail case_kind case_values padded step_numbers
returns-in-Already c =
    let p = c.put_values-in-Already in
    let a = c.args in
    let all = case_told a.case.now _ a.out.now _ _ _ c.in-Already.is refl p.ensures
    (ap (λ (v : Step). 0 ∷ 0 ∷ 4 ∷ step_numbers v) c.first_three-nothing.ensures) in
    record { value = all.0; out_after = all.1 }
