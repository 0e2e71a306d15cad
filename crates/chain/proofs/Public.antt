-- What the contracts of the public functions give. The hypothesis `promised` is the contract's own equation, so each demand
-- holds of every result that the contract allows, and any two results that it allows are equal.
use mathlib.Core.Path.{◌≡◌, refl, sym, ◌∙◌, ap, subst}
use mathlib.Core.Logic.{◌↔◌}
use mathlib.Core.List.{List, []}
use Prim.Native.Nat.{ℕ, ◌*◌, ◌≤◌}
use native.Mathlib.Omega.{arith}
use lib.ListN.{length}
use borrow.Author.Tests.{le-leb}
use Rattle.std.specs.Prelude.{Result, Err}
use Rattle.plan.specs.Answer.{Checked, Counted, told, told_check, told_count}
use Rattle.plan.specs.Request.{Request}
use Rattle.plan.specs.Reader.{Fault, fault_number, got}
use Rattle.plan.specs.Sheet.{Sheet, read_sheet}
use Rattle.plan.specs.Answer.{refusal, Whole, whole_at, charging, full, whole, route_check, count_of}
use Rattle.plan.specs.Refusals.{number_of, refusal_of}
use Rattle.plan.specs.declared.Setting.{Setting}
use Rattle.plan.specs.declared.Refusal.{Refusal}
use Rattle.plan.specs.declared.Refused.{Refused}
use Rattle.plan.specs.declared.Answered.{Answered}
use Rattle.plan.specs.Route.{Pick, dearest_from}
use Rattle.plan.specs.Grow.{charge_of}
use Rattle.plan.specs.Demands.{size, RouteOf, Means, NotKnown, Long, Priced, Ready, Demand1, Demand2, Demand3, ByCalls, FirstFault, Merges, DemandCheck}
use Rattle.plan.specs.Demands.{CountsDifferent, Meets}
use Rattle.plan.specs.Write.{put, write_sheet}
use Rattle.plan.specs.Typed.{asks, faulty, read_typed, whole_asked, whole_typed, check_typed}
use Rattle.plan.proofs.Refusals.{number_of-fault, told_own, told_check_own, told_count_own}
use Rattle.plan.proofs.First.{first_fault}
use Rattle.plan.proofs.Demands.{means, ready-sound, ready-not-known, demand_1, demand_2, demand_3, reported, by_calls, whole_meets}
use Rattle.plan.proofs.Counts.{demand_2_count}
use Rattle.lines.proofs.TypedSheet.{typed_same, typed_answers}
use Rattle.plan.proofs.Check.{ready_four, ready-detail, merges, demand_check}
use Rattle.sheet.specs.Fields.{sheet_read}
use Rattle.sheet.proofs.Shown.{sheet-refused}

-- the number of a fault is that of its refusal
numbered : (fault : Fault) (r : Refusal) → r ≡ refusal_of fault → fault_number fault ≡ number_of r
numbered fault r is = sym (ap number_of is ∙ number_of-fault fault)

-- ---- the whole answer

-- at the setting of the contract of `answer_charged`, and at `full` for `answer`, by `answer_promised` below
module _ (tool : Setting) (sheet words first second : List ℕ) (back : Whole)
    (promised : back ≡ whole_at tool sheet words first second) where
  -- demand 1 of what it gives and leaves
  pub answer_demand_1 : Demand1 tool sheet words first second back
  answer_demand_1 = subst (Demand1 tool sheet words first second) (sym promised) (demand_1 tool sheet words first second)

  -- demand 2, where it answers
  pub answer_demand_2 : (q : Request) → Ready tool sheet words first second q → back.answer.number ≡ 0
      → Demand2 tool first second back q
  answer_demand_2 q r z =
      subst
      (λ (w : Whole). Demand2 tool first second w q)
      (sym promised)
      (demand_2 tool sheet words first second q r (sym (ap (λ (w : Whole). w.answer.number) promised) ∙ z))

  -- what both mean by list and calls, whatever it gives
  pub answer-means : (q : Request) → Ready tool sheet words first second q → Means q
  answer-means q r = means q (ready-sound tool sheet words first second q r)

  -- and by 0
  pub answer-not-known : (q : Request) → Ready tool sheet words first second q → NotKnown q
  answer-not-known q r = ready-not-known tool sheet words first second q r

  -- demand 3, where the tables are long enough and the sheet and the data are sound
  pub answer_demand_3 : (q : Request) → Ready tool sheet words first second q → Demand3 tool first second back q
  answer_demand_3 q r =
      subst
      (λ (w : Whole). Demand3 tool first second w q)
      (sym promised)
      (demand_3 tool sheet words first second q r)

  -- the total that it reports is at most n times the charge of the dearest single look-up of any route
  pub answer_reported : (q : Request) → Ready tool sheet words first second q → back.answer.number ≡ 0
      → (p : List Pick) → RouteOf q p → back.answer.charge ≤ size q * dearest_from (charge_of tool q) [] p
  answer_reported q r z p h =
      subst
      (λ (w : Whole). w.answer.charge ≤ size q * dearest_from (charge_of tool q) [] p)
      (sym promised)
      (reported tool sheet words first second q r (sym (ap (λ (w : Whole). w.answer.number) promised) ∙ z) p h)

  -- where a call costs 1 and a row sent nothing it is the tool that counts calls
  pub answer_by_calls : tool.call ≡ 1 → tool.row ≡ 0 → (q : Request) → Ready tool sheet words first second q
      → ByCalls tool first second back q
  answer_by_calls one nought q r =
      subst
      (λ (w : Whole). ByCalls tool first second w q)
      (sym promised)
      (by_calls tool sheet words first second one nought q r)

  -- the route check has 4 where the answer has 4, with the same detail
  pub answer_check : (c : Checked) → c ≡ route_check sheet → (q : Request) → Ready tool sheet words first second q
      → ((c.number ≡ 4) ↔ (back.answer.number ≡ 4)) × (back.answer.number ≡ 4 → c.detail ≡ back.answer.detail)
  answer_check c e q r =
      rw (e, promised) (ready_four sheet tool words first second q r, ready-detail sheet tool words first second q r)

  -- a fault that it tells is the sheet's first
  pub answer-first : Long tool first second → Priced tool → (fault : Fault) (detail : ℕ) → back.answer ≡ refusal (fault_number fault) detail
      → FirstFault read_sheet sheet fault detail
  answer-first long priced fault detail told =
      first_fault sheet fault detail ((answer_demand_1.bad_sheet long priced fault detail).0 told)

  -- and is the fault that reading the sheet gives
  pub answer-reading : Long tool first second → Priced tool → (r : Refused) → Err r ≡ sheet_read (read_sheet sheet)
      → back.answer ≡ refusal (number_of r.refusal) r.detail
  answer-reading long priced r read =
      let (fault, e, is) = sheet-refused sheet r read in
      (answer_demand_1.bad_sheet long priced fault r.detail).1 e ∙ ap (λ n. refusal n r.detail) (numbered fault r.refusal is)

  -- were faults not told apart, it would refuse no other sheets, nor would the route check
  pub answer_merges : (c : Checked) → c ≡ route_check sheet → Merges tool sheet words first second back c
  answer_merges c e = rw (e, promised) (merges sheet tool words first second)

-- equal in all, and so the results are, and each table
results_same : (r r' : Result Answered Refused) (a a' b b' : List ℕ)
    → (let w : Whole = record { answer = told r; first = a; second = b } in w ≡ record { answer = told r'; first = a'; second = b' })
    → (r ≡ r') × (a ≡ a') × (b ≡ b')
results_same r r' a a' b b' e =
    (told_own r r' (ap (λ (x : Whole). x.answer) e), ap (λ (x : Whole). x.first) e, ap (λ (x : Whole). x.second) e)

-- what `answer` promises is what `answer_charged` promises at 1 and 0, the tool's setting, where both are in range
pub answer_promised : (sheet words first second : List ℕ) (back : Whole)
    → (back ≡ whole sheet words first second) ↔ (back ≡ whole_at full sheet words first second)
unfolding whole
answer_promised sheet words first second back = (λ e. e, λ e. e)

pub full-priced : (full ≡ charging 1 0) × Priced full
unfolding full
full-priced = (refl, record { call = omega arith; row = omega arith })

-- any two results of `answer_charged`, and so of `answer`, with every word of both tables afterwards, are equal
pub answer-once : (tool : Setting) (sheet words first second : List ℕ) (r r' : Result Answered Refused) (a a' b b' : List ℕ)
    → (let w : Whole = record { answer = told r; first = a; second = b } in w ≡ whole_at tool sheet words first second)
    → (let w : Whole = record { answer = told r'; first = a'; second = b' } in w ≡ whole_at tool sheet words first second)
    → (r ≡ r') × (a ≡ a') × (b ≡ b')
answer-once tool sheet words first second r r' a a' b b' e e' = results_same r r' a a' b b' (e ∙ sym e')

-- ---- the route check and the count

-- what is asked of the route check holds of what `check_route` gives
pub check_demand : (sheet : List ℕ) (r : Checked) → r ≡ route_check sheet → DemandCheck sheet r
check_demand sheet r promised = subst (DemandCheck sheet) (sym promised) (demand_check sheet)

-- a fault that it tells is the sheet's first
pub check_first : (sheet : List ℕ) (r : Checked) → r ≡ route_check sheet → (fault : Fault) → r.number ≡ fault_number fault
    → FirstFault read_sheet sheet fault r.detail
check_first sheet r promised fault told =
    first_fault sheet fault r.detail (((check_demand sheet r promised).bad_sheet fault r.detail).0 (told, refl))

-- and is the fault that reading the sheet gives
pub check_reading : (sheet : List ℕ) (c : Checked) → c ≡ route_check sheet → (r : Refused) → Err r ≡ sheet_read (read_sheet sheet)
    → c ≡ record { number = number_of r.refusal; detail = r.detail }
check_reading sheet c promised r read =
    let (fault, e, is) = sheet-refused sheet r read in
    let (number, detail) = ((check_demand sheet c promised).bad_sheet fault r.detail).1 e in
    λ i. record { number = (number ∙ numbered fault r.refusal is) i; detail = detail i }

-- and demand 2 of the machine count of what `count` gives
pub count_demand : (table : List ℕ) (rows variable : ℕ) (r : Counted) → r ≡ count_of table rows variable
    → CountsDifferent table rows variable r
count_demand table rows variable r promised =
    subst (CountsDifferent table rows variable) (sym promised) (demand_2_count table rows variable)

-- a fault that `read_sheet` gives is the sheet's first
pub read_first : (sheet : List ℕ) (r : Refused) → Err r ≡ sheet_read (read_sheet sheet) → (fault : Fault)
    → number_of r.refusal ≡ fault_number fault → FirstFault read_sheet sheet fault r.detail
read_first sheet r read fault told =
    let c : Checked = record { number = number_of r.refusal; detail = r.detail } in
    check_first sheet c (sym (check_reading sheet (route_check sheet) refl r read)) fault told

-- any two results that an equation allows are equal: `read_sheet`, `check_route` and `count`
pub result-once : {A : Type 0} (r r' stated : A) → r ≡ stated → r' ≡ stated → r ≡ r'
result-once r r' stated e e' = e ∙ sym e'

pub check-once : (r r' : Result (Unit {0}) Refused) (stated : Checked) → told_check r ≡ stated → told_check r' ≡ stated → r ≡ r'
check-once r r' stated e e' = told_check_own r r' (e ∙ sym e')

pub count-once : (r r' : Result ℕ Refusal) (stated : Counted) → told_count r ≡ stated → told_count r' ≡ stated → r ≡ r'
count-once r r' stated e e' = told_count_own r r' (e ∙ sym e')

-- ---- typed requests

-- what is asked of all that comes back: demands 1 and 2, with what they mean by list, calls, rows sent and 0, and demand 3,
-- over charges and over calls
abbrev Demands : List ℕ → List ℕ → List ℕ → List ℕ → Whole → Type 0
Demands bytes words first second back =
    Meets full bytes words first second back
    × ((q : Request) → Ready full bytes words first second q → Demand3 full first second back q)
    × ((q : Request) → Ready full bytes words first second q → ByCalls full first second back q)

-- the bytes are those of the sheet that is written for a request, and they read as it
abbrev Written : Sheet → List ℕ → Type 0
Written s bytes = (write_sheet s ≡ put bytes) × (read_sheet bytes ≡ got s (8 * length bytes))

module _ (sheet names line words first second : List ℕ) (back : Whole)
    (promised : back ≡ whole_typed sheet names line words first second) where
  -- what `answer_typed` gives and leaves for a request that is read is what `answer` gives and leaves for its sheet
  pub typed_promised : (s : Sheet) → read_typed sheet names line ≡ asks s
      → (bytes : List ℕ) × Written s bytes × (back ≡ whole bytes words first second)
  typed_promised s e =
      let (bytes, w, read) = typed_same sheet names line s e in
      (bytes, (w, read), promised ∙ (typed_answers sheet names line s bytes e w words first second).0)

  -- so it meets all demands
  pub typed_meets : (s : Sheet) → read_typed sheet names line ≡ asks s
      → (bytes : List ℕ) × Written s bytes × Demands bytes words first second back
  unfolding whole full
  typed_meets s e =
      let (bytes, written, same) = typed_promised s e in (
        bytes,
        written,
        (
          subst (Meets full bytes words first second) (sym same) (whole_meets full bytes words first second),
          answer_demand_3 full bytes words first second back same,
          answer_by_calls full bytes words first second back same refl refl,
        ),
      )

  -- of one that is not, it tells the number and the detail, and leaves both tables
  pub typed_told : Long full first second → (number detail : ℕ) → read_typed sheet names line ≡ faulty number detail
      → back ≡ record { answer = refusal number detail; first = first; second = second }
  unfolding whole_typed whole_asked
  typed_told long number detail e =
      promised
      ∙ rw (le-leb _ _ long.one, le-leb _ _ long.two, whole_typed)
      (ap (λ x. whole_asked full x words first second) e)

-- any two results of `answer_typed`, with every word of both tables afterwards, are equal
pub typed_once : (sheet names line words first second : List ℕ) (r r' : Result Answered Refused) (a a' b b' : List ℕ)
    → (let w : Whole = record { answer = told r; first = a; second = b } in w ≡ whole_typed sheet names line words first second)
    → (let w : Whole = record { answer = told r'; first = a'; second = b' } in w ≡ whole_typed sheet names line words first second)
    → (r ≡ r') × (a ≡ a') × (b ≡ b')
typed_once sheet names line words first second r r' a a' b b' e e' = results_same r r' a a' b b' (e ∙ sym e')

-- what is asked of the route check holds of what `check_typed` gives for a request that is read
pub check_typed_demand : (sheet names line : List ℕ) (c : Checked) → c ≡ check_typed sheet names line → (s : Sheet)
    → read_typed sheet names line ≡ asks s → (bytes : List ℕ) × Written s bytes × DemandCheck bytes c
check_typed_demand sheet names line c promised s e =
    let (bytes, w, read) = typed_same sheet names line s e in
    (bytes, (w, read), check_demand bytes c (promised ∙ (typed_answers sheet names line s bytes e w [] [] []).1))
