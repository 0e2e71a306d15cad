-- What `read_typed` gives, in terms of the typed request: for those above.
use mathlib.Core.Path.{◌≡◌, refl, sym, ◌∙◌, ap, ap₂, subst}
use mathlib.Core.List.{List, [], ◌∷◌}
use Prim.Native.Nat.{ℕ, zero, suc, ◌*◌, ◌≤◌}
use native.Mathlib.Omega.{arith}
use lib.ListN.{length}
use Rattle.std.specs.Prelude.{Result, Ok, Err}
use Rattle.plan.specs.Reader.{Read, got, bad}
use Rattle.plan.specs.Refusals.{refusal_of}
use Rattle.plan.specs.Sheet.{Register, Sheet, read_sheet}
use Rattle.plan.specs.Tokens.{are_names, pieces, cuts}
use Rattle.plan.specs.Typed.{Typed, asks, faulty, first_fit, Stand, beginning, fits_at, stepped, walk, typed_on, read_typed}
use Rattle.plan.specs.declared.Cut.{Cut}
use Rattle.plan.specs.declared.Refused.{Refused}
use Rattle.plan.proofs.Lists.{by_test}
use Rattle.plan.proofs.Refusals.{number_of_own, number_of-fault}
use Rattle.lines.proofs.TypedWalk.{walk_end, walk_on, walk-faulty, typed_named, typed_unnamed}
use Rattle.lines.proofs.TypedSheet.{typed_same}
use Rattle.sheet.specs.Fields.{sheet_held}
use Rattle.sheet.specs.Fine.{Fine, Small}
use Rattle.sheet.specs.declared.Fields.{Fields}
use Rattle.sheet.proofs.Fine.{read-fine}
use Rattle.sheet.proofs.Held.{sheet-held}
use Rattle.sheet.proofs.Small.{fields_small}
use Rattle.typed.specs.Request.{SheetRead, told_typed, told_read, TypedRead}
use Rattle.typed.proofs.Others.{number_low, number_some}

-- what is told of a result fixes the result
pub told_read-own : (r s : Result Fields Refused) → told_read r ≡ told_read s → r ≡ s
told_read-own (Ok f) (Ok g) e = ap Ok (ap (λ (x : SheetRead). x.fields) e)
told_read-own (Ok f) (Err d) e = absurd (number_some d.refusal (sym (ap (λ (x : SheetRead). x.number) e)))
told_read-own (Err d) (Ok g) e = absurd (number_some d.refusal (ap (λ (x : SheetRead). x.number) e))
told_read-own (Err d) (Err e) same =
    let refusal = number_of_own d.refusal e.refusal (ap (λ (x : SheetRead). x.number) same) in
    let detail = ap (λ (x : SheetRead). x.detail) same in
    λ i. Err (record { refusal = refusal i; detail = detail i })

-- so what is told of the lines does
pub typed_read-own : (t : Typed) (r s : Result Fields Refused) → told_read r ≡ told_typed t → told_read s ≡ told_typed t → r ≡ s
typed_read-own t r s d e = told_read-own r s (d ∙ sym e)

-- ---- what is told, by cases

-- the number of what is faulty; of a request one that is not 0 either
abbrev number_in : Typed → ℕ
number_in (asks s) = 1
number_in (faulty number detail) = number

-- a line that is walked through is faulty with a number that is not 0, if it is
walk_some : (registers : List Register) (known : List (List ℕ)) (line : List ℕ) (p : Stand) (cs : List Cut)
    → 1 ≤ number_in (walk registers known line p cs)
walk_some registers known line p [] = rw (walk_end registers known line p) (omega arith)
walk_some registers known line p (c ∷ cs) =
    by_fit (first_fit (fits_at registers known line p c)) refl
    (walk_some registers known line (stepped registers known line p c) cs)
  where
    by_fit : (n : ℕ) → first_fit (fits_at registers known line p c) ≡ n
        → 1 ≤ number_in (walk registers known line (stepped registers known line p c) cs)
        → 1 ≤ number_in (walk registers known line p (c ∷ cs))
    by_fit zero e more = rw (walk_on registers known line p c cs e) more
    by_fit (suc k) e more = rw (walk-faulty registers known line p c cs k e) (omega arith)

-- so is any line
typed_some : (registers : List Register) (second line : List ℕ) → 1 ≤ number_in (typed_on registers second line)
typed_some registers second line =
    by_test (are_names (length registers) (pieces second))
    (λ t. rw (typed_named registers second line t) (walk_some registers (pieces second) line beginning (cuts line)))
    (λ f. rw (typed_unnamed registers second line f) (omega arith))

read_some : (sheet second line : List ℕ) → 1 ≤ number_in (read_typed sheet second line)
unfolding read_typed
read_some sheet second line = by_read (read_sheet sheet) refl
  where
    by_read : (x : Read Sheet) → read_sheet sheet ≡ x → 1 ≤ number_in (read_typed sheet second line)
    by_read (got s end) e = rw (e, read_typed) (typed_some s.registers second line)
    by_read (bad fault detail) e = rw (e, read_typed) (rw (sym (number_of-fault fault)) (number_low (refusal_of fault)))

-- what is told, by cases
pub typed_cases : (sheet second line : List ℕ) (r : Result Fields Refused)
    → told_read r ≡ told_typed (read_typed sheet second line) → TypedRead (read_typed sheet second line) r
typed_cases sheet second line r = cases (read_typed sheet second line) (read_some sheet second line) r
  where
    cases : (t : Typed) → 1 ≤ number_in t → (r : Result Fields Refused) → told_read r ≡ told_typed t → TypedRead t r
    cases (asks s) some (Ok f) e = (s, refl, ap (λ (x : SheetRead). x.fields) e)
    cases (asks s) some (Err d) e = absurd (number_some d.refusal (ap (λ (x : SheetRead). x.number) e))
    cases (faulty number detail) some (Ok f) e =
        absurd (let none : 0 ≡ number = ap (λ (x : SheetRead). x.number) e in omega arith)
    cases (faulty number detail) some (Err d) e =
        ap₂ faulty (sym (ap (λ (x : SheetRead). x.number) e)) (sym (ap (λ (x : SheetRead). x.detail) e))

-- ---- the fields of any lines

-- a request that is read is that of a fine sheet
pub typed_fine : (sheet second line : List ℕ) (s : Sheet) → read_typed sheet second line ≡ asks s → Fine s
typed_fine sheet second line s e =
    let (bytes, w, h) = typed_same sheet second line s e in read-fine bytes s (8 * length bytes) h

module _ (sheet second line : List ℕ) (f : Fields) (told : told_read (Ok f) ≡ told_typed (read_typed sheet second line)) where
  read : TypedRead (read_typed sheet second line) (Ok f)
  read = typed_cases sheet second line (Ok f) told

  -- the fields are small
  pub typed_small : Small f
  typed_small =
      let (s, e, same) = read in subst Small (sym same) (fields_small s (typed_fine sheet second line s e))

  -- they hold the request
  pub typed_asks : read_typed sheet second line ≡ asks (sheet_held f)
  typed_asks =
      let (s, e, same) = read in
      e ∙ ap asks (sym (ap sheet_held same ∙ sheet-held s (typed_fine sheet second line s e)))
