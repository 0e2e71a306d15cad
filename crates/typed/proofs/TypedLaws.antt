-- What a typed request is, by the sheet that was read and the second line.
use mathlib.Core.Path.{◌≡◌, sym, ap, ◌∙◌}
use mathlib.Core.Bool.{true, false}
use mathlib.Core.List.{List}
use Prim.Native.Nat.{ℕ, ◌≤◌}
use native.Mathlib.Omega.{arith}
use Rattle.std.specs.Prelude.{Result, Ok, Err, IsErrAnd}
use Rattle.std.proofs.lemmas.Result.{err_from_is_err_and}
use Rattle.plan.specs.Reader.{fault_number, got}
use Rattle.plan.specs.Refusals.{number_of}
use Rattle.plan.specs.Sheet.{Sheet, read_sheet}
use Rattle.plan.specs.Tokens.{pieces, are_names, cuts}
use Rattle.plan.specs.Typed.{faulty, beginning, walk, typed_on, read_typed}
use Rattle.plan.specs.declared.Refused.{Refused}
use Rattle.plan.proofs.Refusals.{number_of-fault}
use Rattle.lines.proofs.TypedWalk.{typed_named, typed_unnamed}
use Rattle.sheet.specs.Fields.{sheet_read, sheet_held}
use Rattle.sheet.specs.declared.Fields.{Fields}
use Rattle.sheet.specs.declared.Got.{Got}
use Rattle.sheet.proofs.Shown.{sheet-got, sheet-refused}
use Rattle.sheet.proofs.Held.{sheet-held}
use Rattle.typed.specs.Request.{told_typed, told_read, OfSheet}
use Rattle.typed.proofs.LineLaws.{held-many, held-few}

-- the bytes of a sheet that was read are a sheet to which a line is typed
asked_of : (sheet second line : List ℕ) (s : Sheet) (end : ℕ) → read_sheet sheet ≡ got s end
    → read_typed sheet second line ≡ typed_on s.registers second line
unfolding read_typed
asked_of sheet second line s end e = rw (e, read_typed)

-- a sheet that is refused: the exit of the `?` gives the refusal that it met
pub typed_unread : (sheet second line : List ℕ) (r : Result Fields Refused) (e : Refused) → IsErrAnd r (λ d. d ≡ e)
    → Err e ≡ sheet_read (read_sheet sheet) → told_read r ≡ told_typed (read_typed sheet second line)
unfolding read_typed
typed_unread sheet second line r e exit err =
    let (fault, is, same) = sheet-refused sheet e err in
    let (d, gives, met) = err_from_is_err_and r exit in
    let number : fault_number fault ≡ number_of e.refusal = sym (ap number_of same ∙ number_of-fault fault) in
    let told : read_typed sheet second line ≡ faulty (number_of e.refusal) e.detail =
    rw (is, read_typed) (ap (λ n. faulty n e.detail) number) in
    ap told_read gives ∙ ap (λ (x : Refused). told_read (Err x)) met ∙ sym (ap told_typed told)

module _ (sheet : List ℕ) (r : Got Fields) (e : Ok r ≡ sheet_read (read_sheet sheet)) where
  -- a sheet that was read has the fields of one
  pub typed_fields : OfSheet r.value
  typed_fields = let (s, is, fields, fine) = sheet-got sheet r e in record { sheet = s; fine = fine; same = fields }

  pub typed_few : r.value.registers ≤ 12
  typed_few = omega (arith, held-many r.value typed_fields, (held-few r.value typed_fields).1)

  module _ (second line : List ℕ) where
    -- the request is to the registers that its fields hold
    typed_held : read_typed sheet second line ≡ typed_on (sheet_held r.value).registers second line
    typed_held =
        let (s, is, fields, fine) = sheet-got sheet r e in
        asked_of sheet second line s r.next is
        ∙ sym (ap (λ (t : Sheet). typed_on t.registers second line) (ap sheet_held fields ∙ sheet-held s fine))

    -- the second line is not one name for each register
    pub typed_nameless : are_names r.value.registers (pieces second) ≡ false → read_typed sheet second line ≡ faulty 31 0
    typed_nameless off =
        let none = ap (λ n. are_names n (pieces second)) (sym (held-many r.value typed_fields)) ∙ off in
        typed_held ∙ typed_unnamed _ second line none

    -- it is, and these are the names
    pub typed_walked : are_names r.value.registers (pieces second) ≡ true → (names : List (List ℕ)) → names ≡ pieces second
        → walk (sheet_held r.value).registers names line beginning (cuts line) ≡ read_typed sheet second line
    typed_walked good names same =
        let on = ap (λ n. are_names n (pieces second)) (sym (held-many r.value typed_fields)) ∙ good in
        ap (λ (ns : List (List ℕ)). walk (sheet_held r.value).registers ns line beginning (cuts line)) same
        ∙ sym (typed_held ∙ typed_named _ second line on)
