-- What the contract of `write_sheet` gives. The hypothesis `promised` is the contract's own equation: what came back with the
-- buffer is what the definitions store.
use mathlib.Core.Path.{◌≡◌, refl, sym, ◌∙◌, ap, subst}
use mathlib.Core.List.{List, ◌++◌}
use Prim.Native.Nat.{ℕ, ◌*◌, ◌≤◌, ◌<◌}
use native.Mathlib.Omega.{arith}
use lib.ListN.{length, take, drop, get_or}
use lib.Dec.{leb}
use lib.Seq.{take_at}
use borrow.Author.Tests.{leb-true, leb-false}
use Rattle.std.specs.Prelude.{Ok}
use Rattle.plan.specs.Reader.{Fault, fault_number, got}
use Rattle.plan.specs.Sheet.{Sheet, read_sheet}
use Rattle.plan.specs.Write.{Written, put, refused, write_sheet, Stored, stored_in}
use Rattle.plan.proofs.Faults.{number_positive}
use Rattle.plan.proofs.Lists.{by_test}
use Rattle.sheet.specs.declared.Fields.{Fields}
use Rattle.sheet.specs.Fields.{fields_of, sheet_read}
use Rattle.write.specs.Said.{sheet_said}
use Rattle.write.specs.Promise.{Words}
use Rattle.write.proofs.Promise.{promise}
use Rattle.write.proofs.StoreLaws.{stored-fits, stored_short}

-- a refusal tells the fault's number
stored-told : (buffer : List ℕ) (fault : Fault) (detail : ℕ) (s : Stored) → s ≡ stored_in buffer (refused fault detail)
    → s.result.number ≡ fault_number fault
unfolding stored_in
stored-told buffer fault detail s e = ap (λ (x : Stored). x.result.number) e

-- what is stored with the number 0 was written: its bytes are the buffer's first
stored-zero : (buffer : List ℕ) (w : Written (List ℕ)) (s : Stored) → s ≡ stored_in buffer w → s.result.number ≡ 0
    → (bytes : List ℕ) × (w ≡ put bytes) × (take s.result.bytes s.buffer ≡ bytes) × (s.result.bytes ≡ length bytes)
stored-zero buffer (put bytes) s e z =
    by_test (leb (length bytes) (length buffer))
    (λ t.
    let whole = e ∙ stored-fits buffer bytes (leb-true (length bytes) (length buffer) t) in (
      bytes,
      refl,
      ap (λ (x : Stored). take x.result.bytes x.buffer) whole ∙ take_at bytes (drop (length bytes) buffer) (length bytes) refl,
      ap (λ (x : Stored). x.result.bytes) whole,
    ))
    (λ f.
    let short = e ∙ stored_short buffer bytes (leb-false (length bytes) (length buffer) f) in
    absurd (let no : ⊥ = omega (arith, z, ap (λ (x : Stored). x.result.number) short) in no))
stored-zero buffer (refused fault detail) s e z =
    absurd (let no : ⊥ = omega (arith, number_positive fault, z, stored-told buffer fault detail s e) in no)

-- reading the bytes that were written gives the fields back
pub write_back : (f : Fields) → Words f → (buffer : List ℕ) (back : Stored) → back ≡ stored_in buffer (write_sheet (sheet_said f))
    → back.result.number ≡ 0
    → sheet_read (read_sheet (take back.result.bytes back.buffer))
    ≡ Ok (record { value = fields_of (sheet_said f); next = 8 * back.result.bytes })
write_back f words buffer back promised z =
    let (bytes, w, first, long) = stored-zero buffer (write_sheet (sheet_said f)) back promised z in
    subst
    (λ (n : ℕ). sheet_read (read_sheet (take back.result.bytes back.buffer))
    ≡ Ok (record { value = fields_of (sheet_said f); next = 8 * n }))
    (sym long) (ap (λ (b : List ℕ). sheet_read (read_sheet b)) first ∙ promise.back f words bytes w)

-- writing the fields that were read gives the same bytes, and what is behind them stays
pub write_again : (bytes : List ℕ) → ((i : ℕ) → get_or bytes i 0 < 256) → (s : Sheet) (end : ℕ) → read_sheet bytes ≡ got s end
    → (buffer : List ℕ) → length bytes ≤ length buffer
    → (back : Stored) → back ≡ stored_in buffer (write_sheet (sheet_said (fields_of s)))
    → back
    ≡ record { result = record { number = 0; detail = 0; bytes = length bytes }; buffer = bytes ++ drop (length bytes) buffer }
write_again bytes small s end read buffer fits back promised =
    promised ∙ ap (stored_in buffer) (promise.same bytes small s end read) ∙ stored-fits buffer bytes fits
