-- What is promised of fields that are written. By what is claimed of writing any sheet, and the laws of the sheet that
-- fields say.
use mathlib.Core.Path.{◌≡◌, ◌∙◌, ap}
use mathlib.Core.List.{List}
use Prim.Native.Nat.{ℕ, ◌*◌, ◌<◌}
use lib.ListN.{length, get_or}
use Rattle.std.specs.Prelude.{Ok}
use Rattle.plan.specs.Lists.{In}
use Rattle.plan.specs.Reader.{got}
use Rattle.plan.specs.Sheet.{Sheet, read_sheet}
use Rattle.plan.specs.Write.{put, write_sheet, Formed}
use Rattle.plan.proofs.NotKnown.{read_told}
use Rattle.plan.proofs.Broken.{inverse}
use Rattle.sheet.specs.declared.Fields.{Fields}
use Rattle.sheet.specs.Fields.{fields_of, sheet_read}
use Rattle.sheet.specs.Answers.{read_as}
use Rattle.sheet.specs.Fine.{Fine}
use Rattle.sheet.proofs.Fine.{read-fine}
use Rattle.write.specs.Said.{sheet_said}
use Rattle.write.specs.Promise.{Words, Promise}
use Rattle.write.proofs.SaidLaws.{said-formed, sheet-said}
use Rattle.write.proofs.Kept.{fields_kept, fields_bare}
use Rattle.write.proofs.Sounds.{fine-sounds}
use Rattle.write.proofs.Alike.{written-alike}

-- what was written is a fine sheet whose given values are not 0
written-fine : (s : Sheet) → Formed s → (bytes : List ℕ) → write_sheet s ≡ put bytes
    → Fine s × ((x : ℕ) → In x s.values → x ≡ 0 → ⊥)
written-fine s formed bytes e =
    let read = inverse.back s formed bytes e in
    (read-fine bytes s (8 * length bytes) read, (read_told bytes s (8 * length bytes) read).not_zero)

-- what was written is read, with no fault
read_again : (f : Fields) → Words f → (bytes : List ℕ) → write_sheet (sheet_said f) ≡ put bytes
    → sheet_read (read_sheet bytes) ≡ Ok (record { value = fields_of (sheet_said f); next = 8 * length bytes })
unfolding read_as
read_again f words bytes e = ap sheet_read (inverse.back (sheet_said f) (said-formed f words) bytes e)

-- what was read is written as the same bytes
written_same : (bytes : List ℕ) → ((i : ℕ) → get_or bytes i 0 < 256) → (s : Sheet) (end : ℕ)
    → read_sheet bytes ≡ got s end → write_sheet (sheet_said (fields_of s)) ≡ put bytes
written_same bytes low s end e =
    ap write_sheet (sheet-said s (read-fine bytes s end e)) ∙ inverse.forth bytes low s end e

-- the promise
pub promise : Promise
promise =
    record {
      formed = said-formed;
      back = read_again;
      kept = λ f words bytes e. fields_kept f (written-fine (sheet_said f) (said-formed f words) bytes e).0;
      bare = λ f words bytes e. fields_bare (sheet_said f) (written-fine (sheet_said f) (said-formed f words) bytes e).0;
      same = written_same;
      sound = λ s formed. (
        λ (x : Fine s × ((x : ℕ) → In x s.values → x ≡ 0 → ⊥)). (inverse.sounds s).0 (fine-sounds s x.0 x.1),
        λ (x : (bytes : List ℕ) × (write_sheet s ≡ put bytes)). written-fine s formed x.0 x.1,
      );
      alike = written-alike;
    }
