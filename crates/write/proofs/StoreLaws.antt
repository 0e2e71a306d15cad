-- Laws of the lent buffer: what the whole operation gives and leaves.
use mathlib.Core.Path.{◌≡◌, refl, sym, ◌∙◌, ap}
use mathlib.Core.List.{List, [], ◌++◌}
use Prim.Native.Nat.{ℕ, ◌/◌, ◌≤◌, ◌<◌}
use native.Mathlib.Omega.{arith}
use lib.ListN.{length, replicate, take, drop}
use lib.Seq.{length-take-le}
use borrow.Author.Tests.{le-leb, lt-leb}
use Rattle.std.specs.Prelude.{Result, Ok, Err, IsErrAnd}
use Rattle.plan.specs.Refusals.{number_of}
use Rattle.plan.specs.Sheet.{Sheet}
use Rattle.plan.specs.Write.{put, octets, packed, sheet_items, written, write_sheet, told_writing, stored_in}
use Rattle.plan.specs.declared.Refused.{Refused}
use Rattle.plan.proofs.Octets.{octets-length}
use Rattle.plan.proofs.Refusals.{number_of-fault}
use Rattle.write.specs.declared.bits.Writer.{Writer}
use Rattle.write.specs.Puts.{most_bits, Holds, Goes, Stops}
use Rattle.write.proofs.OctetLaws.{octets_none, octets-take}

-- ---- the buffer

module _ (buffer bytes : List ℕ) where
  -- bytes that fit stand at the beginning
  pub stored-fits : length bytes ≤ length buffer
      → stored_in buffer (put bytes)
      ≡ record { result = record { number = 0; detail = 0; bytes = length bytes }; buffer = bytes ++ drop (length bytes) buffer }
  unfolding stored_in
  stored-fits h = rw (le-leb (length bytes) (length buffer) h, stored_in)

  -- where they do not fit, nothing is written
  pub stored_short : length buffer < length bytes
      → stored_in buffer (put bytes)
      ≡ record { result = record { number = 13; detail = length bytes; bytes = 0 }; buffer = buffer }
  unfolding stored_in
  stored_short h = rw (lt-leb (length bytes) (length buffer) h, stored_in)

-- ---- the whole operation

-- an array of zeros
abbrev pub blank : Writer
blank = record { sheet = replicate 193 0; at = 0 }

-- it holds no bits
pub blank-holds : Holds [] blank
blank-holds = record { place = refl; held = sym (octets_none 193) }

module _ (s : Sheet) where
  -- a sheet that is refused
  pub whole-refused : {told : Refused} → Stops (written (sheet_items s) 0) told → (r : Result ℕ Refused)
      → IsErrAnd r (λ e. e ≡ told) → (buffer : List ℕ)
      → record { result = told_writing r; buffer = buffer } ≡ stored_in buffer (write_sheet s)
  unfolding write_sheet packed stored_in
  whole-refused {told} p (Ok bytes) h buffer = elim h [ ]
  whole-refused {told} p (Err e) h buffer =
      ap (λ (k : Refused). record { result = told_writing (Err k); buffer = buffer }) h
      ∙ ap (λ k. record { result = record { number = k; detail = told.detail; bytes = 0 }; buffer = buffer })
      (ap number_of p.refusal ∙ number_of-fault p.fault)
      ∙ ap (λ w. stored_in buffer (packed w)) (sym p.is)

  module _ {after : Writer} (p : Goes (written (sheet_items s) 0) blank after) (low : after.at ≤ most_bits) where
    -- its bytes are the first of the array
    whole-bytes : write_sheet s ≡ put (take (after.at / 8) after.sheet)
    unfolding write_sheet packed
    whole-bytes =
        let h = p.grows [] blank-holds in
        let few : after.at / 8 ≤ 193 = omega arith in
        ap packed p.is
        ∙ ap (λ k. put (octets (k / 8) p.more)) (sym h.place)
        ∙ ap put (sym (octets-take (after.at / 8) 193 p.more few) ∙ ap (take (after.at / 8)) (sym h.held))

    -- the array keeps its length
    pub whole_array : length after.sheet ≡ 193
    whole_array = ap length (p.grows [] blank-holds).held ∙ octets-length 193 p.more

    -- as many as are needed
    whole_long : length (take (after.at / 8) after.sheet) ≡ after.at / 8
    whole_long = length-take-le (after.at / 8) after.sheet (omega (arith, whole_array))

    module _ (buffer : List ℕ) where
      -- a buffer that is too short
      pub whole-short : length buffer < after.at / 8
          → record { result = record { number = 13; detail = after.at / 8; bytes = 0 }; buffer = buffer } ≡ stored_in buffer (write_sheet s)
      whole-short h =
          ap (λ (n : ℕ). record { result = record { number = 13; detail = n; bytes = 0 }; buffer = buffer }) (sym whole_long)
          ∙ sym (stored_short buffer (take (after.at / 8) after.sheet) (omega (arith, whole_long)))
          ∙ ap (stored_in buffer) (sym whole-bytes)

      -- one that fits
      pub whole-fits : after.at / 8 ≤ length buffer
          → record {
            result = record { number = 0; detail = 0; bytes = after.at / 8 };
            buffer = take (after.at / 8) after.sheet ++ drop (after.at / 8) buffer;
          }
          ≡ stored_in buffer (write_sheet s)
      whole-fits h =
          ap (λ (k : ℕ). record { result = record { number = 0; detail = 0; bytes = k }; buffer = take (after.at / 8) after.sheet ++ drop k buffer })
          (sym whole_long)
          ∙ sym (stored-fits buffer (take (after.at / 8) after.sheet) (omega (arith, whole_long)))
          ∙ ap (stored_in buffer) (sym whole-bytes)
