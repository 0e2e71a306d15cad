-- What was read is written as the same bytes, and has the form that writing asks for: the readers of the sheet as one
-- chain, each with the items of what it gives.
use mathlib.Core.Path.{◌≡◌, ◌∙◌, ap, ap₂}
use mathlib.Core.Bool.{Bool}
use mathlib.Core.List.{List, [], ◌∷◌, ◌++◌, map, append_assoc}
use Prim.Native.Nat.{ℕ, ◌+◌, ◌*◌, ◌/◌, ◌<◌}
use native.Mathlib.Omega.{arith}
use lib.ListN.{length, get_or}
use Rattle.plan.specs.Reader.{got, marks_at, field, marks, each}
use Rattle.plan.specs.Sheet.{Register, LookUp, Sheet, count_from, version, register, marked, value}
use Rattle.plan.specs.Sheet.{look_up, used, all_used, ending, sheet, read_sheet}
use Rattle.plan.specs.Write.{marks_of, Item, sound, padding, put, count_item, variables_item, header_items}
use Rattle.plan.specs.Write.{register_items, value_item, given_items, look_up_items, unused_items, all_items}
use Rattle.plan.specs.Write.{sheet_items, octets, packed, write_sheet, Formed}
use Rattle.plan.proofs.Rising.{marked_in, marked_rising}
use Rattle.plan.proofs.Readers.{marks-length}
use Rattle.plan.proofs.First.{sheet-ends}
use Rattle.plan.proofs.Octets.{octets-marks}
use Rattle.plan.proofs.Given.{given-marked}
use Rattle.plan.proofs.WriteAgain.{Writes, goes_bind, goes-give, goes-writes, writes-version, writes_count}
use Rattle.plan.proofs.WriteAgain.{writes-value, writes-variables, writes-marks, writes-each, writes-map}
use Rattle.plan.proofs.WriteAgain.{writes-register, writes-look_up, writes-used, writes-ending}

-- lists grouped from the left are those grouped from the right
regroup : (a b c d e f g : List Item)
    → (((((a ++ b) ++ c) ++ d) ++ e) ++ f) ++ g ≡ a ++ (b ++ (c ++ (d ++ (e ++ (f ++ g)))))
regroup a b c d e f g = simp append_assoc

-- the items that were written one after the other are those of the sheet
same_items : (r v n : ℕ) (registers : List Register) (bs : List Bool) (values : List ℕ) (look_ups : List LookUp)
    → length registers ≡ r → length bs ≡ v + 1 → length look_ups ≡ n
    → ((((((sound (marks_of 3 1) ∷ count_item 4 1 12 r ∷ variables_item (v + 1) ∷ count_item 4 1 12 n ∷ [])
    ++ all_items register_items registers) ++ (sound bs ∷ [])) ++ map value_item values)
    ++ all_items (look_up_items (length registers) (v + 1)) look_ups)
    ++ unused_items (v + 1) (used (marked 0 bs) look_ups)) ++ (padding ∷ [])
    ≡ sheet_items
    (record { registers = registers; variables = v + 1; given = marked 0 bs; values = values; look_ups = look_ups })
unfolding sheet_items header_items given_items
same_items r v n registers bs values look_ups a b c =
    rw (← a, ← c, given-marked (v + 1) bs b)
    (regroup (header_items (length registers) (v + 1) (length look_ups)) (all_items register_items registers) (sound bs ∷ [])
    (map value_item values) (all_items (look_up_items (length registers) (v + 1)) look_ups)
    (unused_items (v + 1) (used (marked 0 bs) look_ups)) (padding ∷ []))

-- a sheet that was read is written as its bits, and is formed
pub writes-sheet : (bytes : List ℕ) → Writes bytes sheet sheet_items Formed
unfolding sheet
writes-sheet bytes =
    goes-writes bytes sheet sheet_items Formed λ from.
    goes_bind bytes from [] version _ _ _ sheet_items Formed (writes-version bytes) λ x _.
    goes_bind bytes from _ (count_from 4 1 12) _ _ _ sheet_items Formed (writes_count bytes 4 1 12) λ r _.
    goes_bind bytes from _ (field 4) _ _ _ sheet_items Formed (writes-variables bytes) λ v _.
    goes_bind bytes from _ (count_from 4 1 12) _ _ _ sheet_items Formed (writes_count bytes 4 1 12) λ n _.
    goes_bind bytes from _ (each r register) _ _ _ sheet_items Formed
    (writes-each bytes register register_items _ (writes-register bytes) r) λ registers rules.
    goes_bind bytes from _ (marks (v + 1)) _ _ _ sheet_items Formed (writes-marks bytes (v + 1)) λ bs long.
    goes_bind bytes from _ (each (length (marked 0 bs)) value) _ _ _ sheet_items Formed
    (writes-map bytes value value_item _ (writes-value bytes) (length (marked 0 bs))) λ values told.
    goes_bind bytes from _ (each n (look_up registers (v + 1))) _ _ _ sheet_items Formed
    (writes-each bytes (look_up registers (v + 1)) (look_up_items (length registers) (v + 1)) _
    (writes-look_up bytes registers (v + 1)) n) λ look_ups full.
    goes_bind bytes from _ (all_used (used (marked 0 bs) look_ups) (v + 1)) _ _ _ sheet_items Formed
    (writes-used bytes (used (marked 0 bs) look_ups) (v + 1)) λ _ _.
    goes_bind bytes from _ ending _ _ _ sheet_items Formed (writes-ending bytes) λ _ _.
    goes-give bytes from _
    (record { registers = registers; variables = v + 1; given = marked 0 bs; values = values; look_ups = look_ups })
    sheet_items Formed
    (same_items r v n registers bs values look_ups rules.0 long full.0)
    (record {
      marks = rules.1;
      given_rising = marked_rising 0 bs;
      given-low = λ u i. omega (arith, (marked_in 0 bs u i).1);
      values-number = told.0;
      values_low = told.1;
      vars-number = search full.1;
    })

-- a sheet that was read is formed
pub read-formed : (bytes : List ℕ) (s : Sheet) (end : ℕ) → read_sheet bytes ≡ got s end → Formed s
unfolding read_sheet
read-formed bytes s end e = (writes-sheet bytes 0 s end e).1

-- what was read is written as the same bytes
pub read-forth : (bytes : List ℕ) → ((i : ℕ) → get_or bytes i 0 < 256) → (s : Sheet) (end : ℕ)
    → read_sheet bytes ≡ got s end → write_sheet s ≡ put bytes
unfolding read_sheet write_sheet packed
read-forth bytes low s end e =
    let (w, p, h) = (writes-sheet bytes 0 s end e).0 in
    let n : w ≡ 8 * length bytes = omega (arith, sheet-ends bytes 0 s end e) in
    let k : length (marks_at bytes 0 w) / 8 ≡ length bytes = omega (arith, marks-length bytes 0 w) in
    ap packed h
    ∙ ap put (ap₂ (λ (m v : ℕ). octets m (marks_at bytes 0 v)) k n ∙ octets-marks bytes low)
