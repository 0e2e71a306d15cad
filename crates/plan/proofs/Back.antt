-- What was written is read back: the items of a sheet end with a full byte, and its readers give the sheet back, as one
-- chain of readers.
use mathlib.Core.Path.{◌≡◌, refl, sym, ◌∙◌, ap, ap₂, subst}
use mathlib.Core.Bool.{Bool, false}
use mathlib.Core.List.{List, [], ◌∷◌, ◌++◌, map}
use Prim.Native.Nat.{ℕ, ◌+◌, ◌-◌, ◌*◌, ◌/◌, ◌%◌, ◌≤◌, ◌<◌}
use native.Mathlib.Omega.{arith}
use lib.ListN.{length, get_or, replicate, length-append, length-replicate}
use Rattle.plan.specs.Reader.{got, Reader, marks_at, give, ◌>>=◌, field, marks, each}
use Rattle.plan.specs.Sheet.{Register, Sheet, count_from, version, register, marked, value}
use Rattle.plan.specs.Sheet.{look_up, used, all_used, to_full_byte, ending, sheet, read_sheet}
use Rattle.plan.specs.Write.{marks_of, Item, sound, padding, Written, put, refused, count_item, variables_item}
use Rattle.plan.specs.Write.{header_items, register_items, value_item, given_marks}
use Rattle.plan.specs.Write.{given_items, look_up_items, unused_items, all_items}
use Rattle.plan.specs.Write.{sheet_items, written, octets, packed, write_sheet, Formed}
use Rattle.plan.proofs.Items.{put_refused, written-nil, written-padding, written-parts, behind-put}
use Rattle.plan.proofs.Octets.{octets-length, octets-low, marks-octets}
use Rattle.plan.proofs.Given.{given-length, marked-given}
use Rattle.plan.proofs.ReadBack.{Within, Whole, Reads, reads_bind, reads_then, reads_end, whole, reads-tested}
use Rattle.plan.proofs.ReadBack.{reads-marks, reads_count, count_says_lem, reads-variables, variables-says}
use Rattle.plan.proofs.ReadBack.{reads-each, reads-map, reads-register, reads-value}
use Rattle.plan.proofs.ReadBack.{reads-look_up, reads-used, reads-ending}

-- ---- full bytes

-- where the items are written they end with a full byte
abbrev Full : List Item → Type 0
Full is = (at : ℕ) (bs : List Bool) → written is at ≡ put bs → (at + length bs) % 8 ≡ 0

full-padding : Full (padding ∷ [])
unfolding to_full_byte
full-padding at bs e =
    let w = (8 - at % 8) % 8 in
    let (ds, x, s) = behind-put (replicate w false) (written [] (at + w)) bs (sym (written-padding [] at) ∙ e) in
    let z : ds ≡ [] = let g = written-nil (at + w) in cc in
    let n : length bs ≡ w =
    ap length s ∙ length-append (replicate w false) ds
    ∙ omega (arith, length-replicate w false, ap length z) in
    omega arith

full-behind : (is js : List Item) → Full js → Full (is ++ js)
full-behind is js h at cs e =
    let (bs, ds, x, y, s) = written-parts is js at cs e in
    let n : (at + length bs) + length ds ≡ at + length cs = omega (arith, ap length s, length-append bs ds) in
    ap (λ k. k % 8) (sym n) ∙ h (at + length bs) ds y

sheet-full : (s : Sheet) → Full (sheet_items s)
unfolding sheet_items
sheet-full s =
    full-behind (header_items (length s.registers) s.variables (length s.look_ups)) _
    (full-behind (all_items register_items s.registers) _
    (full-behind (given_items s.variables s.given s.values) _
    (full-behind (all_items (look_up_items (length s.registers) s.variables) s.look_ups) _
    (full-behind (unused_items s.variables (used s.given s.look_ups)) _ full-padding))))

-- ---- the chain

-- what is read behind the given variables' marks
abbrev rest : List Register → ℕ → ℕ → List ℕ → Reader Sheet
rest registers variables n given = do
  values ← each (length given) value
  look_ups ← each n (look_up registers variables)
  _ ← all_used (used given look_ups) variables
  _ ← ending
  give (record { registers = registers; variables = variables; given = given; values = values; look_ups = look_ups })

-- what is read behind the header
abbrev body : ℕ → ℕ → ℕ → Reader Sheet
body r variables n = do
  registers ← each r register
  given ← marks variables
  rest registers variables n (marked 0 given)

-- the items behind the given variables' marks, and those behind the header
abbrev rest_items : Sheet → List Item
rest_items s =
    map value_item s.values
    ++ (all_items (look_up_items (length s.registers) s.variables) s.look_ups
    ++ (unused_items s.variables (used s.given s.look_ups)
    ++ (padding ∷ [])))

abbrev body_items : Sheet → List Item
body_items s = all_items register_items s.registers ++ (sound (given_marks s.variables s.given) ∷ rest_items s)

module _ (s : Sheet) (f : Formed s) (few : length s.registers ≤ 12) (low : s.variables ≤ 16) where
  reads_rest : Reads Whole (rest_items s) (rest s.registers s.variables (length s.look_ups) s.given) s
  reads_rest =
      reads_then Whole whole (map value_item s.values) _ (each (length s.given) value) _ s.values s
      (reads-map value_item value (length s.given) s.values f.values-number
      (λ x i. reads-value x (f.values_low x i)))
      (reads_then Whole whole (all_items (look_up_items (length s.registers) s.variables) s.look_ups) _
      (each (length s.look_ups) (look_up s.registers s.variables)) _ s.look_ups s
      (reads-each _ _ (length s.look_ups) s.look_ups refl
      (λ l i. reads-look_up s.registers s.variables l few low (λ there. search (f.vars-number l i))))
      (reads_then Whole whole (unused_items s.variables (used s.given s.look_ups)) _
      (all_used (used s.given s.look_ups) s.variables) _ tt s
      (reads-used s.variables (used s.given s.look_ups))
      (reads_end Whole (padding ∷ []) ending _ tt reads-ending)))

  reads_body : Reads Whole (body_items s) (body (length s.registers) s.variables (length s.look_ups)) s
  reads_body =
      let variables = s.variables in
      let bs = given_marks variables s.given in
      reads_then Whole whole (all_items register_items s.registers) _ (each (length s.registers) register) _
      s.registers s
      (reads-each register_items register (length s.registers) s.registers refl
      (λ r i. reads-register r (f.marks r i)))
      (reads_then Whole whole (sound bs ∷ []) _ (marks variables) _ bs s
      (subst (λ n. Reads Within (sound bs ∷ []) (marks n) bs) (given-length variables s.given) (reads-marks bs))
      (subst (λ given. Reads Whole (rest_items s) (rest s.registers variables (length s.look_ups) given) s)
      (sym (marked-given variables s.given f.given_rising f.given-low))
      reads_rest))

-- the items of a sheet are read as that sheet
pub reads-sheet : (s : Sheet) → Formed s → Reads Whole (sheet_items s) sheet s
unfolding sheet version sheet_items header_items given_items
reads-sheet s f =
    let r = length s.registers in
    let v = s.variables in
    let n = length s.look_ups in
    reads_then Whole whole (sound (marks_of 3 1) ∷ []) _ version _ 1 s (reads-tested 3 _ _ 1 (omega arith) refl)
    (reads_bind Whole whole (count_item 4 1 12 r ∷ []) _ (count_from 4 1 12) _ r s ((1 ≤ r) × (r ≤ 12))
    (count_says_lem 4 1 12 r) (reads_count 4 1 12 r (omega arith)) λ few.
    reads_bind Whole whole (variables_item v ∷ []) _ (field 4) _ (v - 1) s ((1 ≤ v) × (v ≤ 16)) (variables-says v)
    (reads-variables v) λ low.
    reads_then Whole whole (count_item 4 1 12 n ∷ []) _ (count_from 4 1 12) _ n s (reads_count 4 1 12 n (omega arith))
    (subst (λ k. Reads Whole (body_items s) (body r k n) s) (let e : v ≡ (v - 1) + 1 = omega (arith, low.0) in e)
    (reads_body s f few.1 low.1)))

-- ---- what was written

-- where a sheet is written, its bits are, and they make the bytes
pub written-bits : (s : Sheet) (bytes : List ℕ) → write_sheet s ≡ put bytes
    → (bits : List Bool) × (written (sheet_items s) 0 ≡ put bits) × (length bits ≡ 8 * length bytes)
    × (bytes ≡ octets (length bytes) bits)
unfolding write_sheet packed
written-bits s bytes e = go (written (sheet_items s) 0) refl
  where
    go : (w : Written (List Bool)) → written (sheet_items s) 0 ≡ w
        → (bits : List Bool) × (written (sheet_items s) 0 ≡ put bits) × (length bits ≡ 8 * length bytes)
        × (bytes ≡ octets (length bytes) bits)
    go (put bits) h =
        let n = length bits / 8 in
        let b : bytes ≡ octets n bits = let g = ap packed h in cc in
        let l : length bytes ≡ n = ap length b ∙ octets-length n bits in
        (bits, h, omega (arith, sheet-full s 0 bits h), b ∙ ap (λ k. octets k bits) (sym l))
    go (refused fault detail) h = put_refused (let g = ap packed h in sym e ∙ g)

-- what was written is read back
pub read_back : (s : Sheet) → Formed s → (bytes : List ℕ) → write_sheet s ≡ put bytes
    → read_sheet bytes ≡ got s (8 * length bytes)
unfolding read_sheet
read_back s f bytes e =
    let (bits, h, n, b) = written-bits s bytes e in
    let m : marks_at bytes 0 (length bits) ≡ bits =
    ap₂ (λ (k : ℕ) (xs : List ℕ). marks_at xs 0 k) n b ∙ marks-octets (length bytes) bits n in
    let far : 0 + length bits ≡ 8 * length bytes = omega arith in
    reads-sheet s f bytes 0 bits h m far ∙ ap (got s) far

-- each byte that was written is below 256
pub written_low : (s : Sheet) (bytes : List ℕ) → write_sheet s ≡ put bytes → (i : ℕ) → get_or bytes i 0 < 256
written_low s bytes e i =
    let (bits, h, n, b) = written-bits s bytes e in
    subst (λ xs. get_or xs i 0 < 256) (sym b) (octets-low (length bytes) bits i)
