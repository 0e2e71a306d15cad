-- The whole sheet from its stages: a fault in a stage is the sheet's, and what the stages gave makes the sheet's fields.
use mathlib.Core.Path.{◌≡◌, refl, sym, ◌∙◌, ap}
use mathlib.Core.List.{List, map, map-map}
use Prim.Native.Nat.{ℕ, ◌≤◌}
use native.Mathlib.Omega.{arith}
use lib.ListN.{length, get_or, take, length-map}
use Rattle.plan.specs.Lists.{In}
use Rattle.plan.specs.Reader.{got, give, each}
use Rattle.plan.specs.Sheet.{Register, Sheet, register, used, read_sheet}
use Rattle.plan.specs.Sheet.{columns_of}
use Rattle.plan.proofs.Lists.{in_map}
use Rattle.plan.proofs.Padded.{at_all, padded-take, length-padded}
use Rattle.sheet.specs.Fields.{register_of, empty_register, fields_of}
use Rattle.sheet.specs.Stages.{Counts, Given, Asked, header, given, look_up_by, closing, asked, sheet_of, stages}
use Rattle.sheet.specs.Parts.{counts_of, widths, registers_of, first_row_of, asked_of}
use Rattle.sheet.specs.declared.Fields.{Fields}
use Rattle.sheet.specs.declared.Register as Held
use Rattle.sheet.specs.declared.header.Counts as Header
use Rattle.sheet.specs.declared.bits.Reader as Stand
use Rattle.sheet.specs.declared.asked.Asked as Code
use Rattle.plan.proofs.Readers.{bind_got, each-got}
use Rattle.sheet.specs.Reads.{Goes}
use Rattle.sheet.proofs.Arrays.{each-length}
use Rattle.sheet.proofs.Stages.{stages-sheet, register-got, count_got}

-- the counts that are shown so
abbrev pub counts_back : Header.Counts → Counts
counts_back k = record { registers = k.registers; variables = k.variables; look_ups = k.lookups }

-- show themselves
pub counts-back : (c : Counts) → counts_back (counts_of c) ≡ c
unfolding counts_of
counts-back c = refl

-- each register that was read has at most 6 columns
pub columns-low : (bytes : List ℕ) (at n : ℕ) (rs : List Register) (p : ℕ) → each n register bytes at ≡ got rs p
    → (r : ℕ) → get_or (columns_of rs) r 0 ≤ 6
columns-low bytes at n rs p e =
    map_all (each-got register bytes at (λ x. x.columns ≤ 6) one n rs p e).1
  where
    one : (m : ℕ) (x : Register) (q : ℕ) → register bytes m ≡ got x q → x.columns ≤ 6
    one m x q h = let s = register-got bytes m x q h in (count_got 3 1 6 bytes m x.columns s.middle
        s.columns-read).1

    map_all : ((x : Register) → In x rs → x.columns ≤ 6) → (r : ℕ) → get_or (columns_of rs) r 0 ≤ 6
    map_all h = at_all (λ c. c ≤ 6) (columns_of rs) 0 (omega arith)
        (λ c i. let m = in_map (λ (x : Register). x.columns) rs c i in rw m.2 (h m.0 m.1))

module _ (bytes : List ℕ) (at n : ℕ) (rs : List Register) (p : ℕ) (array : List Held.Register)
    (e : each n register bytes at ≡ got rs p) (a : array ≡ registers_of rs) where
  -- as many entries as there are registers are the registers
  front : take n array ≡ map register_of rs
  unfolding registers_of
  front =
      ap (take n) a
      ∙ padded-take 12 empty_register (map register_of rs) n
      (length-map rs register_of ∙ each-length register bytes at n rs p e)

  -- so many they are
  pub front-length : length (take n array) ≡ length rs
  front-length = ap length front ∙ length-map rs register_of

  -- and these are their columns
  pub front-widths : widths (take n array) ≡ columns_of rs
  unfolding register_of
  front-widths = ap widths front ∙ map-map (λ (r : Held.Register). r.columns) register_of rs

  -- the array has room for them
  pub front-room : n ≤ 12 → n ≤ length array
  unfolding registers_of
  front-room h =
      rw a
      (omega (
        arith,
        h,
        length-padded 12 empty_register (map register_of rs)
            (omega (arith, h, length-map rs register_of, each-length register bytes at n rs p e)),
      ))

-- the readings of parts 6 to 8
pub record AskedSaid (registers : ℕ) (columns : List ℕ) (variables n : ℕ) (bytes : List ℕ) (at : ℕ) (a : Asked)
    (next : ℕ) : Type 0 where
  pub middle : ℕ
  pub end : ℕ
  pub given-read : given variables bytes at ≡ got a.given middle
  pub look_ups-read_lem : each n (look_up_by registers columns variables) bytes middle ≡ got a.look_ups end
  pub closed : closing (used a.given.given a.look_ups) variables bytes end ≡ got tt next

-- what was read has these readings
pub asked-said : (registers : ℕ) (columns : List ℕ) (variables n : ℕ) (bytes : List ℕ) (at : ℕ) (a : Asked) (next : ℕ)
    → asked registers columns variables n bytes at ≡ got a next
    → AskedSaid registers columns variables n bytes at a next
unfolding asked give
asked-said registers columns variables n bytes at a next e =
    let b = bind_got (given variables) _ bytes at a next e in
    let l = bind_got (each n (look_up_by registers columns variables)) _ bytes b.1 a next b.3 in
    let c = bind_got (closing (used b.0.given l.0) variables) _ bytes l.1 a next l.3 in
    let s : got (record { given = b.0; look_ups = l.0 }) c.1 ≡ got a next = c.3 in
    let same : record { given = b.0; look_ups = l.0 } ≡ a = cc in
    let g : b.0 ≡ a.given = ap (λ (x : Asked). x.given) same in
    let k : l.0 ≡ a.look_ups = ap (λ (x : Asked). x.look_ups) same in
    let q : c.1 ≡ next = cc in
    record {
      middle = b.1;
      end = l.1;
      given-read = b.2 ∙ ap (λ x. got x b.1) g;
      look_ups-read_lem = l.2 ∙ ap (λ x. got x l.1) k;
      closed =
          ap (λ (x : Given). closing (used x.given a.look_ups) variables bytes l.1) (sym g)
          ∙ ap (λ x. closing (used b.0.given x) variables bytes l.1) (sym k)
          ∙ c.2 ∙ ap (λ x. got tt x) q;
    }

-- what was asked has as many look-ups as the counts say
pub asked-length : (registers : ℕ) (columns : List ℕ) (variables n : ℕ) (bytes : List ℕ) (at : ℕ) (a : Asked) (next : ℕ)
    → asked registers columns variables n bytes at ≡ got a next → length a.look_ups ≡ n
asked-length registers columns variables n bytes at a next e =
    let s = asked-said registers columns variables n bytes at a next e in
    each-length (look_up_by registers columns variables) bytes s.middle n a.look_ups s.end s.look_ups-read_lem

-- the readings of a sheet: its counts, its registers, and what stands behind them
pub record WholeSaid (bytes : List ℕ) (s : Sheet) (end : ℕ) : Type 0 where
  pub counts : Counts
  pub from : ℕ
  pub registers : List Register
  pub middle : ℕ
  pub rest : Asked
  pub counts-read : header bytes 0 ≡ got counts from
  pub registers-read : each counts.registers register bytes from ≡ got registers middle
  pub rest_read : asked (length registers) (map (λ (r : Register). r.columns) registers) counts.variables
      counts.look_ups bytes middle ≡ got rest end
  pub is : sheet_of registers counts.variables rest ≡ s

module _ (bytes : List ℕ) where
  -- the sheet is read by its stages
  pub sheet-is : read_sheet bytes ≡ stages bytes 0
  unfolding read_sheet
  sheet-is = ap (λ r. r bytes 0) (sym stages-sheet)

  -- a sheet that was read has these readings
  pub whole-said : (s : Sheet) (end : ℕ) → read_sheet bytes ≡ got s end → WholeSaid bytes s end
  unfolding stages give
  whole-said s end e =
      let b = bind_got header _ bytes 0 s end (sym sheet-is ∙ e) in
      let r = bind_got (each b.0.registers register) _ bytes b.1 s end b.3 in
      let a = bind_got (asked (length r.0) (map (λ (x : Register). x.columns) r.0) b.0.variables
      b.0.look_ups) _ bytes r.1 s end r.3 in
      let w : got (sheet_of r.0 b.0.variables a.0) a.1 ≡ got s end = a.3 in
      let last : a.1 ≡ end = cc in
      record {
        counts = b.0;
        from = b.1;
        registers = r.0;
        middle = r.1;
        rest = a.0;
        counts-read = b.2;
        registers-read = r.2;
        rest_read = a.2 ∙ ap (got a.0) last;
        is = cc;
      }

-- the counts that were read
pub header_is : {before : Stand.Reader} {k : Header.Counts} {after : Stand.Reader} → Goes counts_of header before k after
    → header before.sheet.now before.at ≡ got (counts_back k) after.at
header_is {after = after} g =
    g.is ∙ ap (λ c. got c after.at) (sym (ap counts_back g.shown ∙ counts-back g.read))

-- the fields that are made of what was read
pub fields-made : (registers variables lookups : ℕ) (rs : List Register) (a : Asked) (array : List Held.Register) (rest : Code.Asked)
    → array ≡ registers_of rs → rest ≡ asked_of a → length rs ≡ registers → length a.look_ups ≡ lookups
    → ◌≡◌ {A = Fields}
    (record {
      registers = registers;
      register = array;
      variables = variables;
      given = rest.first.given;
      start = rest.first.start;
      lookups = lookups;
      lookup = rest.lookup;
    })
    (fields_of (sheet_of rs variables a))
unfolding fields_of sheet_of registers_of asked_of first_row_of
fields-made registers variables lookups rs a array rest w x n m = rw (w, x, ← n, ← m) refl
