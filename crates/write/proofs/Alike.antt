-- Fields that are the same in each field of a sheet are written or refused alike, so what a sheet has no field for is
-- ignored. What two such say differs at most in look-ups that name a register that the sheet does not have, and both
-- are refused at the first of those.
use mathlib.Core.Path.{◌≡◌, refl, sym, ◌∙◌, ap, ap₂}
use mathlib.Core.Logic.{⊎_elim}
use mathlib.Core.Bool.{Bool, false}
use mathlib.Core.List.{List, [], ◌∷◌, ◌++◌, map, append_assoc}
use Prim.Native.Nat.{ℕ, ◌+◌, ◌<◌}
use native.Mathlib.Omega.{arith}
use lib.ListN.{length, get_or}
use lib.Dec.{eqb, ltb}
use borrow.Author.Tests.{ltb-true}
use Rattle.plan.specs.Lists.{In, in_set, from_set, numbers}
use Rattle.plan.specs.Reader.{not_in_sheet}
use Rattle.plan.specs.Request.{Rule, reads}
use Rattle.plan.specs.Sheet.{Sheet, used}
use Rattle.plan.specs.Sheet as Said
use Rattle.plan.specs.Write.{marks_of, Item, padding, Written, put, refused, name_item, header_items, register_items}
use Rattle.plan.specs.Write.{given_items, look_up_items, unused_items, all_items, sheet_items}
use Rattle.plan.specs.Write.{behind, written, packed, write_sheet}
use Rattle.plan.proofs.Lists.{by_test, map_same, in_nil, in_head, in_tail, in_cons, in_has, eqb_faithful}
use Rattle.plan.proofs.Numbers.{in_numbers}
use Rattle.plan.proofs.Sets.{from_on, from_off}
use Rattle.plan.proofs.Items.{written-append, written_stop, written-broken, item_fail, all_items-cons}
use Rattle.sheet.specs.declared.Fields.{Fields}
use Rattle.sheet.specs.Fields.{register_beyond, look_up_beyond}
use Rattle.write.specs.Said.{rule_said, register_said, register_at, given_said, look_up_said, look_up_at, sheet_said}
use Rattle.write.specs.Promise.{register_in, look_up_in, Kept}
use Rattle.write.proofs.SaidLaws.{said-registers, said-look_ups, given_below, given-has}
use Rattle.write.proofs.Kept.{columns-beyond, rules-beyond, rule-beyond, named-beyond, vars-beyond}

-- ---- items

-- behind the same items, what is written alike is written alike
written_same : (is js ks : List Item) → ((at : ℕ) → written js at ≡ written ks at) → (at : ℕ)
    → written (is ++ js) at ≡ written (is ++ ks) at
written_same is js ks h at = go (written is at) refl
  where
    go : (w : Written (List Bool)) → written is at ≡ w → written (is ++ js) at ≡ written (is ++ ks) at
    go (put bs) e =
        written-append is js at bs e ∙ ap (behind bs) (h (at + length bs)) ∙ sym (written-append is ks at bs e)
    go (refused fault detail) e = written_stop is js at fault detail e ∙ sym (written_stop is ks at fault detail e)

module _ (registers variables : ℕ) where
  -- a look-up that names a register that the sheet does not have is refused at its place
  name-ends : (l : Said.LookUp) (is : List Item) (at : ℕ) → ltb l.register registers ≡ false
      → written (look_up_items registers variables l ++ is) at ≡ refused not_in_sheet at
  unfolding look_up_items name_item
  name-ends l is at t =
      ap (λ (i : Item). written (i ∷ (map (name_item variables) l.vars ++ is)) at)
      (item_fail 4 (λ x. ltb x registers) not_in_sheet l.register t)
      ∙ written-broken (map (name_item variables) l.vars ++ is) at not_in_sheet

  -- the items of look-ups, and then others
  abbrev asks : List Said.LookUp → List Item → List Item
  asks ls is = all_items (look_up_items registers variables) ls ++ is

  -- the first look-up, and then the rest
  asks-cons : (l : Said.LookUp) (ls : List Said.LookUp) (is : List Item)
      → asks (l ∷ ls) is ≡ look_up_items registers variables l ++ asks ls is
  asks-cons l ls is =
      ap (λ (ks : List Item). ks ++ is) (all_items-cons (look_up_items registers variables) l ls)
      ∙ append_assoc (look_up_items registers variables l) (all_items (look_up_items registers variables) ls) is

  -- look-ups that name the same registers, and are the same where the sheet has those, are written alike, where what is
  -- behind them is the same if the sheet has all of those
  asks-same : (l m : ℕ → Said.LookUp) (is : List ℕ) → ((i : ℕ) → In i is → (l i).register ≡ (m i).register)
      → ((i : ℕ) → In i is → (m i).register < registers → l i ≡ m i) → (js ks : List Item)
      → (((i : ℕ) → In i is → (m i).register < registers) → js ≡ ks) → (at : ℕ)
      → written (asks (map l is) js) at ≡ written (asks (map m is) ks) at
  asks-same l m [] named same js ks last at =
      ap (λ (ends : List Item). written (asks [] ends) at) (last (λ i j. absurd (in_nil i j)))
  asks-same l m (i ∷ is) named same js ks last at =
      let here = in_head i is in
      ap (λ (x : List Item). written x at) (asks-cons (l i) (map l is) js)
      ∙ by_test (ltb (m i).register registers)
      (λ t.
      let low = ltb-true (m i).register registers t in
      let rest =
      asks-same l m is (λ j a. named j (in_tail j i is a)) (λ j a. same j (in_tail j i is a)) js ks
      (λ all. last (among low all)) in
      ap (λ (x : Said.LookUp). written (look_up_items registers variables x ++ asks (map l is) js) at) (same i here low)
      ∙ written_same (look_up_items registers variables (m i)) (asks (map l is) js) (asks (map m is) ks) rest at)
      (λ t.
      name-ends (l i) (asks (map l is) js) at (ap (λ (n : ℕ). ltb n registers) (named i here) ∙ t)
      ∙ sym (name-ends (m i) (asks (map m is) ks) at t))
      ∙ ap (λ (x : List Item). written x at) (sym (asks-cons (m i) (map m is) ks))
    where
      among : (m i).register < registers → ((j : ℕ) → In j is → (m j).register < registers)
          → (j : ℕ) → In j (i ∷ is) → (m j).register < registers
      among low all j a = ⊎_elim (λ (e : j ≡ i). rw e low) (all j) (in_cons j i is a)

-- ---- sheets

-- a sheet with other look-ups
abbrev asking : Sheet → List Said.LookUp → Sheet
asking s ls =
    record {
      registers = s.registers;
      variables = s.variables;
      given = s.given;
      values = s.values;
      look_ups = ls;
    }

-- its items from the look-ups on
abbrev ending : Sheet → List Said.LookUp → List Item
ending s ls =
    asks (length s.registers) s.variables ls (unused_items s.variables (used s.given ls) ++ (padding ∷ []))

-- where it has as many look-ups, and is written alike from those on, it is written alike
asking_same : (s : Sheet) (ls : List Said.LookUp) → length ls ≡ length s.look_ups
    → ((at : ℕ) → written (ending s ls) at ≡ written (ending s s.look_ups) at)
    → write_sheet (asking s ls) ≡ write_sheet s
unfolding write_sheet sheet_items
asking_same s ls n h =
    let header : ℕ → List Item = header_items (length s.registers) s.variables in
    let registers = all_items register_items s.registers in
    let given = given_items s.variables s.given s.values in
    let ours = ending s ls in
    let theirs = ending s s.look_ups in
    let rest = written_same registers (given ++ ours) (given ++ theirs) (written_same given ours theirs h) in
    ap packed
    (ap (λ (count : ℕ). written (header count ++ (registers ++ (given ++ ours))) 0) n
    ∙ written_same (header (length s.look_ups)) (registers ++ (given ++ ours)) (registers ++ (given ++ theirs)) rest
    0)

-- ---- what fields say

-- sets that have the same of the variables
from_same : (m n : ℕ) (vs : List ℕ) → ((v : ℕ) → In v vs → in_set m v ≡ in_set n v) → from_set m vs ≡ from_set n vs
unfolding from_set
from_same m n [] h = refl
from_same m n (v ∷ vs) h =
    let more = from_same m n vs (λ u i. h u (in_tail u v vs i)) in
    by_test (in_set n v)
    (λ t. from_on m v vs (h v (in_head v vs) ∙ t) ∙ ap (λ (l : List ℕ). v ∷ l) more ∙ sym (from_on n v vs t))
    (λ t. from_off m v vs (h v (in_head v vs) ∙ t) ∙ more ∙ sym (from_off n v vs t))

-- what is told of the same numbers
told_same : {A : Type 0} (f g : ℕ → A) (m n : ℕ) → m ≡ n → ((i : ℕ) → i < n → f i ≡ g i)
    → map f (numbers 0 m) ≡ map g (numbers 0 n)
told_same f g m n e h =
    ap (λ (k : ℕ). map f (numbers 0 k)) e
    ∙ map_same f g (numbers 0 n) (λ i j. h i (omega (arith, (in_numbers 0 n i j).1)))

module _ (f g : Fields) (k : Kept f g) where
  -- the columns of register i
  columns-same : (i : ℕ) → i < f.registers
      → (get_or g.register i register_beyond).columns ≡ (get_or f.register i register_beyond).columns
  columns-same i h = columns-beyond g.register i ∙ k.columns i h ∙ sym (columns-beyond f.register i)

  -- register i
  register-same : (i : ℕ) → i < f.registers → register_at g.register i ≡ register_at f.register i
  unfolding register_at register_said rule_said
  register-same i h =
      let a = get_or g.register i register_beyond in
      let b = get_or f.register i register_beyond in
      let c : a.columns ≡ b.columns = columns-same i h in
      let n : a.rules ≡ b.rules = rules-beyond g.register i ∙ k.rules i h ∙ sym (rules-beyond f.register i) in
      ap₂ (λ (x : ℕ) (rs : List Rule). let r : Said.Register = record { columns = x; rules = rs } in r) c
      (told_same (rule_said a.columns a.rule) (rule_said b.columns b.rule) a.rules b.rules n
      (λ j l.
      ap₂ marks_of (c ∙ columns-beyond f.register i) (rule-beyond g.register i j)
      ∙ k.marks i j h (omega (arith, l, rules-beyond f.register i))
      ∙ ap₂ marks_of (sym (columns-beyond f.register i)) (sym (rule-beyond f.register i j))))

  -- the given variables
  given-same : given_said g.variables g.given ≡ given_said f.variables f.given
  unfolding given_said
  given-same =
      ap (λ (n : ℕ). from_set g.given (numbers 0 n)) k.variables
      ∙ from_same g.given f.given (numbers 0 f.variables)
      (λ v i. k.given v (omega (arith, (in_numbers 0 f.variables v i).1)))

  -- their values
  values_same : reads g.start (given_said g.variables g.given)
      ≡ reads f.start (given_said f.variables f.given)
  unfolding reads
  values_same =
      let vs = given_said f.variables f.given in
      ap (reads g.start) given-same
      ∙ map_same (λ v. get_or g.start v 0) (λ v. get_or f.start v 0) vs
      (λ v i.
      let low = given_below f.variables f.given v i in
      k.values v low (sym (given-has f.variables f.given v low) ∙ in_has eqb eqb_faithful v vs i))

  -- look-up i, where it names a register of the sheet
  look_up-same : (i : ℕ) → i < f.lookups → (look_up_at f.register f.lookup i).register < f.registers
      → look_up_at g.register g.lookup i ≡ look_up_at f.register f.lookup i
  unfolding look_up_at look_up_said reads
  look_up-same i h low =
      let a = get_or g.lookup i look_up_beyond in
      let b = get_or f.lookup i look_up_beyond in
      let r : a.register ≡ b.register =
      named-beyond g.lookup i ∙ k.named i h ∙ sym (named-beyond f.lookup i) in
      let width : (get_or g.register a.register register_beyond).columns
      ≡ (get_or f.register b.register register_beyond).columns =
      ap (λ (n : ℕ). (get_or g.register n register_beyond).columns) r ∙ columns-same b.register low in
      ap₂ (λ (x : ℕ) (vs : List ℕ). let l : Said.LookUp = record { register = x; vars = vs } in l) r
      (told_same (λ v. get_or a.vars v 0) (λ v. get_or b.vars v 0) _ _ width
      (λ c l.
      let wide : (register_in f (look_up_in f i).register).columns
      ≡ (get_or f.register b.register register_beyond).columns =
      ap (λ (n : ℕ). (register_in f n).columns) (sym (named-beyond f.lookup i))
      ∙ sym (columns-beyond f.register b.register) in
      vars-beyond g.lookup i c ∙ k.asked i c h (omega (arith, l, wide)) ∙ sym (vars-beyond f.lookup i c)))

  -- the register that look-up i names
  named-same : (i : ℕ) → i < f.lookups
      → (look_up_at g.register g.lookup i).register ≡ (look_up_at f.register f.lookup i).register
  unfolding look_up_at look_up_said
  named-same i h = named-beyond g.lookup i ∙ k.named i h ∙ sym (named-beyond f.lookup i)

  -- what the second fields say is what the first say, with other look-ups
  but_look_ups : sheet_said g ≡ asking (sheet_said f) (sheet_said g).look_ups
  unfolding sheet_said
  but_look_ups =
      let registers =
      told_same (register_at g.register) (register_at f.register) g.registers f.registers k.registers
      register-same in
      λ t. record {
        registers = registers t;
        variables = k.variables t;
        given = given-same t;
        values = values_same t;
        look_ups = (sheet_said g).look_ups;
      }

  -- from the look-ups on both are written alike
  ending-same : (at : ℕ) → written (ending (sheet_said f) (sheet_said g).look_ups) at
      ≡ written (ending (sheet_said f) (sheet_said f).look_ups) at
  unfolding sheet_said
  ending-same at =
      let s = sheet_said f in
      let l = look_up_at g.register g.lookup in
      let m = look_up_at f.register f.lookup in
      let is = numbers 0 f.lookups in
      let low : (i : ℕ) → In i is → i < f.lookups = λ i a. omega (arith, (in_numbers 0 f.lookups i a).1) in
      let same : (i : ℕ) → In i is → (m i).register < length s.registers → l i ≡ m i = λ i a there.
      look_up-same i (low i a) (omega (arith, there, said-registers f)) in
      let last : List Said.LookUp → List Item = λ ls.
      unused_items s.variables (used s.given ls) ++ (padding ∷ []) in
      ap (λ (count : ℕ). written (ending s (map l (numbers 0 count))) at) k.lookups
      ∙ asks-same (length s.registers) s.variables l m is (λ i a. named-same i (low i a)) same (last (map l is))
      (last (map m is)) (λ all. ap last (map_same l m is (λ i a. same i a (all i a)))) at

-- fields that are the same in each field of a sheet are written or refused alike
pub written-alike : (f g : Fields) → Kept f g → write_sheet (sheet_said f) ≡ write_sheet (sheet_said g)
written-alike f g k =
    sym
    (ap write_sheet (but_look_ups f g k)
    ∙ asking_same (sheet_said f) (sheet_said g).look_ups (said-look_ups g ∙ k.lookups ∙ sym (said-look_ups f))
    (ending-same f g k))
