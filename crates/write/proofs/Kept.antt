-- What comes back of fields that were written: each field that a sheet has is kept, and all else is 0. By what the struct
-- of a fine sheet holds at each place, and what the sheet that the fields say has there.
use mathlib.Core.Path.{◌≡◌, refl, sym, ◌∙◌, ap, ap₂}
use mathlib.Core.Bool.{true, false}
use mathlib.Core.List.{List, [], ◌∷◌, ◌++◌, map}
use Prim.Native.Nat.{ℕ, zero, suc, ◌-◌, ◌^◌, ◌≤◌, ◌<◌}
use native.Mathlib.Omega.{arith}
use lib.ListN.{length, get_or, replicate, length-map}
use lib.Dec.{eqb, ltb}
use lib.Pow.{pow_pos}
use borrow.Author.Tests.{ltb-true, ltb-false}
use Rattle.plan.specs.Lists.{padded, set_of, in_set}
use Rattle.plan.specs.Sheet.{Sheet}
use Rattle.plan.specs.Sheet as Said
use Rattle.plan.specs.Write.{marks_of, marks_number}
use Rattle.plan.proofs.Lists.{by_test, has_in, not-has, eqb_faithful}
use Rattle.plan.proofs.Padded.{map_at, zeros_at, padded_at, shown_all}
use Rattle.plan.proofs.Bits.{bit_none}
use Rattle.plan.proofs.Marks.{marks-long, marks-back, number_lt}
use Rattle.plan.proofs.Sets.{set-lt, set-has}
use Rattle.plan.proofs.Rows.{reads_at}
use Rattle.sheet.specs.declared.Register.{Register}
use Rattle.sheet.specs.declared.LookUp.{LookUp}
use Rattle.sheet.specs.declared.Fields.{Fields}
use Rattle.sheet.specs.Fields.{register_of, empty_register, look_up_of, empty_look_up, fields_of, register_beyond, look_up_beyond}
use Rattle.sheet.specs.Fine.{FineRegister, Fine}
use Rattle.sheet.proofs.Shown.{fields_given, register_at_lem, look_up_at_lem}
use Rattle.sheet.proofs.Small.{fields_small}
use Rattle.write.specs.Said.{register_said, given_said, look_up_said, sheet_said}
use Rattle.write.specs.Promise.{register_in, look_up_in, Kept, Bare}
use Rattle.write.proofs.SaidLaws.{said-registers, said-look_ups, said-variables, said-register, said-look_up}
use Rattle.write.proofs.SaidLaws.{said-columns, said-rules, said-rule, said-named, said-vars, said-var}
use Rattle.write.proofs.SaidLaws.{said-given, said-values, given-has, values-held}

-- ---- an entry beyond the end of an array

-- an unused register and what stands for one beyond the end have as many columns
pub columns-beyond : (rs : List Register) (i : ℕ) → (get_or rs i register_beyond).columns ≡ (get_or rs i empty_register).columns
unfolding empty_register
columns-beyond [] i = refl
columns-beyond (r ∷ rs) zero = refl
columns-beyond (r ∷ rs) (suc i) = columns-beyond rs i

-- as many rules
pub rules-beyond : (rs : List Register) (i : ℕ) → (get_or rs i register_beyond).rules ≡ (get_or rs i empty_register).rules
unfolding empty_register
rules-beyond [] i = refl
rules-beyond (r ∷ rs) zero = refl
rules-beyond (r ∷ rs) (suc i) = rules-beyond rs i

-- the same numbers of rules
pub rule-beyond : (rs : List Register) (i k : ℕ)
    → get_or (get_or rs i register_beyond).rule k 0 ≡ get_or (get_or rs i empty_register).rule k 0
unfolding empty_register
rule-beyond [] i k = sym (zeros_at 8 k)
rule-beyond (r ∷ rs) zero k = refl
rule-beyond (r ∷ rs) (suc i) k = rule-beyond rs i k

-- an unused look-up and what stands for one beyond the end name the same register
pub named-beyond : (ls : List LookUp) (i : ℕ) → (get_or ls i look_up_beyond).register ≡ (get_or ls i empty_look_up).register
unfolding empty_look_up
named-beyond [] i = refl
named-beyond (l ∷ ls) zero = refl
named-beyond (l ∷ ls) (suc i) = named-beyond ls i

-- as many columns
width-beyond : (ls : List LookUp) (i : ℕ) → (get_or ls i look_up_beyond).columns ≡ (get_or ls i empty_look_up).columns
unfolding empty_look_up
width-beyond [] i = refl
width-beyond (l ∷ ls) zero = refl
width-beyond (l ∷ ls) (suc i) = width-beyond ls i

-- the same variables
pub vars-beyond : (ls : List LookUp) (i c : ℕ)
    → get_or (get_or ls i look_up_beyond).vars c 0 ≡ get_or (get_or ls i empty_look_up).vars c 0
unfolding empty_look_up
vars-beyond [] i c = sym (zeros_at 6 c)
vars-beyond (l ∷ ls) zero c = refl
vars-beyond (l ∷ ls) (suc i) c = vars-beyond ls i c

-- ---- behind a list in an array

-- repeats show what is repeated at every place, and beyond
repeats_at : {A : Type 0} (n i : ℕ) (a : A) → get_or (replicate n a) i a ≡ a
repeats_at zero i a = refl
repeats_at (suc n) zero a = refl
repeats_at (suc n) (suc i) a = repeats_at n i a

-- behind the list stands the filling
padded-behind : {A : Type 0} (n : ℕ) (fill : A) (xs : List A) (i : ℕ) → length xs ≤ i
    → get_or (padded n fill xs) i fill ≡ fill
unfolding padded
padded-behind {A} n fill xs i h = go (n - length xs) xs i h
  where
    go : (m : ℕ) (ys : List A) (j : ℕ) → length ys ≤ j → get_or (ys ++ replicate m fill) j fill ≡ fill
    go m [] j l = repeats_at m j fill
    go m (y ∷ ys) zero l = absurd (let z : ⊥ = omega arith in z)
    go m (y ∷ ys) (suc j) l = go m ys j (omega arith)

-- ---- each field that the sheet has is kept

-- the marks of the number that the marks of a number make
marks-again : (w x : ℕ) → marks_of w (marks_number 0 (marks_of w x)) ≡ marks_of w x
marks-again w x =
    ap (λ n. marks_of n (marks_number 0 (marks_of w x))) (sym (marks-long w x)) ∙ marks-back (marks_of w x)

-- the number of rule k
number_at : (r : Said.Register) (k : ℕ) → k < length r.rules
    → get_or (register_of r).rule k 0 ≡ marks_number 0 (get_or r.rules k [])
unfolding register_of
number_at r k h =
    padded_at 8 0 (map (marks_number 0) r.rules) k 0 (omega (arith, h, length-map r.rules (marks_number 0)))
    ∙ map_at (marks_number 0) r.rules k 0 [] h

-- variable c
var_at : (l : Said.LookUp) (c : ℕ) → c < length l.vars → get_or (look_up_of l).vars c 0 ≡ get_or l.vars c 0
unfolding look_up_of
var_at l c h = padded_at 6 0 l.vars c 0 h

module _ (f : Fields) where
  -- the entry of register i that comes back
  entry_back : (i : ℕ) → i < f.registers
      → register_in (fields_of (sheet_said f)) i ≡ register_of (register_said (get_or f.register i register_beyond))
  entry_back i h =
      let beyond : Said.Register = record { columns = 0; rules = [] } in
      register_at_lem (sheet_said f) i empty_register beyond (omega (arith, h, said-registers f))
      ∙ ap register_of (said-register f i beyond h)

  -- the entry of look-up i that comes back
  asked-back : (i : ℕ) → i < f.lookups
      → look_up_in (fields_of (sheet_said f)) i ≡ look_up_of (look_up_said f.register (get_or f.lookup i look_up_beyond))
  asked-back i h =
      let beyond : Said.LookUp = record { register = 0; vars = [] } in
      look_up_at_lem (sheet_said f) i empty_look_up beyond (omega (arith, h, said-look_ups f))
      ∙ ap look_up_of (said-look_up f i beyond h)

  -- a register's columns are kept
  columns-kept : (i : ℕ) → i < f.registers → (register_in (fields_of (sheet_said f)) i).columns ≡ (register_in f i).columns
  unfolding register_of
  columns-kept i h =
      ap (λ (r : Register). r.columns) (entry_back i h) ∙ said-columns (get_or f.register i register_beyond)
      ∙ columns-beyond f.register i

  -- how many rules it has
  rules-kept : (i : ℕ) → i < f.registers → (register_in (fields_of (sheet_said f)) i).rules ≡ (register_in f i).rules
  unfolding register_of
  rules-kept i h =
      ap (λ (r : Register). r.rules) (entry_back i h) ∙ said-rules (get_or f.register i register_beyond)
      ∙ rules-beyond f.register i

  -- and each mark of them
  marks-kept : (i k : ℕ) → i < f.registers → k < (register_in f i).rules
      → marks_of (register_in f i).columns (get_or (register_in (fields_of (sheet_said f)) i).rule k 0)
      ≡ marks_of (register_in f i).columns (get_or (register_in f i).rule k 0)
  marks-kept i k h b =
      let r = get_or f.register i register_beyond in
      let low : k < r.rules = omega (arith, b, rules-beyond f.register i) in
      let x = get_or r.rule k 0 in
      let number : get_or (register_in (fields_of (sheet_said f)) i).rule k 0 ≡ marks_number 0 (marks_of r.columns x) =
      ap (λ (e : Register). get_or e.rule k 0) (entry_back i h)
      ∙ number_at (register_said r) k (omega (arith, low, said-rules r)) ∙ ap (marks_number 0) (said-rule r k [] low) in
      ap₂ marks_of (sym (columns-beyond f.register i)) number ∙ marks-again r.columns x
      ∙ ap₂ marks_of (columns-beyond f.register i) (rule-beyond f.register i k)

  -- which variables are given
  given-kept : f.variables ≤ 16 → (v : ℕ) → v < f.variables
      → in_set (fields_of (sheet_said f)).given v ≡ in_set f.given v
  given-kept few v h =
      ap (λ m. in_set m v) (fields_given (sheet_said f) ∙ ap set_of (said-given f))
      ∙ set-has (given_said f.variables f.given) v (omega arith)
      ∙ given-has f.variables f.given v h

  -- and their values
  values-kept : Fine (sheet_said f) → (v : ℕ) → v < f.variables → in_set f.given v ≡ true
      → get_or (fields_of (sheet_said f)).start v 0 ≡ get_or f.start v 0
  values-kept fine v h t =
      reads_at (fields_of (sheet_said f)).start f.start (sheet_said f).given
      (values-held (sheet_said f) fine ∙ said-values f) v
      (rw (said-given f)
      (has_in eqb eqb_faithful v (given_said f.variables f.given) (given-has f.variables f.given v h ∙ t)))

  -- the register that a look-up names
  named-kept : (i : ℕ) → i < f.lookups → (look_up_in (fields_of (sheet_said f)) i).register ≡ (look_up_in f i).register
  unfolding look_up_of
  named-kept i h =
      ap (λ (l : LookUp). l.register) (asked-back i h) ∙ said-named f.register (get_or f.lookup i look_up_beyond)
      ∙ named-beyond f.lookup i

  -- and its variables
  asked-kept : (i c : ℕ) → i < f.lookups → c < (register_in f (look_up_in f i).register).columns
      → get_or (look_up_in (fields_of (sheet_said f)) i).vars c 0 ≡ get_or (look_up_in f i).vars c 0
  asked-kept i c h b =
      let l = get_or f.lookup i look_up_beyond in
      let width = (get_or f.register l.register register_beyond).columns in
      let same : (register_in f (look_up_in f i).register).columns ≡ width =
      ap (λ n. (register_in f n).columns) (sym (named-beyond f.lookup i))
      ∙ sym (columns-beyond f.register l.register) in
      let low : c < width = omega (arith, b, same) in
      ap (λ (e : LookUp). get_or e.vars c 0) (asked-back i h)
      ∙ var_at (look_up_said f.register l) c (omega (arith, low, said-vars f.register l))
      ∙ said-var f.register l c low ∙ vars-beyond f.lookup i c

  -- where what the fields say is a fine sheet, its struct has the same in each field that a sheet has
  pub fields_kept : Fine (sheet_said f) → Kept f (fields_of (sheet_said f))
  unfolding fields_of
  fields_kept fine =
      record {
        registers = said-registers f;
        variables = said-variables f;
        lookups = said-look_ups f;
        columns = columns-kept;
        rules = rules-kept;
        marks = marks-kept;
        given = given-kept (omega (arith, fine.variables-high, said-variables f));
        values = values-kept fine;
        named = named-kept;
        asked = asked-kept;
      }

-- ---- all else is 0

-- behind a register's rules stand zeros
rules-bare : (r : Said.Register) (k : ℕ) → (register_of r).rules ≤ k → get_or (register_of r).rule k 0 ≡ 0
unfolding register_of
rules-bare r k h =
    padded-behind 8 0 (map (marks_number 0) r.rules) k (omega (arith, h, length-map r.rules (marks_number 0)))

-- a rule's number has no bit beyond the columns
marks-bare : (r : Said.Register) → FineRegister r → (k : ℕ) → get_or (register_of r).rule k 0 < 2 ^ (register_of r).columns
unfolding register_of
marks-bare r fine =
    shown_all (λ n. n < 2 ^ r.columns) (marks_number 0) 8 0 r.rules (pow_pos r.columns)
    (λ m i. rw (sym (fine.marks m i)) (number_lt m)) 0 (pow_pos r.columns)

-- behind a look-up's variables stand zeros
vars-bare : (l : Said.LookUp) (c : ℕ) → (look_up_of l).columns ≤ c → get_or (look_up_of l).vars c 0 ≡ 0
unfolding look_up_of
vars-bare l c h = padded-behind 6 0 l.vars c h

-- a variable that the sheet does not have is not given
given-bare : (s : Sheet) → Fine s → (v : ℕ) → s.variables ≤ v → in_set (set_of s.given) v ≡ false
unfolding in_set
given-bare s fine v h =
    by_test (ltb v 16)
    (λ t.
    set-has s.given v (ltb-true v 16 t)
    ∙ not-has eqb eqb_faithful v s.given (λ i. let z : ⊥ = omega (arith, fine.given-low v i) in z))
    (λ n. ap (λ x. eqb x 1) (bit_none (set_of s.given) 16 v (set-lt s.given) (ltb-false v 16 n)))

-- a look-up's entry has as many columns as that of the register that it names
columns-bare : (s : Sheet) → Fine s → (i : ℕ) → i < (fields_of s).lookups
    → (look_up_in (fields_of s) i).columns ≡ (register_in (fields_of s) (look_up_in (fields_of s) i).register).columns
columns-bare s fine i h =
    sym (width-beyond (fields_of s).lookup i) ∙ (fields_small s fine).columns-same i h
    ∙ columns-beyond (fields_of s).register (get_or (fields_of s).lookup i look_up_beyond).register
    ∙ ap (λ n. (register_in (fields_of s) n).columns) (named-beyond (fields_of s).lookup i)

-- what the struct of a fine sheet has at a place that the sheet does not have is 0
pub fields_bare : (s : Sheet) → Fine s → Bare (fields_of s)
unfolding fields_of empty_register empty_look_up
fields_bare s fine =
    record {
      registers = λ i h.
          padded-behind 12 empty_register (map register_of s.registers) i
          (omega (arith, h, length-map s.registers register_of));
      rules = λ i.
          shown_all (λ (r : Register). (k : ℕ) → r.rules ≤ k → get_or r.rule k 0 ≡ 0) register_of 12 empty_register
          s.registers (λ k h. zeros_at 8 k) (λ r j. rules-bare r) empty_register (λ k h. zeros_at 8 k) i;
      marks = λ i.
          shown_all (λ (r : Register). (k : ℕ) → get_or r.rule k 0 < 2 ^ r.columns) register_of 12 empty_register
          s.registers (λ k. rw (zeros_at 8 k) (omega arith)) (λ r j. marks-bare r (fine.registers-fine r j))
          empty_register (λ k. rw (zeros_at 8 k) (omega arith)) i;
      given = given-bare s fine;
      values = (fields_small s fine).start-zero;
      lookups = λ i h.
          padded-behind 12 empty_look_up (map look_up_of s.look_ups) i
          (omega (arith, h, length-map s.look_ups look_up_of));
      asked = λ i.
          shown_all (λ (l : LookUp). (c : ℕ) → l.columns ≤ c → get_or l.vars c 0 ≡ 0) look_up_of 12 empty_look_up
          s.look_ups (λ c h. zeros_at 6 c) (λ l j. vars-bare l) empty_look_up (λ c h. zeros_at 6 c) i;
      columns = columns-bare s fine;
    }
