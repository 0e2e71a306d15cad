-- Laws of the sheet that any fields say: how many registers and look-ups it has and what each is, that it has the form of
-- a sheet, and that the fields of a sheet that was read say that sheet. By what stands at each place of its lists.
use mathlib.Core.Path.{◌≡◌, refl, sym, ◌∙◌, ap, ap₂}
use mathlib.Core.List.{List, [], map}
use Prim.Native.Nat.{ℕ, ◌<◌}
use native.Mathlib.Omega.{arith}
use lib.ListN.{length, get_or, length-map}
use lib.Dec.{eqb}
use Rattle.plan.specs.Lists.{In, Sub, has, numbers, padded, set_of, in_set, Rising}
use Rattle.plan.specs.Request.{Rule, reads}
use Rattle.plan.specs.Sheet.{Sheet, columns_of}
use Rattle.plan.specs.Sheet as Said
use Rattle.plan.specs.Write.{marks_of, marks_number, Formed}
use Rattle.plan.proofs.Lists.{in_map, in_has, has_in, eqb_faithful}
use Rattle.plan.proofs.Padded.{in_at, map_at, padded_at}
use Rattle.plan.proofs.Numbers.{in_numbers, numbers_in}
use Rattle.plan.proofs.Marks.{marks-long, marks-back}
use Rattle.plan.proofs.Sets.{from_has, from_below, set_in, in_set_lem}
use Rattle.plan.proofs.Rising.{rising_equal, numbers_rising, from_rising}
use Rattle.sheet.specs.declared.Register.{Register}
use Rattle.sheet.specs.declared.LookUp.{LookUp}
use Rattle.sheet.specs.declared.Fields.{Fields}
use Rattle.sheet.specs.Fields.{register_of, look_up_of, fields_of, sheet_held, register_beyond, look_up_beyond}
use Rattle.plan.proofs.Told.{told-length, told_at, told-list, told_in}
use Rattle.sheet.specs.Fine.{FineRegister, Fine}
use Rattle.sheet.proofs.Shown.{shown_width, fields_variables, fields_given, fields_vars}
use Rattle.sheet.proofs.Shown.{register_at_lem, look_up_at_lem, columns_in_lem}
use Rattle.sheet.proofs.Held.{sheet-held}
use Rattle.write.specs.Said.{rule_said, register_said, register_at, given_said, look_up_said, look_up_at, sheet_said}
use Rattle.write.specs.Promise.{Words}

-- ---- the sheet that fields say

module _ (f : Fields) where
  -- as many registers as the fields say
  pub said-registers : length (sheet_said f).registers ≡ f.registers
  unfolding sheet_said
  said-registers = told-length (register_at f.register) f.registers

  -- as many look-ups
  pub said-look_ups : length (sheet_said f).look_ups ≡ f.lookups
  unfolding sheet_said
  said-look_ups = told-length (look_up_at f.register f.lookup) f.lookups

  -- as many variables
  pub said-variables : (sheet_said f).variables ≡ f.variables
  unfolding sheet_said
  said-variables = refl

  -- register i is what entry i says
  pub said-register : (i : ℕ) (d : Said.Register) → i < f.registers
      → get_or (sheet_said f).registers i d ≡ register_said (get_or f.register i register_beyond)
  unfolding sheet_said register_at
  said-register i d h = told_at (register_at f.register) f.registers i d h

  -- look-up i is what entry i says
  pub said-look_up : (i : ℕ) (d : Said.LookUp) → i < f.lookups
      → get_or (sheet_said f).look_ups i d ≡ look_up_said f.register (get_or f.lookup i look_up_beyond)
  unfolding sheet_said look_up_at
  said-look_up i d h = told_at (look_up_at f.register f.lookup) f.lookups i d h

  -- the given variables are those of the set
  pub said-given : (sheet_said f).given ≡ given_said f.variables f.given
  unfolding sheet_said
  said-given = refl

  -- and their values those of the first row
  pub said-values : (sheet_said f).values ≡ reads f.start (sheet_said f).given
  unfolding sheet_said
  said-values = refl

-- ---- what an entry says

module _ (r : Register) where
  -- its columns
  pub said-columns : (register_said r).columns ≡ r.columns
  unfolding register_said
  said-columns = refl

  -- as many rules as it says
  pub said-rules : length (register_said r).rules ≡ r.rules
  unfolding register_said
  said-rules = told-length (rule_said r.columns r.rule) r.rules

  -- rule k has the marks of number k
  pub said-rule : (k : ℕ) (d : Rule) → k < r.rules
      → get_or (register_said r).rules k d ≡ marks_of r.columns (get_or r.rule k 0)
  unfolding register_said rule_said
  said-rule k d h = told_at (rule_said r.columns r.rule) r.rules k d h

  -- each rule has a mark per column
  pub said-marks : (m : Rule) → In m (register_said r).rules → length m ≡ (register_said r).columns
  unfolding register_said rule_said
  said-marks m i =
      let (k, low, e) = told_in (rule_said r.columns r.rule) r.rules m i in
      ap length e ∙ marks-long r.columns (get_or r.rule k 0)

module _ (register : List Register) (l : LookUp) where
  -- the register that it names
  pub said-named : (look_up_said register l).register ≡ l.register
  unfolding look_up_said
  said-named = refl

  -- a variable for each of its columns
  pub said-vars : length (look_up_said register l).vars ≡ (get_or register l.register register_beyond).columns
  unfolding look_up_said reads
  said-vars = told-length (λ v. get_or l.vars v 0) (get_or register l.register register_beyond).columns

  -- variable c
  pub said-var : (c : ℕ) → c < (get_or register l.register register_beyond).columns
      → get_or (look_up_said register l).vars c 0 ≡ get_or l.vars c 0
  unfolding look_up_said reads
  said-var c h = told_at (λ v. get_or l.vars v 0) (get_or register l.register register_beyond).columns c 0 h

-- ---- given variables

module _ (variables given : ℕ) where
  -- they rise
  pub given_rises : Rising (given_said variables given)
  unfolding given_said
  given_rises = from_rising given (numbers 0 variables) (numbers_rising 0 variables)

  -- they are in the sheet
  pub given_below : (v : ℕ) → In v (given_said variables given) → v < variables
  unfolding given_said
  given_below v i = omega (arith, (in_numbers 0 variables v (from_below given (numbers 0 variables) v i)).1)

  -- one of the sheet's variables is given where the set has it
  pub given-has : (v : ℕ) → v < variables → has eqb v (given_said variables given) ≡ in_set given v
  unfolding given_said
  given-has v h =
      from_has given v (numbers 0 variables)
      ∙ rw (in_has eqb eqb_faithful v (numbers 0 variables) (numbers_in 0 variables v (omega arith) (omega arith)))

-- ---- its form

-- a look-up has a variable for each column of the register that it names
said-number : (f : Fields) (l : Said.LookUp) → In l (sheet_said f).look_ups
    → l.register < length (sheet_said f).registers
    → length l.vars ≡ get_or (columns_of (sheet_said f).registers) l.register 0
unfolding sheet_said look_up_at
said-number f l i low =
    let beyond : Said.Register = record { columns = 0; rules = [] } in
    let (k, b, e) = told_in (look_up_at f.register f.lookup) f.lookups l i in
    let entry = get_or f.lookup k look_up_beyond in
    let named : l.register ≡ entry.register =
    ap (λ (x : Said.LookUp). x.register) e ∙ said-named f.register entry in
    let number : length l.vars ≡ (get_or f.register entry.register register_beyond).columns =
    ap (λ (x : Said.LookUp). length x.vars) e ∙ said-vars f.register entry in
    number ∙ ap (λ n. (get_or f.register n register_beyond).columns) (sym named)
    ∙ sym (columns_in_lem (sheet_said f) l.register beyond low
    ∙ ap (λ (r : Said.Register). r.columns)
    (said-register f l.register beyond (omega (arith, low, said-registers f)))
    ∙ said-columns (get_or f.register l.register register_beyond))

-- what any fields say has the form of a sheet
pub said-formed : (f : Fields) → Words f → Formed (sheet_said f)
unfolding sheet_said register_at reads
said-formed f words =
    record {
      marks = λ r i m j.
          let (k, low, e) = told_in (register_at f.register) f.registers r i in
          rw e (said-marks (get_or f.register k register_beyond) m (rw e at j));
      given_rising = given_rises f.variables f.given;
      given-low = given_below f.variables f.given;
      values-number = length-map (given_said f.variables f.given) (λ v. get_or f.start v 0);
      values_low = λ x i.
          let (v, j, e) = in_map (λ v. get_or f.start v 0) (given_said f.variables f.given) x i in rw e (words v);
      vars-number = said-number f;
    }

-- ---- a sheet that was read

-- a register's entry says the register
pub register-said : (r : Said.Register) → FineRegister r → register_said (register_of r) ≡ r
unfolding register_said register_of rule_said
register-said r fine =
    let numbered = map (marks_number 0) r.rules in
    let one : (k : ℕ) → k < length r.rules → rule_said r.columns (padded 8 0 numbered) k ≡ get_or r.rules k [] =
    λ k h.
    let m = get_or r.rules k [] in
    let at : get_or (padded 8 0 numbered) k 0 ≡ marks_number 0 m =
    padded_at 8 0 numbered k 0 (omega (arith, h, length-map r.rules (marks_number 0)))
    ∙ map_at (marks_number 0) r.rules k 0 [] h in
    ap₂ marks_of (sym (fine.marks m (in_at r.rules k [] h))) at ∙ marks-back m in
    let all : map (rule_said r.columns (padded 8 0 numbered)) (numbers 0 (length r.rules)) ≡ r.rules =
    told-list (rule_said r.columns (padded 8 0 numbered)) (length r.rules) r.rules [] refl one in
    λ t. record { columns = r.columns; rules = all t }

-- a look-up's entry says the look-up, where the register that it names has as many columns as it has variables
pub look_up-said : (register : List Register) (l : Said.LookUp)
    → (get_or register l.register register_beyond).columns ≡ length l.vars → look_up_said register (look_up_of l) ≡ l
unfolding look_up_said look_up_of reads
look_up-said register l e =
    let n = (get_or register l.register register_beyond).columns in
    let all : map (λ v. get_or (padded 6 0 l.vars) v 0) (numbers 0 n) ≡ l.vars =
    told-list (λ v. get_or (padded 6 0 l.vars) v 0) n l.vars 0 (sym e)
    (λ c h. padded_at 6 0 l.vars c 0 (omega (arith, h, e))) in
    λ t. record { register = l.register; vars = all t }

module _ (s : Sheet) (fine : Fine s) where
  -- its registers
  registers-back : (sheet_said (fields_of s)).registers ≡ s.registers
  unfolding sheet_said register_at fields_of
  registers-back =
      let beyond : Said.Register = record { columns = 0; rules = [] } in
      told-list (register_at (fields_of s).register) (length s.registers) s.registers beyond refl
      (λ i h.
      ap register_said (register_at_lem s i register_beyond beyond h)
      ∙ register-said (get_or s.registers i beyond) (fine.registers-fine _ (in_at s.registers i beyond h)))

  -- its look-ups
  look_ups-back : (sheet_said (fields_of s)).look_ups ≡ s.look_ups
  unfolding sheet_said look_up_at fields_of
  look_ups-back =
      let beyond : Said.LookUp = record { register = 0; vars = [] } in
      let none : Said.Register = record { columns = 0; rules = [] } in
      told-list (look_up_at (fields_of s).register (fields_of s).lookup) (length s.look_ups) s.look_ups beyond refl
      (λ i h.
      let l = get_or s.look_ups i beyond in
      let told = fine.look_ups-fine l (in_at s.look_ups i beyond h) in
      let width : (get_or (fields_of s).register l.register register_beyond).columns ≡ length l.vars =
      ap (λ (r : Register). r.columns) (register_at_lem s l.register register_beyond none told.register-low)
      ∙ shown_width (get_or s.registers l.register none)
      ∙ sym (told.vars-number ∙ columns_in_lem s l.register none told.register-low) in
      ap (look_up_said (fields_of s).register) (look_up_at_lem s i look_up_beyond beyond h)
      ∙ look_up-said (fields_of s).register l width)

  -- its given variables
  given_back : (sheet_said (fields_of s)).given ≡ s.given
  unfolding Sub
  given_back =
      let low : (v : ℕ) → In v s.given → v < 16 = λ v i. omega (arith, fine.given-low v i, fine.variables-high) in
      said-given (fields_of s) ∙ ap₂ given_said (fields_variables s) (fields_given s)
      ∙ rising_equal (given_said s.variables (set_of s.given)) s.given
      (given_rises s.variables (set_of s.given)) fine.given_rising
      (λ v i.
      let b = given_below s.variables (set_of s.given) v i in
      set_in s.given v (omega (arith, b, fine.variables-high))
      (sym (given-has s.variables (set_of s.given) v b)
      ∙ in_has eqb eqb_faithful v (given_said s.variables (set_of s.given)) i))
      (λ v i.
      has_in eqb eqb_faithful v (given_said s.variables (set_of s.given))
      (given-has s.variables (set_of s.given) v (fine.given-low v i) ∙ in_set_lem s.given v (low v i) i))

  -- the values that the fields hold, at the given variables
  pub values-held : reads (fields_of s).start s.given ≡ s.values
  unfolding sheet_held
  values-held =
      ap (reads (fields_of s).start) (sym (fields_vars s fine)) ∙ ap (λ (x : Sheet). x.values) (sheet-held s fine)

  -- the fields of a fine sheet say it
  pub sheet-said : sheet_said (fields_of s) ≡ s
  sheet-said =
      let values : (sheet_said (fields_of s)).values ≡ s.values =
      said-values (fields_of s) ∙ ap (reads (fields_of s).start) given_back ∙ values-held in
      λ t. record {
        registers = registers-back t;
        variables = (said-variables (fields_of s) ∙ fields_variables s) t;
        given = given_back t;
        values = values t;
        look_ups = look_ups-back t;
      }
