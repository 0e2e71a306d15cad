-- The fields of a fine sheet hold that sheet. By what each entry holds.
use mathlib.Core.Path.{◌≡◌, refl, sym, ◌∙◌, ap, ap₂}
use mathlib.Core.List.{List, [], ◌∷◌, map}
use Prim.Native.Nat.{ℕ, ◌<◌}
use native.Mathlib.Omega.{arith}
use lib.ListN.{length, get_or, set, take, replicate, length-set}
use lib.Seq.{get_or-set_same}
use Rattle.plan.specs.Lists.{In, vars_in, Rising}
use Rattle.plan.specs.Request.{Row, Rule, reads, writes}
use Rattle.plan.specs.Sheet.{Register, LookUp, Sheet}
use Rattle.plan.proofs.Lists.{in_head, in_tail}
use Rattle.plan.proofs.Rows.{writes_other}
use Rattle.plan.specs.Write.{marks_of, marks_number}
use Rattle.plan.proofs.Marks.{marks-back}
use Rattle.sheet.specs.Fields.{register_of, look_up_of, fields_of, rules_held, register_held, look_up_held, sheet_held}
use Rattle.sheet.specs.Fine.{FineRegister, Fine}
use Rattle.sheet.proofs.Shown.{shown_width, shown_rules, shown_register, shown_vars, fields_vars, fields_start, fields_register, fields_lookup, fields_variables}

-- ---- entries

-- what is taken back element by element is taken back
back : {A B : Type 0} (g : B → A) (f : A → B) (xs : List A) → ((x : A) → In x xs → g (f x) ≡ x) → map g (map f xs) ≡ xs
back g f [] h = refl
back g f (x ∷ xs) h = ap₂ (λ y ys. y ∷ ys) (h x (in_head x xs)) (back g f xs (λ y i. h y (in_tail y x xs i)))

-- a register's entry holds the register
pub register-held : (r : Register) → FineRegister r → register_held (register_of r) ≡ r
unfolding register_held rules_held
register-held r f =
    let one : (m : Rule) → In m r.rules → marks_of r.columns (marks_number 0 m) ≡ m =
    λ m i. ap (λ n. marks_of n (marks_number 0 m)) (sym (f.marks m i)) ∙ marks-back m in
    let all : map (marks_of (register_of r).columns) (take (register_of r).rules (register_of r).rule) ≡ r.rules =
    ap₂ (λ n ns. map (marks_of n) ns) (shown_width r) (shown_rules r)
    ∙ back (marks_of r.columns) (marks_number 0) r.rules one in
    λ t. record { columns = shown_width r t; rules = all t }

-- a look-up's entry holds the look-up
pub look_up-held : (l : LookUp) → look_up_held (look_up_of l) ≡ l
unfolding look_up_held
look_up-held l = λ t. record { register = shown_register l t; vars = shown_vars l t }

-- ---- values

-- values that were written at rising variables are read there
values-back : (r : Row) (vs xs : List ℕ) → Rising vs → length xs ≡ length vs → ((v : ℕ) → In v vs → v < length r)
    → reads (writes r vs xs) vs ≡ xs
unfolding reads writes Rising
values-back r [] [] rise e low = refl
values-back r [] (x ∷ xs) rise e low = absurd (let z : ⊥ = omega arith in z)
values-back r (v ∷ vs) [] rise e low = absurd (let z : ⊥ = omega arith in z)
values-back r (v ∷ vs) (x ∷ xs) rise e low =
    let first : get_or (writes (set r v x) vs xs) v 0 ≡ x =
    writes_other (set r v x) vs xs v (λ i. let z : ⊥ = omega (arith, rise.0 v i) in z)
    ∙ get_or-set_same r v x 0 (low v (in_head v vs)) in
    ap₂ (λ (y : ℕ) (ys : List ℕ). y ∷ ys) first
    (values-back (set r v x) vs xs rise.1 (omega arith) (λ u i. rw length-set (low u (in_tail u v vs i))))

-- ---- the sheet

-- the fields of a fine sheet hold it
pub sheet-held : (s : Sheet) → Fine s → sheet_held (fields_of s) ≡ s
unfolding sheet_held
sheet-held s fine =
    let registers : map register_held (take (fields_of s).registers (fields_of s).register) ≡ s.registers =
    ap (map register_held) (fields_register s)
    ∙ back register_held register_of s.registers (λ r i. register-held r (fine.registers-fine r i)) in
    let values : reads (fields_of s).start (vars_in (fields_of s).given) ≡ s.values =
    ap₂ reads (fields_start s) (fields_vars s fine)
    ∙ values-back (replicate 16 0) s.given s.values fine.given_rising fine.values-number
    (λ v i. omega (arith, fine.given-low v i, fine.variables-high)) in
    let look_ups : map look_up_held (take (fields_of s).lookups (fields_of s).lookup) ≡ s.look_ups =
    ap (map look_up_held) (fields_lookup s) ∙ back look_up_held look_up_of s.look_ups (λ l i. look_up-held l) in
    λ t. record {
      registers = registers t;
      variables = fields_variables s t;
      given = fields_vars s fine t;
      values = values t;
      look_ups = look_ups t;
    }
