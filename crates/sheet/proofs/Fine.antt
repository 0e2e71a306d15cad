-- A sheet that was read is fine. By what each reading that succeeded says.
use mathlib.Core.Path.{◌≡◌, refl, sym, ◌∙◌}
use mathlib.Core.Logic.{◌⊎◌, inl, inr, ⊎_elim}
use mathlib.Core.Bool.{true}
use mathlib.Core.List.{List, [], ◌∷◌, map}
use mathlib.Core.Option.{Option, none, some}
use Prim.Native.Nat.{ℕ, ◌+◌, ◌^◌, ◌<◌}
use native.Mathlib.Omega.{arith}
use lib.ListN.{length, get_or}
use lib.Dec.{eqb}
use Rattle.plan.specs.Lists.{In, has, numbers}
use Rattle.plan.specs.Reader.{got, marks_at, marks, each}
use Rattle.plan.specs.Sheet.{Register, LookUp, Sheet, one_of, register, value, used, first_unused, all_used, read_sheet}
use Rattle.plan.specs.Sheet.{columns_of}
use Rattle.plan.proofs.Lists.{by_test, in_append, in_head, in_tail, has_in, eqb_faithful}
use Rattle.plan.proofs.Numbers.{numbers_in}
use Rattle.plan.proofs.Rising.{marked_in, marked_rising}
use Rattle.sheet.specs.Stages.{Counts, Asked, header, given, look_up_by, closing, asked, sheet_of}
use Rattle.sheet.specs.Fine.{FineRegister, FineLookUp, Fine}
use Rattle.plan.proofs.Readers.{marks-length, got-bad, bind_got, each-got}
use Rattle.sheet.proofs.Stages.{rule-length, count_got, one-got, value-got, register-got, look_up-got, header-got, given-said}
use Rattle.plan.proofs.First.{all-used_stop}
use Rattle.sheet.proofs.Used.{unused_on, unused_off}
use Rattle.sheet.proofs.Whole.{asked-said, whole-said}

-- a register that was read
register-fine : (bytes : List ℕ) (at : ℕ) (r : Register) (p : ℕ) → register bytes at ≡ got r p → FineRegister r
register-fine bytes at r p e =
    let g = register-got bytes at r p e in
    let a = count_got 3 1 6 bytes at r.columns g.middle g.columns-read in
    let b = count_got 4 1 8 bytes g.middle g.k g.from g.rules-number in
    let m = each-got (marks r.columns) bytes g.from (λ m. length m ≡ r.columns) (rule-length r.columns bytes)
    g.k r.rules p g.rules-read in
    record {
      columns-low = a.0;
      columns-high = a.1;
      rules-low = omega (arith, m.0, b.0);
      rules-high = omega (arith, m.0, b.1);
      marks = m.1;
    }

-- a variable that is used is given or stands in some look-up
used_in : (given : List ℕ) (ls : List LookUp) (v : ℕ) → In v (used given ls)
    → In v given ⊎ ((l : LookUp) × In l ls × In v l.vars)
unfolding used
used_in given [] v h = inl h
used_in given (l ∷ ls) v h =
    ⊎_elim (λ i. inr (l, in_head l ls, i))
    (λ i. ⊎_elim inl (λ r. inr (r.0, in_tail r.0 l ls r.1, r.2)) (used_in given ls v i))
    (in_append v l.vars (used given ls) h)

-- where no variable is unused, each is used
none_unused : (us vs : List ℕ) → first_unused us vs ≡ none → (v : ℕ) → In v vs → has eqb v us ≡ true
unfolding first_unused In
none_unused us [] e v h = absurd h
none_unused us (u ∷ vs) e v h =
    by_test (has eqb u us)
    (λ t. on (none_unused us vs (sym (unused_on us u vs t) ∙ e)) t h)
    (λ f. absurd (let x = sym (unused_off us u vs f) ∙ e in let z : ◌≡◌ {A = ℕ} 0 1 = cc in omega arith))
  where
    on : ((v : ℕ) → In v vs → has eqb v us ≡ true) → has eqb u us ≡ true → (v ≡ u) ⊎ In v vs → has eqb v us ≡ true
    on rest t (inl q) = rw q t
    on rest t (inr i) = rest v i

-- where the checks behind the look-ups pass, each variable is used
closed_used : (us : List ℕ) (n : ℕ) (bytes : List ℕ) (at : ℕ) (next : ℕ) → closing us n bytes at ≡ got tt next
    → (v : ℕ) → v < n → In v us
unfolding closing
closed_used us n bytes at next e v h =
    let b = bind_got (all_used us n) _ bytes at tt next e in
    has_in eqb eqb_faithful v us
    (none_unused us (numbers 0 n) (go (first_unused us (numbers 0 n)) refl b.0 b.1 b.2) v
    (numbers_in 0 n v (omega arith) (omega arith)))
  where
    go : (x : Option ℕ) → first_unused us (numbers 0 n) ≡ x → (a : Unit {0}) (p : ℕ) → all_used us n bytes at ≡ got a p
        → first_unused us (numbers 0 n) ≡ none
    go none q a p k = q
    go (some u) q a p k = got-bad (sym k ∙ all-used_stop us n bytes at u q)

-- a look-up that was read
look_up-fine : (s : Sheet) (bytes : List ℕ) (at : ℕ) (l : LookUp) (p : ℕ)
    → look_up_by (length s.registers) (columns_of s.registers) s.variables bytes at ≡ got l p → FineLookUp s l
look_up-fine s bytes at l p e =
    let g = look_up-got (length s.registers) (columns_of s.registers) s.variables bytes at l p e in
    let m =
    each-got (one_of s.variables) bytes g.from (λ v. v < s.variables)
    (λ n v q h. (one-got s.variables bytes n v q h).0)
    (get_or (columns_of s.registers) l.register 0) l.vars p g.vars-read in
    record {
      register-low = (one-got (length s.registers) bytes at l.register g.from g.register-read).0;
      vars-number = m.0;
      vars-low = m.1;
    }

-- the stages' sheet is fine
stages-fine : (bytes : List ℕ) (k : Counts) (p : ℕ) (rs : List Register) (q : ℕ) (a : Asked) (next : ℕ)
    → header bytes 0 ≡ got k p → each k.registers register bytes p ≡ got rs q
    → asked (length rs) (map (λ (r : Register). r.columns) rs) k.variables k.look_ups bytes q ≡ got a next
    → Fine (sheet_of rs k.variables a)
unfolding sheet_of
stages-fine bytes k p rs q a next e f t =
    let h = header-got bytes k p e in
    let r = each-got register bytes p FineRegister (register-fine bytes) k.registers rs q f in
    let d = asked-said (length rs) (map (λ (r : Register). r.columns) rs) k.variables k.look_ups bytes q a next
    t in
    let g = given-said k.variables bytes q a.given d.middle d.given-read in
    let x =
    each-got value bytes (q + k.variables) (λ x. x < 2 ^ 32) (λ m x n w. (value-got bytes m x n w).0)
    (length a.given.given)
    a.given.values d.middle g.values-read in
    let l =
    each-got (look_up_by (length rs) (map (λ (r : Register). r.columns) rs) k.variables) bytes d.middle
    (FineLookUp (sheet_of rs k.variables a)) (look_up-fine (sheet_of rs k.variables a) bytes) k.look_ups
    a.look_ups d.end
    d.look_ups-read_lem in
    record {
      registers-low = omega (arith, r.0, h.registers-low);
      registers-high = omega (arith, r.0, h.registers-high);
      registers-fine = r.1;
      variables-low = h.variables-low;
      variables-high = h.variables-high;
      given-low = λ v i. omega (
        arith,
        (marked_in 0 (marks_at bytes q k.variables) v (rw g.is at i)).1,
        marks-length bytes q k.variables,
      );
      given_rising = rw g.is (marked_rising 0 (marks_at bytes q k.variables));
      values-number = x.0;
      values_low = x.1;
      look_ups-low = omega (arith, l.0, h.look_ups-low);
      look_ups-high = omega (arith, l.0, h.look_ups-high);
      look_ups-fine = l.1;
      all-used = λ v low.
          used_in a.given.given a.look_ups v
          (closed_used (used a.given.given a.look_ups) k.variables bytes d.end next d.closed v low);
    }

-- a sheet that was read is fine
pub read-fine : (bytes : List ℕ) (s : Sheet) (end : ℕ) → read_sheet bytes ≡ got s end → Fine s
read-fine bytes s end e =
    let w = whole-said bytes s end e in
    rw w.is at (stages-fine bytes w.counts w.from w.registers w.middle w.rest end w.counts-read
    w.registers-read w.rest_read)
