-- What is asked behind the look-ups. The variables that are used are those of the look-ups, then those that are
-- given, and their set is a union; the search for one that is not used goes variable by variable; the sheet's end by
-- its two tests.
use mathlib.Core.Path.{◌≡◌, refl, sym, ◌∙◌, ap}
use mathlib.Core.Logic.{inl, inr}
use mathlib.Core.Bool.{true, false}
use mathlib.Core.List.{List, [], ◌∷◌, ◌++◌, append_assoc, append-nil}
use mathlib.Core.Option.{none, some}
use Prim.Native.Nat.{ℕ, ◌+◌, ◌-◌, ◌≤◌, ◌<◌}
use native.Mathlib.Omega.{arith}
use lib.Dec.{eqb}
use lib.Bits.{bit_or}
use Rattle.plan.specs.Lists.{In, has, numbers, set_of, vars_in}
use Rattle.plan.specs.Reader.{unused_variable, Read, got, bad}
use Rattle.plan.specs.Sheet.{LookUp, used, first_unused, all_used}
use Rattle.plan.proofs.Lists.{by_test}
use Rattle.plan.proofs.Sets.{set-append, set-has, vars-has}
use Rattle.plan.proofs.Numbers.{in_numbers, numbers_from}
use Rattle.sheet.specs.Stages.{closing}
use Rattle.plan.proofs.Readers.{bind_same}
use Rattle.plan.proofs.First.{used-passes}

-- the variables of the look-ups stand before those that are given
pub used_split : (given : List ℕ) (ls : List LookUp) → used given ls ≡ used [] ls ++ given
unfolding used
used_split given [] = refl
used_split given (l ∷ ls) = ap (λ t. l.vars ++ t) (used_split given ls)
    ∙ sym (append_assoc l.vars (used [] ls) given)

-- one look-up more
pub used-more : (ls : List LookUp) (l : LookUp) → used [] (ls ++ (l ∷ [])) ≡ used [] ls ++ l.vars
unfolding used
used-more [] l = append-nil l.vars
used-more (x ∷ ls) l = ap (λ t. x.vars ++ t) (used-more ls l) ∙ sym (append_assoc x.vars (used [] ls) l.vars)

-- the set after one look-up more is the union with its variables
pub used-put : (ls : List LookUp) (l : LookUp) (m n : ℕ) → m ≡ set_of (used [] ls) → n ≡ set_of l.vars
    → bit_or m n ≡ set_of (used [] (ls ++ (l ∷ [])))
used-put ls l m n e f =
    ap (λ x. bit_or x n) e ∙ ap (λ x. bit_or (set_of (used [] ls)) x) f
    ∙ sym (ap set_of (used-more ls l) ∙ set-append (used [] ls) l.vars)

-- the set of all that are used is the union of the look-ups' and the given ones
pub used-set : (given : List ℕ) (ls : List LookUp) (m n : ℕ) → m ≡ set_of (used [] ls) → n ≡ set_of given
    → bit_or m n ≡ set_of (used given ls)
used-set given ls m n e f =
    ap (λ x. bit_or x n) e ∙ ap (λ x. bit_or (set_of (used [] ls)) x) f
    ∙ sym (ap set_of (used_split given ls) ∙ set-append (used [] ls) given)

-- the first variable that is not used: the next is used, or it is the one
pub unused_on : (us : List ℕ) (v : ℕ) (vs : List ℕ) → has eqb v us ≡ true → first_unused us (v ∷ vs) ≡ first_unused us vs
unfolding first_unused
unused_on us v vs t = rw (t, first_unused)

-- one that is not used is the one
pub unused_off : (us : List ℕ) (v : ℕ) (vs : List ℕ) → has eqb v us ≡ false → first_unused us (v ∷ vs) ≡ some v
unfolding first_unused
unused_off us v vs f = rw (f, first_unused)

-- the search goes on behind a variable that is used
pub unused_next : (us : List ℕ) (v n : ℕ) → v < n → has eqb v us ≡ true
    → first_unused us (numbers v (n - v)) ≡ first_unused us (numbers (v + 1) (n - (v + 1)))
unused_next us v n h t = ap (first_unused us) (numbers_from v n h) ∙ unused_on us v (numbers (v + 1) (n - (v + 1))) t

-- it ends at one that is not
pub unused-here : (us : List ℕ) (v n : ℕ) → v < n → has eqb v us ≡ false → first_unused us (numbers v (n - v)) ≡ some v
unused-here us v n h f = ap (first_unused us) (numbers_from v n h) ∙ unused_off us v (numbers (v + 1) (n - (v + 1))) f

-- nothing is left to search
pub unused_none : (us : List ℕ) (v n : ℕ) → n ≤ v → first_unused us (numbers v (n - v)) ≡ none
unfolding numbers first_unused
unused_none us v n h = let e : n - v ≡ 0 = omega arith in ap (λ k. first_unused us (numbers v k)) e

-- only which variables stand in the list counts
pub unused-same : (us ws vs : List ℕ) → ((v : ℕ) → In v vs → has eqb v us ≡ has eqb v ws)
    → first_unused us vs ≡ first_unused ws vs
unfolding first_unused In
unused-same us ws [] same = refl
unused-same us ws (v ∷ vs) same =
    let ih = unused-same us ws vs (λ u i. same u (inr i)) in
    let e = same v (inl refl) in
    by_test (has eqb v us)
    (λ t. unused_on us v vs t ∙ ih ∙ sym (unused_on ws v vs (sym e ∙ t)))
    (λ f. unused_off us v vs f ∙ sym (unused_off ws v vs (sym e ∙ f)))

-- the check on a set is the check on its list
pub closing-set : (us : List ℕ) (n : ℕ) (bytes : List ℕ) (at : ℕ) → n ≤ 16
    → closing (vars_in (set_of us)) n bytes at ≡ closing us n bytes at
unfolding closing all_used
closing-set us n bytes at h =
    bind_same (all_used (vars_in (set_of us)) n) (all_used us n) _ bytes at at
    (ap (λ x. elim x as (λ y. Read (Unit {0})) [ none ↦ got tt at | some v ↦ bad unused_variable v ])
    (unused-same (vars_in (set_of us)) us (numbers 0 n)
    (λ v i. let low = (in_numbers 0 n v i).1 in
    let b : v < 16 = omega (arith, low) in vars-has (set_of us) v b ∙ set-has us v b)))

-- where each variable is used, the check reads on from where it stood
pub all-used-place : (us : List ℕ) (n : ℕ) (bytes : List ℕ) (at : ℕ) (a : Unit {0}) (p : ℕ)
    → all_used us n bytes at ≡ got a p
    → all_used us n bytes at ≡ got tt at
all-used-place us n bytes at a p e = e ∙ ap (got tt) (used-passes us n bytes at a p e _ refl).0
