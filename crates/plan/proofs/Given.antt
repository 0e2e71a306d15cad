-- Given variables as marks: the places of the marks of ascending variables are those variables, and the marks of the
-- places of marks are those marks. By one variable more in front.
use mathlib.Core.Path.{◌≡◌, refl, sym, ◌∙◌, ap, ap₂, subst}
use mathlib.Core.Bool.{Bool, true, false, ◌||◌}
use mathlib.Core.List.{List, [], ◌∷◌, map}
use Prim.Native.Nat.{ℕ, zero, suc, ◌<◌}
use native.Mathlib.Omega.{arith}
use lib.ListN.{length, length-map}
use lib.Dec.{eqb}
use borrow.Author.Tests.{eq-eqb, ne_eqb}
use Rattle.plan.specs.Lists.{In, Sub, has, those, numbers, Rising}
use Rattle.plan.specs.Sheet.{marked}
use Rattle.plan.specs.Write.{given_marks}
use Rattle.plan.proofs.Lists.{by_test, in_those, those_in, map_same, has_in, in_has, not-has, eqb_faithful}
use Rattle.plan.proofs.Numbers.{numbers-length, in_numbers, numbers_in}
use Rattle.plan.proofs.Rising.{rising_equal, marked_in, marked_rising}

-- a mark per variable
pub given-length : (variables : ℕ) (given : List ℕ) → length (given_marks variables given) ≡ variables
unfolding given_marks
given-length variables given = length-map (numbers 0 variables) _ ∙ numbers-length 0 variables

-- the places of the marks that a test makes are those that pass
marked-those : (test : ℕ → Bool) (i n : ℕ) → marked i (map test (numbers i n)) ≡ those test (numbers i n)
unfolding marked those numbers
marked-those test i zero = refl
marked-those test i (suc n) =
    let rest = marked-those test (suc i) n in
    by_test (test i) (λ t. rw (t, marked, those) (ap (λ vs. i ∷ vs) rest)) (λ f. rw (f, marked, those) rest)

-- the places of the marks of ascending variables are those variables
pub marked-given : (variables : ℕ) (given : List ℕ) → Rising given → ((v : ℕ) → In v given → v < variables)
    → marked 0 (given_marks variables given) ≡ given
unfolding given_marks Sub
marked-given variables given rising low =
    let test : ℕ → Bool = λ v. has eqb v given in
    let all = numbers 0 variables in
    let e = marked-those test 0 variables in
    rising_equal (marked 0 (map test all)) given (marked_rising 0 (map test all)) rising
    (λ v i. has_in eqb eqb_faithful v given (in_those test all v (subst (In v) e i)).1)
    (λ v i. subst (In v) (sym e)
    (those_in test all v (numbers_in 0 variables v (omega arith) (omega (arith, low v i)))
    (in_has eqb eqb_faithful v given i)))

-- the marks of the places of marks, from place i on
marks_from : (i : ℕ) (bs : List Bool) → map (λ v. has eqb v (marked i bs)) (numbers i (length bs)) ≡ bs
unfolding marked numbers has
marks_from i [] = refl
marks_from i (true ∷ bs) =
    ap₂ (λ (b : Bool) (cs : List Bool). b ∷ cs) (rw (eq-eqb i i refl))
    (map_same (λ v. eqb v i || has eqb v (marked (suc i) bs)) (λ v. has eqb v (marked (suc i) bs))
    (numbers (suc i) (length bs))
    (λ v h. rw (ne_eqb v i (λ e. let z : ⊥ = omega (arith, (in_numbers (suc i) (length bs) v h).0) in z)))
    ∙ marks_from (suc i) bs)
marks_from i (false ∷ bs) =
    ap₂ (λ (b : Bool) (cs : List Bool). b ∷ cs)
    (not-has eqb eqb_faithful i (marked (suc i) bs) (λ h. let z : ⊥ = omega (arith, (marked_in (suc i) bs i h).0) in z))
    (marks_from (suc i) bs)

-- the marks of the places of marks are those marks
pub given-marked : (variables : ℕ) (bs : List Bool) → length bs ≡ variables → given_marks variables (marked 0 bs) ≡ bs
unfolding given_marks
given-marked variables bs e = subst (λ n. map (λ v. has eqb v (marked 0 bs)) (numbers 0 n) ≡ bs) e (marks_from 0 bs)
