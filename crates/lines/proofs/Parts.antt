-- The place and the numbers of a line that is refused, and the part that is handed back: the name of the faulty token.
use mathlib.Core.Path.{◌≡◌, refl, sym, ◌∙◌, ap, subst}
use mathlib.Core.Logic.{◌⊎◌, inl, inr, ⊎_elim}
use mathlib.Core.Bool.{true}
use mathlib.Core.List.{List}
use Prim.Native.Nat.{ℕ, ◌≤◌, ◌<◌}
use native.Mathlib.Omega.{arith}
use lib.ListN.{length, drop}
use Rattle.plan.specs.Lists.{In}
use Rattle.plan.specs.Sheet.{Register}
use Rattle.plan.specs.Tokens.{is_letter, run, cut_at, are_names, pieces}
use Rattle.plan.specs.Typed.{Fit, fits_of, fits_at, faulty, typed_on, part_place, part_length, Covers, letters_of, FirstFaulty}
use Rattle.plan.specs.declared.Token.{Token}
use Rattle.plan.specs.declared.Token.TheVariants.{Name, Number, Mark, Other, End}
use Rattle.plan.specs.declared.Stage.{Stage}
use Rattle.plan.specs.declared.Cut.{Cut}
use Rattle.lines.proofs.Cuts.{part_low, part-high, part_far, part-told}
use Rattle.lines.proofs.NameLaws.{cut-name, cut_no_name}
use Rattle.lines.proofs.FirstFaulty.{first-faulty}
use Rattle.lines.proofs.Covered.{covers, covers-here}

-- the name that a token is has the letters that run from its place on
letters_of_lem : (line : List ℕ) (at : ℕ) (t : Token) → (cut_at line at).token ≡ t → letters_of t ≡ run is_letter (drop at line)
unfolding letters_of
letters_of_lem line at (Name a k) e = (cut-name line at a k e).1
letters_of_lem line at (Number x) e =
    sym (cut_no_name line at (λ k n. let w = sym e ∙ n in absurd (let z : ◌≡◌ {A = ℕ} 0 1 = cc in omega arith)))
letters_of_lem line at (Mark b) e =
    sym (cut_no_name line at (λ k n. let w = sym e ∙ n in absurd (let z : ◌≡◌ {A = ℕ} 0 1 = cc in omega arith)))
letters_of_lem line at Other e =
    sym (cut_no_name line at (λ k n. let w = sym e ∙ n in absurd (let z : ◌≡◌ {A = ℕ} 0 1 = cc in omega arith)))
letters_of_lem line at End e =
    sym (cut_no_name line at (λ k n. let w = sym e ∙ n in absurd (let z : ◌≡◌ {A = ℕ} 0 1 = cc in omega arith)))

-- the numbers that fit a token are 12 and 20 to 25
fits-numbered : (stage : Stage) (c : Cut) (which known variables look_ups columns needed number : ℕ)
    → In (record { number = number; fits = true }) (fits_of stage c which known variables look_ups columns needed)
    → (number ≡ 12) ⊎ ((20 ≤ number) × (number ≤ 25))
unfolding fits_of In
fits-numbered stage c which known variables look_ups columns needed number (inl e) =
    inl (ap (λ (f : Fit). f.number) e)
fits-numbered stage c which known variables look_ups columns needed number (inr (inl e)) =
    let n = ap (λ (f : Fit). f.number) e in inr (omega arith, omega arith)
fits-numbered stage c which known variables look_ups columns needed number (inr (inr (inl e))) =
    let n = ap (λ (f : Fit). f.number) e in inr (omega arith, omega arith)
fits-numbered stage c which known variables look_ups columns needed number (inr (inr (inr (inl e)))) =
    let n = ap (λ (f : Fit). f.number) e in inr (omega arith, omega arith)
fits-numbered stage c which known variables look_ups columns needed number (inr (inr (inr (inr (inl e))))) =
    let n = ap (λ (f : Fit). f.number) e in inr (omega arith, omega arith)
fits-numbered stage c which known variables look_ups columns needed number (inr (inr (inr (inr (inr (inl e)))))) =
    let n = ap (λ (f : Fit). f.number) e in inr (omega arith, omega arith)
fits-numbered stage c which known variables look_ups columns needed number (inr (inr (inr (inr (inr (inr (inl e))))))) =
    let n = ap (λ (f : Fit). f.number) e in inr (omega arith, omega arith)
fits-numbered stage c which known variables look_ups columns needed number (inr (inr (inr (inr (inr (inr (inr e))))))) = absurd e

-- a line is refused at a place of its own, as 12 or as 20 to 25
pub places : (registers : List Register) (second line : List ℕ) → are_names (length registers) (pieces second) ≡ true
    → (number place : ℕ) → typed_on registers second line ≡ faulty number place
    → (place ≤ length line) × ((number ≡ 12) ⊎ ((20 ≤ number) × (number ≤ 25)))
unfolding fits_at
places registers second line t number place e =
    let f : FirstFaulty registers (pieces second) line number place = (first-faulty registers second line t number place).0 e in
    let (at, low) = covers-here line 0 f.before f.here f.after (subst (Covers line 0) f.whole (covers line))
    (omega arith) in
    let told = f.told in
    (omega arith, fits-numbered _ f.here _ _ _ _ _ _ number f.fit)

-- for 20 to 25 the part is the name that the token at the place is, or empty
pub part : (number place : ℕ) (line : List ℕ) → 20 ≤ number → number ≤ 25 → place ≤ length line
    → (part_place number place line ≡ place) × (part_length number place line ≡ letters_of (cut_at line place).token)
part number place line low high inside =
    let (there, long) = part-told number place line low high inside in
    (there, long ∙ sym (letters_of_lem line place (cut_at line place).token refl))

-- for every other number, and behind the line's end, it is empty, at the line's beginning
pub partless : (number place : ℕ) (line : List ℕ) → (number < 20) ⊎ ((25 < number) ⊎ (length line < place))
    → (part_place number place line ≡ 0) × (part_length number place line ≡ 0)
partless number place line =
    ⊎_elim (part_low number place line) (⊎_elim (part-high number place line) (part_far number place line))
