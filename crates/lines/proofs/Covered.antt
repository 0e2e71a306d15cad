-- The tokens of a line cover it, a run of bytes that pass a test is the longest, and so are names and numbers.
use mathlib.Core.Path.{◌≡◌, refl, sym, ◌∙◌, ap}
use mathlib.Core.Logic.{inl, inr}
use mathlib.Core.Bool.{Bool, true, false}
use mathlib.Core.List.{List, [], ◌∷◌, ◌++◌}
use Prim.Native.Nat.{ℕ, zero, suc, ◌-◌, ◌≤◌, ◌<◌}
use native.Mathlib.Omega.{arith}
use lib.ListN.{get_or, length, drop}
use lib.Dec.{ltb}
use borrow.Author.Tests.{ltb-true, ltb-false}
use Rattle.plan.specs.Tokens.{is_letter, is_digit, is_mark, run, cut, cut_number, cut_at, cuts_from, cuts}
use Rattle.plan.specs.Typed.{Covers, Longest}
use Rattle.plan.specs.declared.Token.TheVariants.{Name, Mark, Other}
use Rattle.plan.specs.declared.Cut.{Cut}
use Rattle.plan.proofs.Lists.{by_test}
use Rattle.lines.proofs.Cuts.{run_pass, run_stop, run-low, cut_at_letter, cut_at_digit, cut_at-one}
use Rattle.lines.proofs.TypedWalk.{cuts-end, cuts-more, cut_next, cut_at_at, cut_at-end}

-- from a place on, with fuel for all bytes that are left
covers_from : (n : ℕ) (line : List ℕ) (at : ℕ) → at ≤ length line → length line - at ≤ n
    → Covers line at (cuts_from n line at)
unfolding Covers
covers_from zero line at a h =
    let e : length line ≤ at = omega arith in
    rw (cuts-end zero line at e) (refl, cut_at_at line at, inl (omega arith, cut_at-end line at e, refl))
covers_from (suc n) line at a h =
    by_test (ltb at (length line))
    (λ t.
    let l = ltb-true at (length line) t in
    let (far, inside) = cut_next line at l in
    rw (cuts-more n line at l)
    (refl, cut_at_at line at, inr (far, inside, covers_from n line (cut_at line at).next inside (omega arith))))
    (λ f.
    let e = ltb-false at (length line) f in
    rw (cuts-end (suc n) line at e) (refl, cut_at_at line at, inl (omega arith, cut_at-end line at e, refl)))

-- the tokens of a line cover it
pub covers : (line : List ℕ) → Covers line 0 (cuts line)
unfolding cuts
covers line = covers_from (length line) line 0 (omega arith) (omega arith)

-- a token of a line that is covered is the one at its place, which is a place of the line
pub covers-here : (line : List ℕ) (at : ℕ) (before : List Cut) (here : Cut) (after : List Cut)
    → Covers line at (before ++ (here ∷ after)) → at ≤ length line
    → (here ≡ cut_at line here.at) × (here.at ≤ length line)
unfolding Covers
covers-here line at [] here after (e, p, more) l = (e ∙ ap (cut_at line) (sym p), omega arith)
covers-here line at (c ∷ before) here after (e, p, inl (a, t, n)) l = absurd (go before n)
  where
    go : (bs : List Cut) → bs ++ (here ∷ after) ≡ [] → ⊥
    go [] x = let z : ◌≡◌ {A = ℕ} 0 1 = cc in omega arith
    go (b ∷ bs) x = let z : ◌≡◌ {A = ℕ} 0 1 = cc in omega arith
covers-here line at (c ∷ before) here after (e, p, inr (a, i, more)) l = covers-here line c.next before here after more i

module _ (test : ℕ → Bool) where
  -- each byte of a run passes
  run-passes : (bs : List ℕ) (i : ℕ) → i < run test bs → test (get_or bs i 0) ≡ true
  unfolding run
  run-passes [] i h = absurd (let z : ⊥ = omega arith in z)
  run-passes (b ∷ bs) zero h =
      by_test (test b) (λ t. t) (λ f. let z = run_stop test b bs f in absurd (let y : ⊥ = omega arith in y))
  run-passes (b ∷ bs) (suc i) h =
      by_test (test b) (λ t. let m = run_pass test b bs t in run-passes bs i (omega arith))
      (λ f. let z = run_stop test b bs f in absurd (let y : ⊥ = omega arith in y))

  -- the byte behind it does not
  run_ends : (bs : List ℕ) → run test bs < length bs → test (get_or bs (run test bs) 0) ≡ false
  run_ends [] h = absurd (let z : ⊥ = omega arith in z)
  run_ends (b ∷ bs) h =
      by_test (test b)
      (λ t. let m = run_pass test b bs t in rw m (run_ends bs (omega arith)))
      (λ f. rw (run_stop test b bs f) f)

  -- a run is the longest
  pub longest : (bs : List ℕ) → Longest test bs (run test bs)
  longest bs = record { inside = run-low test bs; passes = run-passes bs; ends = run_ends bs }

module _ (line : List ℕ) (at : ℕ) (h : at < length line) where
  -- a letter begins a name of all letters there
  pub letters : is_letter (get_or line at 0) ≡ true
      → (k : ℕ) × Longest is_letter (drop at line) k × (cut_at line at ≡ cut (Name at k) at k false)
  letters t = (run is_letter (drop at line), longest is_letter (drop at line), cut_at_letter line at h t)

  -- a digit begins a number of all digits there
  pub digits : is_digit (get_or line at 0) ≡ true
      → (k : ℕ) × Longest is_digit (drop at line) k × (cut_at line at ≡ cut_number at (get_or line at 0) (drop at line) k)
  digits t = (run is_digit (drop at line), longest is_digit (drop at line), cut_at_digit line at h t)

  -- a byte that is neither stands alone, as a mark or as another byte
  pub alone : is_letter (get_or line at 0) ≡ false → is_digit (get_or line at 0) ≡ false
      → (is_mark (get_or line at 0) ≡ true → cut_at line at ≡ cut (Mark (get_or line at 0)) at 1 false)
      × (is_mark (get_or line at 0) ≡ false → cut_at line at ≡ cut Other at 1 false)
  alone f g = (λ t. rw t at (cut_at-one line at h f g), λ o. rw o at (cut_at-one line at h f g))
