-- A typed line is refused exactly at its first faulty token, by the lowest number that fits it. By one token more in front.
use mathlib.Core.Path.{◌≡◌, refl, sym, ◌∙◌, ap, subst}
use mathlib.Core.Logic.{◌↔◌, inl, inr, ⊎_elim}
use mathlib.Core.Bool.{true, false}
use mathlib.Core.List.{List, [], ◌∷◌, ◌++◌}
use Prim.Native.Nat.{ℕ, zero, suc, ◌≤◌}
use native.Mathlib.Omega.{arith}
use lib.ListN.{length}
use Rattle.plan.specs.Lists.{In}
use Rattle.plan.specs.Sheet.{Register}
use Rattle.plan.specs.Tokens.{are_names, pieces, cuts}
use Rattle.plan.specs.Typed.{Fit, first_fit, fits_of, Stand, beginning, faulty, fits_at, stepped, walk, behind_all}
use Rattle.plan.specs.Typed.{typed_on, FirstFaulty}
use Rattle.plan.specs.declared.Cut.{Cut}
use Rattle.plan.proofs.Lists.{by_test, clash, in_head, in_tail}
use Rattle.lines.proofs.TypedWalk.{walk_end, walk_on, walk-faulty, typed_named, first_on, first_off, first_none}

-- ---- the lowest number that fits

-- the numbers ascend from `low` on
unfoldable Climbs : ℕ → List Fit → Type 0
Climbs low [] = Unit {0}
Climbs low (f ∷ fs) = (low ≤ f.number) × Climbs f.number fs

-- and so each is at least `low`
climbs_in : (low : ℕ) (fs : List Fit) → Climbs low fs → (f : Fit) → In f fs → low ≤ f.number
unfolding Climbs In
climbs_in low [] h f i = absurd i
climbs_in low (g ∷ fs) (l, h) f (inl e) = let n = ap (λ (x : Fit). x.number) e in omega arith
climbs_in low (g ∷ fs) (l, h) f (inr i) = let n = climbs_in g.number fs h f i in omega arith

-- a number that fits
abbrev fitting : ℕ → Fit
fitting n = record { number = n; fits = true }

-- the first number that fits stands there, and is the lowest
first-lowest : (low : ℕ) (fs : List Fit) → Climbs low fs → (k : ℕ) → first_fit fs ≡ suc k
    → In (fitting (suc k)) fs × ((f : Fit) → In f fs → f.fits ≡ true → suc k ≤ f.number)
unfolding Climbs In first_fit
first-lowest low [] h k e = absurd (let z : ⊥ = omega arith in z)
first-lowest low (g ∷ fs) (l, h) k e =
    by_test g.fits
    (λ t.
    let n : suc k ≡ g.number = sym e ∙ first_on g fs t in (
      inl (λ i. record { number = n i; fits = sym t i }),
      λ f i u.
          ⊎_elim (λ s. let x = ap (λ (y : Fit). y.number) s in omega arith)
          (λ j. let x = climbs_in g.number fs h f j in omega arith) i,
    ))
    (λ o.
    let (there, lowest) = first-lowest g.number fs h k (sym (first_off g fs o) ∙ e) in (
      inr there,
      λ f i u. ⊎_elim (λ s. clash u (ap (λ (y : Fit). y.fits) s ∙ o)) (λ j. lowest f j u) i,
    ))

-- a number that fits, where no lower one does, is the first
lowest-first : (low : ℕ) (fs : List Fit) → Climbs low fs → (n : ℕ) → In (fitting n) fs
    → ((f : Fit) → In f fs → f.fits ≡ true → n ≤ f.number) → first_fit fs ≡ n
unfolding Climbs In
lowest-first low [] h n i lowest = absurd i
lowest-first low (g ∷ fs) (l, h) n i lowest =
    by_test g.fits
    (λ t.
    let a = lowest g (inl refl) t in
    let b : g.number ≤ n =
    ⊎_elim (λ e. let x = ap (λ (y : Fit). y.number) e in omega arith) (climbs_in g.number fs h (fitting n)) i in
    first_on g fs t ∙ omega arith)
    (λ o.
    first_off g fs o
    ∙ lowest-first g.number fs h n
    (⊎_elim (λ e. clash refl (ap (λ (y : Fit). y.fits) e ∙ o)) (λ j. j) i) (λ f j u. lowest f (inr j) u))

-- where nothing fits, no number is first
none_first : (fs : List Fit) → ((f : Fit) → In f fs → f.fits ≡ false) → first_fit fs ≡ 0
unfolding first_fit
none_first [] h = refl
none_first (g ∷ fs) h = first_off g fs (h g (in_head g fs)) ∙ none_first fs (λ f i. h f (in_tail f g fs i))

module _ (registers : List Register) (known : List (List ℕ)) (line : List ℕ) where
  -- the numbers of a token's faults ascend
  fits_climb : (p : Stand) (c : Cut) → Climbs 1 (fits_at registers known line p c)
  unfolding fits_at fits_of Climbs
  fits_climb p c = omega arith

  -- ---- the first faulty token

  -- the first faulty token, where the line stands somewhere
  record FaultyFrom (p : Stand) (cs : List Cut) (number place : ℕ) : Type 0 where
    before : List Cut
    here : Cut
    after : List Cut
    whole : cs ≡ before ++ (here ∷ after)
    sound : (earlier : List Cut) (c : Cut) (later : List Cut) → before ≡ earlier ++ (c ∷ later)
        → (f : Fit) → In f (fits_at registers known line (behind_all registers known line p earlier) c) → f.fits ≡ false
    fit : In (fitting number) (fits_at registers known line (behind_all registers known line p before) here)
    lowest : (f : Fit) → In f (fits_at registers known line (behind_all registers known line p before) here)
        → f.fits ≡ true → number ≤ f.number
    told : here.at ≡ place

  -- one sound token more in front
  faulty-more : (p : Stand) (c : Cut) (cs : List Cut) (number place : ℕ) → first_fit (fits_at registers known line p c) ≡ 0
      → FaultyFrom (stepped registers known line p c) cs number place → FaultyFrom p (c ∷ cs) number place
  unfolding behind_all
  faulty-more p c cs number place e f =
      record {
        before = c ∷ f.before;
        here = f.here;
        after = f.after;
        whole = ap (λ ds. c ∷ ds) f.whole;
        sound = sounds;
        fit = f.fit;
        lowest = f.lowest;
        told = f.told;
      }
    where
      sounds : (earlier : List Cut) (d : Cut) (later : List Cut) → c ∷ f.before ≡ earlier ++ (d ∷ later)
          → (g : Fit) → In g (fits_at registers known line (behind_all registers known line p earlier) d) → g.fits ≡ false
      sounds [] d later s g i =
          let same : c ≡ d = cc in
          first_none (fits_at registers known line p c)
          (climbs_in 1 (fits_at registers known line p c) (fits_climb p c)) e g
          (subst (λ x. In g (fits_at registers known line p x)) (sym same) i)
      sounds (x ∷ earlier) d later s g i =
          let same : c ≡ x = cc in
          let rest : f.before ≡ earlier ++ (d ∷ later) = cc in
          f.sound earlier d later rest g
          (subst (λ y. In g (fits_at registers known line (behind_all registers known line p (y ∷ earlier)) d)) (sym same) i)

  -- a line that is refused has a first faulty token, where the tokens behind the first have one if it is sound
  refused-first : (p : Stand) (c : Cut) (cs : List Cut) (number place : ℕ)
      → walk registers known line p (c ∷ cs) ≡ faulty number place
      → (k : ℕ) → first_fit (fits_at registers known line p c) ≡ k
      → (walk registers known line (stepped registers known line p c) cs ≡ faulty number place
      → FaultyFrom (stepped registers known line p c) cs number place)
      → FaultyFrom p (c ∷ cs) number place
  unfolding behind_all
  refused-first p c cs number place e zero f more =
      faulty-more p c cs number place f (more (sym (walk_on registers known line p c cs f) ∙ e))
  refused-first p c cs number place e (suc k) f more =
      let g = sym (walk-faulty registers known line p c cs k f) ∙ e in
      let n : suc k ≡ number = cc in
      let (there, lowest) = first-lowest 1 (fits_at registers known line p c) (fits_climb p c) k f in
      record {
        before = [];
        here = c;
        after = cs;
        whole = refl;
        sound = not-before;
        fit = rw (sym n) there;
        lowest = rw (sym n) lowest;
        told = cc;
      }
    where
      not-before : (earlier : List Cut) (d : Cut) (later : List Cut) → [] ≡ earlier ++ (d ∷ later)
          → (g : Fit) → In g (fits_at registers known line (behind_all registers known line p earlier) d) → g.fits ≡ false
      not-before [] d later s = absurd (let z : ◌≡◌ {A = ℕ} 0 1 = cc in omega arith)
      not-before (x ∷ earlier) d later s = absurd (let z : ◌≡◌ {A = ℕ} 0 1 = cc in omega arith)

  -- a line that is refused has a first faulty token
  refused-faulty : (cs : List Cut) (p : Stand) (number place : ℕ) → walk registers known line p cs ≡ faulty number place
      → FaultyFrom p cs number place
  refused-faulty [] p number place e =
      let g = walk_end registers known line p in absurd (let z : ◌≡◌ {A = ℕ} 0 1 = cc in omega arith)
  refused-faulty (c ∷ cs) p number place e =
      refused-first p c cs number place e (first_fit (fits_at registers known line p c)) refl
      (refused-faulty cs (stepped registers known line p c) number place)

  -- a first faulty token is where the line is refused
  faulty-refused : (before : List Cut) (here : Cut) (after : List Cut) (p : Stand) (number : ℕ)
      → ((earlier : List Cut) (c : Cut) (later : List Cut) → before ≡ earlier ++ (c ∷ later)
      → (f : Fit) → In f (fits_at registers known line (behind_all registers known line p earlier) c) → f.fits ≡ false)
      → In (fitting number) (fits_at registers known line (behind_all registers known line p before) here)
      → ((f : Fit) → In f (fits_at registers known line (behind_all registers known line p before) here)
      → f.fits ≡ true → number ≤ f.number)
      → walk registers known line p (before ++ (here ∷ after)) ≡ faulty number here.at
  unfolding behind_all
  faulty-refused [] here after p number sound fit lowest =
      let fs = fits_at registers known line p here in
      let e = lowest-first 1 fs (fits_climb p here) number fit lowest in
      go number e (climbs_in 1 fs (fits_climb p here) (fitting number) fit)
    where
      go : (n : ℕ) → first_fit (fits_at registers known line p here) ≡ n → 1 ≤ n
          → walk registers known line p (here ∷ after) ≡ faulty n here.at
      go zero e l = absurd (let z : ⊥ = omega arith in z)
      go (suc k) e l = walk-faulty registers known line p here after k e
  faulty-refused (c ∷ before) here after p number sound fit lowest =
      walk_on registers known line p c (before ++ (here ∷ after))
      (none_first (fits_at registers known line p c) (sound [] c before refl))
      ∙ faulty-refused before here after (stepped registers known line p c) number
      (λ earlier d later e. sound (c ∷ earlier) d later (ap (λ ds. c ∷ ds) e)) fit lowest

-- a line is refused exactly at its first faulty token, by the lowest number that fits it
pub first-faulty : (registers : List Register) (second line : List ℕ) → are_names (length registers) (pieces second) ≡ true
    → (number place : ℕ)
    → (typed_on registers second line ≡ faulty number place) ↔ FirstFaulty registers (pieces second) line number place
first-faulty registers second line t number place =
    let known = pieces second in
    let walked = typed_named registers second line t in (
      λ e.
          let f = refused-faulty registers known line (cuts line) beginning number place (sym walked ∙ e) in
          record {
            before = f.before;
            here = f.here;
            after = f.after;
            whole = f.whole;
            sound = f.sound;
            fit = f.fit;
            lowest = f.lowest;
            told = f.told;
          },
      λ (f : FirstFaulty registers known line number place).
          walked
          ∙ ap (walk registers known line beginning) f.whole
          ∙ faulty-refused registers known line f.before f.here f.after beginning number f.sound f.fit
          f.lowest
          ∙ ap (faulty number) f.told,
    )
