-- What a reader sees: a value goes by the bits that the reader passes, and a fault by the bits up to the end of the faulty
-- field, with no fault before it. Readers one behind the other, several readings and fields see so.
use mathlib.Core.Path.{◌≡◌, refl, sym, ◌∙◌, ap, subst}
use mathlib.Core.Logic.{◌⊎◌, inl, inr, ⊎_elim}
use mathlib.Core.Bool.{Bool, true}
use mathlib.Core.List.{List, [], ◌∷◌, ◌++◌}
use Prim.Native.Nat.{ℕ, zero, suc, ◌+◌, ◌*◌, ◌^◌, ◌≤◌, ◌<◌}
use native.Mathlib.Omega.{arith}
use native.Mathlib.Nat.{suc-mul}
use native.Mathlib.Numerals.{add-one}
use lib.ListN.{length, length-append}
use lib.Dec.{eqb, leb}
use borrow.Author.Tests.{leb-true, leb-false, eqb-true, eqb-false}
use Rattle.plan.specs.Lists.{In}
use Rattle.plan.specs.Reader.{Fault, ends_early, unused_variable, bad_padding, fault_number, Read, got, bad, Reader}
use Rattle.plan.specs.Reader.{bit_at, bits_at, marks_at, give, ◌>>=◌, hold, field, marks, tested, each}
use Rattle.plan.specs.Demands.{Alike, widest, narrowest, FirstFault}
use Rattle.plan.proofs.Lists.{by_test, in_append, in_nil, in_cons}
use Rattle.plan.proofs.Faults.{number_differs, apart}
use Rattle.plan.proofs.Readers.{bits-lt, marks-length, got-bad, bind_go, bind_stop, bind_got}
use Rattle.plan.proofs.Readers.{hold_go, hold_stop, hold-got, field-got}
use Rattle.plan.proofs.Readers.{tested_go, tested_fail, tested_stop, tested-got}

-- ---- sheets that begin alike

-- up to a place before, too
pub alike_less : (k m : ℕ) (bytes other : List ℕ) → m ≤ k → Alike k bytes other → Alike m bytes other
alike_less k m bytes other h l =
    record {
      long = omega (arith, l.long);
      long_other = omega (arith, l.long_other);
      same = λ i b. l.same i (omega arith);
    }

-- the same numbers stand there
pub bits-alike : (at w : ℕ) (bytes other : List ℕ) → Alike (at + w) bytes other → bits_at bytes at w ≡ bits_at other at w
unfolding bits_at
bits-alike at zero bytes other l = refl
bits-alike at (suc w) bytes other l =
    let low = bits-alike at w bytes other (alike_less (at + suc w) (at + w) bytes other (omega arith) l) in
    let last : bit_at bytes (at + w) ≡ bit_at other (at + w) = l.same (at + w) (omega arith) in
    rw (low, last)

-- and the same marks
marks-alike : (w at : ℕ) (bytes other : List ℕ) → Alike (at + w) bytes other → marks_at bytes at w ≡ marks_at other at w
unfolding marks_at
marks-alike zero at bytes other l = refl
marks-alike (suc w) at bytes other l =
    let first : bit_at bytes at ≡ bit_at other at = l.same at (omega arith) in
    let rest = marks-alike w (suc at) bytes other (alike_less (at + suc w) (suc at + w) bytes other (omega arith) l) in
    rw (first, rest)

-- ---- what a reader sees

-- a fault of a reading lies behind a field at which another reading has its own: at its place, past the field, or it is 10,
-- and then the other one is not 11
abbrev pub Behind : Fault → ℕ → ℕ → Fault → ℕ → Type 0
Behind fault place width f d = (d ≡ place) ⊎ ((place + width ≤ d) ⊎ ((f ≡ unused_variable) × (fault ≡ bad_padding → ⊥)))

module _ {A B : Type 0} (read : List ℕ → Read A) (next : List ℕ → Read B) (bytes : List ℕ) (f : Fault) (d : ℕ) where
  -- a reading that tells what another one tells of sheets that begin alike, and nothing else before it, has the same first
  -- fault
  unfoldable pub first_on : (x : FirstFault read bytes f d)
      → ((other : List ℕ) → Alike x.place bytes other → (g : Fault) (e : ℕ) → read other ≡ bad g e → next other ≡ bad g e)
      → ((other : List ℕ) → Alike x.place bytes other → (g : Fault) (e : ℕ) → next other ≡ bad g e
      → Behind f x.place x.width g e)
      → (f ≡ bad_padding → (other : List ℕ) → Alike x.place bytes other → (a : A) (p : ℕ) → read other ≡ got a p
      → (b : B) × (q : ℕ) × (next other ≡ got b q))
      → FirstFault next bytes f d
  first_on x stops behind goes =
      record {
        place = x.place;
        width = x.width;
        inside = x.inside;
        narrow = x.narrow;
        wide = x.wide;
        told = x.told;
        before = behind;
        here = λ other l. stops other (alike_less _ _ bytes other (omega arith) l) f d (x.here other l);
        cut = λ n other l short. stops other l ends_early x.place (x.cut n other l short);
        ends = x.ends;
        full = x.full;
        mended = λ c other l end zeros. let (a, p, e) = x.mended c other l end zeros in goes c other l a p e;
      }

module _ {A : Type 0} (r : Reader A) (most : ℕ) (bytes : List ℕ) (at : ℕ) where
  -- a value was read, of at most so many bits, all inside the sheet
  pub record Passed (P : A → Type 0) (a : A) (p : ℕ) : Type 0 where
    pub on : at ≤ p
    pub far : p ≤ at + most
    pub inside : at ≤ 8 * length bytes → p ≤ 8 * length bytes
    pub value : P a

  -- the first fault was told, by at most so many bits; a value that is read of a sheet that begins alike is read past the
  -- field, but where the sheet's end is the fault
  pub record Broke (fault : Fault) (detail : ℕ) : Type 0 where
    pub first : FirstFault (λ other. r other at) bytes fault detail
    pub on : at ≤ first.place
    pub far : first.place + first.width ≤ at + most
    pub past : (other : List ℕ) → Alike first.place bytes other → (a : A) (p : ℕ) → r other at ≡ got a p
        → (first.place + first.width ≤ p) ⊎ (fault ≡ bad_padding)

-- a reader sees at most so many bits, and gives values of which P holds
pub record Sees {A : Type 0} (r : Reader A) (most : ℕ) (P : A → Type 0) : Type 0 where
  pub passes : (bytes : List ℕ) (at : ℕ) (a : A) (p : ℕ) → r bytes at ≡ got a p → Passed r most bytes at P a p
  pub breaks : (bytes : List ℕ) (at : ℕ) → at ≤ 8 * length bytes → (f : Fault) (d : ℕ) → r bytes at ≡ bad f d
      → Broke r most bytes at f d

-- other readers may stand behind it: its value goes by the bits that it passes, and it never tells 11
pub record Plain {A : Type 0} (r : Reader A) (most : ℕ) (P : A → Type 0) : Type 0 where
  pub sees : Sees r most P
  pub same : (bytes : List ℕ) (at : ℕ) (a : A) (p : ℕ) → r bytes at ≡ got a p → (other : List ℕ) → Alike p bytes other
      → r other at ≡ got a p
  pub early : (bytes : List ℕ) (at d : ℕ) → r bytes at ≡ bad bad_padding d → ⊥

-- a value of which nothing is asked
abbrev pub Any : {A : Type 0} → A → Type 0
Any a = Unit {0}

-- the same fault and detail
pub bad_fault : {A : Type 0} {f g : Fault} {d e : ℕ} → ◌≡◌ {A = Read A} (bad f d) (bad g e) → f ≡ g
bad_fault e = cc

pub bad-detail : {A : Type 0} {f g : Fault} {d e : ℕ} → ◌≡◌ {A = Read A} (bad f d) (bad g e) → d ≡ e
bad-detail e = cc

-- 11 is not 2
pub padding_early : bad_padding ≡ ends_early → ⊥
unfolding fault_number
padding_early = apart bad_padding ends_early refl

-- a fault is 10 or another
unused-or : (f : Fault) → (f ≡ unused_variable) ⊎ (f ≡ unused_variable → ⊥)
unused-or f =
    by_test
    (eqb (fault_number f) (fault_number unused_variable))
    (λ t. inl (number_differs f unused_variable (eqb-true _ _ t)))
    (λ n. inr (λ e. eqb-false _ _ n (ap fault_number e)))

-- ---- one reader behind another

module _ {A B : Type 0} (r : Reader A) (next : A → Reader B) (m k : ℕ) (P : A → Type 0) (Q : B → Type 0)
    (s : Plain r m P) (t : (a : A) → P a → Sees (next a) k Q) where
  bind_passes : (bytes : List ℕ) (at : ℕ) (b : B) (p : ℕ) → (r >>= next) bytes at ≡ got b p
      → Passed (r >>= next) (m + k) bytes at Q b p
  bind_passes bytes at b p e =
      let (a, q, f, g) = bind_got r next bytes at b p e in
      let x = s.sees.passes bytes at a q f in
      let y = (t a x.value).passes bytes q b p g in
      record {
        on = omega (arith, x.on, y.on);
        far = omega (arith, x.far, y.far);
        inside = λ h. y.inside (x.inside h);
        value = y.value;
      }

  module _ (bytes : List ℕ) (at : ℕ) (h : at ≤ 8 * length bytes) (f : Fault) (d : ℕ) where
    -- where the first reader has the fault, both have none before it on a sheet that begins alike
    behind : (x : Broke r m bytes at f d) → r bytes at ≡ bad f d → (other : List ℕ) → Alike x.first.place bytes other
        → (g : Fault) (e : ℕ) → (r >>= next) other at ≡ bad g e → (y : Read A) → r other at ≡ y
        → Behind f x.first.place x.first.width g e
    behind x is other l g e k (got a q) u =
        let v = s.sees.passes other at a q u in
        let i = v.inside (omega (arith, x.on, l.long_other)) in
        let w = (t a v.value).breaks other q i g e (sym (bind_go r next other at a q u) ∙ k) in
        ⊎_elim
        (λ z. ⊎_elim
        (λ n. inr (inr (n, λ c. s.early bytes at d (is ∙ ap (λ i. bad i d) c))))
        (λ n. inr (inl (omega (arith, w.on, w.first.told n))))
        (unused-or g))
        (λ c. absurd (s.early bytes at d (is ∙ ap (λ i. bad i d) c)))
        (x.past other l a q u)
    behind x is other l g e k (bad g' e') u =
        let z = sym (bind_stop r next other at g' e' u) ∙ k in
        x.first.before other l g e (u ∙ rw (bad_fault z, bad-detail z))

    bind_breaks : (y : Read A) → r bytes at ≡ y → (r >>= next) bytes at ≡ bad f d → Broke (r >>= next) (m + k) bytes at f d
    unfolding first_on
    bind_breaks (got a q) u e =
        let x = s.sees.passes bytes at a q u in
        let y = (t a x.value).breaks bytes q (x.inside h) f d (sym (bind_go r next bytes at a q u) ∙ e) in
        let same : (other : List ℕ) → Alike y.first.place bytes other → (r >>= next) other at ≡ next a other q =
        λ other l. bind_go r next other at a q (s.same bytes at a q u other (alike_less _ q bytes other y.on l)) in
        record {
          first =
              first_on (λ other. next a other q) (λ other. (r >>= next) other at) bytes f d y.first
              (λ other l g i j. same other l ∙ j)
              (λ other l g i j. y.first.before other l g i (sym (same other l) ∙ j))
              (λ c other l b p j. (b, p, same other l ∙ j));
          on = omega (arith, x.on, y.on);
          far = omega (arith, x.far, y.far);
          past = λ other l b p j. y.past other l b p (sym (same other l) ∙ j);
        }
    bind_breaks (bad f' d') u e =
        let is : r bytes at ≡ bad f d =
        u ∙ (let z = sym (bind_stop r next bytes at f' d' u) ∙ e in rw (bad_fault z, bad-detail z)) in
        let x = s.sees.breaks bytes at h f d is in
        record {
          first =
              first_on (λ other. r other at) (λ other. (r >>= next) other at) bytes f d x.first
              (λ other l g i j. bind_stop r next other at g i j)
              (λ other l g i j. behind x is other l g i j (r other at) refl)
              (λ c other l a p j. absurd (s.early bytes at d (is ∙ ap (λ i. bad i d) c)));
          on = x.on;
          far = omega (arith, x.far);
          past = λ other l b p j.
              let (a, q, v, w) = bind_got r next other at b p j in
              let value = (s.sees.passes other at a q v).value in
              ⊎_elim (λ z. inl (omega (arith, ((t a value).passes other q b p w).on))) inr (x.past other l a q v);
        }

  pub sees_bind : Sees (r >>= next) (m + k) Q
  sees_bind = record { passes = bind_passes; breaks = λ bytes at h f d e. bind_breaks bytes at h f d (r bytes at) refl e }

module _ {A B : Type 0} (r : Reader A) (next : A → Reader B) (m k : ℕ) (P : A → Type 0) (Q : B → Type 0)
    (s : Plain r m P) (t : (a : A) → P a → Plain (next a) k Q) where
  bind_same : (bytes : List ℕ) (at : ℕ) (b : B) (p : ℕ) → (r >>= next) bytes at ≡ got b p
      → (other : List ℕ) → Alike p bytes other → (r >>= next) other at ≡ got b p
  bind_same bytes at b p e other l =
      let (a, q, f, g) = bind_got r next bytes at b p e in
      let y = t a (s.sees.passes bytes at a q f).value in
      let on = (y.sees.passes bytes q b p g).on in
      bind_go r next other at a q (s.same bytes at a q f other (alike_less p q bytes other on l))
      ∙ y.same bytes q b p g other l

  bind_early : (bytes : List ℕ) (at d : ℕ) → (r >>= next) bytes at ≡ bad bad_padding d → (y : Read A) → r bytes at ≡ y → ⊥
  bind_early bytes at d e (got a q) g =
      (t a (s.sees.passes bytes at a q g).value).early bytes q d (sym (bind_go r next bytes at a q g) ∙ e)
  bind_early bytes at d e (bad f p) g =
      s.early bytes at p (g ∙ ap (λ x. bad x p) (bad_fault (sym (bind_stop r next bytes at f p g) ∙ e)))

  pub plain_bind : Plain (r >>= next) (m + k) Q
  plain_bind =
      record {
        sees = sees_bind r next m k P Q s (λ a v. (t a v).sees);
        same = bind_same;
        early = λ bytes at d e. bind_early bytes at d e (r bytes at) refl;
      }

-- reading nothing
pub give-plain : {A : Type 0} (a : A) (P : A → Type 0) → P a → Plain (give a) 0 P
unfolding give
give-plain {A} a P h =
    record {
      sees =
          record {
            passes = λ bytes at b p e.
                let same : a ≡ b = cc in
                let place : at ≡ p = cc in
                record {
                  on = omega arith;
                  far = omega arith;
                  inside = λ i. omega arith;
                  value = subst P same h;
                };
            breaks = λ bytes at i f d e. got-bad e;
          };
      same = λ bytes at b p e other l. e;
      early = λ bytes at d e. got-bad e;
    }

-- seeing more bits, and asking less of the value
pub plain_more : {A : Type 0} (r : Reader A) (m k : ℕ) (P Q : A → Type 0) → m ≤ k → ((a : A) → P a → Q a) → Plain r m P
    → Plain r k Q
plain_more r m k P Q h w s =
    record {
      sees =
          record {
            passes = λ bytes at a p e.
                let x = s.sees.passes bytes at a p e in
                record {
                  on = x.on;
                  far = omega (arith, x.far);
                  inside = x.inside;
                  value = w a x.value;
                };
            breaks = λ bytes at i f d e.
                let x = s.sees.breaks bytes at i f d e in
                record { first = x.first; on = x.on; far = omega (arith, x.far); past = x.past };
          };
      same = s.same;
      early = s.early;
    }

-- ---- several readings

-- as many as were asked, and P holds of each
abbrev pub AllOf : {A : Type 0} → (A → Type 0) → ℕ → List A → Type 0
AllOf {A} P n xs = (length xs ≡ n) × ((a : A) → In a xs → P a)

all_more : {A : Type 0} (P : A → Type 0) (n : ℕ) (xs : List A) (x : A) → AllOf P n xs → P x → AllOf P (suc n) (xs ++ (x ∷ []))
all_more P n xs x (l, h) v = (
  length-append xs (x ∷ []) ∙ rw l (add-one n),
  λ a i. ⊎_elim (h a)
      (λ j. ⊎_elim (λ q. rw q v) (λ w. absurd (in_nil a w)) (in_cons a x [] j))
      (in_append a xs (x ∷ []) i),
)

pub each-plain : {A : Type 0} (r : Reader A) (m : ℕ) (P : A → Type 0) → Plain r m P → (n : ℕ)
    → Plain (each n r) (n * m) (AllOf P n)
unfolding each
each-plain r m P s zero =
    plain_more (give []) 0 (0 * m) (AllOf P 0) (AllOf P 0) (omega arith) (λ a h. h)
    (give-plain [] (AllOf P 0) (refl, λ a i. absurd (in_nil a i)))
each-plain r m P s (suc n) =
    plain_more (each (suc n) r) (n * m + (m + 0)) (suc n * m) (AllOf P (suc n)) (AllOf P (suc n))
    (omega (arith, suc-mul n m)) (λ a h. h)
    (plain_bind (each n r) _ (n * m) (m + 0) (AllOf P n) (AllOf P (suc n)) (each-plain r m P s n)
    (λ xs h. plain_bind r _ m 0 P (AllOf P (suc n)) s
    (λ x v. give-plain (xs ++ (x ∷ [])) (AllOf P (suc n)) (all_more P n xs x h v))))

-- ---- fields

module _ {A : Type 0} (w : ℕ) (value : List ℕ → ℕ → A) where
  -- a field that is not whole ends the sheet at its first bit
  hold-bad : (bytes : List ℕ) (at : ℕ) (f : Fault) (d : ℕ) → hold w value bytes at ≡ bad f d
      → (f ≡ ends_early) × (d ≡ at) × (8 * length bytes < at + w)
  hold-bad bytes at f d e =
      by_test (leb (at + w) (8 * length bytes))
      (λ t. got-bad (sym (hold_go w value bytes at (leb-true _ _ t)) ∙ e))
      (λ n.
      let short = leb-false (at + w) (8 * length bytes) n in
      let z = sym (hold_stop w value bytes at short) ∙ e in
      (sym (bad_fault z), sym (bad-detail z), short))

  module _ (narrow : w ≤ 32)
      (alike : (bytes other : List ℕ) (at : ℕ) → Alike (at + w) bytes other → value bytes at ≡ value other at)
      (P : A → Type 0) (holds : (bytes : List ℕ) (at : ℕ) → P (value bytes at)) where
    hold-passes : (bytes : List ℕ) (at : ℕ) (a : A) (p : ℕ) → hold w value bytes at ≡ got a p
        → Passed (hold w value) w bytes at P a p
    hold-passes bytes at a p e =
        let (is, g) = hold-got w value bytes at a p e in
        record {
          on = omega (arith, g.next);
          far = omega (arith, g.next);
          inside = λ i. omega (arith, g.next, g.room);
          value = rw is (holds bytes at);
        }

    hold-same : (bytes : List ℕ) (at : ℕ) (a : A) (p : ℕ) → hold w value bytes at ≡ got a p → (other : List ℕ)
        → Alike p bytes other → hold w value other at ≡ got a p
    hold-same bytes at a p e other l =
        let (is, g) = hold-got w value bytes at a p e in
        hold_go w value other at (omega (arith, g.next, l.long_other))
        ∙ rw (is, g.next, alike bytes other at (subst (λ x. Alike x bytes other) g.next l))

    -- a field of at most 32 bits
    pub hold-plain : Plain (hold w value) w P
    unfolding widest narrowest
    hold-plain =
        record {
          sees =
              record {
                passes = hold-passes;
                breaks = λ bytes at i f d e.
                    let (is, place, short) = hold-bad bytes at f d e in
                    record {
                      first =
                          record {
                            place = at;
                            width = w;
                            inside = i;
                            narrow = subst (λ x. w ≤ widest x) (sym is) narrow;
                            wide = subst (λ x. narrowest x ≤ w) (sym is) (omega arith);
                            told = λ n. place;
                            before = λ other l g j k. inl (hold-bad other at g j k).1;
                            here = λ other l. absurd (let z : ⊥ = omega (arith, l.long) in z);
                            cut = λ n other l end. hold_stop w value other at end;
                            ends = (λ _. short, λ _. is);
                            full = λ c. absurd (padding_early (sym c ∙ is));
                            mended = λ c other l end zeros. absurd (padding_early (sym c ∙ is));
                          };
                      on = omega arith;
                      far = omega arith;
                      past = λ other l a p g. inl (omega (arith, (hold-got w value other at a p g).1.next));
                    };
              };
          same = hold-same;
          early = λ bytes at d e. padding_early (hold-bad bytes at bad_padding d e).0;
        }

-- a number
pub field_plain : (w : ℕ) → w ≤ 32 → Plain (field w) w (λ x. x < 2 ^ w)
unfolding field
field_plain w h = hold-plain w _ h (λ bytes other at. bits-alike at w bytes other) (λ x. x < 2 ^ w) (λ bytes at. bits-lt bytes at w)

-- marks
pub marks-plain : (w : ℕ) → w ≤ 32 → Plain (marks w) w (λ bs. length bs ≡ w)
unfolding marks
marks-plain w h =
    hold-plain w _ h (λ bytes other at. marks-alike w at bytes other) (λ bs. length bs ≡ w) (λ bytes at. marks-length bytes at w)

module _ (w : ℕ) (test : ℕ → Bool) (fault : Fault) (narrow : w ≤ 32) (few : w ≤ widest fault) (least : narrowest fault ≤ w)
    (whole : fault ≡ ends_early → ⊥) (padding : fault ≡ bad_padding → ⊥) where
  -- the test passes, and the number is small
  abbrev Passes : ℕ → Type 0
  Passes x = (test x ≡ true) × (x < 2 ^ w)

  tested-passes : (bytes : List ℕ) (at x p : ℕ) → tested w test fault bytes at ≡ got x p
      → Passed (tested w test fault) w bytes at Passes x p
  tested-passes bytes at x p e =
      let (g, t) = tested-got w test fault bytes at x p e in
      let f = (field_plain w narrow).sees.passes bytes at x p g in
      record {
        on = f.on;
        far = f.far;
        inside = f.inside;
        value = (t, f.value);
      }

  -- a fault of the field stands at its first bit
  tested_at : (bytes : List ℕ) (at : ℕ) (f : Fault) (d : ℕ) → tested w test fault bytes at ≡ bad f d → d ≡ at
  unfolding field
  tested_at bytes at f d e = go (field w bytes at) refl
    where
      go : (y : Read ℕ) → field w bytes at ≡ y → d ≡ at
      go (got x p) g =
          by_test (test x)
          (λ t. got-bad (sym (tested_go w test fault bytes at x p g t) ∙ e))
          (λ n. bad-detail (sym e ∙ tested_fail w test fault bytes at x p g n))
      go (bad f' d') g =
          bad-detail (sym e ∙ tested_stop w test fault bytes at f' d' g) ∙ (hold-bad w _ bytes at f' d' g).1

  tested_past : (at : ℕ) (other : List ℕ) (x p : ℕ) → tested w test fault other at ≡ got x p → at + w ≤ p
  tested_past at other x p e = omega (arith, (field-got w other at x p (tested-got w test fault other at x p e).0).1.next)

  -- and ends early there where the sheet ends within it
  tested-cut : (at : ℕ) (other : List ℕ) → 8 * length other < at + w → tested w test fault other at ≡ bad ends_early at
  unfolding field
  tested-cut at other h = tested_stop w test fault other at ends_early at (hold_stop w _ other at h)

  tested_breaks : (bytes : List ℕ) (at : ℕ) → at ≤ 8 * length bytes → (f : Fault) (d : ℕ)
      → tested w test fault bytes at ≡ bad f d → (y : Read ℕ) → field w bytes at ≡ y → Broke (tested w test fault) w bytes at f d
  unfolding field widest narrowest
  tested_breaks bytes at i f d e (got x p) g =
      by_test (test x)
      (λ t. got-bad (sym (tested_go w test fault bytes at x p g t) ∙ e))
      (λ n.
      let z = sym (tested_fail w test fault bytes at x p g n) ∙ e in
      let h = (field-got w bytes at x p g).1 in
      record {
        first =
            record {
              place = at;
              width = w;
              inside = i;
              narrow = subst (λ x. w ≤ widest x) (bad_fault z) few;
              wide = subst (λ x. narrowest x ≤ w) (bad_fault z) least;
              told = λ _. sym (bad-detail z);
              before = λ other l f' d' k. inl (tested_at other at f' d' k);
              here = λ other l.
                  tested_fail w test fault other at x p
                  ((field_plain w narrow).same bytes at x p g other (subst (λ k. Alike k bytes other) (sym h.next) l)) n ∙ z;
              cut = λ _ other l short. tested-cut at other short;
              ends = (λ c. absurd (whole (bad_fault z ∙ c)), λ c. absurd (let b : ⊥ = omega (arith, h.room) in b));
              full = λ c. absurd (padding (bad_fault z ∙ c));
              mended = λ c other l end zeros. absurd (padding (bad_fault z ∙ c));
            };
        on = omega arith;
        far = omega arith;
        past = λ other l y q k. inl (tested_past at other y q k);
      })
  tested_breaks bytes at i f d e (bad f' d') g =
      let z = sym (tested_stop w test fault bytes at f' d' g) ∙ e in
      let is : field w bytes at ≡ bad f d = g ∙ rw (bad_fault z, bad-detail z) in
      let (early, there, short) = hold-bad w _ bytes at f d is in
      record {
        first =
            record {
              place = at;
              width = w;
              inside = i;
              narrow = subst (λ x. w ≤ widest x) (sym early) narrow;
              wide = subst (λ x. narrowest x ≤ w) (sym early) (omega arith);
              told = λ _. there;
              before = λ other l f'' d'' k. inl (tested_at other at f'' d'' k);
              here = λ other l. absurd (let b : ⊥ = omega (arith, l.long) in b);
              cut = λ _ other l end. tested-cut at other end;
              ends = (λ _. short, λ _. early);
              full = λ c. absurd (padding_early (sym c ∙ early));
              mended = λ c other l end zeros. absurd (padding_early (sym c ∙ early));
            };
        on = omega arith;
        far = omega arith;
        past = λ other l y q k. inl (tested_past at other y q k);
      }

  -- a field whose number passes a test
  pub tested-plain : Plain (tested w test fault) w Passes
  unfolding field
  tested-plain =
      record {
        sees =
            record {
              passes = tested-passes;
              breaks = λ bytes at i f d e. tested_breaks bytes at i f d e (field w bytes at) refl;
            };
        same = λ bytes at x p e other l.
            let (g, t) = tested-got w test fault bytes at x p e in
            tested_go w test fault other at x p ((field_plain w narrow).same bytes at x p g other l) t;
        early = λ bytes at d e. go bytes at d e (field w bytes at) refl;
      }
    where
      go : (bytes : List ℕ) (at d : ℕ) → tested w test fault bytes at ≡ bad bad_padding d → (y : Read ℕ) → field w bytes at ≡ y → ⊥
      go bytes at d e (got x p) g =
          by_test (test x)
          (λ t. got-bad (sym (tested_go w test fault bytes at x p g t) ∙ e))
          (λ n. padding (bad_fault (sym (tested_fail w test fault bytes at x p g n) ∙ e)))
      go bytes at d e (bad f p) g =
          (field_plain w narrow).early bytes at p
          (g ∙ ap (λ x. bad x p) (bad_fault (sym (tested_stop w test fault bytes at f p g) ∙ e)))
