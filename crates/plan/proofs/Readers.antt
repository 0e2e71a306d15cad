-- Laws of readers: what one reader behind another gives, reading several times, fields, and what a reading that succeeded
-- says. By cases on what the first reader gives.
use mathlib.Core.Path.{◌≡◌, refl, sym, ◌∙◌, ap, fun_ext}
use mathlib.Core.Bool.{Bool, true, false}
use mathlib.Core.List.{List, [], ◌∷◌, ◌++◌}
use Prim.Native.Nat.{ℕ, zero, suc, ◌+◌, ◌-◌, ◌*◌, ◌^◌, ◌≤◌, ◌<◌}
use native.Mathlib.Omega.{arith}
use native.Mathlib.Nat.{mod-lt, pow-suc}
use native.Mathlib.Numerals.{add-one}
use lib.ListN.{length, length-append}
use lib.Dec.{leb}
use lib.Pow.{pow_pos}
use borrow.Author.Tests.{leb-true, leb-false, le-leb, lt-leb}
use Rattle.plan.specs.Lists.{In}
use Rattle.plan.proofs.Lists.{by_test, in_append, in_nil, in_cons}
use Rattle.plan.specs.Reader.{Fault, ends_early, Read, got, bad, Reader, bit_at, bits_at, marks_at}
use Rattle.plan.specs.Reader.{give, ◌>>=◌, hold, field, marks, tested, each}

-- a bit is 0 or 1
pub bit_lt : (bytes : List ℕ) (k : ℕ) → bit_at bytes k < 2
unfolding bit_at
bit_lt bytes k = mod-lt _ (omega arith)

-- w bits make a number below 2 ^ w
pub bits-lt : (bytes : List ℕ) (at w : ℕ) → bits_at bytes at w < 2 ^ w
unfolding bits_at
bits-lt bytes at zero = pow_pos 0
bits-lt bytes at (suc w) = omega (arith, bits-lt bytes at w, bit_lt bytes (at + w), pow-suc 2 w)

-- w bits are w marks
pub marks-length : (bytes : List ℕ) (at w : ℕ) → length (marks_at bytes at w) ≡ w
unfolding marks_at
marks-length bytes at zero = refl
marks-length bytes at (suc w) = ap suc (marks-length bytes (suc at) w)

-- a value read is no fault
pub got-bad {ℓ} : {A : Type 0} {P : Type ℓ} {a : A} {next detail : ℕ} {fault : Fault} → got a next ≡ bad fault detail → P
got-bad e = absurd (let z : ◌≡◌ {A = ℕ} 0 1 = cc in omega arith)

module _ {A B : Type 0} (r : Reader A) (next : A → Reader B) (bytes : List ℕ) (at : ℕ) where
  -- what follows a value that was read
  pub bind_go : (a : A) (p : ℕ) → r bytes at ≡ got a p → (r >>= next) bytes at ≡ next a bytes p
  unfolding ◌>>=◌
  bind_go a p e = rw (e, ◌>>=◌)

  -- nothing follows a fault
  pub bind_stop : (fault : Fault) (p : ℕ) → r bytes at ≡ bad fault p → (r >>= next) bytes at ≡ bad fault p
  unfolding ◌>>=◌
  bind_stop fault p e = rw (e, ◌>>=◌)

  -- where both were read, the first was, and the second from there on
  pub bind_got : (b : B) (p : ℕ) → (r >>= next) bytes at ≡ got b p
      → (a : A) × (m : ℕ) × (r bytes at ≡ got a m) × (next a bytes m ≡ got b p)
  unfolding ◌>>=◌
  bind_got b p = go (r bytes at) refl
    where
      go : (x : Read A) → r bytes at ≡ x → (r >>= next) bytes at ≡ got b p
          → (a : A) × (m : ℕ) × (r bytes at ≡ got a m) × (next a bytes m ≡ got b p)
      go (got a m) e h = (a, m, e, sym (bind_go a m e) ∙ h)
      go (bad fault q) e h = got-bad (sym h ∙ bind_stop fault q e)

-- what follows depends on what was read alone
pub bind_same : {A B : Type 0} (r s : Reader A) (next : A → Reader B) (bytes : List ℕ) (at m : ℕ)
    → r bytes at ≡ s bytes m → (r >>= next) bytes at ≡ (s >>= next) bytes m
unfolding ◌>>=◌
bind_same r s next bytes at m e = rw (e, ◌>>=◌)

-- readers one behind the other may be grouped either way
pub bind_assoc : {A B C : Type 0} (r : Reader A) (f : A → Reader B) (g : B → Reader C)
    → ((r >>= f) >>= g) ≡ (r >>= λ a. f a >>= g)
bind_assoc {A = A} r f g = fun_ext λ bytes. fun_ext λ at. go bytes at (r bytes at) refl
  where
    go : (bytes : List ℕ) (at : ℕ) (x : Read A) → r bytes at ≡ x
        → ((r >>= f) >>= g) bytes at ≡ (r >>= λ a. f a >>= g) bytes at
    go bytes at (got a p) e = bind_same (r >>= f) (f a) g bytes at p (bind_go r f bytes at a p e)
        ∙ sym (bind_go r _ bytes at a p e)
    go bytes at (bad fault p) e =
        bind_stop (r >>= f) g bytes at fault p (bind_stop r f bytes at fault p e)
        ∙ sym (bind_stop r _ bytes at fault p e)

-- what is given goes on to the next reader
pub give_bind : {A B : Type 0} (a : A) (next : A → Reader B) → (give a >>= next) ≡ next a
unfolding give ◌>>=◌
give_bind a next = refl

module _ {A : Type 0} (r : Reader A) (bytes : List ℕ) (at : ℕ) where
  -- reading nothing
  pub each_none : each 0 r bytes at ≡ got [] at
  unfolding each give
  each_none = refl

  -- one reading more
  pub each_more : (n : ℕ) (xs : List A) (m : ℕ) (x : A) (p : ℕ) → each n r bytes at ≡ got xs m → r bytes m ≡ got x p
      → each (n + 1) r bytes at ≡ got (xs ++ (x ∷ [])) p
  unfolding each give
  each_more n xs m x p e h =
      ap (λ k. each k r bytes at) (add-one n) ∙ bind_go (each n r) _ bytes at xs m e ∙ bind_go r _ bytes m x p h

  -- a fault stays with one reading more
  each-suc_stop : (n : ℕ) (fault : Fault) (p : ℕ) → each n r bytes at ≡ bad fault p
      → each (suc n) r bytes at ≡ bad fault p
  unfolding each
  each-suc_stop n fault p e = bind_stop (each n r) _ bytes at fault p e

  -- a fault in the next reading
  each_next_stop : (n : ℕ) (xs : List A) (m : ℕ) (fault : Fault) (p : ℕ) → each n r bytes at ≡ got xs m
      → r bytes m ≡ bad fault p → each (suc n) r bytes at ≡ bad fault p
  unfolding each
  each_next_stop n xs m fault p e h = bind_go (each n r) _ bytes at xs m e ∙ bind_stop r _ bytes m fault p h

  -- a fault in reading the next ends the whole
  pub each_stop : (i n : ℕ) (xs : List A) (m : ℕ) (fault : Fault) (p : ℕ) → i < n → each i r bytes at ≡ got xs m
      → r bytes m ≡ bad fault p → each n r bytes at ≡ bad fault p
  each_stop i n xs m fault p h e s = ap (λ k. each k r bytes at) (omega arith) ∙ from (n - suc i)
    where
      from : (k : ℕ) → each (k + suc i) r bytes at ≡ bad fault p
      from zero = ap (λ k. each k r bytes at) (omega arith) ∙ each_next_stop i xs m fault p e s
      from (suc k) = ap (λ j. each j r bytes at) (omega arith) ∙ each-suc_stop (k + suc i) fault p (from k)

  -- each that was read is what one reading gives, and there are as many as were asked
  pub each-got : (P : A → Type 0) → ((m : ℕ) (a : A) (p : ℕ) → r bytes m ≡ got a p → P a)
      → (n : ℕ) (xs : List A) (p : ℕ) → each n r bytes at ≡ got xs p → (length xs ≡ n) × ((a : A) → In a xs → P a)
  unfolding each give
  each-got P one zero xs p e =
      let z : xs ≡ [] = cc in
      (ap length z, λ a h. absurd (in_nil a (rw z at h)))
  each-got P one (suc n) xs p e =
      let b = bind_got (each n r) _ bytes at xs p e in
      let l = bind_got r _ bytes b.1 xs p b.3 in
      let ih = each-got P one n b.0 b.1 b.2 in
      let z : b.0 ++ (l.0 ∷ []) ≡ xs = cc l.3 in (
        sym (ap length z) ∙ length-append b.0 (l.0 ∷ []) ∙ rw ih.0 (add-one n),
        λ a h. mathlib.Core.Logic.⊎_elim (ih.1 a)
            (λ t. mathlib.Core.Logic.⊎_elim (λ q. rw q (one b.1 l.0 l.1 l.2)) (λ w. absurd (in_nil a w))
            (in_cons a l.0 [] t)) (in_append a b.0 (l.0 ∷ []) (rw (← z) at h)),
      )

-- what a field of w bits is, where the bytes have them
pub record Held (w : ℕ) (bytes : List ℕ) (at p : ℕ) : Type 0 where
  pub next : p ≡ at + w
  pub room : at + w ≤ 8 * length bytes

module _ {A : Type 0} (w : ℕ) (value : List ℕ → ℕ → A) (bytes : List ℕ) (at : ℕ) where
  -- the bytes have the bits
  pub hold_go : at + w ≤ 8 * length bytes → hold w value bytes at ≡ got (value bytes at) (at + w)
  unfolding hold
  hold_go h = rw (le-leb (at + w) (8 * length bytes) h, hold)

  -- the bytes end before
  pub hold_stop : 8 * length bytes < at + w → hold w value bytes at ≡ bad ends_early at
  unfolding hold
  hold_stop h = rw (lt-leb (at + w) (8 * length bytes) h, hold)

  -- a field that was read is its value, and the bytes have its bits
  pub hold-got : (a : A) (p : ℕ) → hold w value bytes at ≡ got a p → (a ≡ value bytes at) × Held w bytes at p
  hold-got a p e =
      by_test (leb (at + w) (8 * length bytes))
      (λ t. let h = leb-true (at + w) (8 * length bytes) t in let g = hold_go h in (cc, record { next = cc; room = h }))
      (λ f. got-bad (sym e ∙ hold_stop (leb-false (at + w) (8 * length bytes) f)))

-- a field that was read is the number of its bits
pub field-got : (w : ℕ) (bytes : List ℕ) (at x p : ℕ) → field w bytes at ≡ got x p
    → (x ≡ bits_at bytes at w) × Held w bytes at p
unfolding field
field-got w bytes at x p e = hold-got w _ bytes at x p e

-- marks that were read are the bits
pub marks-got : (w : ℕ) (bytes : List ℕ) (at : ℕ) (bs : List Bool) (p : ℕ) → marks w bytes at ≡ got bs p
    → (bs ≡ marks_at bytes at w) × Held w bytes at p
unfolding marks
marks-got w bytes at bs p e = hold-got w _ bytes at bs p e

module _ (w : ℕ) (test : ℕ → Bool) (fault : Fault) (bytes : List ℕ) (at : ℕ) where
  -- a field whose number passes
  pub tested_go : (x p : ℕ) → field w bytes at ≡ got x p → test x ≡ true → tested w test fault bytes at ≡ got x p
  unfolding tested
  tested_go x p e t = rw (e, tested) (rw t)

  -- a field whose number fails
  pub tested_fail : (x p : ℕ) → field w bytes at ≡ got x p → test x ≡ false
      → tested w test fault bytes at ≡ bad fault at
  unfolding tested
  tested_fail x p e t = rw (e, tested) (rw t)

  -- a fault of the field
  pub tested_stop : (f : Fault) (p : ℕ) → field w bytes at ≡ bad f p → tested w test fault bytes at ≡ bad f p
  unfolding tested
  tested_stop f p e = rw (e, tested)

  -- a field that was read and tested is a field, and passes
  pub tested-got : (x p : ℕ) → tested w test fault bytes at ≡ got x p → (field w bytes at ≡ got x p) × (test x ≡ true)
  tested-got x p e = go (field w bytes at) refl
    where
      go : (y : Read ℕ) → field w bytes at ≡ y → (field w bytes at ≡ got x p) × (test x ≡ true)
      go (got y q) h =
          by_test (test y) (λ t. let g = tested_go y q h t in let s : y ≡ x = cc in (cc, rw s at t))
          (λ f. got-bad (sym e ∙ tested_fail y q h f))
      go (bad f q) h = got-bad (sym e ∙ tested_stop f q h)
