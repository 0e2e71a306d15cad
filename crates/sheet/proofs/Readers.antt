-- Readings and the answers that they give, once for all readers: an answer that is `Ok` says what was read, one that is `Err` stops
-- what stands around it.
use mathlib.Core.Path.{◌≡◌, refl, sym, ◌∙◌, ap, ap₂}
use mathlib.Core.Bool.{Bool}
use mathlib.Core.List.{List}
use Prim.Native.Nat.{ℕ, ◌+◌, ◌*◌, ◌<◌}
use native.Mathlib.Omega.{arith}
use lib.ListN.{length}
use lib.Dec.{leb}
use borrow.Author.Tests.{leb-true, leb-false}
use Rattle.std.specs.Prelude.{Ok, Err, Result, IsErrAnd}
use Rattle.std.proofs.lemmas.Result.{err_from_is_err_and}
use Rattle.plan.specs.Reader.{Fault, ends_early, Read, got, bad, Reader, ◌>>=◌, hold, field, tested, each}
use Rattle.plan.specs.Refusals.{refusal_of}
use Rattle.plan.specs.declared.Refused.{Refused}
use Rattle.plan.proofs.Lists.{by_test}
use Rattle.plan.proofs.Readers.{got-bad, bind_stop, hold_go, hold_stop, each_stop, tested_stop}
use Rattle.sheet.specs.declared.Got.{Got}
use Rattle.sheet.specs.Answers.{read_as, shown}
use Rattle.sheet.specs.Reads.{Stops}

module _ {A T : Type 0} (show : A → ℕ → T) (x : Read A) where
  -- a value that was read
  pub read_as-got : (a : A) (p : ℕ) → x ≡ got a p → Ok (show a p) ≡ read_as show x
  unfolding read_as
  read_as-got a p h = rw h

  -- a reading that stops gives its error
  pub stopped : (e : Refused) → Stops x e → Err e ≡ read_as show x
  unfolding read_as
  stopped e s = rw (s.is, s.shown)

  -- a fault
  pub read_as-bad : (fault : Fault) (detail : ℕ) → x ≡ bad fault detail
      → Err (record { refusal = refusal_of fault; detail = detail }) ≡ read_as show x
  read_as-bad fault detail h = stopped _ (record { fault = fault; detail = detail; is = h; shown = refl })

  -- the exit of a `?` gives the error that it met
  pub exit : (e : Refused) (r : Result T Refused) → IsErrAnd r (λ d. d ≡ e) → Stops x e → r ≡ read_as show x
  exit e r h s = let p = err_from_is_err_and r h in rw (p.1, p.2) (stopped e s)

  -- an answer that is an error says that the reading stops there
  pub stops : (e : Refused) → Err e ≡ read_as show x → Stops x e
  unfolding read_as
  stops e h = go x refl h
    where
      go : (y : Read A) → x ≡ y → Err e ≡ read_as show y → Stops x e
      go (got a p) q k = absurd (let z : ◌≡◌ {A = ℕ} 0 1 = ap (λ (r : Result T Refused). elim r [ Ok v ↦ 1 | Err w ↦ 0 ]) k in omega arith)
      go (bad fault detail) q k = record { fault = fault; detail = detail; is = q; shown = cc }

  -- an answer with a value says what was read
  pub read_as-ok : (t : T) → Ok t ≡ read_as show x → (a : A) × (p : ℕ) × (x ≡ got a p) × (t ≡ show a p)
  unfolding read_as
  read_as-ok t h = go x refl h
    where
      go : (y : Read A) → x ≡ y → Ok t ≡ read_as show y → (a : A) × (p : ℕ) × (x ≡ got a p) × (t ≡ show a p)
      go (got a p) q k = (a, p, q, cc)
      go (bad fault detail) q k = absurd (let z : ◌≡◌ {A = ℕ} 1 0 = ap (λ (r : Result T Refused). elim r [ Ok v ↦ 1 | Err w ↦ 0 ]) k in omega arith)

-- an answer with a value and the next place says what was read, and where
pub shown-ok : {A T : Type 0} (show : A → T) (x : Read A) (g : Got T) → Ok g ≡ shown show x
    → (a : A) × (x ≡ got a g.next) × (g.value ≡ show a)
shown-ok {A} {T} show x g h =
    let t = read_as-ok _ x g h in
    (t.0, t.2 ∙ ap (got t.0) (sym (ap (λ (y : Got T). y.next) t.3)), ap (λ (y : Got T). y.value) t.3)

-- a fault stops what stands around it
pub stops_first : {A B : Type 0} (r : Reader A) (next : A → Reader B) (bytes : List ℕ) (at : ℕ) {e : Refused}
    → Stops (r bytes at) e → Stops ((r >>= next) bytes at) e
stops_first r next bytes at s =
    record { fault = s.fault; detail = s.detail; is = bind_stop r next bytes at _ _ s.is; shown = s.shown }

-- a fault in the next of several readings
pub stops-each : {A : Type 0} (r : Reader A) (bytes : List ℕ) (at i n : ℕ) {xs : List A} {m : ℕ} {e : Refused} → i < n
    → each i r bytes at ≡ got xs m → Stops (r bytes m) e → Stops (each n r bytes at) e
stops-each r bytes at i n h q s =
    record { fault = s.fault; detail = s.detail; is = each_stop r bytes at i n _ _ _ _ h q s.is; shown = s.shown }

-- a fault of a field stops the field that is tested
pub stops-tested : (w : ℕ) (test : ℕ → Bool) (fault : Fault) (bytes : List ℕ) (at : ℕ) {e : Refused}
    → Stops (field w bytes at) e → Stops (tested w test fault bytes at) e
stops-tested w test fault bytes at s =
    record { fault = s.fault; detail = s.detail; is = tested_stop w test fault bytes at _ _ s.is; shown = s.shown }

-- bits that the sheet does not have, whatever is made of them
pub hold_other : {A B : Type 0} (w : ℕ) (value : List ℕ → ℕ → A) (other : List ℕ → ℕ → B) (bytes : List ℕ) (at : ℕ)
    (fault : Fault) (detail : ℕ) → hold w value bytes at ≡ bad fault detail → hold w other bytes at ≡ bad fault detail
hold_other {A} w value other bytes at fault detail h =
    by_test (leb (at + w) (8 * length bytes))
    (λ t. got-bad (sym (hold_go w value bytes at (leb-true (at + w) (8 * length bytes) t)) ∙ h))
    (λ f. let l = leb-false (at + w) (8 * length bytes) f in
    let e : ◌≡◌ {A = Read A} (bad ends_early at) (bad fault detail) = sym (hold_stop w value bytes at l) ∙ h in
    let same : ends_early ≡ fault = cc in
    let place : at ≡ detail = cc in
    hold_stop w other bytes at l ∙ ap₂ bad same place)
