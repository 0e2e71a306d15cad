-- Laws of calls on the reader: what one says, and how calls one behind the other come to the whole. By what the whole reads, and
-- what the rest reads from where the reader stands.
use mathlib.Core.Path.{◌≡◌, refl, sym, ◌∙◌, ap, ap₂, subst}
use mathlib.Core.Bool.{Bool}
use mathlib.Core.List.{List, [], map, map-append}
use Prim.Native.Nat.{ℕ, zero, suc, ◌+◌, ◌*◌, ◌≤◌}
use lib.ListN.{length}
use Rattle.std.specs.Prelude.{Ok, Err, Result, IfOk, IsErrAnd}
use Rattle.plan.specs.Reader.{Reader, got, bits_at, marks_at, give, ◌>>=◌, hold, field, marks, each, Read, bad}
use Rattle.plan.specs.Write.{marks_number}
use Rattle.plan.specs.declared.Refused.{Refused}
use Rattle.plan.proofs.Marks.{marks-number}
use Rattle.plan.proofs.Readers.{got-bad, bind_assoc, give_bind, bind_got, bind_go, bind_stop, hold_go, hold-got, field-got}
use Rattle.plan.proofs.Seen.{Plain}
use Rattle.sheet.specs.declared.bits.Reader as Held
use Rattle.sheet.specs.Reads.{Stops, Goes, Reads}
use Rattle.sheet.proofs.Readers.{stops_first, hold_other}

-- a fault that is handed on
pub handed : {A T : Type 0} (show : A → T) (r : Reader A) (before after : Held.Reader) (result : Result T Refused) (e : Refused)
    → IsErrAnd result (λ d. d ≡ e) → Stops (r before.sheet.now before.at) e → Reads show r before result after
handed show r before after (Err d) e h s = subst (Stops (r before.sheet.now before.at)) (sym h) s
handed show r before after (Ok x) e h s = elim h [ ]

-- a number that was read is its value
pub goes-number : {r : Reader ℕ} {before : Held.Reader} {n : ℕ} {after : Held.Reader} → Goes (λ n. n) r before n after
    → r before.sheet.now before.at ≡ got n after.at
goes-number {after = after} g = g.is ∙ ap (λ n. got n after.at) (sym g.shown)

-- a reader that reads the same there
pub goes-as : {A T : Type 0} {show : A → T} (r s : Reader A) {before : Held.Reader} {value : T} {after : Held.Reader}
    → r before.sheet.now before.at ≡ s before.sheet.now before.at → Goes show r before value after → Goes show s before value after
goes-as r s e g = record { read = g.read; is = sym e ∙ g.is; shown = g.shown; sheet = g.sheet }

-- bits that were passed by
pub record Passed (w : ℕ) (before : Held.Reader) (place : ℕ) (after : Held.Reader) : Type 0 where
  pub place_lem : place ≡ before.at
  pub next : after.at ≡ before.at + w
  pub room : before.at + w ≤ 8 * length before.sheet.now

-- the sheet has them
pub goes-hold : (w : ℕ) {before : Held.Reader} {place : ℕ} {after : Held.Reader}
    → Goes (λ n. n) (hold w (λ bytes at. at)) before place after → Passed w before place after
goes-hold w {before} {place} {after} g =
    let h = hold-got w (λ bytes at. at) before.sheet.now before.at place after.at (goes-number g) in
    record { place_lem = h.0; next = h.1.next; room = h.1.room }

-- a rule is read as the number of its bits
pub rule-reads : (w : ℕ) (before : Held.Reader) (result : Result ℕ Refused) (after : Held.Reader)
    → Reads (λ n. n) (field w) before result after → Reads (marks_number 0) (marks w) before result after
unfolding field marks
rule-reads w before (Ok n) after g =
    let h = field-got w before.sheet.now before.at n after.at (goes-number g) in
    record {
      read = marks_at before.sheet.now before.at w;
      is = hold_go w (λ bytes at. marks_at bytes at w) before.sheet.now before.at h.1.room ∙ ap (got (marks_at before.sheet.now before.at w)) (sym h.1.next);
      shown = h.0 ∙ sym (marks-number before.sheet.now before.at w);
      sheet = g.sheet;
    }
rule-reads w before (Err e) after s =
    record {
      fault = s.fault;
      detail = s.detail;
      is = hold_other w (λ bytes at. bits_at bytes at w) (λ bytes at. marks_at bytes at w) before.sheet.now before.at s.fault s.detail s.is;
      shown = s.shown;
    }

-- so far: what the whole reads from the first place is what the rest reads from where the reader stands, on the same sheet
pub record Come {B : Type 0} (whole rest : Reader B) (before now : Held.Reader) : Type 0 where
  pub is : whole before.sheet.now before.at ≡ rest now.sheet.now now.at
  pub sheet : now.sheet ≡ before.sheet

-- nothing was read yet
pub come_none : {B : Type 0} (r : Reader B) (p : Held.Reader) → Come r r p p
come_none r p = record { is = refl; sheet = refl }

module _ {A B : Type 0} {whole : Reader B} (r : Reader A) (next : A → Reader B) {before now : Held.Reader}
    (c : Come whole (r >>= next) before now) where
  -- a value was read
  pub come_on : {T : Type 0} {show : A → T} {value : T} {after : Held.Reader} (g : Goes show r now value after)
      → Come whole (next g.read) before after
  come_on {after = after} g =
      record {
        is = c.is ∙ bind_go r next now.sheet.now now.at g.read after.at g.is
            ∙ ap (λ s. next g.read s.now after.at) (sym g.sheet);
        sheet = g.sheet ∙ c.sheet;
      }

  -- a value was read that is known from what is shown of it
  pub come_back : {T : Type 0} {show : A → T} (back : T → A) → ((a : A) → back (show a) ≡ a) → {value : T}
      {after : Held.Reader} → Goes show r now value after → Come whole (next (back value)) before after
  come_back back same {after = after} g =
      subst (λ a. Come whole (next a) before after) (sym (ap back g.shown ∙ same g.read)) (come_on g)

  -- a fault stops the whole
  pub come_stop : {e : Refused} → Stops (r now.sheet.now now.at) e → Stops (whole before.sheet.now before.at) e
  come_stop s =
      record {
        fault = s.fault;
        detail = s.detail;
        is = c.is ∙ bind_stop r next now.sheet.now now.at s.fault s.detail s.is;
        shown = s.shown;
      }

-- a number was read
pub come_number : {B : Type 0} {whole : Reader B} (r : Reader ℕ) (next : ℕ → Reader B) {before now : Held.Reader}
    → Come whole (r >>= next) before now → {n : ℕ} {after : Held.Reader} → Goes (λ n. n) r now n after
    → Come whole (next n) before after
come_number r next c g = come_back r next c (λ n. n) (λ n. refl) g

module _ {B : Type 0} {whole rest : Reader B} {before now : Held.Reader} (c : Come whole rest before now) where
  -- the rest was read
  pub come_goes : {T : Type 0} {show : B → T} {value : T} {after : Held.Reader} → Goes show rest now value after
      → Goes show whole before value after
  come_goes g = record { read = g.read; is = c.is ∙ g.is; shown = g.shown; sheet = g.sheet ∙ c.sheet }

  -- a fault in the rest
  pub come_fault : {e : Refused} → Stops (rest now.sheet.now now.at) e → Stops (whole before.sheet.now before.at) e
  come_fault s = record { fault = s.fault; detail = s.detail; is = c.is ∙ s.is; shown = s.shown }

-- the rest is read
pub come_last : {B T : Type 0} (show : B → T) {whole rest : Reader B} {before now : Held.Reader} → Come whole rest before now
    → (result : Result T Refused) (after : Held.Reader) → Reads show rest now result after → Reads show whole before result after
come_last show c (Ok value) after g = come_goes c g
come_last show c (Err e) after s = come_fault c s

-- the rest is given
pub come_give : {B T : Type 0} (show : B → T) {whole : Reader B} (b : B) {before now : Held.Reader}
    → Come whole (give b) before now → {value : T} → value ≡ show b → Goes show whole before value now
unfolding give
come_give show b c e = record { read = b; is = c.is; shown = e; sheet = c.sheet }

-- ---- marks that are passed by, and read where they are needed

-- marks that the sheet does not have
pub marks-stop : (w : ℕ) (bytes : List ℕ) (at : ℕ) {e : Refused} → Stops (hold w (λ bytes at. at) bytes at) e → Stops (marks w bytes at) e
unfolding marks
marks-stop w bytes at s =
    record {
      fault = s.fault;
      detail = s.detail;
      is = hold_other w (λ bytes at. at) (λ bytes at. marks_at bytes at w) bytes at s.fault s.detail s.is;
      shown = s.shown;
    }

-- what follows the marks that were passed by
pub come_marks : {B : Type 0} (w : ℕ) (next : List Bool → Reader B) {before : Held.Reader} {place : ℕ} {after : Held.Reader}
    → Goes (λ n. n) (hold w (λ bytes at. at)) before place after
    → Come (marks w >>= next) (next (marks_at after.sheet.now place w)) before after
unfolding marks
come_marks w next {before} {place} {after} g =
    let h = goes-hold w g in
    let bits = marks_at before.sheet.now before.at w in
    record {
      is = bind_go (marks w) next before.sheet.now before.at bits after.at
          (hold_go w (λ bytes at. marks_at bytes at w) before.sheet.now before.at h.room ∙ ap (got bits) (sym h.next))
          ∙ ap₂ (λ s k. next (marks_at s.now k w) s.now after.at) (sym g.sheet) (sym h.place_lem);
      sheet = g.sheet;
    }

-- ---- readers of what is shown

-- a reader of what is shown of its value
abbrev pub showing : {A T : Type 0} → (A → T) → Reader A → Reader T
showing show r = r >>= λ a. give (show a)

-- what is read and shown is read so
pub showing-reads : {A T : Type 0} (show : A → T) (r : Reader A) (before : Held.Reader) (result : Result T Refused) (after : Held.Reader)
    → Reads show r before result after → Reads (λ t. t) (showing show r) before result after
unfolding give
showing-reads show r before (Ok value) after g =
    record {
      read = value;
      is = bind_go r _ before.sheet.now before.at g.read after.at g.is ∙ ap (λ v. got v after.at) (sym g.shown);
      shown = refl;
      sheet = g.sheet;
    }
showing-reads show r before (Err e) after s = stops_first r _ before.sheet.now before.at s

-- several such readings show what the readings give
pub each-showing : {A T : Type 0} (show : A → T) (r : Reader A) (n : ℕ)
    → each n (showing show r) ≡ showing (map show) (each n r)
unfolding each
each-showing show r zero = sym (give_bind [] (λ xs. give (map show xs)))
each-showing show r (suc n) = simp (each-showing show r n, bind_assoc, give_bind, map-append)

-- so they are read
pub each-reads : {A T S : Type 0} (show : A → T) (r : Reader A) (f : List T → S) (n : ℕ) (before : Held.Reader)
    (result : Result S Refused) (after : Held.Reader) → Reads f (each n (showing show r)) before result after
    → Reads (λ xs. f (map show xs)) (each n r) before result after
unfolding give
each-reads {T} show r f n before (Ok value) after g =
    let bytes = before.sheet.now in
    let e = ap (λ s. s bytes before.at) (sym (each-showing show r n)) ∙ g.is in
    let b = bind_got (each n r) (λ xs. give (map show xs)) bytes before.at g.read after.at e in
    let s : ◌≡◌ {A = Read (List T)} (got (map show b.0) b.1) (got g.read after.at) = b.3 in
    let place : b.1 ≡ after.at = cc in
    let same : map show b.0 ≡ g.read = cc in
    record {
      read = b.0;
      is = b.2 ∙ ap (got b.0) place;
      shown = g.shown ∙ ap f (sym same);
      sheet = g.sheet;
    }
each-reads {T} show r f n before (Err e) after s =
    let bytes = before.sheet.now in
    let k = ap (λ s. s bytes before.at) (sym (each-showing show r n)) ∙ s.is in
    record { fault = s.fault; detail = s.detail; is = go (each n r bytes before.at) refl k; shown = s.shown }
  where
    go : (x : _) → each n r before.sheet.now before.at ≡ x
        → showing (map show) (each n r) before.sheet.now before.at ≡ bad s.fault s.detail
        → each n r before.sheet.now before.at ≡ bad s.fault s.detail
    go (got xs m) h k =
        got-bad (sym (bind_go (each n r) (λ xs. give (map show xs)) before.sheet.now before.at xs m h) ∙ k)
    go (bad fault d) h k =
        let e = sym (bind_stop (each n r) (λ xs. give (map show xs)) before.sheet.now before.at fault d h) ∙ k in
        let b : ◌≡◌ {A = Read (List T)} (bad fault d) (bad s.fault s.detail) = e in
        let same : fault ≡ s.fault = cc in
        let place : d ≡ s.detail = cc in
        h ∙ ap₂ bad same place

-- how far a reader goes
pub reads-far : {A T : Type 0} (show : A → T) (r : Reader A) (most : ℕ) (P : A → Type 0) → Plain r most P → (before : Held.Reader)
    (result : Result T Refused) (after : Held.Reader) → Reads show r before result after
    → IfOk result (λ value. after.at ≤ before.at + most)
reads-far show r most P plain before (Ok value) after g =
    (plain.sees.passes before.sheet.now before.at g.read after.at g.is).far
reads-far show r most P plain before (Err e) after s = tt
