-- The fault that is told is a sheet's first: each part of the sheet sees no more than the bits that it passes, so all
-- together do. It follows how long a sheet can be, and that bytes behind those change nothing.
use mathlib.Core.Path.{◌≡◌, refl, sym, ◌∙◌, ap, subst}
use mathlib.Core.Logic.{◌⊎◌, inl, inr}
use mathlib.Core.Bool.{Bool, true, false, not}
use mathlib.Core.List.{List, [], ◌∷◌}
use mathlib.Core.Option.{Option, none, some, none-ne-some, some-injective}
use Prim.Native.Nat.{ℕ, zero, suc, ◌+◌, ◌-◌, ◌*◌, ◌/◌, ◌%◌, ◌^◌, ◌≤◌, ◌<◌}
use native.Mathlib.Omega.{arith}
use lib.ListN.{length, get_or, take}
use lib.Seq.{take_all, length-take-le, get_or-take}
use lib.Dec.{eqb, leb, ltb}
use borrow.Author.Tests.{eq-eqb, ne_eqb, eqb-true, eqb-false, leb-true, leb-false, ltb-true, ltb-false}
use Rattle.plan.specs.Lists.{In, has, numbers}
use Rattle.plan.specs.Reader.{Fault, ends_early, wrong_version, count_out, not_in_sheet, unused_variable, bad_padding, given_zero, fault_number}
use Rattle.plan.specs.Reader.{Read, got, bad, Reader, bit_at, bits_at, give, ◌>>=◌, field, marks, tested, each}
use Rattle.plan.specs.Sheet.{Register, LookUp, Sheet, columns_of, count_from, one_of, version, register, marked, value, look_up}
use Rattle.plan.specs.Sheet.{used, first_unused, all_used, to_full_byte, ending, sheet, read_sheet}
use Rattle.plan.specs.Demands.{Alike, widest, narrowest, FirstFault, LowestUnused}
use Rattle.plan.proofs.Lists.{by_test, clash, and_left, and_right, has_in, has-not, eqb_faithful}
use Rattle.plan.proofs.Faults.{apart}
use Rattle.plan.proofs.Readers.{got-bad, bind_go, bind_stop, bind_got}
use Rattle.plan.proofs.Seen.{alike_less, bits-alike, bad_fault, bad-detail, padding_early, Behind, first_on}
use Rattle.plan.proofs.Seen.{Broke, Sees, Plain}
use Rattle.plan.proofs.Seen.{Any, AllOf, give-plain, plain_more, plain_bind, sees_bind, each-plain}
use Rattle.plan.proofs.Seen.{field_plain, marks-plain, tested-plain}

-- a number that is at least i, and not i, is past it
after : (i u : ℕ) → i ≤ u → (u ≡ i → ⊥) → i < u
after i u a d = by_test (ltb i u) (λ t. ltb-true i u t) (λ f. absurd (d (omega (arith, ltb-false i u f))))

-- ---- the parts of the sheet

-- a count is in its range
count_plain : (w low high : ℕ) → 3 ≤ w → w ≤ 4 → Plain (count_from w low high) w (λ x. (low ≤ x) × (x ≤ high))
unfolding count_from fault_number widest narrowest
count_plain w low high g h =
    plain_more (tested w _ count_out) w w _ _ (omega arith)
    (λ x p. (
      leb-true low x (and_left (leb low x) (leb x high) p.0),
      leb-true x high (and_right (leb low x) (leb x high) p.0),
    ))
    (tested-plain w _ count_out (omega arith) h g
    (apart count_out ends_early refl) (apart count_out bad_padding refl))

-- what is named is one of the n things
one_plain : (n : ℕ) → Plain (one_of n) 4 (λ x. x < n)
unfolding one_of fault_number widest narrowest
one_plain n =
    plain_more (tested 4 _ not_in_sheet) 4 4 _ _ (omega arith) (λ x p. ltb-true x n p.0)
    (tested-plain 4 _ not_in_sheet (omega arith) (omega arith) (omega arith)
    (apart not_in_sheet ends_early refl) (apart not_in_sheet bad_padding refl))

version-plain : Plain version 3 Any
unfolding version fault_number widest narrowest
version-plain =
    plain_more (tested 3 _ wrong_version) 3 3 _ _ (omega arith) (λ x p. tt)
    (tested-plain 3 _ wrong_version (omega arith) (omega arith) (omega arith)
    (apart wrong_version ends_early refl) (apart wrong_version bad_padding refl))

-- a given value is not 0
pub value-plain : Plain value 32 (λ x. x ≡ 0 → ⊥)
unfolding value fault_number widest narrowest
value-plain =
    plain_more (tested 32 _ given_zero) 32 32 _ _ (omega arith) (λ x p e. clash p.0 (ap (λ n. not (eqb n 0)) e))
    (tested-plain 32 _ given_zero (omega arith) (omega arith) (omega arith)
    (apart given_zero ends_early refl) (apart given_zero bad_padding refl))

-- a register has at most 6 columns
pub register-plain : Plain register 55 (λ r. r.columns ≤ 6)
unfolding register
register-plain =
    plain_bind (count_from 3 1 6) _ 3 52 _ (λ r. r.columns ≤ 6) (count_plain 3 1 6 (omega arith) (omega arith)) λ columns c.
    plain_bind (count_from 4 1 8) _ 4 48 _ (λ r. r.columns ≤ 6) (count_plain 4 1 8 (omega arith) (omega arith)) λ k h.
    plain_bind (each k (marks columns)) _ 48 0 _ (λ r. r.columns ≤ 6)
    (plain_more (each k (marks columns)) (k * 6) 48 (AllOf Any k) Any (omega (arith, h.1)) (λ x p. tt)
    (each-plain (marks columns) 6 Any
    (plain_more (marks columns) columns 6 _ Any c.1 (λ x p. tt) (marks-plain columns (omega (arith, c.1)))) k))
    λ rules v. give-plain (record { columns = columns; rules = rules }) (λ r. r.columns ≤ 6) c.1

-- a look-up in one of n registers, where none has more than 6 columns
pub look_up_by_lem : (n : ℕ) (columns : List ℕ) (variables : ℕ) → ((r : ℕ) → get_or columns r 0 ≤ 6)
    → Plain
    (one_of n >>= λ r. each (get_or columns r 0) (one_of variables) >>= λ vars. give (record { register = r; vars = vars }))
    28 (Any {A = LookUp})
look_up_by_lem n columns variables low =
    plain_bind (one_of n) _ 4 24 _ Any (one_plain n) λ r h.
    plain_bind (each (get_or columns r 0) (one_of variables)) _ 24 0 Any Any
    (plain_more (each (get_or columns r 0) (one_of variables)) (get_or columns r 0 * 4) 24 _ Any (omega (arith, low r)) (λ x p. tt)
    (each-plain (one_of variables) 4 _ (one_plain variables) (get_or columns r 0)))
    λ vars v. give-plain (record { register = r; vars = vars }) Any tt

look_up-plain : (registers : List Register) (variables : ℕ) → ((r : ℕ) → get_or (columns_of registers) r 0 ≤ 6)
    → Plain (look_up registers variables) 28 Any
unfolding look_up
look_up-plain registers variables low = look_up_by_lem (length registers) (columns_of registers) variables low

-- each variable is used, or the check tells the first that is not, whatever the bytes are
pub all-used_go : (us : List ℕ) (n : ℕ) (bytes : List ℕ) (at : ℕ) → first_unused us (numbers 0 n) ≡ none
    → all_used us n bytes at ≡ got tt at
unfolding all_used
all-used_go us n bytes at e = rw (e, all_used)

pub all-used_stop : (us : List ℕ) (n : ℕ) (bytes : List ℕ) (at v : ℕ) → first_unused us (numbers 0 n) ≡ some v
    → all_used us n bytes at ≡ bad unused_variable v
unfolding all_used
all-used_stop us n bytes at v e = rw (e, all_used)

-- 10 is neither 2 nor 11
unused_early : unused_variable ≡ ends_early → ⊥
unfolding fault_number
unused_early = apart unused_variable ends_early refl

unused-padding : unused_variable ≡ bad_padding → ⊥
unfolding fault_number
unused-padding = apart unused_variable bad_padding refl

module _ (us : List ℕ) (n : ℕ) where
  pub used-passes : (bytes : List ℕ) (at : ℕ) (a : Unit {0}) (p : ℕ) → all_used us n bytes at ≡ got a p
      → (x : Option ℕ) → first_unused us (numbers 0 n) ≡ x → (p ≡ at) × ((other : List ℕ) → all_used us n other at ≡ got a p)
  used-passes bytes at a p e none h =
      let same = sym (all-used_go us n bytes at h) ∙ e in
      let there : at ≡ p = cc in
      (sym there, λ other. all-used_go us n other at h ∙ same)
  used-passes bytes at a p e (some v) h = got-bad (sym e ∙ all-used_stop us n bytes at v h)

  used_breaks : (bytes : List ℕ) (at : ℕ) (f : Fault) (d : ℕ) → all_used us n bytes at ≡ bad f d
      → (x : Option ℕ) → first_unused us (numbers 0 n) ≡ x
      → (unused_variable ≡ f) × ((other : List ℕ) → all_used us n other at ≡ bad f d)
  used_breaks bytes at f d e none h = got-bad (sym (all-used_go us n bytes at h) ∙ e)
  used_breaks bytes at f d e (some v) h =
      let same = sym (all-used_stop us n bytes at v h) ∙ e in
      (bad_fault same, λ other. all-used_stop us n other at v h ∙ same)

  all-used-plain : Plain (all_used us n) 0 Any
  unfolding widest narrowest
  all-used-plain =
      record {
        sees =
            record {
              passes = λ bytes at a p e.
                  let (there, _) = used-passes bytes at a p e _ refl in
                  record { on = omega arith; far = omega arith; inside = λ i. omega arith; value = tt };
              breaks = λ bytes at i f d e.
                  let (is, same) = used_breaks bytes at f d e _ refl in
                  record {
                    first =
                        record {
                          place = at;
                          width = 0;
                          inside = i;
                          narrow = subst (λ x. 0 ≤ widest x) is (omega arith);
                          wide = subst (λ x. narrowest x ≤ 0) is (omega arith);
                          told = λ w. absurd (w (sym is));
                          before = λ other l g j k.
                              inr (inr (sym (bad_fault (sym (same other) ∙ k)) ∙ sym is, λ w. unused-padding (is ∙ w)));
                          here = λ other l. same other;
                          cut = λ _ other l short. absurd (let b : ⊥ = omega (arith, l.long_other) in b);
                          ends = (λ w. absurd (unused_early (is ∙ w)), λ w. absurd (let b : ⊥ = omega arith in b));
                          full = λ w. absurd (unused-padding (is ∙ w));
                          mended = λ w other l end zeros. absurd (unused-padding (is ∙ w));
                        };
                    on = omega arith;
                    far = omega arith;
                    past = λ other l a p k. got-bad (sym k ∙ same other);
                  };
            };
        same = λ bytes at a p e other l. (used-passes bytes at a p e _ refl).1 other;
        early = λ bytes at d e. unused-padding (used_breaks bytes at bad_padding d e _ refl).0;
      }

-- ---- the lowest variable that is not used

module _ (us : List ℕ) where
  -- the first of n numbers from i on that is not used has all before it used
  first-lowest : (n i v : ℕ) → first_unused us (numbers i n) ≡ some v
      → (i ≤ v) × (v < i + n) × (In v us → ⊥) × ((u : ℕ) → i ≤ u → u < v → In u us)
  unfolding first_unused numbers
  first-lowest zero i v e = absurd (none-ne-some v e)
  first-lowest (suc n) i v e =
      by_test (has eqb i us)
      (λ t.
      let (low, high, out, used) = first-lowest n (suc i) v (rw (t, first_unused) at e) in (
        omega arith,
        omega arith,
        out,
        λ u a b. by_test (eqb u i)
            (λ s. rw (eqb-true u i s) (has_in eqb eqb_faithful i us t))
            (λ m. used u (let d : u ≡ i → ⊥ = eqb-false u i m in after i u a d) b),
      ))
      (λ f.
      let here : i ≡ v = some-injective i v (rw (f, first_unused) at e) in (
        omega arith,
        omega arith,
        λ h. has-not eqb eqb_faithful i us f (rw here h),
        λ u a b. absurd (let z : ⊥ = omega arith in z),
      ))

  -- and the lowest is the first
  lowest-first : (n i v : ℕ) → i ≤ v → v < i + n → (In v us → ⊥) → ((u : ℕ) → i ≤ u → u < v → In u us)
      → first_unused us (numbers i n) ≡ some v
  unfolding first_unused numbers
  lowest-first zero i v low high out used = absurd (let z : ⊥ = omega arith in z)
  lowest-first (suc n) i v low high out used =
      by_test (has eqb i us)
      (λ t.
      let past : i ≡ v → ⊥ = λ e. out (rw (sym e) (has_in eqb eqb_faithful i us t)) in
      rw (t, first_unused)
      (lowest-first n (suc i) v (after i v low (λ e. past (sym e))) (omega arith) out (λ u a b. used u (omega arith) b)))
      (λ f.
      by_test (eqb i v)
      (λ s. rw (f, first_unused) (ap some (eqb-true i v s)))
      (λ m. absurd (has-not eqb eqb_faithful i us f (used i (omega arith) (after i v low (λ e. eqb-false i v m (sym e)))))))

-- the variable that is told is the first that is not used
told-first : (us : List ℕ) (n : ℕ) (bytes : List ℕ) (at v : ℕ) → all_used us n bytes at ≡ bad unused_variable v
    → (x : Option ℕ) → first_unused us (numbers 0 n) ≡ x → first_unused us (numbers 0 n) ≡ some v
told-first us n bytes at v e none h = got-bad (sym (all-used_go us n bytes at h) ∙ e)
told-first us n bytes at v e (some w) h = h ∙ ap some (bad-detail (sym (all-used_stop us n bytes at w h) ∙ e))

-- and so the lowest
pub lowest-unused : (us : List ℕ) (n : ℕ) → LowestUnused us n
unfolding LowestUnused
lowest-unused us n bytes at v = (
  λ e.
      let (low, high, out, used) = first-lowest us n 0 v (told-first us n bytes at v e _ refl) in
      (omega arith, out, λ u b. used u (omega arith) b),
  λ h. all-used_stop us n bytes at v (lowest-first us n 0 v (omega arith) (omega (arith, h.0)) h.1 (λ u a b. h.2 u b)),
)

-- ---- the sheet's end

module _ (bytes : List ℕ) (at : ℕ) where
  -- a padding bit is not zero
  pub ending-bits : (bits_at bytes at (to_full_byte at) ≡ 0 → ⊥) → ending bytes at ≡ bad bad_padding at
  unfolding ending
  ending-bits h = rw (ne_eqb (bits_at bytes at (to_full_byte at)) 0 h, ending)

  -- a byte follows
  pub ending-long : bits_at bytes at (to_full_byte at) ≡ 0 → (at + to_full_byte at ≡ 8 * length bytes → ⊥)
      → ending bytes at ≡ bad bad_padding (at + to_full_byte at)
  unfolding ending
  ending-long z h =
      rw (eq-eqb (bits_at bytes at (to_full_byte at)) 0 z, ending) (rw (ne_eqb (at + to_full_byte at) (8 * length bytes) h))

  -- the sheet ends
  pub ending_go : bits_at bytes at (to_full_byte at) ≡ 0 → at + to_full_byte at ≡ 8 * length bytes
      → ending bytes at ≡ got tt (at + to_full_byte at)
  unfolding ending
  ending_go z h =
      rw (eq-eqb (bits_at bytes at (to_full_byte at)) 0 z, ending) (rw (eq-eqb (at + to_full_byte at) (8 * length bytes) h))

  -- by cases
  data Ending : Read (Unit {0}) → Type 0 where
    ends-here : bits_at bytes at (to_full_byte at) ≡ 0 → at + to_full_byte at ≡ 8 * length bytes → Ending (got tt (at + to_full_byte at))
    goes_on : bits_at bytes at (to_full_byte at) ≡ 0 → (at + to_full_byte at ≡ 8 * length bytes → ⊥)
        → Ending (bad bad_padding (at + to_full_byte at))
    not-zero : (bits_at bytes at (to_full_byte at) ≡ 0 → ⊥) → Ending (bad bad_padding at)

  ending-is : Ending (ending bytes at)
  ending-is =
      by_test
      (eqb (bits_at bytes at (to_full_byte at)) 0)
      (λ t.
      let z = eqb-true (bits_at bytes at (to_full_byte at)) 0 t in
      by_test
      (eqb (at + to_full_byte at) (8 * length bytes))
      (λ u. let h = eqb-true (at + to_full_byte at) (8 * length bytes) u in subst Ending (sym (ending_go z h)) (ends-here z h))
      (λ f. let h = eqb-false (at + to_full_byte at) (8 * length bytes) f in subst Ending (sym (ending-long z h)) (goes_on z h)))
      (λ f. let h = eqb-false (bits_at bytes at (to_full_byte at)) 0 f in subst Ending (sym (ending-bits h)) (not-zero h))

  -- an end that passed: zero bits up to a full byte, and no byte after it
  ending-got : (a : Unit {0}) (p : ℕ) → ending bytes at ≡ got a p
      → (p ≡ at + to_full_byte at) × (at + to_full_byte at ≡ 8 * length bytes)
  ending-got a p e = go (ending bytes at) ending-is e
    where
      go : (y : Read (Unit {0})) → Ending y → y ≡ got a p → (p ≡ at + to_full_byte at) × (at + to_full_byte at ≡ 8 * length bytes)
      go y (ends-here z h) e = let there : at + to_full_byte at ≡ p = cc in (sym there, h)
      go y (goes_on z h) e = got-bad (sym e)
      go y (not-zero h) e = got-bad (sym e)

-- whatever the bytes, a fault of the end is at its first bit, or past the padding
ending-behind : (f : Fault) (at : ℕ) (other : List ℕ) (g : Fault) (e : ℕ) → ending other at ≡ bad g e
    → Behind f at (to_full_byte at) g e
ending-behind f at other g e k = go (ending other at) (ending-is other at) k
  where
    go : (y : Read (Unit {0})) → Ending other at y → y ≡ bad g e → Behind f at (to_full_byte at) g e
    go y (ends-here z h) k = got-bad k
    go y (goes_on z h) k = inr (inl (omega (arith, bad-detail k)))
    go y (not-zero h) k = inl (sym (bad-detail k))

-- the padding has at most 7 bits
padding-few : (at : ℕ) → to_full_byte at ≤ 7
unfolding to_full_byte
padding-few at = omega arith

-- and none behind it
padded_twice : (at : ℕ) → at + to_full_byte at + to_full_byte (at + to_full_byte at) ≡ at + to_full_byte at
unfolding to_full_byte
padded_twice at = omega arith

-- bits that are 0 make 0
zero_bits : (bytes : List ℕ) (at w : ℕ) → ((k : ℕ) → at ≤ k → k < at + w → bit_at bytes k ≡ 0) → bits_at bytes at w ≡ 0
unfolding bits_at
zero_bits bytes at zero h = refl
zero_bits bytes at (suc w) h =
    let low = zero_bits bytes at w (λ k a b. h k a (omega arith)) in
    let last = h (at + w) (omega arith) (omega arith) in
    omega arith

module _ (bytes : List ℕ) (at : ℕ) (i : at ≤ 8 * length bytes) where
  -- the padding ends inside the sheet
  padding-inside : at + to_full_byte at ≤ 8 * length bytes
  unfolding to_full_byte
  padding-inside = omega arith

  -- at a full byte
  padding-full : (at + to_full_byte at) % 8 ≡ 0
  unfolding to_full_byte
  padding-full = omega arith

  -- with zeros up to there, a sheet that begins alike has its fault there
  zero-behind : (f : Fault) (other : List ℕ) → Alike (at + to_full_byte at) bytes other → bits_at bytes at (to_full_byte at) ≡ 0
      → (g : Fault) (e : ℕ) → (y : Read (Unit {0})) → Ending other at y → y ≡ bad g e → Behind f (at + to_full_byte at) 1 g e
  zero-behind f other l z g e y (ends-here z' h) k = got-bad k
  zero-behind f other l z g e y (goes_on z' h) k = inl (sym (bad-detail k))
  zero-behind f other l z g e y (not-zero n) k = absurd (n (sym (bits-alike at (to_full_byte at) bytes other l) ∙ z))

  ending_broke : (y : Read (Unit {0})) → Ending bytes at y → (f : Fault) (d : ℕ) → y ≡ bad f d → Broke ending 8 bytes at f d
  unfolding widest narrowest
  ending_broke y (ends-here z h) f d e = got-bad e
  ending_broke y (goes_on z h) f d e =
      let is : bad_padding ≡ f = bad_fault e in
      let there : at + to_full_byte at ≡ d = bad-detail e in
      let more : at + to_full_byte at < 8 * length bytes = after _ _ padding-inside (λ s. h (sym s)) in
      record {
        first =
            record {
              place = at + to_full_byte at;
              width = 1;
              inside = padding-inside;
              narrow = subst (λ x. 1 ≤ widest x) is (omega arith);
              wide = subst (λ x. narrowest x ≤ 1) is (omega arith);
              told = λ _. sym there;
              before = λ other l g c k. zero-behind f other l z g c (ending other at) (ending-is other at) k;
              here = λ other l.
                  ending-long other at
                  (sym (bits-alike at (to_full_byte at) bytes other (alike_less _ _ bytes other (omega arith) l)) ∙ z)
                  (λ w. omega (arith, l.long_other))
                  ∙ e;
              cut = λ n other l short. absurd (n (sym is));
              ends = (λ w. absurd (padding_early (is ∙ w)), λ w. absurd (let b : ⊥ = omega arith in b));
              full = λ w. inr (padding-full, refl);
              mended = λ w other l end zeros.
                  let zero = sym (bits-alike at (to_full_byte at) bytes other l) ∙ z in
                  (tt, _, ending_go other at zero (sym (end ∙ padded_twice at)));
            };
        on = omega arith;
        far = omega (arith, padding-few at);
        past = λ other l a p k. inr (sym is);
      }
  ending_broke y (not-zero n) f d e =
      let is : bad_padding ≡ f = bad_fault e in
      record {
        first =
            record {
              place = at;
              width = to_full_byte at;
              inside = i;
              narrow = subst (λ x. to_full_byte at ≤ widest x) is (padding-few at);
              wide = subst (λ x. narrowest x ≤ to_full_byte at) is (omega arith);
              told = λ _. sym (bad-detail e);
              before = λ other l g c k. ending-behind f at other g c k;
              here = λ other l. ending-bits other at (λ z. n (bits-alike at (to_full_byte at) bytes other l ∙ z)) ∙ e;
              cut = λ w other l short. absurd (w (sym is));
              ends = (λ w. absurd (padding_early (is ∙ w)), λ w. absurd (let b : ⊥ = omega (arith, padding-inside) in b));
              full = λ w. inl padding-full;
              mended = λ w other l end zeros.
                  let zero = zero_bits other at (to_full_byte at) (λ k low high. zeros k low (omega arith)) in
                  (tt, _, ending_go other at zero (sym end));
            };
        on = omega arith;
        far = omega (arith, padding-few at);
        past = λ other l a p k. inr (sym is);
      }

-- what is given behind the end: the last reader, which no other one follows
module _ {B : Type 0} (b : B) where
  last : Reader B
  last = ending >>= λ _. give b

  last_go : (bytes : List ℕ) (at : ℕ) (a : Unit {0}) (p : ℕ) → ending bytes at ≡ got a p → last bytes at ≡ got b p
  unfolding last give
  last_go bytes at a p e = bind_go ending _ bytes at a p e

  last_stop : (bytes : List ℕ) (at : ℕ) (f : Fault) (d : ℕ) → ending bytes at ≡ bad f d → last bytes at ≡ bad f d
  unfolding last
  last_stop bytes at f d e = bind_stop ending _ bytes at f d e

  -- a fault of it is the end's
  stop_last : (bytes : List ℕ) (at : ℕ) (f : Fault) (d : ℕ) → last bytes at ≡ bad f d → (y : Read (Unit {0}))
      → ending bytes at ≡ y → ending bytes at ≡ bad f d
  stop_last bytes at f d e (got a p) g = got-bad (sym (last_go bytes at a p g) ∙ e)
  stop_last bytes at f d e (bad f' d') g = let z = sym (last_stop bytes at f' d' g) ∙ e in g ∙ rw (bad_fault z, bad-detail z)

  last_breaks : (bytes : List ℕ) (at : ℕ) → at ≤ 8 * length bytes → (f : Fault) (d : ℕ) → last bytes at ≡ bad f d
      → Broke last 8 bytes at f d
  unfolding first_on last give
  last_breaks bytes at i f d e =
      let is = stop_last bytes at f d e (ending bytes at) refl in
      let x = ending_broke bytes at i (ending bytes at) (ending-is bytes at) f d is in
      record {
        first =
            first_on (λ other. ending other at) (λ other. last other at) bytes f d x.first
            (λ other l g c k. last_stop other at g c k)
            (λ other l g c k. x.first.before other l g c (stop_last other at g c k (ending other at) refl))
            (λ c other l a p k. (b, p, last_go other at a p k));
        on = x.on;
        far = x.far;
        past = λ other l a p k.
            let (u, q, v, w) = bind_got ending _ other at a p k in
            let there : q ≡ p = cc in
            subst (λ n. (x.first.place + x.first.width ≤ n) ⊎ (f ≡ bad_padding)) there (x.past other l u q v);
      }

  -- it ends with the sheet
  last_passes : (bytes : List ℕ) (at : ℕ) (a : B) (p : ℕ) → last bytes at ≡ got a p
      → (p ≡ at + to_full_byte at) × (p ≡ 8 * length bytes)
  unfolding last give
  last_passes bytes at a p e =
      let (u, q, f, g) = bind_got ending _ bytes at a p e in
      let there : q ≡ p = cc in
      let (on, end) = ending-got bytes at u q f in
      (sym there ∙ on, sym there ∙ on ∙ end)

  last_sees : Sees last 8 Any
  last_sees =
      record {
        passes = λ bytes at a p e.
            let (on, end) = last_passes bytes at a p e in
            record {
              on = omega arith;
              far = omega (arith, padding-few at);
              inside = λ i. omega arith;
              value = tt;
            };
        breaks = last_breaks;
      }

-- ---- the whole sheet

-- registers of at most 6 columns have at most 6 at every place
columns-few : (rs : List Register) → ((r : Register) → In r rs → r.columns ≤ 6) → (i : ℕ) → get_or (columns_of rs) i 0 ≤ 6
unfolding In
columns-few [] h i = omega arith
columns-few (r ∷ rs) h zero = h r (inl refl)
columns-few (r ∷ rs) h (suc i) = columns-few rs (λ x l. h x (inr l)) i

-- no more variables are given than there are marks
pub marked-few : (i : ℕ) (bs : List Bool) → length (marked i bs) ≤ length bs
unfolding marked
marked-few i [] = omega arith
marked-few i (true ∷ bs) = omega (arith, marked-few (suc i) bs)
marked-few i (false ∷ bs) = omega (arith, marked-few (suc i) bs)

-- a sheet is read of at most 1,547 bits: 1,539 of its fields, and 8 that tell its end
pub sheet_sees : Sees sheet 1547 Any
unfolding sheet last
sheet_sees =
    sees_bind version _ 3 1544 Any Any version-plain λ x a.
    sees_bind (count_from 4 1 12) _ 4 1540 _ Any (count_plain 4 1 12 (omega arith) (omega arith)) λ r b.
    sees_bind (field 4) _ 4 1536 _ Any (field_plain 4 (omega arith)) λ v c.
    sees_bind (count_from 4 1 12) _ 4 1532 _ Any (count_plain 4 1 12 (omega arith) (omega arith)) λ n d.
    sees_bind (each r register) _ 660 872 _ Any
    (plain_more (each r register) (r * 55) 660 _ (AllOf (λ x. x.columns ≤ 6) r) (omega (arith, b.1)) (λ x h. h)
    (each-plain register 55 _ register-plain r)) λ registers e.
    sees_bind (marks (v + 1)) _ 16 856 _ Any
    (plain_more (marks (v + 1)) (v + 1) 16 _ (λ bs. length bs ≡ v + 1) (omega arith) (λ x h. h)
    (marks-plain (v + 1) (omega arith))) λ given f.
    sees_bind (each (length (marked 0 given)) value) _ 512 344 Any Any
    (plain_more (each (length (marked 0 given)) value) (length (marked 0 given) * 32) 512 _ Any
    (omega (arith, marked-few 0 given)) (λ x h. tt)
    (each-plain value 32 _ value-plain (length (marked 0 given)))) λ values g.
    sees_bind (each n (look_up registers (v + 1))) _ 336 8 Any Any
    (plain_more (each n (look_up registers (v + 1))) (n * 28) 336 _ Any (omega (arith, d.1)) (λ x h. tt)
    (each-plain (look_up registers (v + 1)) 28 Any (look_up-plain registers (v + 1) (columns-few registers e.1)) n)) λ look_ups h.
    sees_bind (all_used (used (marked 0 given) look_ups) (v + 1)) _ 0 8 Any Any
    (all-used-plain (used (marked 0 given) look_ups) (v + 1)) λ u i. last_sees _

-- ---- the first fault

-- the fault that is told is the first
pub first_fault : (bytes : List ℕ) (fault : Fault) (detail : ℕ) → read_sheet bytes ≡ bad fault detail
    → FirstFault read_sheet bytes fault detail
unfolding read_sheet
first_fault bytes fault detail e = (sheet_sees.breaks bytes 0 (omega arith) fault detail e).first

-- ---- how long a sheet can be

-- a value is read of the whole sheet, so the last bit is the sheet's
abbrev pub Ends : {B : Type 0} → Reader B → Type 0
Ends {B} r = (bytes : List ℕ) (at : ℕ) (b : B) (p : ℕ) → r bytes at ≡ got b p → p ≡ 8 * length bytes

bind_ends : {A B : Type 0} (r : Reader A) (next : A → Reader B) → ((a : A) → Ends (next a)) → Ends (r >>= next)
bind_ends r next t bytes at b p e = let (a, q, f, g) = bind_got r next bytes at b p e in t a bytes q b p g

-- a sheet that is read ends where its bytes do
pub sheet-ends : Ends sheet
unfolding sheet last
sheet-ends =
    bind_ends version _ λ x.
    bind_ends (count_from 4 1 12) _ λ r.
    bind_ends (field 4) _ λ v.
    bind_ends (count_from 4 1 12) _ λ n.
    bind_ends (each r register) _ λ registers.
    bind_ends (marks (v + 1)) _ λ given.
    bind_ends (each (length (marked 0 given)) value) _ λ values.
    bind_ends (each n (look_up registers (v + 1))) _ λ look_ups.
    bind_ends (all_used (used (marked 0 given) look_ups) (v + 1)) _ λ u bytes at b p e. (last_passes _ bytes at b p e).1

-- a sheet that is read has at most 193 bytes (§2.12)
pub sheet-bytes : (bytes : List ℕ) (s : Sheet) (end : ℕ) → read_sheet bytes ≡ got s end → length bytes ≤ 193
unfolding read_sheet
sheet-bytes bytes s end e = omega (arith, (sheet_sees.passes bytes 0 s end e).far, sheet-ends bytes 0 s end e)

module _ (bytes : List ℕ) where
  -- the first 194 bytes begin alike
  cut-alike : (k : ℕ) → k ≤ 8 * 194 → 194 < length bytes → Alike k bytes (take 194 bytes)
  unfolding bit_at
  cut-alike k h l =
      record {
        long = omega arith;
        long_other = omega (arith, length-take-le 194 bytes (omega arith));
        same = λ i b. ap (λ x. x / 2 ^ (7 - i % 8) % 2) (sym (get_or-take 194 bytes (i / 8) 0 (omega arith)));
      }

  cut-long : 194 < length bytes → (r : Read Sheet) → read_sheet bytes ≡ r → read_sheet (take 194 bytes) ≡ read_sheet bytes
  unfolding read_sheet
  cut-long l (got s end) e = absurd (let z : ⊥ = omega (arith, sheet-bytes bytes s end e) in z)
  cut-long l (bad f d) e =
      let x = sheet_sees.breaks bytes 0 (omega arith) f d e in
      x.first.here (take 194 bytes) (cut-alike (x.first.place + x.first.width) (omega (arith, x.far)) l) ∙ sym e

  -- bytes past the first 194 change nothing of what is read (§6.6)
  pub cut-read : read_sheet (take 194 bytes) ≡ read_sheet bytes
  cut-read =
      by_test
      (leb (length bytes) 194)
      (λ t. ap read_sheet (take_all 194 bytes (leb-true (length bytes) 194 t)))
      (λ n. cut-long (leb-false (length bytes) 194 n) (read_sheet bytes) refl)
