-- Laws of what is put behind the bits that a sheet holds: what a stage leaves, and how stages one behind the other and the
-- turns of a loop come to the whole. By what was written so far, and what the rest writes.
use mathlib.Core.Path.{◌≡◌, refl, sym, ◌∙◌, ap, ap₂, subst}
use mathlib.Core.Bool.{Bool}
use mathlib.Core.List.{List, [], ◌∷◌, ◌++◌, append_assoc, append-nil}
use Prim.Native.Nat.{ℕ, ◌+◌, ◌-◌, ◌*◌, ◌/◌, ◌%◌, ◌^◌, ◌≤◌, ◌<◌}
use native.Mathlib.Omega.{arith}
use lib.ListN.{length, get_or, set, length-append}
use Rattle.std.specs.Prelude.{Result, Ok, Err, IsErrAnd}
use Rattle.plan.specs.Reader.{Fault}
use Rattle.plan.specs.Refusals.{refusal_of}
use Rattle.plan.specs.declared.Refused.{Refused}
use Rattle.plan.specs.Write.{marks_of, Item, sound, broken, Written, put, refused, behind, written, octets}
use Rattle.plan.proofs.Marks.{marks-long, marks_split, marks-low}
use Rattle.plan.proofs.Octets.{number-back}
use Rattle.plan.proofs.Items.{behind-nil, behind-behind, behind-bits, behind_fault, written-nil, written_one, written-broken, written-append, written_stop}
use Rattle.write.specs.declared.bits.Writer.{Writer}
use Rattle.write.specs.Puts.{most_bits, Holds, Open, Grows, Goes, Stops, Puts}
use Rattle.write.proofs.OctetLaws.{octets-more, octets-room}

-- ---- bits behind bits

-- nothing more
pub grows_none : (w : Writer) → Grows [] w w
grows_none w bits h = subst (λ bs. Holds bs w) (sym (append-nil bits)) h

-- more, and then more
pub grows_then : {more next : List Bool} {a b c : Writer} → Grows more a b → Grows next b c → Grows (more ++ next) a c
grows_then {more} {next} {a} {b} {c} g h bits is =
    subst (λ bs. Holds bs c) (append_assoc bits more next) (h (bits ++ more) (g bits is))

-- the byte at the place has as many bits as stand behind the last full byte
pub holds-room : (bits : List Bool) (w : Writer) → Holds bits w → w.at < most_bits
    → get_or w.sheet (w.at / 8) 0 < 2 ^ (w.at % 8)
holds-room bits w h r =
    subst (λ (n : ℕ). get_or w.sheet (n / 8) 0 < 2 ^ (n % 8)) (sym h.place)
    (subst (λ (l : List ℕ). get_or l (length bits / 8) 0 < 2 ^ (length bits % 8)) (sym h.held)
    (octets-room 193 bits (omega (arith, h.place))))

-- some bits more
pub holds_more : (bits : List Bool) (w : Writer) (some b : ℕ) → b < 2 ^ some → w.at % 8 + some ≤ 8
    → Holds bits w → w.at < most_bits
    → Holds (bits ++ marks_of some b)
    (record { sheet = set w.sheet (w.at / 8) (get_or w.sheet (w.at / 8) 0 * 2 ^ some + b); at = w.at + some })
holds_more bits w some b l room h r =
    let n = marks-long some b in
    let behind : ℕ → List ℕ → ℕ → ℕ → List ℕ = λ k ys w x. set ys k (get_or ys k 0 * 2 ^ w + x) in
    record {
      place = omega (arith, h.place, length-append bits (marks_of some b), n);
      held = ap (λ k. behind (k / 8) w.sheet some b) h.place
          ∙ ap (λ (ys : List ℕ). behind (length bits / 8) ys some b) h.held
          ∙ ap₂ (λ w x. behind (length bits / 8) (octets 193 bits) w x) (sym n) (sym (number-back some b l))
          ∙ sym (octets-more 193 bits (marks_of some b) (omega (arith, h.place)) (omega (arith, h.place, n)));
    }

-- ---- a number's bits, the highest first

-- the bits above those that are left are put
pub record Above (width value : ℕ) (before : Writer) (left : ℕ) (now : Writer) : Type 0 where
  pub done : List Bool
  pub whole : marks_of width value ≡ done ++ marks_of left value
  pub grows : Grows done before now

-- none yet
pub above_none : (width value : ℕ) (before : Writer) → Above width value before width before
above_none width value before = record { done = []; whole = refl; grows = grows_none before }

-- some more
pub above_more : (width value : ℕ) (before : Writer) (left : ℕ) (now : Writer) (some b : ℕ) (after : Writer)
    → some ≤ left → Above width value before left now → b ≡ value / 2 ^ (left - some) % 2 ^ some
    → Grows (marks_of some b) now after → Above width value before (left - some) after
above_more width value before left now some b after h x e g =
    let z : left ≡ some + (left - some) = omega arith in
    let high = value / 2 ^ (left - some) in
    let same : marks_of some high ≡ marks_of some b = sym (marks-low some some high (omega arith)) ∙ ap (marks_of some) (sym e) in
    record {
      done = x.done ++ marks_of some b;
      whole = x.whole
          ∙ ap (λ n. x.done ++ marks_of n value) z
          ∙ ap (λ bs. x.done ++ bs) (marks_split some (left - some) value)
          ∙ ap (λ bs. x.done ++ (bs ++ marks_of (left - some) value)) same
          ∙ sym (append_assoc x.done (marks_of some b) (marks_of (left - some) value));
      grows = grows_then x.grows g;
    }

-- all of them
pub above_all : (width value : ℕ) (before : Writer) (left : ℕ) (now : Writer) → left ≡ 0
    → Above width value before left now → Grows (marks_of width value) before now
unfolding marks_of
above_all width value before left now e x =
    subst (λ bs. Grows bs before now)
    (sym (x.whole ∙ ap (λ n. x.done ++ marks_of n value) e ∙ append-nil x.done)) x.grows

-- there is room for more
pub grows_open : (most some : ℕ) {before now : Writer} (more : List Bool) → Open most before
    → Grows more before now → now.at + some ≤ most_bits → Open some now
grows_open most some more o g r = record { bits = o.bits ++ more; holds = g o.bits o.holds; room = r }

-- and so there is behind what went
pub open_on : {written : Written (List Bool)} {before after : Writer} (most some : ℕ) → Open most before
    → Goes written before after → after.at + some ≤ most_bits → Open some after
open_on most some o g r = grows_open most some g.more o g.grows r

-- room for fewer
pub open_less : (most some : ℕ) {w : Writer} → some ≤ most → Open most w → Open some w
open_less most some h o = record { bits = o.bits; holds = o.holds; room = omega (arith, o.room) }

-- ---- one item

-- a sound item is its bits
pub goes_sound : (bs : List Bool) (before after : Writer) → after.at ≡ before.at + length bs
    → Grows bs before after → Goes (written (sound bs ∷ []) before.at) before after
goes_sound bs before after n g = record { more = bs; is = written_one bs before.at; place = n; grows = g }

-- a broken item is its fault
pub stops_broken : (fault : Fault) (at : ℕ) (told : Refused) → told.refusal ≡ refusal_of fault → told.detail ≡ at
    → Stops (written (broken fault ∷ []) at) told
stops_broken fault at told f d =
    record { fault = fault; is = written-broken [] at fault ∙ ap (refused fault) (sym d); refusal = f }

-- a refusal that is passed on
pub puts_told : {A : Type 0} (w : Written (List Bool)) (before after : Writer) (r : Result A Refused) (told : Refused)
    → IsErrAnd r (λ e. e ≡ told) → Stops w told → Puts w before r after
puts_told w before after (Err e) told h s = subst (Stops w) (sym h) s
puts_told w before after (Ok x) told h s = elim h [ ]

-- ---- one behind the other

-- so far some bits were put: what the whole writes is these, and then what the rest writes
pub record Come (whole rest : Written (List Bool)) (before now : Writer) : Type 0 where
  pub more : List Bool
  pub here : now.at ≡ before.at + length more
  pub is : whole ≡ behind more rest
  pub grows : Grows more before now

-- at the start nothing was put
pub come_none : (w : Written (List Bool)) (before : Writer) → Come w w before before
come_none w before = record { more = []; here = omega arith; is = sym (behind-nil w); grows = grows_none before }

module _ {whole : Written (List Bool)} {before now : Writer} where
  -- there is room for more
  pub come_open : {rest : Written (List Bool)} (most some : ℕ) → Open most before
      → Come whole rest before now → now.at + some ≤ most_bits → Open some now
  come_open most some o c r = grows_open most some c.more o c.grows r

  -- the rest said otherwise
  pub come_as : {rest other : Written (List Bool)} → rest ≡ other → Come whole rest before now
      → Come whole other before now
  come_as e c = subst (λ w. Come whole w before now) e c

  module _ (is js : List Item) (c : Come whole (written (is ++ js) now.at) before now) where
    -- the next items are put
    pub come_on : {after : Writer} → Goes (written is now.at) now after → Come whole (written js after.at) before after
    come_on p =
        record {
          more = c.more ++ p.more;
          here = omega (arith, p.place, c.here, length-append c.more p.more);
          is = c.is
              ∙ ap (behind c.more) (written-append is js now.at p.more p.is ∙ ap (λ k. behind p.more (written js k)) (sym p.place))
              ∙ behind-behind c.more p.more (written js _);
          grows = grows_then c.grows p.grows;
        }

    -- the next items are refused
    pub come_stop : {told : Refused} → Stops (written is now.at) told → Stops whole told
    come_stop {told} p =
        record {
          fault = p.fault;
          is = c.is
              ∙ ap (behind c.more) (written_stop is js now.at p.fault told.detail p.is)
              ∙ behind_fault c.more p.fault told.detail;
          refusal = p.refusal;
        }

  -- the rest is put
  pub come_goes : {rest : Written (List Bool)} {after : Writer} → Come whole rest before now → Goes rest now after
      → Goes whole before after
  come_goes c p =
      record {
        more = c.more ++ p.more;
        is = c.is ∙ ap (behind c.more) p.is ∙ behind-bits c.more p.more;
        place = omega (arith, p.place, c.here, length-append c.more p.more);
        grows = grows_then c.grows p.grows;
      }

  -- the rest is what the last items leave
  pub come_last : {rest : Written (List Bool)} {A : Type 0} (r : Result A Refused) (after : Writer)
      → Come whole rest before now → Puts rest now r after → Puts whole before r after
  come_last (Ok x) after c p = come_goes c p
  come_last (Err told) after c p =
      record {
        fault = p.fault;
        is = c.is ∙ ap (behind c.more) p.is ∙ behind_fault c.more p.fault told.detail;
        refusal = p.refusal;
      }

  -- nothing is left
  pub come_end : (at : ℕ) → Come whole (written [] at) before now → Goes whole before now
  come_end at c =
      record {
        more = c.more;
        is = c.is ∙ ap (behind c.more) (written-nil at) ∙ behind-bits c.more [] ∙ ap put (append-nil c.more);
        place = c.here;
        grows = c.grows;
      }
