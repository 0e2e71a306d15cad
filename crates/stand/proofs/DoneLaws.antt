-- What is known and answered, as the look-ups are passed from the last to the first.
use mathlib.Core.Path.{◌≡◌, sym, ◌∙◌, ap, subst}
use mathlib.Core.Bool.{true, false}
use mathlib.Core.List.{List, [], ◌∷◌, ◌++◌}
use Prim.Native.Nat.{ℕ, suc, ◌+◌, ◌-◌, ◌*◌, ◌%◌, ◌^◌, ◌≤◌, ◌<◌}
use native.Mathlib.Omega.{arith}
use native.Mathlib.Numerals.{add-one}
use lib.Bits.{bit_or}
use lib.ListN.{length}
use Rattle.plan.specs.Lists.{those, numbers, in_set, set_of, vars_in}
use Rattle.plan.specs.Grow.{known}
use Rattle.plan.specs.Apart.{answered_in}
use Rattle.plan.proofs.Numbers.{numbers_from}
use Rattle.plan.proofs.Sets.{set-nil, set-vars}
use Rattle.sheet.specs.declared.Fields.{Fields}
use Rattle.sheet.specs.Fields.{vars_held}
use Rattle.sheet.specs.Fine.{Small}
use Rattle.choose.specs.Choose.{look_up_at}
use Rattle.choose.specs.Held.{route_request}
use Rattle.choose.proofs.HeldLaws.{tells-held, held-given}
use Rattle.choose.proofs.States.{InState, state_next}
use Rattle.stand.specs.Held.{DoneBy}
use Rattle.stand.specs.declared.Done.{Done}

-- of n look-ups those from look-up i on that are in the set
abbrev pub done_from : ℕ → ℕ → ℕ → List ℕ
done_from set n i = those (in_set set) (numbers i (n - i))

-- one equation for each case of a look-up: it is in the set
from_one : (set n i : ℕ) → i < n → in_set set i ≡ true → done_from set n i ≡ i ∷ done_from set n (i + 1)
unfolding those
from_one set n i h t = ap (those (in_set set)) (numbers_from i n h) ∙ rw (t, those)

-- and it is not
from_not : (set n i : ℕ) → i < n → in_set set i ≡ false → done_from set n i ≡ done_from set n (i + 1)
unfolding those
from_not set n i h f = ap (those (in_set set)) (numbers_from i n h) ∙ rw (f, those)

-- with the look-ups from i on passed: the sets stand for those of them that are answered, and so many are
pub record Passed (f : Fields) (set i knows answers made : ℕ) : Type 0 where
  pub low : i ≤ f.lookups
  pub few : made + i ≤ 12
  pub state : InState (route_request f) (done_from set f.lookups i) knows answers
  pub count : made ≡ length (done_from set f.lookups i)

module _ (f : Fields) (small : Small f) (set : ℕ) where
  -- none is passed yet
  pub passed_none : Passed f set f.lookups f.given 0 0
  unfolding those numbers known
  passed_none =
      let n = f.lookups in
      let e : done_from set n n ≡ [] = ap (λ k. those (in_set set) (numbers n k)) (let z : n - n ≡ 0 = omega arith in z) in
      record {
        low = omega arith;
        few = omega (arith, small.lookups-high);
        state = subst (λ (A : List ℕ). InState (route_request f) A f.given 0) (sym e)
            (record {
              known_is = sym (ap set_of (held-given f small []) ∙ set-vars f.given small.given-high);
              answered-is = sym set-nil;
            });
        count = sym (ap length e);
      }

  module _ (next knows answers made : ℕ) (so : Passed f set next knows answers made) (i : ℕ) (here : i + 1 ≡ next) where
    -- one more, which is answered: its variables become known
    pub passed_one : in_set set i ≡ true → (learnt : ℕ) → learnt ≡ set_of (vars_in knows ++ vars_held (look_up_at f i))
        → Passed f set i learnt (bit_or answers ((1 * 2 ^ i) % 2 ^ 16)) (made + 1)
    passed_one t learnt e =
        let n = f.lookups in
        let l : i < n = omega (arith, so.low) in
        let q = route_request f in
        let from : done_from set n next ≡ done_from set n (i + 1) = ap (done_from set n) (sym here) in
        let more : i ∷ done_from set n next ≡ done_from set n i = ap (λ A. i ∷ A) from ∙ sym (from_one set n i l t) in
        let then = state_next f q (tells-held f small []) (done_from set n next) knows answers so.state i l in
        record {
          low = omega (arith, so.low);
          few = omega (arith, so.few);
          state = record {
            known_is = e ∙ then.known_is ∙ ap (λ A. set_of (known q A)) more;
            answered-is = then.answered-is ∙ ap set_of more;
          };
          count = add-one made ∙ ap suc so.count ∙ ap length more;
        }

    -- one more, which is not
    pub passed_not : in_set set i ≡ false → Passed f set i knows answers made
    passed_not no-bit =
        let n = f.lookups in
        let l : i < n = omega (arith, so.low) in
        let same : done_from set n next ≡ done_from set n i = ap (done_from set n) (sym here) ∙ sym (from_not set n i l no-bit) in
        record {
          low = omega (arith, so.low);
          few = omega (arith, so.few);
          state = subst (λ (A : List ℕ). InState (route_request f) A knows answers) same so.state;
          count = so.count ∙ ap length same;
        }

  -- all are passed
  pub passed_all : (next : ℕ) (d : Done) → Passed f set next d.known d.answered d.made → next ≡ 0
      → DoneBy f set d
  unfolding answered_in
  passed_all next d so e =
      let n = f.lookups in
      let all : done_from set n next ≡ those (in_set set) (numbers 0 n) =
      ap (done_from set n) e ∙ ap (λ k. those (in_set set) (numbers 0 k)) (let z : n - 0 ≡ n = omega arith in z) in
      record {
        knows = so.state.known_is ∙ ap (λ A. set_of (known (route_request f) A)) all;
        answers = so.state.answered-is ∙ ap set_of all;
        made = so.count ∙ ap length all;
      }
