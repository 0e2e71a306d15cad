-- The look-ups that are answered in a state: which they are, that each stands once, and one more of them.
use mathlib.Core.Path.{◌≡◌, sym}
use mathlib.Core.Logic.{◌⊎◌, inl, inr, ⊎_elim}
use mathlib.Core.Bool.{true}
use mathlib.Core.List.{List, [], ◌∷◌, ◌++◌}
use Prim.Native.Nat.{ℕ, suc, ◌≤◌, ◌<◌}
use native.Mathlib.Omega.{arith}
use lib.ListN.{length}
use lib.Dec.{eqb}
use borrow.Author.Tests.{not-true}
use Rattle.plan.specs.Lists.{In, Sub, NoRepeat, has, numbers, in_set, set_of, vars_in}
use Rattle.plan.specs.Route.{Pick, is_open}
use Rattle.plan.specs.Apart.{answered_in, asked_in, done_in, with_taken}
use Rattle.plan.specs.declared.State.{State}
use Rattle.plan.proofs.Lists.{in_those, those_in, in_append, in_front, in_behind, in_head, in_cons, in_nil}
use Rattle.plan.proofs.Lists.{has-not, not-has, eqb_faithful}
use Rattle.plan.proofs.Different.{in_equal, no_repeat_same, those-once}
use Rattle.plan.proofs.Numbers.{in_numbers, numbers_in, numbers-once}
use Rattle.plan.proofs.Sets.{set_in, in_set_lem, vars_in_lem, in_vars}
use Rattle.plays.proofs.Bounds.{asked-few}

-- ---- a set of look-ups

module _ (set n : ℕ) where
  -- the look-ups answered are those below n in the set
  pub answered-says : (i : ℕ) → In i (answered_in set n) → (i < n) × (in_set set i ≡ true)
  unfolding answered_in
  answered-says i h =
      let (j, t) = in_those (in_set set) (numbers 0 n) i h in
      (omega (arith, in_numbers 0 n i j), t)

  pub answered_of : (i : ℕ) → i < n → in_set set i ≡ true → In i (answered_in set n)
  unfolding answered_in
  answered_of i l t = those_in (in_set set) (numbers 0 n) i (numbers_in 0 n i (omega arith) (omega arith)) t

  -- each stands once
  pub answered-once : NoRepeat (answered_in set n)
  unfolding answered_in
  answered-once = those-once (in_set set) (numbers 0 n) (numbers-once 0 n)

-- the set with one look-up more
abbrev more : ℕ → ℕ → ℕ
more set look = set_of (vars_in set ++ (look ∷ []))

module _ (set n : ℕ) (few : n ≤ 16) (look : ℕ) (low : look < n) where
  -- it says that one and the others
  more-says : (i : ℕ) → In i (answered_in (more set look) n) → (i ≡ look) ⊎ In i (answered_in set n)
  more-says i h =
      let (l, t) = answered-says (more set look) n i h in
      ⊎_elim
      (λ j. inr (answered_of set n i l (in_vars set i j)))
      (λ j. ⊎_elim inl (λ z. absurd (in_nil i z)) (in_cons i look [] j))
      (in_append i (vars_in set) (look ∷ []) (set_in (vars_in set ++ (look ∷ [])) i (omega arith) t))

  -- and the other way round
  more_of : (i : ℕ) → (i ≡ look) ⊎ In i (answered_in set n) → In i (answered_in (more set look) n)
  more_of i (inl e) =
      let l : i < n = omega arith in
      answered_of (more set look) n i l
      (in_set_lem (vars_in set ++ (look ∷ [])) i (omega arith)
      (in_behind i (vars_in set) (look ∷ []) (in_equal (look ∷ []) (sym e) (in_head look []))))
  more_of i (inr h) =
      let (l, t) = answered-says set n i h in
      answered_of (more set look) n i l
      (in_set_lem (vars_in set ++ (look ∷ [])) i (omega arith)
      (in_front i (vars_in set) (look ∷ []) (vars_in_lem set i (omega arith) t)))

  -- where it was open there is one more
  more-length : (In look (answered_in set n) → ⊥) → length (answered_in (more set look) n) ≡ suc (length (answered_in set n))
  unfolding Sub NoRepeat In
  more-length new =
      no_repeat_same (answered_in (more set look) n) (look ∷ answered_in set n) (answered-once (more set look) n)
      (new, answered-once set n) more-says more_of

-- ---- a state

-- in a state each look-up that is answered stands once
pub done-once : (st : State) → NoRepeat (done_in st)
unfolding done_in
done-once st = answered-once st.answered (length (asked_in st).goals)

module _ (st : State) (s : Pick) (rows : ℕ) (low : s.lookup < length (asked_in st).goals) where
  -- once a step is taken its look-up is answered, beside those before
  pub taking_says : (i : ℕ) → In i (done_in (with_taken st s rows)) → (i ≡ s.lookup) ⊎ In i (done_in st)
  unfolding done_in with_taken asked_in
  taking_says = more-says st.answered (length (asked_in st).goals) (omega (arith, asked-few st)) s.lookup low

  pub taking_of : (i : ℕ) → (i ≡ s.lookup) ⊎ In i (done_in st) → In i (done_in (with_taken st s rows))
  unfolding done_in with_taken asked_in
  taking_of = more_of st.answered (length (asked_in st).goals) (omega (arith, asked-few st)) s.lookup low

  -- so where it was open one more is answered
  pub taking_length : (In s.lookup (done_in st) → ⊥) → length (done_in (with_taken st s rows)) ≡ suc (length (done_in st))
  unfolding done_in with_taken asked_in
  taking_length = more-length st.answered (length (asked_in st).goals) (omega (arith, asked-few st)) s.lookup low

-- ---- open look-ups

-- a look-up is open by the test exactly where it is not answered
pub open_says : (A : List ℕ) (s : Pick) → is_open A s ≡ true → In s.lookup A → ⊥
unfolding is_open
open_says A s o = has-not eqb eqb_faithful s.lookup A (not-true (has eqb s.lookup A) o)

pub open_of : (A : List ℕ) (s : Pick) → (In s.lookup A → ⊥) → is_open A s ≡ true
unfolding is_open
open_of A s o = rw (not-has eqb eqb_faithful s.lookup A o)
