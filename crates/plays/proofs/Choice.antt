-- The next step that a state chooses is the step of CHAIN's route: a state asks a request without rows, which has the same routes,
-- and the calls are counted on the list.
use mathlib.Core.Path.{◌≡◌, refl, sym, ◌∙◌, ap, subst}
use mathlib.Core.Logic.{inl, inr}
use mathlib.Core.Bool.{Bool, true}
use mathlib.Core.List.{List, [], ◌∷◌}
use mathlib.Core.Option.{Option, none, some}
use Prim.Native.Nat.{ℕ, zero, suc, ◌<◌}
use native.Mathlib.Omega.{arith}
use native.Mathlib.Nat.{le_refl}
use lib.ListN.{length, get_or, take}
use Rattle.plan.specs.Lists.{In, Sub, NoRepeat}
use Rattle.plan.specs.Request.{Row, Request}
use Rattle.plan.specs.Route.{Pick, lookups, choice, chain_from, Chosen, AllChosen}
use Rattle.plan.specs.Grow.{gives, usable, listed, combinations, calls, picks, charge_of}
use Rattle.plan.specs.Answer.{answered_from, full}
use Rattle.plan.specs.Apart.{next_pick}
use Rattle.plan.specs.Demands.{no_pick}
use Rattle.plan.proofs.Words.{SameRoutes, Lawful}
use Rattle.plan.proofs.Lists.{tests_same}
use Rattle.plan.proofs.Listed.{gives_same, usable_same}
use Rattle.plan.proofs.Calls.{usable-stays, calls-said}
use Rattle.plan.proofs.Charges.{charge-calls}
use Rattle.plan.proofs.Routes.{charge_lawful}
use Rattle.plan.proofs.Picks.{picks_offered, picks-below}
use Rattle.plan.proofs.Greedy.{choice-can, choice_open, stuck, chain-chosen, chosen_unique}

-- ---- what is CHAIN's choice as it is said is what it chooses

module _ {usable : List ℕ → Pick → Bool} {charge : List ℕ → Pick → ℕ} {picks : List Pick} {n : ℕ}
    (lawful : Lawful usable charge picks n) (A : List ℕ) where
  -- two choices in a state are the same
  chosen-same : (s t : Pick) → choice usable charge picks A ≡ some t → Chosen usable charge A s → t ≡ s
  unfolding AllChosen chain_from
  chosen-same s t e c =
      let one : chain_from usable charge picks 1 A ≡ t ∷ [] = rw (e, chain_from) in
      let all : AllChosen usable charge A (t ∷ []) = subst (AllChosen usable charge A) one (chain-chosen lawful 1 A) in
      let same : t ∷ [] ≡ s ∷ [] = chosen_unique usable charge (t ∷ []) (s ∷ []) A all (c, tt) refl in
      cc

  pub chosen-choice : (s : Pick) → Chosen usable charge A s → choice usable charge picks A ≡ some s
  chosen-choice s c = go (choice usable charge picks A) refl
    where
      go : (o : Option Pick) → choice usable charge picks A ≡ o → choice usable charge picks A ≡ some s
      go none e = absurd (c.still_open (stuck lawful A e s c.can))
      go (some t) e = e ∙ ap {B = Option Pick} some (chosen-same s t e c)

-- ---- the next step on a list

module _ (q : Request) (A : List ℕ) (l : List Row) where
  -- what a step costs: its calls on the list
  abbrev cost : List ℕ → Pick → ℕ
  cost B s = combinations (gives q s) l

  lawful : Lawful (usable q) cost (picks q) (length q.goals)
  lawful = charge_lawful q cost (λ B C t h u. le_refl (cost B t))

  -- it is CHAIN's choice
  pub next_chosen : (s : Pick) → Chosen (usable q) (λ B s. combinations (gives q s) l) A s → next_pick q A l ≡ some s
  unfolding next_pick
  next_chosen s c = chosen-choice lawful A s c

  -- where no look-up is open with a rule that can be used there is none
  pub next_nothing : ((s : Pick) → usable q A s ≡ true → In s.lookup A) → next_pick q A l ≡ none
  unfolding next_pick
  next_nothing all = go (choice (usable q) cost (picks q) A) refl
    where
      go : (o : Option Pick) → choice (usable q) cost (picks q) A ≡ o → choice (usable q) cost (picks q) A ≡ none
      go none n = n
      go (some s) n =
          absurd (choice_open (usable q) cost (picks q) A s n (all s (choice-can (usable q) cost (picks q) A s n)))

-- ---- the look-ups of its steps

module _ (usable : List ℕ → Pick → Bool) (charge : List ℕ → Pick → ℕ) where
  -- none was answered before
  fresh : (p : List Pick) (A : List ℕ) → AllChosen usable charge A p → (i : ℕ) → In i (lookups p) → In i A → ⊥
  unfolding AllChosen In lookups
  fresh [] A c i x3 a = elim x3 [ ]
  fresh (s ∷ p) A c i (inl e) a = c.0.still_open (subst (λ (j : ℕ). In j A) e a)
  fresh (s ∷ p) A c i (inr h) a = fresh p (s.lookup ∷ A) c.1 i h (inr a)

  -- each stands once
  pub chosen-once : (p : List Pick) (A : List ℕ) → AllChosen usable charge A p → NoRepeat (lookups p)
  unfolding AllChosen In lookups NoRepeat
  chosen-once [] A c = tt
  chosen-once (s ∷ p) A c = (λ h. fresh p (s.lookup ∷ A) c.1 s.lookup h (inl refl), chosen-once p (s.lookup ∷ A) c.1)

  -- the first steps are CHAIN's choices
  pub chosen_front : (p : List Pick) (A : List ℕ) → AllChosen usable charge A p → (k : ℕ) → AllChosen usable charge A (take k p)
  unfolding AllChosen
  chosen_front p A c zero = tt
  chosen_front [] A c (suc k) = tt
  chosen_front (s ∷ p) A c (suc k) = (c.0, chosen_front p (s.lookup ∷ A) c.1 k)

  -- and so is the next one, where they lead
  pub chosen_at : (p : List Pick) (A : List ℕ) → AllChosen usable charge A p → (k : ℕ) → k < length p
      → Chosen usable charge (answered_from A (take k p)) (get_or p k no_pick)
  unfolding AllChosen answered_from
  chosen_at [] A c k h = absurd (let z : ⊥ = omega arith in z)
  chosen_at (s ∷ p) A c zero h = c.0
  chosen_at (s ∷ p) A c (suc k) h = chosen_at p (s.lookup ∷ A) c.1 k (omega arith)

-- ---- the state's request beside the whole one

module _ (e q : Request) (same : SameRoutes e q) (D A : List ℕ) (there : Sub D A) (back : Sub A D) where
  -- the same rules can be used where the same look-ups are answered
  pub usable-here : (s : Pick) → usable e D s ≡ usable q A s
  usable-here s =
      usable_same e q same D s
      ∙ tests_same (usable q D s) (usable q A s) (usable-stays q D A s there) (usable-stays q A D s back)

  -- the calls on the list are those of the whole request
  pub calls-here : (s : Pick) → combinations (gives e s) (listed q A) ≡ calls q A s
  calls-here s = ap (λ vs. combinations vs (listed q A)) (gives_same e q same s) ∙ calls-said q A s

  -- what a step costs in the state
  charge-here : (s : Pick) → combinations (gives e s) (listed q A) ≡ charge_of full q A s
  unfolding full
  charge-here s = calls-here s ∙ sym (charge-calls q full refl refl A s)

  -- CHAIN's choice by calls on the list is the one of the whole request
  chosen-here : (s : Pick) → Chosen (usable q) (charge_of full q) A s
      → Chosen (usable e) (λ B s. combinations (gives e s) (listed q A)) D s
  unfolding Sub
  chosen-here s c =
      record {
        can = usable-here s ∙ c.can;
        still_open = λ i. c.still_open (there s.lookup i);
        least = λ t u o. rw (charge-here s, charge-here t) (c.least t (sym (usable-here t) ∙ u) (λ i. o (back t.lookup i)));
        first = λ t u o x.
            c.first t (sym (usable-here t) ∙ u) (λ i. o (back t.lookup i)) (sym (charge-here t) ∙ x ∙ charge-here s);
      }

  -- so it is the next step
  pub next_some : (s : Pick) → Chosen (usable q) (charge_of full q) A s → next_pick e D (listed q A) ≡ some s
  next_some s c = next_chosen e D (listed q A) s (chosen-here s c)

  -- where all look-ups are answered there is none
  pub next_none : ((i : ℕ) → i < length e.goals → In i D) → next_pick e D (listed q A) ≡ none
  next_none all = next_nothing e D (listed q A) (λ s can. all s.lookup (picks-below e s (picks_offered e D s can)))
