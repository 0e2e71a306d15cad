-- Starting: where there is a route it gives the state before the first step.
use mathlib.Core.Path.{◌≡◌, refl, sym, ◌∙◌, ap, subst}
use mathlib.Core.Bool.{false}
use mathlib.Core.List.{List, [], ◌∷◌, map}
use Prim.Native.Nat.{ℕ, ◌%◌, ◌^◌}
use native.Mathlib.Omega.{arith}
use native.Mathlib.Nat.{zero-div}
use lib.ListN.{length}
use lib.Dec.{eqb}
use Rattle.plan.specs.Lists.{In, in_set}
use Rattle.plan.specs.Request.{Row, Request}
use Rattle.plan.specs.RowData.{part_rows}
use Rattle.plan.specs.Route.{Pick, lookups}
use Rattle.plan.specs.Answer.{answered_from, list_after, route_check, full}
use Rattle.plan.specs.Apart.{bytes_in, answered_in, asked_in, done_in, list_in, start_of, started}
use Rattle.plan.specs.Apart.{Started}
use Rattle.plan.specs.Demands.{RouteOf, NoRoute, ChainRoute, Ready, AtStep}
use Rattle.plan.proofs.Lists.{clash, in_head, in_nil}
use Rattle.plan.proofs.Padded.{padded-take}
use Rattle.plan.proofs.Listed.{listed_none}
use Rattle.plan.proofs.Check.{demand_check}
use Rattle.plays.proofs.Done.{answered-says}
use Rattle.plays.proofs.AtStep.{asked_without}

-- nothing is in the empty set
empty_none : (i : ℕ) → in_set 0 i ≡ false
unfolding in_set
empty_none i = ap (λ x. eqb (x % 2) 1) (zero-div (2 ^ i))

-- a list in which nothing stands is empty
nothing_in : (xs : List ℕ) → ((i : ℕ) → In i xs → ⊥) → xs ≡ []
nothing_in [] h = refl
nothing_in (x ∷ xs) h = absurd (h x (in_head x xs))

-- at first no look-up is answered
start-done : (sheet : List ℕ) → done_in (start_of sheet) ≡ []
unfolding done_in start_of
start-done sheet =
    nothing_in (answered_in 0 (length (asked_in (start_of sheet)).goals))
    (λ i h. clash (answered-says 0 (length (asked_in (start_of sheet)).goals) i h).1 (empty_none i))

-- where the route check gives 0, that is the state
started-is : (sheet : List ℕ) → (route_check sheet).number ≡ 0
    → started sheet ≡ record { number = 0; detail = 0; state = start_of sheet }
unfolding started
started-is sheet e = rw (e, started)

module _ (sheet words first second : List ℕ) (q : Request) (r : Ready full sheet words first second q)
    (p : List Pick) (c : ChainRoute full q p) where
  -- with a route the route check gives 0
  checks : (route_check sheet).number ≡ 0
  unfolding NoRoute
  checks =
      let check = demand_check sheet in
      let rows = map (part_rows words) r.places in
      let route = subst (λ (x : Request). RouteOf x p) r.asks c.is_route in
      (check.plain r.said r.end r.read (λ four. (check.exactly_four r.said r.end r.read rows).0 four p route)).0

  -- the state holds the sheet
  start-sheet : bytes_in (start_of sheet) ≡ sheet
  unfolding start_of
  start-sheet = padded-take 193 0 sheet (length sheet) refl

  -- its list is the request's first
  start-list : list_in (asked_in (start_of sheet)) (done_in (start_of sheet)) 1 first ≡ list_after q []
  unfolding list_in list_after answered_from
  start-list =
      ap (λ D. list_in (asked_in (start_of sheet)) D 1 first) (start-done sheet)
      ∙ ap (λ (x : Row). x ∷ []) (asked_without sheet words first second q r (start_of sheet) start-sheet).start
      ∙ sym (listed_none q)

  -- it is the state before the first step
  start_at : AtStep sheet q p first second 0 (start_of sheet) first second
  unfolding start_of lookups list_after answered_from
  start_at =
      record {
        asked = start-sheet;
        done = λ i. (λ j. subst (In i) (start-done sheet) j, λ j. absurd (in_nil i j));
        rows = sym (ap length (listed_none q));
        within = refl;
        list = start-list;
        before = λ z. (refl, refl);
        after = λ l. absurd (let f : ⊥ = omega arith in f);
      }

  -- starting gives it
  pub begins : ((started sheet).number ≡ 0) × AtStep sheet q p first second 0 (started sheet).state first second
  begins =
      subst (λ (x : Started). (x.number ≡ 0) × AtStep sheet q p first second 0 x.state first second)
      (sym (started-is sheet checks)) (refl, start_at)
