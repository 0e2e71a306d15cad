-- Choosing and taking, by cases: one equation for each branch, and what they come to.
use mathlib.Core.Path.{◌≡◌, refl, ◌∙◌, ap}
use mathlib.Core.Bool.{Bool, true, false, ◌&&◌}
use mathlib.Core.List.{List, []}
use mathlib.Core.Option.{Option, none, some}
use Prim.Native.Nat.{ℕ, zero, suc, ◌≤◌, ◌<◌}
use native.Mathlib.Omega.{arith}
use lib.ListN.{length}
use lib.Dec.{eqb, leb}
use borrow.Author.Tests.{le-leb, leb-true, leb-false, lt-leb, eqb-true, eq-eqb}
use Rattle.plan.specs.Request.{Row, Request, goal_at, holding}
use Rattle.plan.specs.Route.{Pick, is_open}
use Rattle.plan.specs.Grow.{gives, usable, combinations}
use Rattle.plan.specs.Apart.{asked_in, done_in, list_in, next_pick, call_list, with_choice}
use Rattle.plan.specs.Apart.{Choosing, stays_choosing, choose_pick, choose_here, choose_after, choose_next}
use Rattle.plan.specs.Apart.{pick_in, is_taken, is_chosen, is_whole, delivered_rows, all_asked, joined_with, step_taken, with_taken}
use Rattle.plan.specs.Apart.{with_over, Taking, stays_taking, zeroes_taking}
use Rattle.plan.specs.Apart.{take_joined, take_rows, take_chosen, take_here, take_after, take_next}
use Rattle.plan.specs.declared.State.{State}
use Rattle.plan.specs.declared.Step.{Step}
use Rattle.plan.specs.declared.Case.TheVariants.{Calls, AllTaken, Taken, Already}
use Rattle.plan.proofs.Lists.{by_test, and_left, and_right, and_of}
use Rattle.plan.specs.Refusals.{refused_with}
use Rattle.plan.specs.declared.Refusal.TheVariants.{NoSuchStep, NotAsked, NotWhole, ShortTable, TooManyRows}

-- ---- choosing

-- a step is chosen, and its calls are told
abbrev pub chosen_by : State → Request → List Row → Pick → List ℕ → List ℕ → List ℕ → Choosing
chosen_by st q l s first second cs =
    record {
      turn = record { case = Calls s.lookup s.rule (combinations (gives q s) l); state = with_choice st s };
      first = first;
      second = second;
      calls = holding 3072 (call_list q s l) cs;
    }

-- an earlier 5 is told again
abbrev pub chooses_over : State → ℕ → List ℕ → List ℕ → List ℕ → Choosing
chooses_over st step first second cs =
    record {
      turn = record { case = refused_with TooManyRows step; state = st };
      first = holding 8192 [] first;
      second = holding 8192 [] second;
      calls = cs;
    }

-- the test whether the tables and the list of calls are long enough
abbrev pub is_long : List ℕ → List ℕ → List ℕ → Bool
is_long first second cs = leb 8192 (length first) && leb 8192 (length second) && leb 3072 (length cs)

module _ (st : State) (first second cs : List ℕ) where
  -- 1 where they are not
  pub choose_short_lem : is_long first second cs ≡ false → choose_next st first second cs ≡ stays_choosing (refused_with ShortTable 0) st first second cs
  unfolding choose_next
  choose_short_lem f = rw (f, choose_next)

  -- then it goes by an earlier 5
  pub choose_long : 8192 ≤ length first → 8192 ≤ length second → 3072 ≤ length cs
      → choose_next st first second cs ≡ choose_after st st.over first second cs
  unfolding choose_next
  choose_long a b c =
      let t : is_long first second cs ≡ true =
      and_of (and_of (le-leb 8192 (length first) a) (le-leb 8192 (length second) b)) (le-leb 3072 (length cs) c) in
      rw (t, choose_next)

  -- where there was one
  pub choose_over_lem : (k : ℕ) → st.over ≡ suc k → choose_after st st.over first second cs ≡ chooses_over st (suc k) first second cs
  unfolding choose_after
  choose_over_lem k e = ap (λ n. choose_after st n first second cs) e

  -- where there was none, by what is left to choose
  pub choose_none : st.over ≡ 0
      → (let q = asked_in st in let l = list_in q (done_in st) st.rows first in next_pick q (done_in st) l ≡ none)
      → choose_after st st.over first second cs ≡ stays_choosing AllTaken st first second cs
  unfolding choose_after choose_here choose_pick
  choose_none e n =
      let q = asked_in st in
      let l = list_in q (done_in st) st.rows first in
      ap (λ n. choose_after st n first second cs) e ∙ ap (λ o. choose_pick st q l o first second cs) n

  pub choose_some : st.over ≡ 0 → (s : Pick)
      → (let q = asked_in st in let l = list_in q (done_in st) st.rows first in next_pick q (done_in st) l ≡ some s)
      → (let q = asked_in st in
      let l = list_in q (done_in st) st.rows first in
      choose_after st st.over first second cs ≡ chosen_by st q l s first second cs)
  unfolding choose_after choose_here choose_pick
  choose_some e s n =
      let q = asked_in st in
      let l = list_in q (done_in st) st.rows first in
      ap (λ n. choose_after st n first second cs) e ∙ ap (λ o. choose_pick st q l o first second cs) n

  -- all that choosing can come to
  pub data Chooses : Choosing → Type 0 where
    has_short : Chooses (stays_choosing (refused_with ShortTable 0) st first second cs)
    has-over : (k : ℕ) → Chooses (chooses_over st (suc k) first second cs)
    has_none : Chooses (stays_choosing AllTaken st first second cs)
    has_some : (s : Pick)
        → Chooses (chosen_by st (asked_in st) (list_in (asked_in st) (done_in st) st.rows first) s first second cs)

  -- by what is left to choose
  here-chooses : st.over ≡ 0 → (o : Option Pick)
      → next_pick (asked_in st) (done_in st) (list_in (asked_in st) (done_in st) st.rows first) ≡ o
      → Chooses (choose_after st st.over first second cs)
  here-chooses e none n = rw (choose_none e n) has_none
  here-chooses e (some s) n = rw (choose_some e s n) (has_some s)

  -- by an earlier 5
  after-chooses : (n : ℕ) → st.over ≡ n → Chooses (choose_after st st.over first second cs)
  after-chooses zero e = here-chooses e _ refl
  after-chooses (suc k) e = rw (choose_over_lem k e) (has-over k)

  -- choosing comes to one of these
  pub chooses : Chooses (choose_next st first second cs)
  unfolding choose_next
  chooses =
      by_test
      (is_long first second cs)
      (λ t. rw (t, choose_next) (after-chooses st.over refl))
      (λ f. rw (choose_short_lem f) has_short)

-- ---- taking

-- the step chosen is the next one, and its look-up is open and its rule usable
pub chosen-says : (st : State) (q : Request) (A : List ℕ) (step : ℕ) → is_chosen st q A step ≡ true
    → (step ≡ suc (length A)) × (is_open A (pick_in st) ≡ true) × (usable q A (pick_in st) ≡ true)
unfolding is_chosen
chosen-says st q A step c =
    let can = is_open A (pick_in st) && usable q A (pick_in st) in
    let both = and_right st.chosen can (and_right (eqb step (suc (length A))) (st.chosen && can) c) in (
      eqb-true step (suc (length A)) (and_left (eqb step (suc (length A))) (st.chosen && can) c),
      and_left (is_open A (pick_in st)) (usable q A (pick_in st)) both,
      and_right (is_open A (pick_in st)) (usable q A (pick_in st)) both,
    )

-- and the other way round
pub chosen_of : (st : State) (q : Request) (A : List ℕ) (step : ℕ) → step ≡ suc (length A) → st.chosen ≡ true
    → is_open A (pick_in st) ≡ true → usable q A (pick_in st) ≡ true → is_chosen st q A step ≡ true
unfolding is_chosen
chosen_of st q A step e c o u = and_of (eq-eqb step (suc (length A)) e) (and_of c (and_of o u))

module _ (st : State) (step : ℕ) (sent first second : List ℕ) where
  -- 1 where a table is short
  pub take_short : (leb 8192 (length first) && leb 8192 (length second)) ≡ false
      → take_next st step sent first second ≡ stays_taking (refused_with ShortTable 0) st first second
  unfolding take_next
  take_short f = rw (f, take_next)

  -- then it goes by an earlier 5
  pub take_long : (leb 8192 (length first) && leb 8192 (length second)) ≡ true
      → take_next st step sent first second ≡ take_after st st.over step sent first second
  unfolding take_next
  take_long t = rw (t, take_next)

  pub take-over : (k : ℕ) → st.over ≡ suc k → take_after st st.over step sent first second ≡ zeroes_taking (suc k) st first second
  unfolding take_after
  take-over k e = ap (λ n. take_after st n step sent first second) e

  pub take_within : st.over ≡ 0 → take_after st st.over step sent first second ≡ take_here st step sent first second
  unfolding take_after
  take_within e = ap (λ n. take_after st n step sent first second) e

  -- a step that is taken already
  pub take-already : is_taken (length (done_in st)) step ≡ true
      → take_here st step sent first second ≡ stays_taking Already st first second
  unfolding take_here
  take-already t = rw (t, take_here)

  -- 15
  pub take-unchosen : is_taken (length (done_in st)) step ≡ false → is_chosen st (asked_in st) (done_in st) step ≡ false
      → take_here st step sent first second ≡ stays_taking (refused_with NoSuchStep 0) st first second
  unfolding take_here
  take-unchosen f g = rw (f, g, take_here)

  pub take-chosen : is_taken (length (done_in st)) step ≡ false → is_chosen st (asked_in st) (done_in st) step ≡ true
      → take_here st step sent first second ≡ take_chosen st (asked_in st) (done_in st) (pick_in st) step sent first second
  unfolding take_here
  take-chosen f t = rw (f, t, take_here)

  module _ (q : Request) (A : List ℕ) (s : Pick) where
    -- 32
    pub take-broken : is_whole (length (goal_at q s.lookup).vars) (length sent) ≡ false
        → take_chosen st q A s step sent first second ≡ stays_taking (refused_with NotWhole 0) st first second
    unfolding take_chosen
    take-broken f = rw (f, take_chosen)

    pub take_whole : is_whole (length (goal_at q s.lookup).vars) (length sent) ≡ true
        → take_chosen st q A s step sent first second
        ≡ take_rows st q A s step (list_in q A st.rows first) (delivered_rows (length (goal_at q s.lookup).vars) sent)
        first second
    unfolding take_chosen
    take_whole t = rw (t, take_chosen)

    module _ (l rows : List Row) where
      -- 16
      pub take-unasked : all_asked q s l rows ≡ false
          → take_rows st q A s step l rows first second ≡ stays_taking (refused_with NotAsked 0) st first second
      unfolding take_rows
      take-unasked f = rw (f, take_rows)

      pub take-asked : all_asked q s l rows ≡ true
          → take_rows st q A s step l rows first second
          ≡ take_joined st q s step l rows (joined_with q A s rows l) first second
      unfolding take_rows
      take-asked t = rw (t, take_rows)

      module _ (joined : List Row) where
        -- 5
        pub take-many : 512 < length joined
            → take_joined st q s step l rows joined first second ≡ zeroes_taking step (with_over st step) first second
        unfolding take_joined
        take-many h = rw (lt-leb (length joined) 512 h, take_joined)

        -- the step is taken
        pub take-few : length joined ≤ 512
            → take_joined st q s step l rows joined first second
            ≡ record {
              turn = record { case = Taken (step_taken q s l rows joined); state = with_taken st s (length joined) };
              first = holding 8192 joined first;
              second = holding 8192 [] second;
            }
        unfolding take_joined
        take-few h = rw (le-leb (length joined) 512 h, take_joined)

  -- what taking comes to
  pub data Takes : Taking → Type 0 where
    stays-short : Takes (stays_taking (refused_with ShortTable 0) st first second)
    told_over : (k : ℕ) → st.over ≡ suc k → Takes (zeroes_taking (suc k) st first second)
    stays-already : Takes (stays_taking Already st first second)
    stays-unchosen : Takes (stays_taking (refused_with NoSuchStep 0) st first second)
    stays-broken : Takes (stays_taking (refused_with NotWhole 0) st first second)
    stays-unasked : Takes (stays_taking (refused_with NotAsked 0) st first second)
    grows_over : is_chosen st (asked_in st) (done_in st) step ≡ true → Takes (zeroes_taking step (with_over st step) first second)
    is-taken : is_chosen st (asked_in st) (done_in st) step ≡ true → (made : Step) (joined : List Row)
        → Takes (record {
          turn = record { case = Taken made; state = with_taken st (pick_in st) (length joined) };
          first = holding 8192 joined first;
          second = holding 8192 [] second;
        })

  -- of a joined list
  joined-takes : is_chosen st (asked_in st) (done_in st) step ≡ true → (l rows joined : List Row)
      → Takes (take_joined st (asked_in st) (pick_in st) step l rows joined first second)
  joined-takes c l rows joined =
      by_test
      (leb (length joined) 512)
      (λ t. rw (take-few (asked_in st) (done_in st) (pick_in st) l rows joined (leb-true (length joined) 512 t)) (is-taken c _ joined))
      (λ f. rw (take-many (asked_in st) (done_in st) (pick_in st) l rows joined (leb-false (length joined) 512 f)) (grows_over c))

  -- of a step that is chosen
  chosen-takes : is_chosen st (asked_in st) (done_in st) step ≡ true
      → Takes (take_chosen st (asked_in st) (done_in st) (pick_in st) step sent first second)
  chosen-takes c =
      let q = asked_in st in
      let A = done_in st in
      let s = pick_in st in
      let columns = length (goal_at q s.lookup).vars in
      let l = list_in q A st.rows first in
      let rows = delivered_rows columns sent in
      by_test
      (is_whole columns (length sent))
      (λ t.
      rw (take_whole q A s t)
      (by_test
      (all_asked q s l rows)
      (λ a. rw (take-asked q A s l rows a) (joined-takes c l rows (joined_with q A s rows l)))
      (λ f. rw (take-unasked q A s l rows f) stays-unasked)))
      (λ f. rw (take-broken q A s f) stays-broken)

  -- of any step
  here-takes : Takes (take_here st step sent first second)
  here-takes =
      by_test
      (is_taken (length (done_in st)) step)
      (λ t. rw (take-already t) stays-already)
      (λ f.
      by_test
      (is_chosen st (asked_in st) (done_in st) step)
      (λ t. rw (take-chosen f t) (chosen-takes t))
      (λ g. rw (take-unchosen f g) stays-unchosen))

  -- by an earlier 5
  after-takes : (n : ℕ) → st.over ≡ n → Takes (take_after st st.over step sent first second)
  after-takes zero e = rw (take_within e) here-takes
  after-takes (suc k) e = rw (take-over k e) (told_over k e)

  -- taking comes to one of these
  pub takes : Takes (take_next st step sent first second)
  takes =
      by_test
      (leb 8192 (length first) && leb 8192 (length second))
      (λ t. rw (take_long t) (after-takes st.over refl))
      (λ f. rw (take_short f) stays-short)

  -- where a step is taken it was chosen, and the state and the tables are those after it
  pub taken_only : (P : Taking → Type 0) (t : Taking) → Takes t → (s : Step) → t.turn.case ≡ Taken s
      → (is_chosen st (asked_in st) (done_in st) step ≡ true → (made : Step) (joined : List Row)
      → P (record {
        turn = record { case = Taken made; state = with_taken st (pick_in st) (length joined) };
        first = holding 8192 joined first;
        second = holding 8192 [] second;
      }))
      → P t
  unfolding stays_taking zeroes_taking
  taken_only P t stays-short s e h = absurd (let z : ◌≡◌ {A = ℕ} 0 1 = cc in let f : ⊥ = omega arith in f)
  taken_only P t (told_over k o) s e h = absurd (let z : ◌≡◌ {A = ℕ} 0 1 = cc in let f : ⊥ = omega arith in f)
  taken_only P t stays-already s e h = absurd (let z : ◌≡◌ {A = ℕ} 0 1 = cc in let f : ⊥ = omega arith in f)
  taken_only P t stays-unchosen s e h = absurd (let z : ◌≡◌ {A = ℕ} 0 1 = cc in let f : ⊥ = omega arith in f)
  taken_only P t stays-broken s e h = absurd (let z : ◌≡◌ {A = ℕ} 0 1 = cc in let f : ⊥ = omega arith in f)
  taken_only P t stays-unasked s e h = absurd (let z : ◌≡◌ {A = ℕ} 0 1 = cc in let f : ⊥ = omega arith in f)
  taken_only P t (grows_over c) s e h = absurd (let z : ◌≡◌ {A = ℕ} 0 1 = cc in let f : ⊥ = omega arith in f)
  taken_only P t (is-taken c made joined) s e h = h c made joined
