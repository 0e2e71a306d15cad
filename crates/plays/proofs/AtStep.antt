-- What is known of a state and its tables after k steps of CHAIN's route, for a request that is ready.
use mathlib.Core.Path.{◌≡◌, refl, sym, ◌∙◌, ap}
use mathlib.Core.List.{List, [], map}
use Prim.Native.Nat.{ℕ, zero, suc, ◌≤◌, ◌<◌}
use native.Mathlib.Omega.{arith}
use lib.ListN.{length, get_or, take, length-map, replicate}
use lib.Seq.{length-take-le}
use Rattle.plan.specs.Lists.{Sub}
use Rattle.plan.specs.Request.{Row, Request, row_words, flat, holding}
use Rattle.plan.specs.Zero.{never_zero_in}
use Rattle.plan.specs.Sheet.{Sheet, read_sheet}
use Rattle.plan.specs.RowData.{part_rows, request_of}
use Rattle.plan.specs.Route.{Pick, lookups, Chosen}
use Rattle.plan.specs.Grow.{usable, listed, charge_of}
use Rattle.plan.specs.Answer.{answered_from, list_after, full}
use Rattle.plan.specs.Apart.{bytes_in, sound_sheet, asked_in, done_in, list_in}
use Rattle.plan.specs.declared.State.{State}
use Rattle.plan.specs.Demands.{size, RouteOf, ChainRoute, Ready, no_pick, AtStep}
use Rattle.plan.proofs.Words.{SameRoutes}
use Rattle.plan.proofs.Different.{no_repeat_same}
use Rattle.plan.proofs.Zero.{never-said}
use Rattle.plan.proofs.Rows.{length-writes}
use Rattle.plan.proofs.Listed.{listed-length}
use Rattle.plan.proofs.Table.{Wide, length-flat}
use Rattle.plan.proofs.Greedy.{answered-lookups}
use Rattle.plan.proofs.Check.{same-routes}
use Rattle.plays.proofs.Tables.{held-long, held-over, none_fits}
use Rattle.plays.proofs.Done.{done-once}
use Rattle.plays.proofs.Called.{list-few}
use Rattle.plays.proofs.Choice.{chosen-once, chosen_front, chosen_at}

-- ---- the request that a state asks

-- a request that differs from another in its rows alone
pub record Without (e q : Request) : Type 0 where
  pub routes : SameRoutes e q
  pub start : e.start ≡ q.start
  pub never : never_zero_in e ≡ never_zero_in q

-- a sheet's requests
sheet_without : (s : Sheet) (rows rows' : List (List Row)) → Without (request_of s rows) (request_of s rows')
unfolding request_of
sheet_without s rows rows' =
    record { routes = same-routes s rows rows'; start = refl; never = never-said s rows ∙ sym (never-said s rows') }

-- what is known of a state in which the look-ups A of a request are answered, k of them, and of its tables, by those that came
pub record Here (q : Request) (A : List ℕ) (k : ℕ) (first₀ second₀ : List ℕ) (st : State) (first second : List ℕ) : Type 0 where
  -- the state asks the request without its rows
  pub without : Without (asked_in st) q
  -- the same look-ups are answered
  pub there : Sub (done_in st) A
  pub back : Sub A (done_in st)
  pub count : length (done_in st) ≡ k
  pub within : st.over ≡ 0
  -- the list is the request's
  pub list : list_in (asked_in st) (done_in st) st.rows first ≡ listed q A
  -- the tables are long enough, and keep the words beyond
  pub first-long : 8192 ≤ length first
  pub second-long : 8192 ≤ length second
  pub holds : (rows : List Row) → holding 8192 rows first ≡ holding 8192 rows first₀
  pub clears : holding 8192 [] second ≡ holding 8192 [] second₀

-- ---- a table that came, or that holds rows

module _ (old : List Row) (t₀ t : List ℕ) where
  -- it is long enough where it came so
  long_after : (k : ℕ) → (k ≡ 0 → t ≡ t₀) → (1 ≤ k → t ≡ holding 8192 old t₀) → 8192 ≤ length t₀ → 8192 ≤ length t
  long_after zero before after l = rw (before refl) l
  long_after (suc k) before after l = rw (after (omega arith)) (held-long 8192 old t₀)

  -- rows that are put into it are put into the one that came
  held_after : (k : ℕ) → (k ≡ 0 → t ≡ t₀) → (1 ≤ k → t ≡ holding 8192 old t₀) → length (flat old) ≤ 8192 → (rows : List Row)
      → holding 8192 rows t ≡ holding 8192 rows t₀
  held_after zero before after l rows = ap (holding 8192 rows) (before refl)
  held_after (suc k) before after l rows = ap (holding 8192 rows) (after (omega arith)) ∙ held-over 8192 rows old t₀ l

-- ---- a request that is ready

module _ (sheet words first second : List ℕ) (q : Request) (r : Ready full sheet words first second q) where
  -- the request that is asked, without its rows
  pub asked_without : (st : State) → bytes_in st ≡ sheet → Without (asked_in st) q
  unfolding asked_in sound_sheet
  asked_without st e =
      let asks : asked_in st ≡ request_of r.said [] =
      ap (λ bytes. request_of (sound_sheet (read_sheet bytes)) []) e ∙ ap (λ x. request_of (sound_sheet x) []) r.read in
      rw (asks, r.asks) (sheet_without r.said [] (map (part_rows words) r.places))

  -- both tables are long enough
  pub ready-first : 8192 ≤ length first
  unfolding full
  ready-first = r.long.one

  pub ready-second : 8192 ≤ length second
  unfolding full
  ready-second = r.long.two

  -- the rows of its lists have 16 words
  pub ready-wide : (A : List ℕ) → Wide 16 (listed q A)
  unfolding Wide request_of
  ready-wide A x i =
      listed-length q A x i
      ∙ ap (λ (e : Request). length e.start) r.asks
      ∙ length-writes (replicate row_words 0) r.said.given r.said.values

  module _ (p : List Pick) (c : ChainRoute full q p) (k : ℕ) where
    -- the look-ups that are answered after k steps
    abbrev after : List ℕ
    after = answered_from [] (take k p)

    module _ (h : k < size q) where
      -- the route has a step k + 1
      pub step_there : k < length p
      unfolding RouteOf
      step_there = omega (arith, c.is_route.whole.places)

      -- it is CHAIN's choice
      pub step-chosen : Chosen (usable q) (charge_of full q) after (get_or p k no_pick)
      step-chosen = chosen_at (usable q) (charge_of full q) p [] c.chosen k step_there

    module _ (st : State) (t u : List ℕ) (at : AtStep sheet q p first second k st t u) where
      -- as many look-ups are answered as steps taken
      at_count : k ≤ length p → length (done_in st) ≡ k
      unfolding Sub lookups
      at_count l =
          let front = chosen_front (usable q) (charge_of full q) p [] c.chosen k in
          let once = chosen-once (usable q) (charge_of full q) (take k p) [] front in
          no_repeat_same (done_in st) (lookups (take k p)) (done-once st) once (λ i. (at.done i).0) (λ i. (at.done i).1)
          ∙ length-map (take k p) _
          ∙ length-take-le k p l

      -- the list has at most 512 rows, so its words stand within the first 8,192
      at_words : length (flat (list_after q (take k p))) ≤ 8192
      unfolding list_after
      at_words =
          omega (
            arith,
            list-few (asked_in st) (done_in st) st.rows t,
            ap length at.list,
            length-flat 16 (listed q after) (ready-wide after),
          )

      -- the state and the tables after k steps
      pub here : k ≤ length p → Here q after k first second st t u
      unfolding Sub list_after
      here l =
          record {
            without = asked_without st at.asked;
            there = λ i j. (answered-lookups (take k p) i).1 ((at.done i).0 j);
            back = λ i j. (at.done i).1 ((answered-lookups (take k p) i).0 j);
            count = at_count l;
            within = at.within;
            list = at.list;
            first-long = long_after (list_after q (take k p)) first t k (λ z. (at.before z).0) (λ m. (at.after m).0) ready-first;
            second-long = long_after [] second u k (λ z. (at.before z).1) (λ m. (at.after m).1) ready-second;
            holds = held_after (list_after q (take k p)) first t k (λ z. (at.before z).0) (λ m. (at.after m).0) at_words;
            clears = held_after [] second u k (λ z. (at.before z).1) (λ m. (at.after m).1) none_fits [];
          }
