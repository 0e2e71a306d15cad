-- What choosing and taking come to, in every state and for all tables; and each step of CHAIN's route has a right delivery.
use mathlib.Core.Path.{◌≡◌, refl, sym, ◌∙◌, ap}
use mathlib.Core.Logic.{◌⊎◌, inl, inr}
use mathlib.Core.Bool.{Bool, true, false, ◌&&◌, and-false}
use mathlib.Core.List.{List, [], ◌∷◌}
use Prim.Native.Nat.{ℕ, zero, suc, ◌*◌, ◌/◌, ◌%◌, ◌≤◌, ◌<◌}
use native.Mathlib.Omega.{arith}
use native.Mathlib.Nat.{div-add-mod'}
use lib.ListN.{length}
use lib.Seq.{take_all}
use lib.Dec.{eqb, leb}
use borrow.Author.Tests.{le-leb, lt-leb, eqb-true, leb-true}
use Rattle.plan.specs.Lists.{In, those, eq_row}
use Rattle.plan.specs.Request.{Row, Request, goal_at, flat, holding}
use Rattle.plan.specs.Reader.{bad, Fault}
use Rattle.plan.specs.Sheet.{read_sheet}
use Rattle.plan.specs.RowData.{request_of}
use Rattle.plan.specs.Route.{Pick, is_open, AllChosen}
use Rattle.plan.specs.Grow.{gives, usable, listed, is_sent, charge_of}
use Rattle.plan.specs.Answer.{route_check, full}
use Rattle.plan.specs.Apart.{case_number, case_detail, bytes_in, no_sheet, sound_sheet, asked_in, done_in, no_state, started, stays_choosing, choose_next}
use Rattle.plan.specs.Apart.{pick_in, is_taken, is_chosen, is_whole, delivered_rows, all_asked, joined_with, with_taken}
use Rattle.plan.specs.Apart.{with_over, Taking, stays_taking, zeroes_taking, take_joined, take_rows, take_chosen, take_here, take_next}
use Rattle.plan.specs.declared.State.{State}
use Rattle.plan.specs.declared.Case.TheVariants.{AllTaken, Already}
use Rattle.plan.specs.Demands.{rule_of, size, Ready, RightDelivery, RightFrom}
use Rattle.plan.proofs.Lists.{clash, fails, and_left, and_right, and_of, every_in, every_of, has_in, in_has, eq_row_faithful}
use Rattle.plan.proofs.Different.{those-length}
use Rattle.plan.proofs.Picks.{picks_offered, picks-below}
use Rattle.plan.proofs.Charges.{delivered_is}
use Rattle.plan.proofs.Table.{Wide, length-rows, flat_rows}
use Rattle.plays.specs.Refuses.{Clear, IsNext, WholeRows, width_in, list_of, AskedFor, Refuses, Delivers}
use Rattle.plays.proofs.Tables.{held-long}
use Rattle.plays.proofs.Bounds.{asked-wide}
use Rattle.plays.proofs.Done.{taking_length, open_says, open_of}
use Rattle.plays.proofs.Turns.{is_long, choose_short_lem, choose_long, choose_over_lem, choose_none, choose_some}
use Rattle.plays.proofs.Turns.{chosen-says, chosen_of}
use Rattle.plays.proofs.Turns.{take_short, take_long, take-over, take_within, take-already, take-unchosen, take-chosen}
use Rattle.plays.proofs.Turns.{take-broken, take_whole, take-unasked, take-asked, take-many, take-few}
use Rattle.plays.proofs.Turns.{Takes, stays-short, told_over, stays-already, stays-unchosen, stays-broken, stays-unasked}
use Rattle.plays.proofs.Turns.{grows_over, is-taken, takes, taken_only}
use Rattle.plays.proofs.Choice.{next_chosen, next_nothing}
use Rattle.plays.proofs.Stored.{rows-wide, Fits, ready-fits}
use Rattle.plays.proofs.Right.{whole-rows, rows_delivered}
use Rattle.plan.specs.Refusals.{refused_with}
use Rattle.plan.specs.declared.Refusal.TheVariants.{NoSuchStep, NotAsked, NotWhole, TooManyRows}

-- ---- nothing to choose

-- a start that is refused
start_none : (sheet : List ℕ) → ((started sheet).number ≡ 0 → ⊥) → (started sheet).state ≡ no_state
unfolding started
start_none sheet = go (route_check sheet).number refl
  where
    go : (n : ℕ) → (route_check sheet).number ≡ n → ((started sheet).number ≡ 0 → ⊥) → (started sheet).state ≡ no_state
    go zero e = rw (e, started) (λ n. absurd (n refl))
    go (suc k) e = rw (e, started) (λ n. refl)

-- a state whose sheet is not sound asks nothing
asks_none : (st : State) (fault : Fault) (detail : ℕ) → read_sheet (bytes_in st) ≡ bad fault detail → length (asked_in st).goals ≡ 0
unfolding asked_in sound_sheet no_sheet request_of
asks_none st fault detail e = rw e

-- where no look-up is open with a rule that can be used
nothing : (st : State) (first second cs : List ℕ) → Clear st first second → 3072 ≤ length cs
    → ((s : Pick) → usable (asked_in st) (done_in st) s ≡ true → In s.lookup (done_in st))
    → choose_next st first second cs ≡ stays_choosing AllTaken st first second cs
nothing st first second cs c long h =
    choose_long st first second cs c.one c.two long
    ∙ choose_none st first second cs c.within (next_nothing (asked_in st) (done_in st) (list_of st first) h)

none_asked_lem : (st : State) (first second cs : List ℕ) (fault : Fault) (detail : ℕ) → read_sheet (bytes_in st) ≡ bad fault detail
    → Clear st first second → 3072 ≤ length cs → choose_next st first second cs ≡ stays_choosing AllTaken st first second cs
none_asked_lem st first second cs fault detail e c long =
    nothing st first second cs c long
    (λ s can.
    let low = picks-below (asked_in st) s (picks_offered (asked_in st) (done_in st) s can) in
    absurd (let z : ⊥ = omega (arith, low, asks_none st fault detail e) in z))

-- ---- 1

-- a conjunction fails where a test of it does
fails_left : (a b : Bool) → a ≡ false → (a && b) ≡ false
fails_left a b f = rw f

fails_right : (a b : Bool) → b ≡ false → (a && b) ≡ false
fails_right a b f = rw f (and-false a)

-- a short table fails the test of both
short_fails : (first second : List ℕ) → (length first < 8192) ⊎ (length second < 8192)
    → (leb 8192 (length first) && leb 8192 (length second)) ≡ false
short_fails first second (inl l) = fails_left (leb 8192 (length first)) (leb 8192 (length second)) (lt-leb 8192 (length first) l)
short_fails first second (inr l) = fails_right (leb 8192 (length first)) (leb 8192 (length second)) (lt-leb 8192 (length second) l)

long_fails : (first second cs : List ℕ) → (length first < 8192) ⊎ ((length second < 8192) ⊎ (length cs < 3072))
    → is_long first second cs ≡ false
long_fails first second cs (inl l) = fails_left _ (leb 3072 (length cs)) (short_fails first second (inl l))
long_fails first second cs (inr (inl l)) = fails_left _ (leb 3072 (length cs)) (short_fails first second (inr l))
long_fails first second cs (inr (inr l)) =
    fails_right (leb 8192 (length first) && leb 8192 (length second)) (leb 3072 (length cs)) (lt-leb 3072 (length cs) l)

-- ---- the step chosen

-- the test for the step chosen says just that
next_says : (st : State) (step : ℕ) → is_chosen st (asked_in st) (done_in st) step ≡ true → IsNext st step
unfolding is_chosen
next_says st step t =
    let D = done_in st in
    let can = is_open D (pick_in st) && usable (asked_in st) D (pick_in st) in
    let (number, o, u) = chosen-says st (asked_in st) D step t in
    record {
      number = number;
      chosen = and_left st.chosen can (and_right (eqb step (suc (length D))) (st.chosen && can) t);
      still_open = open_says D (pick_in st) o;
      can = u;
    }

next_of : (st : State) (step : ℕ) → IsNext st step → is_chosen st (asked_in st) (done_in st) step ≡ true
next_of st step n =
    chosen_of st (asked_in st) (done_in st) step n.number n.chosen (open_of (done_in st) (pick_in st) n.still_open) n.can

-- a 5 is of the step chosen, and the state keeps its number
overs : (st : State) (step : ℕ) (sent first second : List ℕ) (t : Taking) → Takes st step sent first second t → (k : ℕ)
    → st.over ≡ 0 → t.turn.case ≡ refused_with TooManyRows k
    → IsNext st step × (k ≡ step) × (t ≡ zeroes_taking k (with_over st k) first second)
unfolding stays_taking zeroes_taking case_number case_detail
overs st step sent first second t stays-short k z e = absurd (let z : ◌≡◌ {A = ℕ} 1 5 = ap case_number e in let f : ⊥ = omega arith in f)
overs st step sent first second t (told_over j o) k z e = absurd (let f : ⊥ = omega (arith, z, o) in f)
overs st step sent first second t stays-already k z e = absurd (let z : ◌≡◌ {A = ℕ} 0 5 = ap case_number e in let f : ⊥ = omega arith in f)
overs st step sent first second t stays-unchosen k z e = absurd (let z : ◌≡◌ {A = ℕ} 15 5 = ap case_number e in let f : ⊥ = omega arith in f)
overs st step sent first second t stays-broken k z e = absurd (let z : ◌≡◌ {A = ℕ} 32 5 = ap case_number e in let f : ⊥ = omega arith in f)
overs st step sent first second t stays-unasked k z e = absurd (let z : ◌≡◌ {A = ℕ} 16 5 = ap case_number e in let f : ⊥ = omega arith in f)
overs st step sent first second t (grows_over c) k z e =
    let same : step ≡ k = ap case_detail e in
    (next_says st step c, sym same, ap (λ n. zeroes_taking n (with_over st n) first second) same)
overs st step sent first second t (is-taken c made joined) k z e =
    absurd (let z : ◌≡◌ {A = ℕ} 0 1 = cc in let f : ⊥ = omega arith in f)

-- a step number that is not that of a step taken
not_taken : (made step : ℕ) → (step ≡ 0) ⊎ (made < step) → is_taken made step ≡ false
unfolding is_taken
not_taken made step (inl z) = fails_left (leb 1 step) (leb step made) (lt-leb 1 step (omega arith))
not_taken made step (inr l) = fails_right (leb 1 step) (leb step made) (lt-leb step made l)

module _ (st : State) (step : ℕ) (sent first second : List ℕ) (c : Clear st first second) where
  -- with tables long enough and no earlier 5 it goes by the step
  clear_takes : take_next st step sent first second ≡ take_here st step sent first second
  clear_takes =
      take_long st step sent first second (and_of (le-leb 8192 (length first) c.one) (le-leb 8192 (length second) c.two))
      ∙ take_within st step sent first second c.within

  -- taken already
  already : 1 ≤ step → step ≤ length (done_in st) → take_next st step sent first second ≡ stays_taking Already st first second
  unfolding is_taken
  already a b =
      clear_takes
      ∙ take-already st step sent first second (and_of (le-leb 1 step a) (le-leb step (length (done_in st)) b))

  -- 15
  unchosen : (step ≡ 0) ⊎ (length (done_in st) < step) → (IsNext st step → ⊥)
      → take_next st step sent first second ≡ stays_taking (refused_with NoSuchStep 0) st first second
  unchosen h n =
      clear_takes
      ∙ take-unchosen st step sent first second (not_taken (length (done_in st)) step h)
      (fails (is_chosen st (asked_in st) (done_in st) step) (λ t. n (next_says st step t)))

  module _ (n : IsNext st step) where
    -- the step chosen
    next_takes : take_next st step sent first second
        ≡ take_chosen st (asked_in st) (done_in st) (pick_in st) step sent first second
    next_takes =
        clear_takes
        ∙ take-chosen st step sent first second (not_taken (length (done_in st)) step (inr (omega (arith, n.number))))
        (next_of st step n)

    -- words that pass the test are whole rows
    whole_says : is_whole (width_in st) (length sent) ≡ true → WholeRows (width_in st) sent
    unfolding is_whole delivered_rows Wide
    whole_says t =
        let w = width_in st in
        let m = length sent / w in
        let e = eqb-true (length sent % w) 0 (and_left (eqb (length sent % w) 0) (leb m 512) t) in
        let all : m * w ≡ length sent = omega (arith, div-add-mod' (length sent) w, e) in
        record {
          rows = delivered_rows w sent;
          words = sym (flat_rows w m sent ∙ take_all (m * w) sent (omega arith));
          wide = rows-wide w m sent (omega arith);
          few = omega (arith, length-rows w m sent, leb-true m 512 (and_right (eqb (length sent % w) 0) (leb m 512) t));
        }

    -- 32
    broken : (WholeRows (width_in st) sent → ⊥) → take_next st step sent first second ≡ stays_taking (refused_with NotWhole 0) st first second
    broken h =
        next_takes
        ∙ take-broken st step sent first second (asked_in st) (done_in st) (pick_in st)
        (fails (is_whole (width_in st) (length sent)) (λ t. h (whole_says t)))

    module _ (d : WholeRows (width_in st) sent) where
      -- whole rows
      whole_takes : take_next st step sent first second
          ≡ take_rows st (asked_in st) (done_in st) (pick_in st) step (list_of st first) d.rows first second
      unfolding Wide
      whole_takes =
          let low = picks-below (asked_in st) (pick_in st) (picks_offered (asked_in st) (done_in st) (pick_in st) n.can) in
          let w = asked-wide st st.lookup low in
          next_takes
          ∙ take_whole st step sent first second (asked_in st) (done_in st) (pick_in st)
          (whole-rows (width_in st) d.rows sent w d.wide d.words d.few)
          ∙ ap (λ rows. take_rows st (asked_in st) (done_in st) (pick_in st) step (list_of st first) rows first second)
          (rows_delivered (width_in st) d.rows sent w d.wide d.words)

      -- 16
      unasked : (x : Row) → In x d.rows → (AskedFor st first x → ⊥)
          → take_next st step sent first second ≡ stays_taking (refused_with NotAsked 0) st first second
      unfolding all_asked is_sent gives
      unasked x i h =
          whole_takes
          ∙ take-unasked st step sent first second (asked_in st) (done_in st) (pick_in st) (list_of st first) d.rows
          (fails (all_asked (asked_in st) (pick_in st) (list_of st first) d.rows)
          (λ t. h (has_in eq_row eq_row_faithful _ _ (every_in _ d.rows t x i))))

      -- else the rows are joined
      joins : ((x : Row) → In x d.rows → AskedFor st first x)
          → take_next st step sent first second
          ≡ take_joined st (asked_in st) (pick_in st) step (list_of st first) d.rows
          (joined_with (asked_in st) (done_in st) (pick_in st) d.rows (list_of st first)) first second
      unfolding all_asked is_sent gives
      joins h =
          whole_takes
          ∙ take-asked st step sent first second (asked_in st) (done_in st) (pick_in st) (list_of st first) d.rows
          (every_of _ d.rows (λ x i. in_has eq_row eq_row_faithful _ _ (h x i)))

-- ---- once a step is taken

-- the next one is not chosen yet
choose_first_lem : (st : State) (step : ℕ) (late first second : List ℕ) → is_chosen st (asked_in st) (done_in st) step ≡ true
    → (joined : List Row)
    → (let after = with_taken st (pick_in st) (length joined) in
    let f = holding 8192 joined first in
    let s = holding 8192 [] second in
    take_next after (suc step) late f s ≡ stays_taking (refused_with NoSuchStep 0) after f s)
unfolding with_taken
choose_first_lem st step late first second c joined =
    let after = with_taken st (pick_in st) (length joined) in
    let (next, still_open, can) = chosen-says st (asked_in st) (done_in st) step c in
    let low = picks-below (asked_in st) (pick_in st) (picks_offered (asked_in st) (done_in st) (pick_in st) can) in
    let more = taking_length st (pick_in st) (length joined) low (open_says (done_in st) (pick_in st) still_open) in
    unchosen after (suc step) late (holding 8192 joined first) (holding 8192 [] second)
    (record { one = held-long 8192 joined first; two = held-long 8192 [] second; within = refl })
    (inr (omega arith)) (λ n. clash n.chosen refl)

-- ---- right deliveries

module _ (q : Request) (fits : (i : ℕ) → i < size q → Fits (goal_at q i)) where
  -- the rows that the register has and that were asked for
  right : (A : List ℕ) (s : Pick) → s.lookup < size q → (sent : List ℕ) × RightDelivery q A s sent
  right A s low =
      let g = goal_at q s.lookup in
      let rows = those (is_sent (rule_of q s) g.vars (listed q A)) g.stored in (
        flat rows,
        record {
          rows = rows;
          words = refl;
          few = omega (arith, those-length (is_sent (rule_of q s) g.vars (listed q A)) g.stored, (fits s.lookup low).few);
          exactly = delivered_is q A s;
        },
      )

  -- one for each step
  rights : (p : List Pick) (A : List ℕ) → AllChosen (usable q) (charge_of full q) A p → (ds : List (List ℕ)) × RightFrom q A p ds
  unfolding AllChosen RightFrom size
  rights [] A c = ([], tt)
  rights (s ∷ p) A c =
      let low = picks-below q s (picks_offered q A s c.0.can) in
      let (sent, d) = right A s low in
      let (more, ds) = rights p (s.lookup ∷ A) c.1 in
      (sent ∷ more, (d, ds))

-- each step of CHAIN's route has a right delivery, for a request that is ready
pub delivers : (sheet words first second : List ℕ) (q : Request) → Ready full sheet words first second q → Delivers q
unfolding Delivers
delivers sheet words first second q r p c = rights q (ready-fits full sheet words first second q r) p [] c.chosen

-- when choosing and taking refuse
pub refuses : Refuses
refuses =
    record {
      start_none_lem = start_none;
      none_asked = none_asked_lem;
      choose_short = λ st first second cs h. choose_short_lem st first second cs (long_fails first second cs h);
      take_short_lem = λ st step sent first second h. take_short st step sent first second (short_fails first second h);
      overs = λ st step sent first second. overs st step sent first second _ (takes st step sent first second);
      choose_over = λ st first second cs k e a b c.
          choose_long st first second cs a b c ∙ choose_over_lem st first second cs k e;
      take_over = λ st step sent first second k e a b.
          take_long st step sent first second (and_of (le-leb 8192 (length first) a) (le-leb 8192 (length second) b))
          ∙ take-over st step sent first second k e;
      chooses = λ st first second cs c long s h.
          choose_long st first second cs c.one c.two long
          ∙ choose_some st first second cs c.within s (next_chosen (asked_in st) (done_in st) (list_of st first) s h);
      nothing = nothing;
      already = already;
      unchosen = unchosen;
      choose_first = λ st step sent first second s e late.
          taken_only st step sent first second (λ (t : Taking).
          take_next t.turn.state (suc step) late t.first t.second
          ≡ stays_taking (refused_with NoSuchStep 0) t.turn.state t.first t.second) _ (takes st step sent first second) s e
          (λ c made joined. choose_first_lem st step late first second c joined);
      broken = broken;
      unasked = unasked;
      joins = λ st step sent first second c n d h.
          let q = asked_in st in
          let l = list_of st first in
          let joined = joined_with q (done_in st) (pick_in st) d.rows l in
          let is = joins st step sent first second c n d h in (
            λ few. is ∙ take-few st step sent first second q (done_in st) (pick_in st) l d.rows joined few,
            λ many. is ∙ take-many st step sent first second q (done_in st) (pick_in st) l d.rows joined many,
          );
    }
