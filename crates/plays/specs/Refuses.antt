-- What choosing and taking come to, in every state and for all tables, sound or not. Choosing: 1, 5 again, CHAIN's choice on the
-- list, all taken. Taking: 1, 5 again, taken already, 15, 32, 16, in this order; and else the delivery is taken, or yields over 512
-- rows.
use Rattle.std.specs.Prelude.{◌≡◌, ◌⊎◌, true, List, [], map, ℕ, suc, ◌≤◌, ◌<◌, length}
use Rattle.plan.specs.Lists.{In}
use Rattle.plan.specs.Request.{Row, Request, goal_at, reads, flat, holding}
use Rattle.plan.specs.Reader.{Fault, bad}
use Rattle.plan.specs.Sheet.{read_sheet}
use Rattle.plan.specs.Route.{Pick, Chosen}
use Rattle.plan.specs.Grow.{must_give, gives, usable, combinations}
use Rattle.plan.specs.Answer.{full}
use Rattle.plan.specs.Apart.{bytes_in, asked_in, done_in, list_in, started, no_state, call_list, with_choice, stays_choosing, choose_next}
use Rattle.plan.specs.Apart.{pick_in, rule_in, joined_with, step_taken, with_taken, with_over, stays_taking, zeroes_taking, take_next}
use Rattle.plan.specs.declared.State.{State}
use Rattle.plan.specs.declared.Step.{Step}
use Rattle.plan.specs.declared.Case.TheVariants.{Calls, AllTaken, Taken, Already}
use Rattle.plan.specs.Demands.{ChainRoute, RightFrom}
use Rattle.plan.specs.Refusals.{refused_with}
use Rattle.plan.specs.declared.Refusal.TheVariants.{NoSuchStep, NotAsked, NotWhole, ShortTable, TooManyRows}

-- both tables are long enough, and no earlier taking was refused with 5
pub record Clear (st : State) (first second : List ℕ) : Type 0 where
  pub one : 8192 ≤ length first
  pub two : 8192 ≤ length second
  pub within : st.over ≡ 0

-- the step is the one chosen: the next, of a look-up that is open and by a rule that can be used
pub record IsNext (st : State) (step : ℕ) : Type 0 where
  pub number : step ≡ suc (length (done_in st))
  pub chosen : st.chosen ≡ true
  pub still_open : In st.lookup (done_in st) → ⊥
  pub can : usable (asked_in st) (done_in st) (pick_in st) ≡ true

-- the words are at most 512 whole rows of so many columns
pub record WholeRows (columns : ℕ) (sent : List ℕ) : Type 0 where
  pub rows : List Row
  pub words : sent ≡ flat rows
  pub wide : (x : Row) → In x rows → length x ≡ columns
  pub few : length rows ≤ 512

-- how many columns the look-up has that the state has
abbrev pub width_in : State → ℕ
width_in st = length (goal_at (asked_in st) st.lookup).vars

-- the list of the state
abbrev pub list_of : State → List ℕ → List Row
list_of st first = list_in (asked_in st) (done_in st) st.rows first

-- some call asked for the row
abbrev pub AskedFor : State → List ℕ → Row → Type 0
AskedFor st first x =
    In (must_give (rule_in (asked_in st) (pick_in st)) x)
    (map (λ (r : Row). reads r (gives (asked_in st) (pick_in st))) (list_of st first))

-- what holds of choosing and taking, in every state and for all tables
pub record Refuses : Type 0 where
  -- a start that is refused has nothing to choose
  pub start_none_lem : (sheet : List ℕ) → ((started sheet).number ≡ 0 → ⊥) → (started sheet).state ≡ no_state
  -- nor has a state whose sheet is not sound
  pub none_asked : (st : State) (first second cs : List ℕ) (fault : Fault) (detail : ℕ) → read_sheet (bytes_in st) ≡ bad fault detail
      → Clear st first second → 3072 ≤ length cs → choose_next st first second cs ≡ stays_choosing AllTaken st first second cs
  -- 1 where a table or the list of calls is short, whatever the state
  pub choose_short : (st : State) (first second cs : List ℕ)
      → (length first < 8192) ⊎ ((length second < 8192) ⊎ (length cs < 3072))
      → choose_next st first second cs ≡ stays_choosing (refused_with ShortTable 0) st first second cs
  pub take_short_lem : (st : State) (step : ℕ) (sent first second : List ℕ) → (length first < 8192) ⊎ (length second < 8192)
      → take_next st step sent first second ≡ stays_taking (refused_with ShortTable 0) st first second
  -- with no earlier 5, a taking that is refused with 5 is of the step chosen: its number is told, and the state keeps it and is else as
  -- it came; the tables are zeroed
  pub overs : (st : State) (step : ℕ) (sent first second : List ℕ) (k : ℕ) → st.over ≡ 0
      → (take_next st step sent first second).turn.case ≡ refused_with TooManyRows k
      → IsNext st step × (k ≡ step) × (take_next st step sent first second ≡ zeroes_taking k (with_over st k) first second)
  -- a number that is kept is told again at each later call, with the tables zeroed and the list of calls untouched
  pub choose_over : (st : State) (first second cs : List ℕ) (k : ℕ) → st.over ≡ suc k → 8192 ≤ length first → 8192 ≤ length second
      → 3072 ≤ length cs
      → choose_next st first second cs
      ≡ record {
        turn = record { case = refused_with TooManyRows (suc k); state = st };
        first = holding 8192 [] first;
        second = holding 8192 [] second;
        calls = cs;
      }
  pub take_over : (st : State) (step : ℕ) (sent first second : List ℕ) (k : ℕ) → st.over ≡ suc k → 8192 ≤ length first
      → 8192 ≤ length second → take_next st step sent first second ≡ zeroes_taking (suc k) st first second
  -- else choosing gives CHAIN's choice by calls on the list, and its calls stand in the list of calls
  pub chooses : (st : State) (first second cs : List ℕ) → Clear st first second → 3072 ≤ length cs → (s : Pick)
      → (let q = asked_in st in
      let l = list_of st first in
      Chosen (usable q) (λ B s. combinations (gives q s) l) (done_in st) s
      → choose_next st first second cs
      ≡ record {
        turn = record { case = Calls s.lookup s.rule (combinations (gives q s) l); state = with_choice st s };
        first = first;
        second = second;
        calls = holding 3072 (call_list q s l) cs;
      })
  -- or says that all is taken, where no look-up is open with a rule that can be used
  pub nothing : (st : State) (first second cs : List ℕ) → Clear st first second → 3072 ≤ length cs
      → ((s : Pick) → usable (asked_in st) (done_in st) s ≡ true → In s.lookup (done_in st))
      → choose_next st first second cs ≡ stays_choosing AllTaken st first second cs
  -- a step that was taken, the last or an earlier one, whatever is delivered
  pub already : (st : State) (step : ℕ) (sent first second : List ℕ) → Clear st first second → 1 ≤ step
      → step ≤ length (done_in st) → take_next st step sent first second ≡ stays_taking Already st first second
  -- 15 for any other step that is not the one chosen
  pub unchosen : (st : State) (step : ℕ) (sent first second : List ℕ) → Clear st first second
      → (step ≡ 0) ⊎ (length (done_in st) < step) → (IsNext st step → ⊥)
      → take_next st step sent first second ≡ stays_taking (refused_with NoSuchStep 0) st first second
  -- so once a step is taken the next one is not chosen yet
  pub choose_first : (st : State) (step : ℕ) (sent first second : List ℕ) (s : Step)
      → (let t = take_next st step sent first second in
      t.turn.case ≡ Taken s → (late : List ℕ)
      → take_next t.turn.state (suc step) late t.first t.second
      ≡ stays_taking (refused_with NoSuchStep 0) t.turn.state t.first t.second)
  -- 32 where the delivery is not at most 512 whole rows
  pub broken : (st : State) (step : ℕ) (sent first second : List ℕ) → Clear st first second → IsNext st step
      → (WholeRows (width_in st) sent → ⊥) → take_next st step sent first second ≡ stays_taking (refused_with NotWhole 0) st first second
  -- 16 where no call asked for some row
  pub unasked : (st : State) (step : ℕ) (sent first second : List ℕ) → Clear st first second → IsNext st step
      → (d : WholeRows (width_in st) sent) (x : Row) → In x d.rows → (AskedFor st first x → ⊥)
      → take_next st step sent first second ≡ stays_taking (refused_with NotAsked 0) st first second
  -- else the step is taken, or yields over 512 rows
  pub joins : (st : State) (step : ℕ) (sent first second : List ℕ) → Clear st first second → IsNext st step
      → (d : WholeRows (width_in st) sent) → ((x : Row) → In x d.rows → AskedFor st first x)
      → (let q = asked_in st in
      let l = list_of st first in
      let joined = joined_with q (done_in st) (pick_in st) d.rows l in
      (length joined ≤ 512
      → take_next st step sent first second
      ≡ record {
        turn = record { case = Taken (step_taken q (pick_in st) l d.rows joined); state = with_taken st (pick_in st) (length joined) };
        first = holding 8192 joined first;
        second = holding 8192 [] second;
      })
      × (512 < length joined → take_next st step sent first second ≡ zeroes_taking step (with_over st step) first second))

-- each step of CHAIN's route has a right delivery
unfoldable pub Delivers : Request → Type 0
Delivers q = (p : List Pick) → ChainRoute full q p → (deliveries : List (List ℕ)) × RightFrom q [] p deliveries
