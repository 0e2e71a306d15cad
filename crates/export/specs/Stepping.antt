-- What a caller in C or Rust gets of a request that is answered step by step: the state in lent bytes, the numbers of what choosing
-- or taking comes to in a lent buffer, beside both tables and the list of calls. Too few bytes or places are refused before all
-- else, and nothing is written.
use Rattle.std.specs.Prelude.{Bool, true, false, not, ◌&&◌, List, [], ◌∷◌, ◌++◌, ℕ, ◌+◌, ◌*◌, ◌/◌, ◌%◌, length, get_or, take, eqb, leb}
use Rattle.plan.specs.Lists.{padded}
use Rattle.plan.specs.Apart.{case_number, case_detail, case_values, started, Choosing, choose_next, Taking, take_next}
use Rattle.plan.specs.declared.State.{State}
use Rattle.plan.specs.Apart.{Started}
use Rattle.plan.specs.declared.Case.{Case}
use Rattle.plan.specs.declared.Case.TheVariants.{Calls, AllTaken, Taken, Already, Refused}
use Rattle.lay.specs.Put.{laid}
use Rattle.export.specs.Exported.{no_room}

-- ---- a state in bytes

-- whether a step is chosen, as a byte
unfoldable pub chosen_number : Bool → ℕ
chosen_number true = 1
chosen_number false = 0

-- the nine bytes behind those of the sheet: how many of these count; the look-ups answered and the rows, two bytes each, the
-- highest first; whether a step is chosen, its look-up and its rule; and the step that was refused with 5
unfoldable pub rest_numbers : State → List ℕ
rest_numbers st =
    st.bytes
    ∷ st.answered / 256
    ∷ st.answered % 256
    ∷ st.rows / 256
    ∷ st.rows % 256
    ∷ chosen_number st.chosen
    ∷ st.lookup
    ∷ st.rule
    ∷ st.over
    ∷ []

-- the bytes of a state: the 193 of the sheet, and those
unfoldable pub state_numbers : State → List ℕ
state_numbers st = st.sheet ++ rest_numbers st

-- the state that bytes begin with; a step is chosen where its byte is not 0
unfoldable pub state_in : List ℕ → State
state_in bytes =
    record {
      sheet = take 193 bytes;
      bytes = get_or bytes 193 0;
      answered = get_or bytes 194 0 * 256 + get_or bytes 195 0;
      rows = get_or bytes 196 0 * 256 + get_or bytes 197 0;
      chosen = not (eqb (get_or bytes 198 0) 0);
      lookup = get_or bytes 199 0;
      rule = get_or bytes 200 0;
      over = get_or bytes 201 0;
    }

-- ---- what choosing or taking comes to, in places

-- which case it is
unfoldable pub case_kind : Case → ℕ
case_kind (Refused r) = 0
case_kind (Calls lookup rule calls) = 1
case_kind AllTaken = 2
case_kind (Taken step) = 3
case_kind Already = 4

-- the nine numbers: the number, the detail, the case, and its values with zeros up to six
unfoldable pub case_numbers : Case → List ℕ
case_numbers c = case_number c ∷ case_detail c ∷ case_kind c ∷ padded 6 0 (case_values c)

-- ---- starting

-- what the caller gets: the number, the state's bytes and the detail
pub record StartedInto : Type 0 where
  pub result : ℕ
  pub state : List ℕ
  pub detail : ℕ

-- of what starting gives: the first 202 bytes hold the state
unfoldable pub started_into_of : Started → List ℕ → StartedInto
started_into_of s state = record { result = s.number; state = laid state 0 (state_numbers s.state); detail = s.detail }

-- under 202 bytes for the state are refused before all else, and nothing is written
unfoldable pub started_into : List ℕ → List ℕ → ℕ → StartedInto
started_into sheet state detail =
    elim (leb 202 (length state)) [
      | true ↦ started_into_of (started sheet) state
      | false ↦ record { result = no_room; state = state; detail = detail }
    ]

-- ---- choosing

-- what the caller gets: the number, the state's bytes, both tables, the list of calls and the buffer
pub record ChosenInto : Type 0 where
  pub result : ℕ
  pub state : List ℕ
  pub first : List ℕ
  pub second : List ℕ
  pub calls : List ℕ
  pub out : List ℕ

-- of what choosing gives: the first 202 bytes hold the state afterwards, and the buffer's first nine places the numbers
unfoldable pub chosen_into_of : Choosing → List ℕ → List ℕ → ChosenInto
chosen_into_of c state out =
    record {
      result = case_number c.turn.case;
      state = laid state 0 (state_numbers c.turn.state);
      first = c.first;
      second = c.second;
      calls = c.calls;
      out = laid out 0 (case_numbers c.turn.case);
    }

-- whether there are 202 bytes for a state and nine places for the numbers
unfoldable pub has_room : List ℕ → List ℕ → Bool
has_room state out = leb 202 (length state) && leb 9 (length out)

-- choosing in the state that the bytes hold; where there is no room nothing is written
unfoldable pub chosen_into : List ℕ → List ℕ → List ℕ → List ℕ → List ℕ → ChosenInto
chosen_into state first second calls out =
    elim (has_room state out) [
      | true ↦ chosen_into_of (choose_next (state_in state) first second calls) state out
      | false ↦ record { result = no_room; state = state; first = first; second = second; calls = calls; out = out }
    ]

-- ---- taking

-- what the caller gets: the number, the state's bytes, both tables and the buffer
pub record TakenInto : Type 0 where
  pub result : ℕ
  pub state : List ℕ
  pub first : List ℕ
  pub second : List ℕ
  pub out : List ℕ

-- of what taking gives
unfoldable pub taken_into_of : Taking → List ℕ → List ℕ → TakenInto
taken_into_of t state out =
    record {
      result = case_number t.turn.case;
      state = laid state 0 (state_numbers t.turn.state);
      first = t.first;
      second = t.second;
      out = laid out 0 (case_numbers t.turn.case);
    }

-- taking the rows delivered for a step in the state that the bytes hold; where there is no room nothing is written
unfoldable pub taken_into : List ℕ → ℕ → List ℕ → List ℕ → List ℕ → List ℕ → TakenInto
taken_into sent step state first second out =
    elim (has_room state out) [
      | true ↦ taken_into_of (take_next (state_in state) step sent first second) state out
      | false ↦ record { result = no_room; state = state; first = first; second = second; out = out }
    ]
