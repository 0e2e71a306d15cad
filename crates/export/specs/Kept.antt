-- What is promised of a state that is kept in bytes: it is taken up again as it was, so steps that are chosen and taken through
-- bytes are those that are chosen and taken.
use Rattle.std.specs.Prelude.{◌≡◌, List, ◌++◌, ℕ, ◌≤◌, ◌<◌, length, get_or, replicate}
use Rattle.plan.specs.Apart.{no_state, started, choose_next, take_next}
use Rattle.plan.specs.declared.State.{State}
use Rattle.lay.specs.Put.{laid}
use Rattle.export.specs.Stepping.{state_numbers, state_in, started_into, chosen_into, taken_into}

-- the numbers of a state have at most the one or two bytes that its type gives them
pub record FitsBytes (st : State) : Type 0 where
  pub sheet-low : (i : ℕ) → get_or st.sheet i 0 < 256
  pub bytes_low : st.bytes < 256
  pub answered-low : st.answered < 65536
  pub rows-low : st.rows < 65536
  pub lookup-low : st.lookup < 256
  pub rule-low : st.rule < 256
  pub over-low : st.over < 256

pub record KeptInBytes : Type 0 where
  -- a state with a sheet of 193 bytes has 202, which hold it, whatever stands behind them
  pub long : (st : State) → length st.sheet ≡ 193 → length (state_numbers st) ≡ 202
  pub held : (st : State) → length st.sheet ≡ 193 → (rest : List ℕ) → state_in (state_numbers st ++ rest) ≡ st
  -- and each is a byte where it fits its type
  pub low : (st : State) → FitsBytes st → (i : ℕ) → get_or (state_numbers st) i 0 < 256
  -- a state with nothing to choose is 202 zeros
  pub nothing : state_numbers no_state ≡ replicate 202 0
  -- so after each operation the bytes hold the state afterwards
  pub begins : (sheet state : List ℕ) (detail : ℕ) → 202 ≤ length state
      → state_in (started_into sheet state detail).state ≡ (started sheet).state
  pub chooses : (state first second calls out : List ℕ) → 202 ≤ length state → 9 ≤ length out
      → state_in (chosen_into state first second calls out).state ≡ (choose_next (state_in state) first second calls).turn.state
  pub takes : (sent : List ℕ) (step : ℕ) (state first second out : List ℕ) → 202 ≤ length state → 9 ≤ length out
      → state_in (taken_into sent step state first second out).state ≡ (take_next (state_in state) step sent first second).turn.state
  -- the state that bytes hold, put into them, changes none of them, where the one for whether a step is chosen is 0 or 1; any
  -- other is written as 1
  pub stays : (state : List ℕ) → 202 ≤ length state → ((i : ℕ) → i < 202 → get_or state i 0 < 256) → get_or state 198 0 ≤ 1
      → laid state 0 (state_numbers (state_in state)) ≡ state
