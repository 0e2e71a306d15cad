-- Laws of what a caller in C or Rust gets of a request that is answered step by step: the numbers of a case, where there is no
-- room, and where the code makes all of it.
use mathlib.Core.Path.{◌≡◌, refl, sym, ap, ◌∙◌}
use mathlib.Core.Bool.{Bool, true, false}
use mathlib.Core.List.{List}
use Prim.Native.Nat.{ℕ, ◌≤◌, ◌<◌}
use lib.ListN.{length}
use mir.Val.{bool_byte}
use borrow.Author.Tests.{le-leb, lt-leb}
use Rattle.std.specs.Prelude.{Result, Ok, Err}
use Rattle.std.specs.Result.{result_unwrap_or}
use Rattle.plan.specs.Answer.{Checked, told_check}
use Rattle.plan.specs.Apart.{case_number, no_state, Started, told_start, started, Choosing, choose_next, Taking, take_next}
use Rattle.plan.specs.declared.State.{State}
use Rattle.plan.specs.declared.Refused.{Refused}
use Rattle.plan.specs.declared.Case.{Case}
use Rattle.lay.specs.Put.{laid}
use Rattle.export.specs.Exported.{no_room}
use Rattle.export.specs.Stepping.{chosen_number, state_numbers, state_in, case_numbers, has_room}
use Rattle.export.specs.Stepping.{started_into_of, started_into, chosen_into_of, chosen_into, taken_into_of, taken_into}

-- whether a step is chosen, as the code has the byte
pub chosen_byte : (b : Bool) → bool_byte b ≡ chosen_number b
unfolding chosen_number
chosen_byte true = refl
chosen_byte false = refl

-- the numbers that are put are those of the case
pub case_told : (x y : Case) (out out' numbers : List ℕ) (r : ℕ) → x ≡ y → r ≡ case_number y → out' ≡ laid out 0 numbers
    → numbers ≡ case_numbers y → (r ≡ case_number x) × (out' ≡ laid out 0 (case_numbers x))
case_told x y out out' numbers r e n d same =
    (n ∙ ap case_number (sym e), d ∙ ap (laid out 0) (same ∙ ap case_numbers (sym e)))

-- ---- room

module _ (state out : List ℕ) where
  -- too few bytes
  no_bytes : length state < 202 → has_room state out ≡ false
  unfolding has_room
  no_bytes h = rw (lt-leb 202 (length state) h)

  -- too few places
  no_places : 202 ≤ length state → length out < 9 → has_room state out ≡ false
  unfolding has_room
  no_places g h = rw (le-leb 202 (length state) g, lt-leb 9 (length out) h)

  -- enough of both
  room : 202 ≤ length state → 9 ≤ length out → has_room state out ≡ true
  unfolding has_room
  room g h = rw (le-leb 202 (length state) g, le-leb 9 (length out) h)

-- ---- starting

-- what is told of a start, as the code has it
started_as : (r : Result State Refused)
    → told_start r ≡ record { number = (told_check r).number; detail = (told_check r).detail; state = result_unwrap_or r no_state }
started_as (Ok st) = refl
started_as (Err x) = refl

module _ (sheet state : List ℕ) (detail : ℕ) where
  -- the state has too few bytes
  pub started_into-short : length state < 202
      → record { result = no_room; state = state; detail = detail } ≡ started_into sheet state detail
  unfolding started_into
  started_into-short h = rw (lt-leb 202 (length state) h, started_into)

  -- it has enough
  pub started_into-long : 202 ≤ length state → started_into_of (started sheet) state ≡ started_into sheet state detail
  unfolding started_into
  started_into-long h = rw (le-leb 202 (length state) h, started_into)

  -- and the code makes all of it
  pub started_into-made : 202 ≤ length state → (r : Result State Refused) → told_start r ≡ started sheet → (c : Checked)
      → c ≡ told_check r → (st : State) → st ≡ result_unwrap_or r no_state → (state' : List ℕ)
      → state' ≡ laid state 0 (state_numbers st)
      → record { result = c.number; state = state'; detail = c.detail } ≡ started_into sheet state detail
  unfolding started_into_of
  started_into-made h r e c d st u state' l =
      let s : record { number = c.number; detail = c.detail; state = st } ≡ started sheet =
      (λ t. record { number = (d t).number; detail = (d t).detail; state = u t }) ∙ sym (started_as r) ∙ e in
      let made : record { result = c.number; state = state'; detail = c.detail }
      ≡ started_into_of (record { number = c.number; detail = c.detail; state = st }) state = λ t.
      record { result = c.number; state = l t; detail = c.detail } in
      made ∙ ap (λ (x : Started). started_into_of x state) s ∙ started_into-long h

-- ---- choosing

module _ (state first second calls out : List ℕ) where
  -- there is no room
  chosen_into-stays : has_room state out ≡ false
      → record { result = no_room; state = state; first = first; second = second; calls = calls; out = out }
      ≡ chosen_into state first second calls out
  unfolding chosen_into
  chosen_into-stays e = rw (e, chosen_into)

  pub chosen_into_no_bytes : length state < 202
      → record { result = no_room; state = state; first = first; second = second; calls = calls; out = out }
      ≡ chosen_into state first second calls out
  chosen_into_no_bytes h = chosen_into-stays (no_bytes state out h)

  pub chosen_into_no_places : 202 ≤ length state → length out < 9
      → record { result = no_room; state = state; first = first; second = second; calls = calls; out = out }
      ≡ chosen_into state first second calls out
  chosen_into_no_places g h = chosen_into-stays (no_places state out g h)

  -- there is
  pub chosen_into-room : 202 ≤ length state → 9 ≤ length out
      → chosen_into_of (choose_next (state_in state) first second calls) state out ≡ chosen_into state first second calls out
  unfolding chosen_into
  chosen_into-room g h = rw (room state out g h, chosen_into)

  -- and the code makes all of it
  pub chosen_into-made : (st : State) (c : Choosing) (number : ℕ) (state' out' : List ℕ) → 202 ≤ length state → 9 ≤ length out
      → st ≡ state_in state → c ≡ choose_next st first second calls → number ≡ case_number c.turn.case
      → state' ≡ laid state 0 (state_numbers c.turn.state) → out' ≡ laid out 0 (case_numbers c.turn.case)
      → record { result = number; state = state'; first = c.first; second = c.second; calls = c.calls; out = out' }
      ≡ chosen_into state first second calls out
  unfolding chosen_into_of
  chosen_into-made st c number state' out' g h e d n s o =
      let made : record { result = number; state = state'; first = c.first; second = c.second; calls = c.calls; out = out' }
      ≡ chosen_into_of c state out = λ t.
      record { result = n t; state = s t; first = c.first; second = c.second; calls = c.calls; out = o t } in
      made
      ∙ ap (λ (x : Choosing). chosen_into_of x state out) (d ∙ ap (λ (x : State). choose_next x first second calls) e)
      ∙ chosen_into-room g h

-- ---- taking

module _ (sent : List ℕ) (step : ℕ) (state first second out : List ℕ) where
  -- there is no room
  taken_into-stays : has_room state out ≡ false
      → record { result = no_room; state = state; first = first; second = second; out = out }
      ≡ taken_into sent step state first second out
  unfolding taken_into
  taken_into-stays e = rw (e, taken_into)

  pub taken_into_no_bytes : length state < 202
      → record { result = no_room; state = state; first = first; second = second; out = out }
      ≡ taken_into sent step state first second out
  taken_into_no_bytes h = taken_into-stays (no_bytes state out h)

  pub taken_into_no_places : 202 ≤ length state → length out < 9
      → record { result = no_room; state = state; first = first; second = second; out = out }
      ≡ taken_into sent step state first second out
  taken_into_no_places g h = taken_into-stays (no_places state out g h)

  -- there is
  pub taken_into-room : 202 ≤ length state → 9 ≤ length out
      → taken_into_of (take_next (state_in state) step sent first second) state out ≡ taken_into sent step state first second out
  unfolding taken_into
  taken_into-room g h = rw (room state out g h, taken_into)

  -- and the code makes all of it
  pub taken_into-made : (st : State) (t : Taking) (number : ℕ) (state' out' : List ℕ) → 202 ≤ length state → 9 ≤ length out
      → st ≡ state_in state → t ≡ take_next st step sent first second → number ≡ case_number t.turn.case
      → state' ≡ laid state 0 (state_numbers t.turn.state) → out' ≡ laid out 0 (case_numbers t.turn.case)
      → record { result = number; state = state'; first = t.first; second = t.second; out = out' }
      ≡ taken_into sent step state first second out
  unfolding taken_into_of
  taken_into-made st t number state' out' g h e d n s o =
      let made : record { result = number; state = state'; first = t.first; second = t.second; out = out' }
      ≡ taken_into_of t state out = λ u.
      record { result = n u; state = s u; first = t.first; second = t.second; out = o u } in
      made
      ∙ ap (λ (x : Taking). taken_into_of x state out) (d ∙ ap (λ (x : State). take_next x step sent first second) e)
      ∙ taken_into-room g h
