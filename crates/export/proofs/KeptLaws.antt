-- A state that is kept in bytes is taken up again: by what stands at each place behind its sheet, and since each operation keeps
-- the sheet.
use mathlib.Core.Path.{◌≡◌, refl, sym, ap, ap₂, ◌∙◌}
use mathlib.Core.Logic.{inl}
use mathlib.Core.Bool.{Bool, true, false, not, ◌&&◌}
use mathlib.Core.Option.{Option, none, some}
use mathlib.Core.List.{List, [], ◌∷◌, ◌++◌, append_assoc}
use Prim.Native.Nat.{ℕ, zero, suc, ◌+◌, ◌*◌, ◌/◌, ◌%◌, ◌≤◌, ◌<◌}
use native.Mathlib.Omega.{arith}
use lib.ListN.{length, get_or, take, drop, replicate, length-append, take-append-drop}
use lib.Seq.{length-take-le, drop-cons, take_at, drop_at, get_or-drop}
use lib.Dec.{eqb, leb}
use Rattle.plan.specs.Lists.{In}
use Rattle.plan.specs.Reader.{Read, got, bad}
use Rattle.plan.specs.Sheet.{Sheet, read_sheet}
use Rattle.plan.specs.Request.{Row, Request, goal_at}
use Rattle.plan.specs.Route.{Pick}
use Rattle.plan.specs.Answer.{route_check}
use Rattle.plan.specs.Apart.{asked_in, done_in, is_taken, is_chosen, is_whole, all_asked}
use Rattle.plan.specs.Apart.{stays_choosing, with_choice, choose_pick, choose_here, choose_after, choose_next}
use Rattle.plan.specs.Apart.{stays_taking, zeroes_taking, with_taken, with_over, take_joined, take_rows, take_chosen, take_here}
use Rattle.plan.specs.Apart.{take_after, take_next, no_state, start_of, started}
use Rattle.plan.specs.declared.State.{State}
use Rattle.plan.specs.Answer.{Checked}
use Rattle.plan.proofs.Lists.{by_test}
use Rattle.plan.proofs.Padded.{length-padded}
use Rattle.plan.proofs.First.{sheet-bytes}
use Rattle.plan.proofs.Check.{check_bad}
use Rattle.plan.proofs.Faults.{fault_numbers}
use Rattle.lay.specs.Put.{laid}
use Rattle.export.specs.Stepping.{chosen_number, rest_numbers, state_numbers, state_in}
use Rattle.export.specs.Stepping.{StartedInto, started_into_of, started_into, ChosenInto, chosen_into_of, chosen_into}
use Rattle.export.specs.Stepping.{TakenInto, taken_into_of, taken_into}
use Rattle.export.specs.Kept.{FitsBytes, KeptInBytes}
use Rattle.export.proofs.SteppingLaws.{started_into-long, chosen_into-room, taken_into-room}

-- ---- the bytes of a state

-- whether a step is chosen, from its byte
chosen-back : (b : Bool) → not (eqb (chosen_number b) 0) ≡ b
unfolding chosen_number
chosen-back true = refl
chosen-back false = refl

-- a number, from its two bytes
two : (x : ℕ) → x / 256 * 256 + x % 256 ≡ x
two x = omega arith

module _ (st : State) (long : length st.sheet ≡ 193) where
  -- there are 202
  state-long : length (state_numbers st) ≡ 202
  unfolding state_numbers rest_numbers
  state-long = omega (arith, length-append st.sheet (rest_numbers st), long)

  module _ (rest : List ℕ) where
    -- what stands behind the sheet
    behind : (k : ℕ) → get_or (state_numbers st ++ rest) (193 + k) 0 ≡ get_or (rest_numbers st ++ rest) k 0
    unfolding state_numbers
    behind k =
        sym (get_or-drop 193 (state_numbers st ++ rest) k 0)
        ∙ ap (λ (l : List ℕ). get_or l k 0)
        (ap (drop 193) (append_assoc st.sheet (rest_numbers st) rest) ∙ drop_at st.sheet (rest_numbers st ++ rest) 193 long)

    -- the bytes hold the state
    state-held : state_in (state_numbers st ++ rest) ≡ st
    unfolding state_in state_numbers rest_numbers
    state-held = λ t.
        record {
          sheet =
              (ap (take 193) (append_assoc st.sheet (rest_numbers st) rest)
              ∙ take_at st.sheet (rest_numbers st ++ rest) 193 long) t;
          bytes = behind 0 t;
          answered = (ap₂ (λ (h l : ℕ). h * 256 + l) (behind 1) (behind 2) ∙ two st.answered) t;
          rows = (ap₂ (λ (h l : ℕ). h * 256 + l) (behind 3) (behind 4) ∙ two st.rows) t;
          chosen = (ap (λ (b : ℕ). not (eqb b 0)) (behind 5) ∙ chosen-back st.chosen) t;
          lookup = behind 6 t;
          rule = behind 7 t;
          over = behind 8 t;
        }

  -- where it is put
  state-put : (state : List ℕ) → state_in (laid state 0 (state_numbers st)) ≡ st
  unfolding laid
  state-put state = state-held (drop (0 + length (state_numbers st)) state)

-- each number of the list is a byte
record Low (xs : List ℕ) : Type 0 where
  at : (i : ℕ) → get_or xs i 0 < 256

low_none : Low []
low_none = record { at = λ i. omega arith }

low-cons : {x : ℕ} {xs : List ℕ} → x < 256 → Low xs → Low (x ∷ xs)
low-cons {x} {xs} h l = record { at = go }
  where
    go : (i : ℕ) → get_or (x ∷ xs) i 0 < 256
    go zero = h
    go (suc i) = l.at i

low-append : (xs ys : List ℕ) → Low xs → Low ys → Low (xs ++ ys)
low-append [] ys l m = m
low-append (x ∷ xs) ys l m = low-cons (l.at 0) (low-append xs ys (record { at = λ i. l.at (suc i) }) m)

chosen-low : (b : Bool) → chosen_number b < 256
unfolding chosen_number
chosen-low true = omega arith
chosen-low false = omega arith

state-low : (st : State) → FitsBytes st → Low (state_numbers st)
unfolding state_numbers rest_numbers
state-low st f =
    low-append st.sheet (rest_numbers st) (record { at = f.sheet-low })
    (low-cons f.bytes_low
    (low-cons (omega (arith, f.answered-low))
    (low-cons (omega arith)
    (low-cons (omega (arith, f.rows-low))
    (low-cons (omega arith)
    (low-cons (chosen-low st.chosen)
    (low-cons f.lookup-low
    (low-cons f.rule-low
    (low-cons f.over-low low_none)))))))))

-- a state with nothing to choose
state-nothing : state_numbers no_state ≡ replicate 202 0
unfolding state_numbers rest_numbers chosen_number no_state
state-nothing = refl

-- ---- each operation keeps the sheet

module _ (st : State) where
  -- choosing
  pick_keeps : (q : Request) (l : List Row) (o : Option Pick) (first second calls : List ℕ)
      → (choose_pick st q l o first second calls).turn.state.sheet ≡ st.sheet
  unfolding choose_pick stays_choosing with_choice
  pick_keeps q l none first second calls = refl
  pick_keeps q l (some s) first second calls = refl

  again-keeps : (over : ℕ) (first second calls : List ℕ) → (choose_after st over first second calls).turn.state.sheet ≡ st.sheet
  unfolding choose_after choose_here
  again-keeps zero first second calls = pick_keeps _ _ _ first second calls
  again-keeps (suc k) first second calls = refl

  choose_keeps : (first second calls : List ℕ) → (choose_next st first second calls).turn.state.sheet ≡ st.sheet
  unfolding choose_next stays_choosing
  choose_keeps first second calls =
      by_test (leb 8192 (length first) && leb 8192 (length second) && leb 3072 (length calls))
      (λ t. rw (t, choose_next) (again-keeps st.over first second calls))
      (λ f. rw (f, choose_next))

  -- taking
  joined_keeps : (q : Request) (s : Pick) (step : ℕ) (l rows joined : List Row) (first second : List ℕ)
      → (take_joined st q s step l rows joined first second).turn.state.sheet ≡ st.sheet
  unfolding take_joined zeroes_taking with_taken with_over
  joined_keeps q s step l rows joined first second =
      by_test (leb (length joined) 512) (λ t. rw (t, take_joined)) (λ f. rw (f, take_joined))

  rows_keep : (q : Request) (A : List ℕ) (s : Pick) (step : ℕ) (l rows : List Row) (first second : List ℕ)
      → (take_rows st q A s step l rows first second).turn.state.sheet ≡ st.sheet
  unfolding take_rows stays_taking
  rows_keep q A s step l rows first second =
      by_test (all_asked q s l rows) (λ t. rw (t, take_rows) (joined_keeps q s step l rows _ first second)) (λ f. rw (f, take_rows))

  chosen-keeps : (q : Request) (A : List ℕ) (s : Pick) (step : ℕ) (sent first second : List ℕ)
      → (take_chosen st q A s step sent first second).turn.state.sheet ≡ st.sheet
  unfolding take_chosen stays_taking
  chosen-keeps q A s step sent first second =
      by_test (is_whole (length (goal_at q s.lookup).vars) (length sent))
      (λ t. rw (t, take_chosen) (rows_keep q A s step _ _ first second))
      (λ f. rw (f, take_chosen))

  here-keeps : (step : ℕ) (sent first second : List ℕ) → (take_here st step sent first second).turn.state.sheet ≡ st.sheet
  unfolding take_here stays_taking
  here-keeps step sent first second =
      by_test (is_taken (length (done_in st)) step)
      (λ t. rw (t, take_here))
      (λ f.
      by_test (is_chosen st (asked_in st) (done_in st) step)
      (λ t. rw (f, t, take_here) (chosen-keeps _ _ _ step sent first second))
      (λ g. rw (f, g, take_here)))

  after-keeps : (over step : ℕ) (sent first second : List ℕ)
      → (take_after st over step sent first second).turn.state.sheet ≡ st.sheet
  unfolding take_after zeroes_taking
  after-keeps zero step sent first second = here-keeps step sent first second
  after-keeps (suc k) step sent first second = refl

  take-keeps : (step : ℕ) (sent first second : List ℕ) → (take_next st step sent first second).turn.state.sheet ≡ st.sheet
  unfolding take_next stays_taking
  take-keeps step sent first second =
      by_test (leb 8192 (length first) && leb 8192 (length second))
      (λ t. rw (t, take_next) (after-keeps st.over step sent first second))
      (λ f. rw (f, take_next))

-- ---- starting gives a sheet of 193 bytes

module _ (sheet : List ℕ) where
  -- a sheet that the route check lets pass was read
  plain-short : (r : Read Sheet) → read_sheet sheet ≡ r → (route_check sheet).number ≡ 0 → length sheet ≤ 193
  unfolding In
  plain-short (got s end) e z = sheet-bytes sheet s end e
  plain-short (bad fault detail) e z =
      absurd (fault_numbers.own fault (inl (sym (ap (λ (c : Checked). c.number) (check_bad sheet fault detail e)) ∙ z)))

  start-long : length (started sheet).state.sheet ≡ 193
  unfolding started start_of no_state
  start-long = go (route_check sheet).number refl
    where
      go : (n : ℕ) → (route_check sheet).number ≡ n → length (started sheet).state.sheet ≡ 193
      go zero e = rw (e, started) (length-padded 193 0 sheet (plain-short (read_sheet sheet) refl e))
      go (suc n) e = rw (e, started)

-- ---- a state that is kept is taken up again

-- the state that enough bytes hold has 193 of a sheet
held-long : (state : List ℕ) → 202 ≤ length state → length (state_in state).sheet ≡ 193
unfolding state_in
held-long state h = length-take-le 193 state (omega arith)

started_into-kept : (sheet state : List ℕ) (detail : ℕ) → 202 ≤ length state
    → state_in (started_into sheet state detail).state ≡ (started sheet).state
unfolding started_into_of
started_into-kept sheet state detail h =
    ap (λ (b : StartedInto). state_in b.state) (sym (started_into-long sheet state detail h))
    ∙ state-put (started sheet).state (start-long sheet) state

chosen_into-kept : (state first second calls out : List ℕ) → 202 ≤ length state → 9 ≤ length out
    → state_in (chosen_into state first second calls out).state ≡ (choose_next (state_in state) first second calls).turn.state
unfolding chosen_into_of
chosen_into-kept state first second calls out g h =
    ap (λ (n : ChosenInto). state_in n.state) (sym (chosen_into-room state first second calls out g h))
    ∙ state-put _ (ap length (choose_keeps (state_in state) first second calls) ∙ held-long state g) state

taken_into-kept : (sent : List ℕ) (step : ℕ) (state first second out : List ℕ) → 202 ≤ length state → 9 ≤ length out
    → state_in (taken_into sent step state first second out).state ≡ (take_next (state_in state) step sent first second).turn.state
unfolding taken_into_of
taken_into-kept sent step state first second out g h =
    ap (λ (t : TakenInto). state_in t.state) (sym (taken_into-room sent step state first second out g h))
    ∙ state-put _ (ap length (take-keeps (state_in state) step sent first second) ∙ held-long state g) state

-- ---- bytes stay where the state does

-- a byte behind the sheet stands in its place
byte_stays : (state rest : List ℕ) (k x : ℕ) → k < length state → x ≡ get_or state k 0 → rest ≡ drop (suc k) state
    → x ∷ rest ≡ drop k state
byte_stays state rest k x h e r = ap₂ (λ (y : ℕ) (l : List ℕ). y ∷ l) e r ∙ sym (drop-cons state k 0 h)

-- a number of two bytes gives them again
high_byte : (h l : ℕ) → l < 256 → (h * 256 + l) / 256 ≡ h
high_byte h l b = omega arith

low_byte : (h l : ℕ) → l < 256 → (h * 256 + l) % 256 ≡ l
low_byte h l b = omega arith

-- and so does a 0 or a 1
chosen-again : (n : ℕ) → n ≤ 1 → chosen_number (not (eqb n 0)) ≡ n
unfolding chosen_number
chosen-again zero h = refl
chosen-again (suc zero) h = refl
chosen-again (suc (suc n)) h = absurd (omega arith)

module _ (state : List ℕ) (h : 202 ≤ length state) (low : (i : ℕ) → i < 202 → get_or state i 0 < 256) where
  rest_stays : get_or state 198 0 ≤ 1 → rest_numbers (state_in state) ++ drop 202 state ≡ drop 193 state
  unfolding rest_numbers state_in
  rest_stays c =
      byte_stays state _ 193 _ (omega arith) refl
      (byte_stays state _ 194 _ (omega arith) (high_byte _ _ (low 195 (omega arith)))
      (byte_stays state _ 195 _ (omega arith) (low_byte _ _ (low 195 (omega arith)))
      (byte_stays state _ 196 _ (omega arith) (high_byte _ _ (low 197 (omega arith)))
      (byte_stays state _ 197 _ (omega arith) (low_byte _ _ (low 197 (omega arith)))
      (byte_stays state _ 198 _ (omega arith) (chosen-again _ c)
      (byte_stays state _ 199 _ (omega arith) refl
      (byte_stays state _ 200 _ (omega arith) refl
      (byte_stays state _ 201 _ (omega arith) refl refl))))))))

  -- bytes that hold a state stay where it does
  state-stays : get_or state 198 0 ≤ 1 → laid state 0 (state_numbers (state_in state)) ≡ state
  unfolding laid state_numbers state_in
  state-stays c =
      ap (λ (k : ℕ). state_numbers (state_in state) ++ drop (0 + k) state) (state-long (state_in state) (held-long state h))
      ∙ append_assoc (take 193 state) (rest_numbers (state_in state)) (drop 202 state)
      ∙ ap (λ (r : List ℕ). take 193 state ++ r) (rest_stays c)
      ∙ take-append-drop 193 state

-- ---- all of it

pub kept : KeptInBytes
kept =
    record {
      long = state-long;
      held = state-held;
      low = λ st f. (state-low st f).at;
      nothing = state-nothing;
      begins = started_into-kept;
      chooses = chosen_into-kept;
      takes = taken_into-kept;
      stays = state-stays;
    }
