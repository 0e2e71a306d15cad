-- `export::stepping::ebbcandle_choose` meets its contract: too few bytes or places are refused; else the state is taken from
-- its bytes, all that comes back is handed on, and the state afterwards and the numbers of the case are put.
use native.Mathlib.Omega.{arith}
use Rattle.export.proofs.SteppingLaws.{chosen_into_no_bytes, chosen_into_no_places, chosen_into-made}
use Rattle.export.proofs.stepping.ebbcandle_choose.Goals as goal

pub returns-then-state-lt-STATE_BYTES : goal.returns-then-state-lt-STATE_BYTES
returns-then-state-lt-STATE_BYTES c =
    let a = c.args in
    chosen_into_no_bytes a.state.now a.first.now a.second.now a.calls.now a.out.now (omega arith)

pub returns-then-out-lt-TURN_PLACES : goal.returns-then-out-lt-TURN_PLACES
returns-then-out-lt-TURN_PLACES c =
    let a = c.args in
    chosen_into_no_places a.state.now a.first.now a.second.now a.calls.now a.out.now (omega arith)
    (omega arith)

pub returns : goal.returns
returns c =
    let p = c.put_case in
    let a = c.args in
    let t = c.choose_next-chosen in
    chosen_into-made
    a.state.now
    a.first.now
    a.second.now
    a.calls.now
    a.out.now
    c.state_from-before.result
    (record { turn = t.result; first = t.new.first; second = t.new.second; calls = t.new.calls })
    p.result
    c.put_state.new.bytes
    p.new.out
    (omega arith)
    (omega arith)
    c.state_from-before.ensures
    t.ensures
    p.ensures.value
    c.put_state.ensures
    p.ensures.out_after
