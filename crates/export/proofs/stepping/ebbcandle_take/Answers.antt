-- `export::stepping::ebbcandle_take` meets its contract: too few bytes or places are refused; else the state is taken from its
-- bytes, all that comes back is handed on, and the state afterwards and the numbers of the case are put.
use native.Mathlib.Omega.{arith}
use Rattle.export.proofs.SteppingLaws.{taken_into_no_bytes, taken_into_no_places, taken_into-made}
use Rattle.export.proofs.stepping.ebbcandle_take.Goals as goal

pub returns-then-state-lt-STATE_BYTES : goal.returns-then-state-lt-STATE_BYTES
returns-then-state-lt-STATE_BYTES c =
    let a = c.args in
    taken_into_no_bytes a.sent.now a.step a.state.now a.first.now a.second.now a.out.now (omega arith)

pub returns-then-out-lt-TURN_PLACES : goal.returns-then-out-lt-TURN_PLACES
returns-then-out-lt-TURN_PLACES c =
    let a = c.args in
    taken_into_no_places a.sent.now a.step a.state.now a.first.now a.second.now a.out.now (omega arith)
    (omega arith)

pub returns : goal.returns
returns c =
    let p = c.put_case in
    let a = c.args in
    let t = c.take_rows-taken in
    taken_into-made
    a.sent.now
    a.step
    a.state.now
    a.first.now
    a.second.now
    a.out.now
    c.state_from-before.result
    (record { turn = t.result; first = t.new.first; second = t.new.second })
    p.result
    c.put_state.new.bytes
    p.new.out
    (omega arith)
    (omega arith)
    c.state_from-before.ensures
    t.ensures
    p.ensures.value
    c.put_state.ensures
    p.ensures.out_after
