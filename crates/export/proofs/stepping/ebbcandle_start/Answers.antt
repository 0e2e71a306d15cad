-- `export::stepping::ebbcandle_start` meets its contract: too few bytes are refused, and else the state is put into them.
use native.Mathlib.Omega.{arith}
use Rattle.std.proofs.Common.{ap, ◌∙◌}
use Rattle.std.specs.Result.{result_unwrap_or}
use Rattle.export.proofs.SteppingLaws.{started_into-short, started_into-made}
use Rattle.export.proofs.stepping.ebbcandle_start.Goals as goal

pub returns-then-state-lt-STATE_BYTES : goal.returns-then-state-lt-STATE_BYTES
returns-then-state-lt-STATE_BYTES c =
    let a = c.args in
    started_into-short a.sheet.now a.state.now a.detail.now (omega arith)

pub returns : goal.returns
returns c =
    let p = c.put_state in
    let a = c.args in
    let s = c.start_request-started in
    let d = c.put_detail in
    started_into-made a.sheet.now a.state.now a.detail.now (omega arith)
    s.result
    s.ensures
    (record { number = d.result; detail = d.new.detail })
    d.ensures
    c.unwrap_or.result
    (c.unwrap_or.ensures ∙ ap (result_unwrap_or s.result) c.no_state.ensures)
    p.new.bytes
    p.ensures
