-- `apart::start_request` meets its contract, by what the route check gives.
use mathlib.Core.Path.{ap₂}
use mathlib.Core.List.{List}
use Prim.Native.Nat.{ℕ}
use lib.ListN.{length}
use native.Mathlib.Omega.{arith}
use Rattle.plan.specs.Apart.{no_state, start_of}
use Rattle.plan.specs.declared.State.{State}
use Rattle.apart.proofs.StartLaws.{start-refused, start-room, start-found}
use Rattle.apart.proofs.start_request.Goals as goal

pub returns-in_err-check_route : goal.returns-in_err-check_route
returns-in_err-check_route c =
    start-refused c.args.sheet.now c.in_err-check_route.field-0.0 c.from_residual.result c.from_residual.ensures.1 c.in_err-check_route.ensures

pub kept_bytes-requires : goal.kept_bytes-requires
kept_bytes-requires c = start-room c.args.sheet.now c.in_ok-check_route.ensures

pub overflow_cast-result : goal.overflow_cast-result
overflow_cast-result c =
    record { fits = omega (arith, start-room c.args.sheet.now c.in_ok-check_route.ensures) }

pub returns : goal.returns
unfolding start_of no_state
returns c =
    let sheet = c.args.sheet.now in
    start-found sheet c.in_ok-check_route.ensures _
    (ap₂ {C = State} (λ (x : List ℕ) (s : State). record { sheet = x; bytes = length sheet; answered = s.answered; rows = 1; chosen = s.chosen; lookup = s.lookup; rule = s.rule; over = s.over })
    c.kept_bytes.ensures c.no_state.ensures)
