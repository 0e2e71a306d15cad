-- The bound of demand 3 is reached: A(v) with one row, then B(v) with none, both rule f, cost two calls, and the route
-- B, A has no look-up dearer than one. By computing, from the sheet on, for any tables long enough.
use mathlib.Core.Path.{refl, ap}
use mathlib.Core.List.{List}
use mathlib.Core.Logic.{inl, inr}
use Prim.Native.Nat.{ℕ, zero, suc, ◌<◌}
use native.Mathlib.Omega.{arith}
use Rattle.plan.specs.Lists.{In, every, those, has, different_after, different, numbers, bits_where, eq_row, lt_row, insert, ordered}
use Rattle.plan.specs.Request.{no_goal, goal_at, reads, writes, rows_by}
use Rattle.plan.specs.Reader.{bit_at, bits_at, marks_at, give, ◌>>=◌, hold, field, marks, tested, each}
use Rattle.plan.specs.Sheet.{count_from, one_of, version, register, marked, value, look_up, used, first_unused, all_used, to_full_byte, ending, sheet, read_sheet}
use Rattle.plan.specs.Zero.{times, never_zero, matches, matching}
use Rattle.plan.specs.RowData.{part_at, parts_from, parts, part_rows, no_register_lem, never_zero_on, goal_of, request_of}
use Rattle.plan.specs.Route.{lookups, is_open, RouteFrom, total_from, dearest_from, cheaper, cheapest, choice, chain_from}
use Rattle.plan.specs.Grow.{must_give, known, gives, usable, agrees, extended, all_extended, join, listed, combinations, calls, is_sent, sent_of, sent, charge_of, picks_from, picks, chain}
use Rattle.plan.specs.Answer.{answered_from, step_in, steps_from, first_over, never_answerable, within_limit, outcome_by}
use Rattle.plan.specs.Answer.{answered_by, Whole, whole_of, full, whole}
use Rattle.plan.specs.Demands.{size, RouteOf, Long, Ready, Tight}
use Rattle.plan.proofs.Demands.{ready-back}
use Rattle.plan.specs.Cases.{request_rows, request_read, request_in, a_then_b, one_and_none, b_then_a}

both : (i : ℕ) → i < 2 → In i (lookups b_then_a)
unfolding In lookups b_then_a
both zero h = inr (inl refl)
both (suc zero) h = inl refl
both (suc (suc i)) h = absurd (let z : ⊥ = omega arith in z)

pub tight : Tight
unfolding full size RouteOf RouteFrom In every those has different_after different numbers bits_where eq_row lt_row insert ordered no_goal goal_at reads writes bit_at bits_at marks_at give ◌>>=◌ hold field marks tested each count_from one_of version register marked value look_up used first_unused all_used to_full_byte ending sheet read_sheet rows_by part_at parts_from parts part_rows no_register_lem times never_zero matches matching never_zero_on goal_of request_of lookups is_open total_from dearest_from cheaper cheapest choice chain_from must_give known gives usable agrees extended all_extended join listed combinations calls is_sent sent_of sent charge_of picks_from picks chain request_rows request_read request_in a_then_b one_and_none b_then_a answered_from step_in steps_from first_over never_answerable within_limit outcome_by answered_by whole_of whole
tight =
    let q = request_in a_then_b one_and_none in
    let ready : (first second : List ℕ) → Long full first second → Ready full a_then_b one_and_none first second q =
    λ first second long. record { long = long; priced = record { call = omega arith; row = omega arith }; said = _; end = _; read = refl; places = _; data_read = refl; asks = refl } in
    record {
      sheet = a_then_b;
      words = one_and_none;
      request = q;
      two = refl;
      ready = ready;
      reached = λ first second long.
          ap (λ (w : Whole). w.answer.calls) (ready-back full a_then_b one_and_none first second q (ready first second long));
      route = b_then_a;
      is_route = record { whole = record { places = refl; each = both }; follows = (refl, (refl, tt)) };
      dear = refl;
    }
