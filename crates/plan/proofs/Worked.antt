-- The depot case, worked through: each line is computed on both sides.
use mathlib.Core.Path.{refl}
use Rattle.plan.specs.Lists.{every, those, padded, has, different_after, different, numbers, bits_where, eq_row, lt_row, insert, ordered}
use Rattle.plan.specs.Request.{no_goal, goal_at, reads, writes, rows_by, flat, holding}
use Rattle.plan.specs.Reader.{bit_at, bits_at, marks_at, give, ◌>>=◌, hold, field, marks, tested, each}
use Rattle.plan.specs.Sheet.{count_from, one_of, version, register, marked, value, look_up, used, first_unused, all_used, to_full_byte, ending, sheet, read_sheet}
use Rattle.plan.specs.Zero.{times, never_zero, matches, matching}
use Rattle.plan.specs.RowData.{part_at, parts_from, parts, part_rows, no_register_lem, never_zero_on, goal_of, request_of}
use Rattle.plan.specs.Route.{lookups, is_open, total_from, dearest_from, cheaper, cheapest, choice, chain_from}
use Rattle.plan.specs.Grow.{must_give, known, gives, usable, agrees, extended, all_extended, join, listed, combinations, calls, is_sent, sent_of, sent, charge_of, picks_from, picks, chain}
use Rattle.plan.specs.Answer.{answered_from, list_after, step_in, steps_from, first_over, never_answerable, within_limit, outcome_by, is_priced, found_said, found_read, found_priced, found, no_step, answered_by, whole_of, whole_at, full, whole}
use Rattle.plan.specs.Cases.{lent, step_at, step, request_rows, request_read, request_in, depot_sheet, depot_rest, depot_data, depot, depot_found, part}
use Rattle.plan.specs.Worked.{Worked}

-- the depot case goes as the page says
pub worked : Worked
unfolding every those padded has different_after different numbers bits_where eq_row lt_row insert ordered no_goal goal_at reads writes rows_by flat holding bit_at bits_at marks_at give ◌>>=◌ hold field marks tested each count_from one_of version register marked value look_up used first_unused all_used to_full_byte ending sheet read_sheet part_at parts_from parts part_rows no_register_lem times never_zero matches matching never_zero_on goal_of request_of lookups is_open total_from dearest_from cheaper cheapest choice chain_from must_give known gives usable agrees extended all_extended join listed combinations calls is_sent sent_of sent charge_of picks_from picks chain answered_from list_after step_in steps_from first_over never_answerable within_limit outcome_by is_priced found_said found_read found_priced found no_step answered_by whole_of whole_at full whole lent step_at step request_rows request_read request_in depot_sheet depot_rest depot_data depot depot_found part
worked =
    record {
      sheet_read = refl;
      registers = refl;
      given = refl;
      values = refl;
      look_ups = refl;
      places = refl;
      request = refl;
      state_goal = refl;
      carrier_goal = refl;
      stock_goal = refl;
      offers = refl;
      state_gives = refl;
      carrier_gives = refl;
      stock_gives = refl;
      known0 = refl;
      list0 = refl;
      state_usable0 = refl;
      carrier_usable0 = refl;
      stock_usable0 = refl;
      stock_calls0 = refl;
      choice0 = refl;
      agrees1 = refl;
      differs1 = refl;
      join1 = refl;
      list1 = refl;
      known1 = refl;
      stock_open1 = refl;
      state_usable1 = refl;
      carrier_usable1 = refl;
      state_calls1 = refl;
      carrier_calls1 = refl;
      choice1 = refl;
      differs2 = refl;
      join2 = refl;
      list2 = refl;
      known2 = refl;
      carrier_usable2 = refl;
      carrier_calls2 = refl;
      choice2 = refl;
      join3 = refl;
      list3 = refl;
      choice3 = refl;
      order = refl;
      total = refl;
      dearest = refl;
      finds = refl;
      number = refl;
      detail = refl;
      made = refl;
      steps = refl;
      calls_in_all = refl;
      charge_in_all = refl;
      rows = refl;
      first = refl;
      second = refl;
    }
