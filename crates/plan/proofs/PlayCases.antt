-- The cases of choosing and taking hold of the definitions: one claim over the whole list, by computing both sides.
use mathlib.Core.Path.{◌≡◌, refl}
use mathlib.Core.List.{map}
use Rattle.plan.specs.Lists.{every, those, padded, has, different_after, different, numbers, bits_where, eq_row, lt_row, insert, ordered, in_set, set_of, from_set, vars_in}
use Rattle.plan.specs.Request.{no_goal, goal_at, reads, writes, rows_by, flat, holding}
use Rattle.plan.specs.Reader.{fault_number, bit_at, bits_at, marks_at, give, ◌>>=◌, hold, field, marks, tested, each}
use Rattle.plan.specs.Sheet.{count_from, one_of, version, register, marked, value, look_up, used, first_unused, all_used, to_full_byte, ending, sheet, read_sheet}
use Rattle.plan.specs.Zero.{times, never_zero, matches, matching, columns_in, never_zero_in}
use Rattle.plan.specs.RowData.{no_register_lem, never_zero_on, goal_of, request_of}
use Rattle.plan.specs.Route.{lookups, is_open, cheaper, cheapest, choice, chain_from}
use Rattle.plan.specs.Grow.{must_give, known, gives, usable, agrees, extended, all_extended, join, listed, combinations, calls, is_sent, picks_from, picks, chain}
use Rattle.plan.specs.Answer.{never_answerable, checked_of, route_check}
use Rattle.plan.specs.Apart.{no_sheet, sound_sheet, asked_in, answered_in, done_in, is_ascending, is_blank, is_list, list_rows, list_in, no_state, start_of, started, next_pick, call_list, with_choice, stays_choosing, choose_pick, choose_here, choose_after, choose_next, is_taken, is_chosen, is_whole, delivered_rows, all_asked, joined_with, step_taken, with_taken, with_over, stays_taking, zeroes_taking, take_joined, take_rows, take_chosen, take_here, take_after, take_next}
use Rattle.plan.specs.Cases.{lent, step_at, step, row, depot_sheet, depot, a_then_b, every_pair}
use Rattle.plan.specs.PlayCases.{PlayCase, state_with, idle, picked, table, choose_in, chose, zeros_to, take_in, took, leaves, stocked, stated, counts_empty, turned, turned_list, broken, exceeded, play_cases}

-- each case gives what the rules expect
pub play_cases-hold : map (λ (c : PlayCase). c.asked) play_cases ≡ map (λ (c : PlayCase). c.expected) play_cases
unfolding every those padded has different_after different numbers bits_where eq_row lt_row insert ordered in_set set_of from_set vars_in no_goal goal_at reads writes rows_by flat holding fault_number bit_at bits_at marks_at give ◌>>=◌ hold field marks tested each count_from one_of version register marked value look_up used first_unused all_used to_full_byte ending sheet read_sheet times never_zero matches matching columns_in never_zero_in no_register_lem never_zero_on goal_of request_of lookups is_open cheaper cheapest choice chain_from must_give known gives usable agrees extended all_extended join listed combinations calls is_sent picks_from picks chain never_answerable checked_of route_check no_sheet sound_sheet asked_in answered_in done_in is_ascending is_blank is_list list_rows list_in no_state start_of started next_pick call_list with_choice stays_choosing choose_pick choose_here choose_after choose_next is_taken is_chosen is_whole delivered_rows all_asked joined_with step_taken with_taken with_over stays_taking zeroes_taking take_joined take_rows take_chosen take_here take_after take_next lent step_at step row depot_sheet depot a_then_b every_pair state_with idle picked table choose_in chose zeros_to take_in took leaves stocked stated counts_empty turned turned_list broken exceeded play_cases
play_cases-hold = refl
