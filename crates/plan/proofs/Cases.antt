-- The cases hold of the definitions: one claim over the whole list, by computing both sides.
use mathlib.Core.Path.{◌≡◌, refl}
use mathlib.Core.List.{map}
use Rattle.plan.specs.Cases.{Case}
use Rattle.plan.specs.Lists.{every, those, padded, has, different_after, different, numbers, bits_where, eq_row, lt_row, insert, ordered}
use Rattle.plan.specs.Request.{no_goal, goal_at, reads, writes, rows_by, flat, holding}
use Rattle.plan.specs.Reader.{fault_number, bit_at, bits_at, marks_at, give, ◌>>=◌, hold, field, marks, tested, each}
use Rattle.plan.specs.Sheet.{count_from, one_of, version, register, marked, value, look_up, used, first_unused, all_used, to_full_byte, ending, sheet, read_sheet}
use Rattle.plan.specs.Zero.{times, never_zero, matches, matching}
use Rattle.plan.specs.RowData.{part_at, parts_from, parts, part_rows, no_register_lem, never_zero_on, goal_of, request_of}
use Rattle.plan.specs.Route.{lookups, is_open, total_from, dearest_from, cheaper, cheapest, choice, chain_from}
use Rattle.plan.specs.Grow.{must_give, known, gives, usable, agrees, extended, all_extended, join, listed, combinations, calls, is_sent, sent_of, sent, charge_of, picks_from, picks, chain}
use Rattle.plan.specs.Answer.{answered_from, list_after, step_in, steps_from, first_over, never_answerable, within_limit, outcome_by, is_priced, found_said, found_read, found_priced, found, no_step, answered_by, refusal, whole_of, whole_at, full, whole, checked_of, route_check, countable, telling, count_of}
use Rattle.plan.specs.Write.{marks_of, marks_number, item, count_item, name_item, variables_item, header_items, register_items, value_item, given_marks, given_items, look_up_items, unused_items, all_items, sheet_items, behind, written, octets, packed, write_sheet, stored_in}
use Rattle.plan.specs.Tokens.{is_letter, is_digit, is_mark, run, decimal, value_of, cut, cut_number, cut_of, cut_at, cuts_from, cuts, is_name, place_of, all_different, before, pieces, are_names}
use Rattle.plan.specs.Typed.{no_mark, one_mark, two_marks, a_name, a_mark, turn, follows, is_nowhere, nothing_said, role, names_for, which_name, with_name, noted_name, noted_value, noted_look_up, noted, is_nought, is_other, is_unknown_name, is_unknown, is_miscounted, is_name_over, is_over, is_again_name, is_again, first_fit, fits_of, beginning, sheet_typed, fits_at, stepped, walk, typed_on, read_typed, of_line, part_place, part_length, whole_asked, whole_typed, check_asked, check_typed}
use Rattle.plan.specs.Cases.{lent, at_four, ask, ask_at, count_back, count_says, holds, step_at, step, answer_at, answer_with, says, says_at, refuses, route, request_rows, request_read, request_in, cost_of, row, depot_sheet, depot_rest, depot_data, depot_twice, depot_rows, depot_says, a_then_b, one_and_none, b_then_a, repeated, chain_sheet, open_sheet, open_without_r, one_value_twice, later_calls, never_t, lowest_usable, every_pair, refused, depot, depot_from, four_registers, depot_found, open_with_x, unused_one, two_columns, every_pair_never, shared_register, twice_in_register, shortest, shortest_found, longest, longest_found, full_register, most_data, most_columns, part, lent_bytes, write_in, wrote, wrote_none, register_bf, depot_states, asks, depot_asks, depot_with, depot_registers, depot_variables, depot_values, depot_look_ups, five_columns, five_columns_found, ascii, depot_names, depot_line, part_back, type_to, type, answer_to, check_to, requests, fault_at, fault_alone, twelve_then, r_then_s, r_then_sRows, a_then_bThen_s, cases_p, cases_beside, cases}

-- each case gives what the rules expect
pub cases-hold : map (λ (c : Case). c.asked) cases ≡ map (λ (c : Case). c.expected) cases
unfolding every those padded has different_after different numbers bits_where eq_row lt_row insert ordered no_goal goal_at reads writes bit_at bits_at fault_number marks_at give ◌>>=◌ hold field marks tested each count_from one_of version register marked value look_up used first_unused all_used to_full_byte ending sheet read_sheet rows_by flat holding part_at parts_from parts part_rows no_register_lem times never_zero matches matching never_zero_on goal_of request_of lookups is_open total_from dearest_from cheaper cheapest choice chain_from must_give known gives usable agrees extended all_extended join listed combinations calls is_sent sent_of sent charge_of picks_from picks chain answered_from list_after step_in steps_from first_over never_answerable within_limit outcome_by is_priced found_said found_read found_priced found no_step answered_by refusal whole_of whole_at full whole checked_of route_check countable telling count_of lent at_four ask ask_at count_back count_says holds step_at step answer_at answer_with says says_at refuses route request_rows request_read request_in cost_of row depot_sheet depot_rest depot_data depot_twice depot_rows depot_says a_then_b one_and_none b_then_a repeated chain_sheet open_sheet open_without_r one_value_twice later_calls never_t lowest_usable every_pair refused depot depot_from four_registers depot_found open_with_x unused_one two_columns every_pair_never shared_register twice_in_register shortest shortest_found longest longest_found full_register most_data most_columns part marks_of marks_number item count_item name_item variables_item header_items register_items value_item given_marks given_items look_up_items unused_items all_items sheet_items behind written octets packed write_sheet stored_in lent_bytes write_in wrote wrote_none register_bf depot_states asks depot_asks depot_with depot_registers depot_variables depot_values depot_look_ups five_columns five_columns_found is_letter is_digit is_mark run decimal value_of cut cut_number cut_of cut_at cuts_from cuts is_name place_of all_different before pieces are_names no_mark one_mark two_marks a_name a_mark turn follows is_nowhere nothing_said role names_for which_name with_name noted_name noted_value noted_look_up noted is_nought is_other is_unknown_name is_unknown is_miscounted is_name_over is_over is_again_name is_again first_fit fits_of beginning sheet_typed fits_at stepped walk typed_on read_typed of_line part_place part_length whole_asked whole_typed check_asked check_typed ascii depot_names depot_line part_back type_to type answer_to check_to requests fault_at fault_alone twelve_then r_then_s r_then_sRows a_then_bThen_s cases_p cases_beside cases
cases-hold = refl
