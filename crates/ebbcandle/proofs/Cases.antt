-- What is printed for the depot case, by computing.
use mathlib.Core.Path.{refl}
use Rattle.plan.specs.Lists.{every, those, padded, has, different_after, different, numbers, bits_where, eq_row, lt_row, insert, ordered}
use Rattle.plan.specs.Request.{no_goal, goal_at, reads, writes, rows_by, flat, holding}
use Rattle.plan.specs.Reader.{fault_number, bit_at, bits_at, marks_at, give, ◌>>=◌, hold, field, marks, tested, each}
use Rattle.plan.specs.Sheet.{count_from, one_of, version, register, marked, value, look_up, used, first_unused, all_used, to_full_byte, ending, sheet, read_sheet}
use Rattle.plan.specs.Zero.{times, never_zero, matches, matching}
use Rattle.plan.specs.RowData.{part_at, parts_from, parts, part_rows, no_register_lem, never_zero_on, goal_of, request_of}
use Rattle.plan.specs.Route.{lookups, is_open, total_from, cheaper, cheapest, choice, chain_from}
use Rattle.plan.specs.Grow.{must_give, known, gives, usable, agrees, extended, all_extended, join, listed, combinations, calls, is_sent, sent_of, sent, charge_of, picks_from, picks, chain}
use Rattle.plan.specs.Answer.{answered_from, list_after, step_in, steps_from, first_over, never_answerable, within_limit, outcome_by}
use Rattle.plan.specs.Answer.{found_said, no_step, answered_by, refusal, whole_of, full}
use Rattle.plan.specs.Cases.{depot_sheet, depot, depot_rest, depot_data}
use Rattle.lay.specs.Put.{joined}
use Rattle.ebbcandle.specs.Words.{word_of, words_of}
use Rattle.ebbcandle.specs.Lines.{digits, decimal, named, spaced, step_line, step_lines, calls_line, row_line, refused_line, printed}
use Rattle.ebbcandle.specs.Files.{found_files, variables_of, printed_files}
use Rattle.ebbcandle.specs.Cases.{line, bytes_of, depot_text, CasesPrinted}

-- each case prints what the rules expect
pub cases-printed : CasesPrinted
unfolding every those padded has different_after different numbers bits_where eq_row lt_row insert ordered no_goal goal_at reads writes fault_number bit_at bits_at marks_at give ◌>>=◌ hold field marks tested each count_from one_of version register marked value look_up used first_unused all_used to_full_byte ending sheet read_sheet rows_by flat holding part_at parts_from parts part_rows no_register_lem times never_zero matches matching never_zero_on goal_of request_of lookups is_open total_from cheaper cheapest choice chain_from must_give known gives usable agrees extended all_extended join listed combinations calls is_sent sent_of sent charge_of picks_from picks chain answered_from list_after step_in steps_from first_over never_answerable within_limit outcome_by found_said no_step answered_by refusal whole_of full depot_sheet depot depot_rest depot_data joined word_of words_of digits decimal named spaced step_line step_lines calls_line row_line refused_line printed found_files variables_of printed_files line bytes_of depot_text
cases-printed = record { answered = refl; refused = refl }
