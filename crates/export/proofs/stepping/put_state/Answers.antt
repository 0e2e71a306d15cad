-- `export::stepping::put_state` meets its contract: the bytes of the sheet are put, and behind them the other nine.
use Rattle.std.proofs.Common.{rules, refl, ◌≡◌, ◌/◌, ◌%◌, [], ◌∷◌, arith}
use Rattle.lay.proofs.PutLaws.{put_then, put_as}
use Rattle.export.specs.Stepping.{chosen_number, rest_numbers, state_numbers}
use Rattle.export.proofs.SteppingLaws.{chosen_byte}
use Rattle.export.proofs.stepping.put_state.Goals as goal

pub returns : goal.returns
unfolding state_numbers rest_numbers
returns c =
    let st = c.args.state.now in
    let answered : c.to_be_bytes-answered.result ≡ st.answered / 256 ∷ st.answered % 256 ∷ [] = search rules in
    let rows : c.to_be_bytes-rows.result ≡ st.rows / 256 ∷ st.rows % 256 ∷ [] = search rules in
    let chosen : c.from.result ≡ chosen_number st.chosen = search (rules, chosen_byte) in
    let rest = put_as (rest_numbers st) (rw (answered, rows, chosen) refl) c.put.ensures in
    (put_then (omega arith) c.put-next.ensures rest).holds
