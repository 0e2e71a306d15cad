-- `export::stepping::state_from` meets its contract: the sheet, and each number from its place.
use Rattle.std.proofs.Common.{rules, ◌≡◌, ℕ, length, ◌+◌, ◌-◌, ◌*◌, ◌<◌, not, get_or, length-take-le, arith, sym, take, drop, ◌∙◌, get_or-take, get_or-drop}
use lib.Dec.{eqb}
use Rattle.export.specs.Stepping.{state_in}
use Rattle.export.proofs.stepping.state_from.Goals as goal

pub slice_bounds-copy_from_slice-end-2 : goal.slice_bounds-copy_from_slice-end-2
slice_bounds-copy_from_slice-end-2 c = sym (length-take-le 193 c.args.bytes.now (omega arith))

pub copy_from_slice-requires : goal.copy_from_slice-requires
copy_from_slice-requires c = sym (length-take-le 193 c.args.bytes.now (omega arith))

pub returns : goal.returns
unfolding state_in
returns c =
    let b = c.args.bytes.now in
    let left = length b - 193 in
    let at : (k : ℕ) → k < 9 → get_or (take left (drop 193 b)) k 0 ≡ get_or b (193 + k) 0 =
    λ k h. get_or-take left (drop 193 b) k 0 (omega arith) ∙ get_or-drop 193 b k 0 in
    let sheet : c.copy_from_slice.new.self ≡ take 193 b = search rules in
    let answered : c.from_be_bytes.result ≡ get_or b 194 0 * 256 + get_or b 195 0 = search (rules, at 1 (omega arith), at 2 (omega arith)) in
    let rows : c.from_be_bytes-2.result ≡ get_or b 196 0 * 256 + get_or b 197 0 = search (rules, at 3 (omega arith), at 4 (omega arith)) in
    λ t.
    record {
      sheet = sheet t;
      bytes = at 0 (omega arith) t;
      answered = answered t;
      rows = rows t;
      chosen = not (eqb (at 5 (omega arith) t) 0);
      lookup = at 6 (omega arith) t;
      rule = at 7 (omega arith) t;
      over = at 8 (omega arith) t;
    }
