-- `tokens::faulty_name` meets its contract: the part lies in the line, and is the slice from its place on.
use mathlib.Core.Path.{◌≡◌, refl, ap}
use Prim.Native.Nat.{◌+◌, ◌-◌, ◌≤◌}
use native.Mathlib.Omega.{arith}
use lib.ListN.{length}
use Rattle.lines.proofs.Cuts.{part-inside}
use Rattle.tokens.proofs.faulty_name.Goals as goal
use Rattle.tokens.proofs.faulty_name.Goals.{After-part_of-part}

-- the part lies in the line
inside : (c : After-part_of-part)
    → c.part_of-part.result.at + c.part_of-part.result.length ≤ length c.args.line.now
inside c =
    let a = c.args in
    rw c.part_of-part.ensures (part-inside a.number a.detail a.line.now)

pub overflow_add-result : goal.overflow_add-result
overflow_add-result c = omega (arith, inside (goal.at.overflow_add-result c).After-part_of-part)

pub slice_bounds-result-end : goal.slice_bounds-result-end
slice_bounds-result-end c = omega (arith, inside (goal.at.slice_bounds-result-end c).After-part_of-part)

pub returns : goal.returns
returns c =
    let a = c.args in
    let p = c.part_of-part.result in
    let at = ap (λ q. q.at) c.part_of-part.ensures in
    let bytes = ap (λ q. q.length) c.part_of-part.ensures in
    record {
      shows =
          (let e : p.at + p.length - p.at ≡ p.length = omega arith in rw (e, at, bytes));
      block = refl;
      offset = omega arith;
    }
