-- `tokens::part_of` meets its contract: the three tests are those of the definition, and each that fails gives the empty part.
use Rattle.std.proofs.Common.{rules}
use Rattle.std.proofs.lemmas.Bool.Decides.{nat_tests}
use mathlib.Core.Logic.{◌⊎◌, ⊎_elim}
use Prim.Native.Nat.{◌≤◌, ◌<◌}
use native.Mathlib.Omega.{arith}
use Rattle.plan.specs.Tokens.{is_letter}
use Rattle.lines.proofs.Cuts.{Nothing, part_low, part-high, part_far, part-told}
use Rattle.tokens.proofs.TokenLaws.{run_from}
use Rattle.tokens.proofs.part_of.Goals as goal
use Rattle.tokens.proofs.part_of.Goals.{then-not-contains-via-then-not-contains, then-not-contains-via-else-not-contains+then-line-detail}

pub returns-then-not-contains : goal.returns-then-not-contains
returns-then-not-contains c =
    let a = c.args in
    let nothing : Nothing a.number a.detail a.line.now =
    elim c.then-not-contains.branch [
      | then-not-contains-via-then-not-contains w ↦
          let off = w.if-not-contains.true in
          let out : (a.number < 20) ⊎ (25 < a.number) = grind (arith, nat_tests) in
          ⊎_elim (part_low a.number a.detail a.line.now) (part-high a.number a.detail a.line.now) out
      | then-not-contains-via-else-not-contains+then-line-detail w ↦ part_far a.number a.detail a.line.now w.if-line-detail.true
    ] in
    rw (nothing.0, nothing.1)

pub returns : goal.returns
returns c =
    let a = c.args in
    let low : 20 ≤ a.number = search rules in
    let high : a.number ≤ 25 = grind (arith, nat_tests) in
    let (place, bytes) = part-told a.number a.detail a.line.now low high c.if-line-detail.false in
    rw (place, bytes, run_from is_letter a.line.now a.detail c.letters_of.result c.letters_of.ensures)
