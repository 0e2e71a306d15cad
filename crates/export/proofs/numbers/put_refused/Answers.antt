-- `export::numbers::put_refused` meets its contract: two numbers are put, and behind them zeros.
use Rattle.std.proofs.Common.{rules, arith, ◌≡◌, ℕ, ◌-◌, replicate}
use Rattle.std.proofs.lemmas.List.{length-replicate}
use Rattle.lay.proofs.PutLaws.{put_copied, put_then}
use Rattle.export.specs.Exported.{refused_numbers}
use Rattle.export.proofs.numbers.put_refused.Goals as goal

pub returns-clause-out_after : goal.returns-clause-out_after
unfolding refused_numbers
returns-clause-out_after c =
    let a = c.args in
    let next = c.put-next in
    let more = a.places - 2 in
    let zeros : c.fill.new.self ≡ replicate more 0 = search rules in
    let two = rw c.from-number.ensures at next.ensures in
    let rest = put_copied next.new.out next.result a.places (replicate more 0) c.fill.new.self zeros
    (omega (arith, next.ensures.ends, length-replicate {A = ℕ} more 0)) in
    (put_then (omega arith) two rest).holds
