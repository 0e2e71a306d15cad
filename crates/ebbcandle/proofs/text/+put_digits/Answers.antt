-- `ebbcandle::text::put_digits` meets its contract: no digits, the last one alone, or the last one behind the others.
use mathlib.Core.Path.{sym}
use Prim.Native.Nat.{◌+◌, ◌%◌}
use native.Mathlib.Omega.{arith}
use Rattle.ebbcandle.specs.Lines.{digits}
use Rattle.lay.proofs.PutLaws.{put_none, put_one, put-more, put_as}
use Rattle.ebbcandle.proofs.LineLaws.{digits_none, digits_last, digits_more}
use Rattle.ebbcandle.proofs.text.+put_digits.Goals as goal

pub returns-then-most-eq0-clause-put : goal.returns-then-most-eq0-clause-put
returns-then-most-eq0-clause-put t c =
    let a = c.args in
    put_as (digits a.most a.n) (sym (digits_none a.most a.n c.if-most-eq0.true)) (put_none a.out.now a.at)

pub returns-then-n-lt10-clause-put : goal.returns-then-n-lt10-clause-put
returns-then-n-lt10-clause-put t c =
    let a = c.args in
    put_as
    (digits a.most a.n)
    (sym (digits_last a.most a.n (omega arith) (omega arith)))
    (put_one a.out.now a.at (48 + a.n) (omega arith))

pub returns-clause-put : goal.returns-clause-put
returns-clause-put t c =
    let a = c.args in
    put_as
    (digits a.most a.n)
    (sym (digits_more a.most a.n (omega arith) (omega arith)))
    (put-more (48 + a.n % 10) (omega arith) c.put_digits-next.ensures.put)
