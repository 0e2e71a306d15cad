use mathlib.Core.Path.{◌≡◌, sym, ap, ◌∙◌}
use native.Mathlib.Omega.{arith}
use Rattle.plan.specs.Request.{row_words}
use Rattle.plan.proofs.Sets.{bit_on, bit_off}
use Rattle.stand.proofs.RowsLaws.{blank_from, blank_all, blank_end, blank_known, blank_zero, blank_not}
use Rattle.stand.proofs.is_blank.Goals as goal
use Rattle.stand.proofs.is_blank.Goals.{else-word-ne0-via-then-word-ne0+else-known-v-eq0, else-word-ne0-via-else-word-ne0}

pub loop-v-init : goal.loop-v-init
loop-v-init c = blank_all c.args.known c.args.row.now

-- a word at a variable that is not known
pub returns-then-known-v-eq0 : goal.returns-then-known-v-eq0
returns-then-known-v-eq0 c =
    let a = c.args in
    let v = c.loop-v.v in
    sym (c.loop-v.invariant
    ∙ blank_not a.known a.row.now v (omega arith) c.if-word-ne0.true (bit_off a.known v c.if-known-v-eq0.true))

pub loop-v-preserved : goal.loop-v-preserved
loop-v-preserved c =
    let a = c.args in
    let v = c.loop-v.v in
    c.loop-v.invariant
    ∙ elim c.else-word-ne0.branch [
      | else-word-ne0-via-then-word-ne0+else-known-v-eq0 w ↦ blank_known a.known a.row.now v (omega arith) (bit_on a.known v w.if-known-v-eq0.false)
      | else-word-ne0-via-else-word-ne0 w ↦ blank_zero a.known a.row.now v (omega arith) w.if-word-ne0.false
    ]

pub returns : goal.returns
returns c =
    let a = c.args in
    let end : c.loop-v.v ≡ row_words = omega arith in
    sym (c.loop-v.invariant ∙ ap (blank_from a.known a.row.now) end ∙ blank_end a.known a.row.now)
