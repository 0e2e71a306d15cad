use mathlib.Core.Path.{◌≡◌}
use borrow.Author.Rules.{rules}
use native.Mathlib.Omega.{arith}
use Prim.Native.Nat.{◌+◌, ◌^◌, ◌<◌}
use Rattle.sheet.specs.Stages.{given_at, given}
use Rattle.sheet.proofs.ReadsLaws.{handed, goes-hold, marks-stop, come_none, come_stop, come_marks, come_goes, come_fault}
use Rattle.sheet.proofs.Stages.{value_ok}
use Rattle.sheet.proofs.Marked.{valued_none, valued_skip, valued_more, valued_stops, valued_read}
use Rattle.sheet.proofs.given.read_given.Goals as goal
use Rattle.sheet.proofs.given.read_given.Goals.{then-bit-eq1+in_ok-start, else-bit-eq1}

pub returns-in_err-marks : goal.returns-in_err-marks
unfolding given
returns-in_err-marks c =
    let a = c.args in
    handed _ _ _ _ _ _ c.from_residual.ensures.1
    (come_stop _ _ (come_none (given a.variables) a.reader.now) (marks-stop a.variables _ _ c.in_err-marks.ensures))

pub loop-v-init : goal.loop-v-init
loop-v-init c = (search rules, valued_none c.hold.new.self c.in_ok-marks.marks)

pub overflow_add-marks : goal.overflow_add-marks
overflow_add-marks c =
    let l = c.loop-v in
    let h = goes-hold c.args.variables c.in_ok-marks.ensures in
    let low : c.in_ok-marks.marks + l.v < 2 ^ 64 = omega (arith, h.place_lem) in
    search rules

pub bit-requires : goal.bit-requires
bit-requires c =
    let l = c.loop-v in
    let g = c.in_ok-marks.ensures in
    let h = goes-hold c.args.variables g in
    rw (l.invariant.1.reading.sheet, g.sheet, h.place_lem) (omega (arith, h.room))

pub read_value-requires : goal.read_value-requires
read_value-requires c =
    let l = c.loop-v in
    let h = goes-hold c.args.variables c.in_ok-marks.ensures in
    omega (arith, l.invariant.0, h.next)

pub returns-in_err-start : goal.returns-in_err-start
unfolding given
returns-in_err-start c =
    let a = c.args in
    let l = c.loop-v in
    let g = c.in_ok-marks.ensures in
    let marked = rw (c.bit.ensures, l.invariant.1.reading.sheet) at c.if-bit-eq1.true in
    handed _ _ _ _ _ _ c.from_residual-in_err-start.ensures.1
    (come_fault (come_marks a.variables given_at g)
    (valued_stops _ _ l.v l.given l.reader l.start l.invariant.1 a.variables marked (search rules) c.in_err-start.ensures))

pub loop-v-preserved : goal.loop-v-preserved
loop-v-preserved c =
    let l = c.loop-v in
    elim c.if-bit-eq1.branch [
      | then-bit-eq1+in_ok-start w ↦
          rw (w.given-is, w.start-is, w.reader-is) (
            omega (arith, (value_ok _ _ _ w.in_ok-start.ensures).1, l.invariant.0),
            valued_more _ _ l.v l.given l.reader l.start l.invariant.1 _ _
                (rw (c.bit.ensures, l.invariant.1.reading.sheet) at w.if-bit-eq1.true) (search rules) w.in_ok-start.ensures,
          )
      | else-bit-eq1 w ↦
          rw (w.given-is, w.start-is, w.reader-is) (
            omega (arith, l.invariant.0),
            valued_skip _ _ l.v l.given l.reader l.start l.invariant.1
                (λ b. w.if-bit-eq1.false (rw (c.bit.ensures, l.invariant.1.reading.sheet) b)),
          )
    ]

pub returns : goal.returns
unfolding given
returns c =
    let a = c.args in
    let l = c.loop-v in
    let e : l.v ≡ a.variables = omega arith in
    come_goes (come_marks a.variables given_at c.in_ok-marks.ensures)
    (valued_read _ _ a.variables l.given l.reader l.start (rw e at l.invariant.1))
