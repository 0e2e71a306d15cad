use mathlib.Core.Path.{ap}
use mathlib.Core.List.{List}
use Prim.Native.Nat.{◌<◌}
use borrow.Author.Rules.{rules}
use native.Mathlib.Omega.{arith}
use lib.ListN.{length}
use Rattle.plan.specs.Lists.{padded}
use Rattle.plan.specs.Sheet.{used}
use Rattle.plan.proofs.Sets.{set-nil}
use Rattle.plan.proofs.Padded.{stored_more}
use Rattle.sheet.specs.Fields.{look_up_of, empty_look_up}
use Rattle.sheet.specs.Stages.{look_up_by}
use Rattle.sheet.specs.Parts.{widths, look_up_using, look_ups_using}
use Rattle.sheet.specs.declared.LookUp.{LookUp}
use Rattle.sheet.specs.declared.lookups.Using.{Using}
use Rattle.sheet.proofs.ReadsLaws.{handed}
use Rattle.sheet.proofs.Stages.{look_up-plain}
use Rattle.sheet.proofs.Used.{used-put}
use Rattle.sheet.proofs.Arrays.{reading_none, reading-more, reading-stops, reading-all}
use Rattle.sheet.proofs.lookups.read_look_ups.Goals as goal

pub loop-i-init : goal.loop-i-init
unfolding padded look_ups_using used
loop-i-init c =
    let r = c.args.ranges.now in (
      search rules,
      reading_none (look_up_by (length r.registers.now) (widths r.registers.now) r.variables) c.args.reader.now _
          (rw (c.empty_look_up-read.ensures, set-nil)),
    )

pub returns-in_err-one : goal.returns-in_err-one
returns-in_err-one c =
    let a = c.args in
    let l = c.loop-i in
    handed _ _ _ _ _ _ c.from_residual.ensures.1
    (reading-stops _ a.reader.now l.i a.count l.reader _ (search rules) l.invariant.1 c.in_err-one.ensures)

pub loop-i-preserved : goal.loop-i-preserved
unfolding look_up_using look_ups_using
loop-i-preserved c =
    let a = c.args in
    let l = c.loop-i in
    let g = c.in_ok-one.ensures in
    let w = ((look_up-plain _ _ _ c.args.ranges.now.columns_few).sees.passes l.reader.sheet.now l.reader.at g.read _ g.is).far in
    let room : l.i < 12 = omega arith in (
      omega (arith, w),
      reading-more _ a.reader.now look_up_using l.i l.reader _ _ _ _ l.invariant.1 g
          (λ ls n s.
          let array = stored_more 12 empty_look_up look_up_of l.read ls l.i g.read _ n room
          (ap (λ (u : Using LookUp). u.read) g.shown) (ap (λ (u : Using (List LookUp)). u.read) s) in
          let set = used-put ls g.read l.used _ (ap (λ (u : Using (List LookUp)). u.used) s)
          (ap (λ (u : Using LookUp). u.used) g.shown) in
          λ t. record { read = array t; used = set t }),
    )

pub returns : goal.returns
returns c =
    let a = c.args in
    let l = c.loop-i in
    reading-all _ a.reader.now look_ups_using l.i a.count l.reader _ (omega arith) l.invariant.1
