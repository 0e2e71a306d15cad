use mathlib.Core.Path.{◌∙◌, ap}
use mathlib.Core.List.{List}
use Prim.Native.Nat.{ℕ, ◌<◌}
use borrow.Author.Rules.{rules}
use native.Mathlib.Omega.{arith}
use lib.ListN.{set}
use Rattle.plan.specs.Lists.{padded}
use Rattle.plan.specs.Sheet.{one_of}
use Rattle.plan.proofs.Sets.{set-nil, set-put}
use Rattle.plan.proofs.Padded.{padded-more}
use Rattle.sheet.specs.Parts.{vars_using}
use Rattle.sheet.specs.declared.lookups.Using.{Using}
use Rattle.sheet.proofs.ReadsLaws.{handed}
use Rattle.sheet.proofs.Stages.{one_ok}
use Rattle.sheet.proofs.Arrays.{reading_none, reading-more, reading-stops, reading-all}
use Rattle.sheet.proofs.lookups.read_vars.Goals as goal

pub loop-i-init : goal.loop-i-init
unfolding padded vars_using
loop-i-init c = (search rules, reading_none (one_of c.args.variables) c.args.reader.now _ (rw set-nil))

pub returns-in_err-one : goal.returns-in_err-one
returns-in_err-one c =
    let a = c.args in
    let l = c.loop-i in
    handed _ _ _ _ _ _ c.from_residual.ensures.1
    (reading-stops (one_of a.variables) a.reader.now l.i a.columns l.reader _ (search rules) l.invariant.1 c.in_err-one.ensures)

pub loop-i-preserved : goal.loop-i-preserved
unfolding vars_using
loop-i-preserved c =
    let a = c.args in
    let l = c.loop-i in
    let g = c.in_ok-one.ensures in
    let one = one_ok _ _ _ _ g in
    let room : l.i < 6 = omega arith in
    let low : g.read < 16 = omega (arith, one.0, g.shown) in (
      omega (arith, one.1),
      reading-more (one_of a.variables) a.reader.now (λ n. n) l.i l.reader _ _ _ _ l.invariant.1 g
          (λ vs n s.
          let vars = ap (λ (u : Using (List ℕ)). u.read) s in
          let used = ap (λ (u : Using (List ℕ)). u.used) s in
          let array = ap (λ t. set t l.i g.read) vars ∙ padded-more 6 0 vs l.i g.read n room in
          let marks = set-put vs g.read l.used low used in
          rw g.shown (λ t. record { read = array t; used = marks t })),
    )

pub returns : goal.returns
returns c =
    let a = c.args in
    let l = c.loop-i in
    reading-all (one_of a.variables) a.reader.now vars_using l.i a.columns l.reader _ (omega arith) l.invariant.1
