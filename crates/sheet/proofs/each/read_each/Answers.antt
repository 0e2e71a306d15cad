use mathlib.Core.Path.{◌≡◌, ◌∙◌, ap, ap₂}
use lib.ListN.{set, replicate}
use native.Mathlib.Omega.{arith}
use Prim.Native.Nat.{ℕ, zero, suc, ◌≤◌, ◌<◌, ◌+◌, ◌-◌, ◌*◌}
use Rattle.plan.specs.Lists.{padded}
use Rattle.plan.proofs.Padded.{padded-more}
use Rattle.sheet.specs.Bounds.{farthest}
use Rattle.sheet.proofs.Arrays.{reading_none, reading-more, reading-stops, reading-all}
use Rattle.sheet.proofs.ReadsLaws.{handed}
use Rattle.sheet.proofs.each.read_each.Goals as goal

-- one of those that are left is read
next : (at most left i count : ℕ) → left + i ≡ count → i < count → at + left * most ≤ farthest
    → (k : ℕ) × (k + (i + 1) ≡ count) × (at + most + k * most ≤ farthest)
next at most zero i count e h r = absurd (omega arith)
next at most (suc k) i count e h r = (k, omega arith, omega (arith, r))

pub loop-i-init : goal.loop-i-init
unfolding padded
loop-i-init g c =
    let r = c.requires.room in
    let whole : g.row.N ≡ g.row.N - 0 = omega arith in
    ((r.0, c.args.count, omega arith, r.1, r.2, r.3), λ f says. reading_none f c.args.reader.now _ (ap (λ n. replicate n c.args.filler) whole))

pub read-requires : goal.read-requires
read-requires g c =
    let l = c.loop-i in
    let i = l.invariant.0 in
    let n = next l.reader.at i.0 i.1 l.i c.args.count i.2 c.loop-i-test.true i.3 in
    i.4 _ (omega (arith, n.2))

pub returns-in_err-array : goal.returns-in_err-array
returns-in_err-array g c f says =
    let l = c.loop-i in
    handed _ _ _ _ _ _ c.from_residual.ensures.1
    (reading-stops f c.args.reader.now l.i c.args.count l.reader _ c.loop-i-test.true (l.invariant.1 f says)
    (says _ _ _ c.in_err-array.ensures))

pub loop-i-preserved : goal.loop-i-preserved
loop-i-preserved g c =
    let l = c.loop-i in
    let i = l.invariant.0 in
    let n = next l.reader.at i.0 i.1 l.i c.args.count i.2 c.loop-i-test.true i.3 in
    let far = i.5 _ _ _ c.in_ok-array.ensures in
    let room : l.i < g.row.N = omega (arith, c.requires.few, c.loop-i-test.true) in (
      (i.0, n.0, n.1, omega (arith, n.2, far), i.4, i.5),
      λ f says.
          let go = says _ _ _ c.in_ok-array.ensures in
          reading-more f c.args.reader.now (λ t. t) l.i l.reader _ _ _ _ (l.invariant.1 f says) go
          (λ xs long s. ap₂ (λ t v. set t l.i v) s go.shown ∙ padded-more _ _ xs l.i go.read long room),
    )

pub returns : goal.returns
returns g c f says =
    let l = c.loop-i in
    reading-all f c.args.reader.now (padded g.row.N c.args.filler) l.i c.args.count l.reader _ (omega arith) (l.invariant.1 f says)
