-- `write::bits::Writer::put_if` meets its contract: by its test.
use mathlib.Core.Path.{refl}
use native.Mathlib.Omega.{arith}
use Rattle.plan.proofs.Marks.{marks-long}
use Rattle.write.proofs.PutsLaws.{goes_sound, stops_broken}
use Rattle.write.proofs.bits.Writer.put_if.Goals as goal

pub returns-then-not-passes-clause-puts : goal.returns-then-not-passes-clause-puts
returns-then-not-passes-clause-puts c fault e =
    let a = c.args in
    rw c.if-not-passes.true (stops_broken fault a.self.now.at _ e refl)

pub returns-clause-puts : goal.returns-clause-puts
returns-clause-puts c fault e =
    let a = c.args in
    let p = c.put_bits.ensures in
    rw c.if-not-passes.false (goes_sound _ a.self.now c.put_bits.new.self (omega (arith, p.0, marks-long a.width a.value)) p.1)
