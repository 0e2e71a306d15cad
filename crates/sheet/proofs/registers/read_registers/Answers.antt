-- `sheet::registers::read_registers` meets its contract: each is a register.
use native.Mathlib.Omega.{arith}
use Rattle.plan.specs.Lists.{padded}
use Rattle.plan.specs.Sheet.{register}
use Rattle.plan.proofs.First.{register-plain}
use Rattle.sheet.specs.Fields.{register_of, empty_register}
use Rattle.sheet.specs.Parts.{registers_of}
use Rattle.sheet.proofs.ReadsLaws.{showing, showing-reads, each-reads, reads-far}
use Rattle.sheet.proofs.registers.read_registers.Goals as goal

pub read_each-requires : goal.read_each-requires
read_each-requires c = (
  omega arith,
  (
    (
      55,
      omega (arith, c.requires.0, c.requires.1),
      λ p far. far,
      λ p x q h. reads-far register_of register 55 _ register-plain p.now x q.now h,
    ),
    c.requires.1,
  ),
)

pub returns : goal.returns
unfolding registers_of
returns c =
    each-reads register_of register (padded 12 empty_register) c.args.count _ _ _
    (rw c.empty_register.ensures at
    (c.read_each.ensures (showing register_of register) (λ p x q h. showing-reads register_of register p.now x q.now h)))
