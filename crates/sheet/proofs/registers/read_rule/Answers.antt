-- `sheet::registers::read_rule` meets its contract: a rule's number is that of its bits.
use Prim.Native.Nat.{◌<◌, ◌^◌}
use borrow.Author.Rules.{rules}
use native.Mathlib.Omega.{arith}
use native.Mathlib.Nat.{lt_of_lt_of_le}
use lib.Pow.{pow_mono}
use Rattle.std.specs.Prelude.{Ok, Err}
use Rattle.sheet.proofs.Stages.{field_ok}
use Rattle.sheet.proofs.ReadsLaws.{handed, rule-reads}
use Rattle.sheet.proofs.registers.read_rule.Goals as goal

pub overflow_cast-result : goal.overflow_cast-result
overflow_cast-result c =
    let g = field_ok c.args.columns _ _ _ c.in_ok-bits.ensures in
    let low : c.in_ok-bits.bits < 2 ^ 8 = omega (arith, lt_of_lt_of_le g.0 (pow_mono {i = c.args.columns} {j = 6} c.requires.1)) in
    search rules

pub returns-in_err-bits : goal.returns-in_err-bits
returns-in_err-bits c =
    handed _ _ _ _ _ _ c.from_residual.ensures.1 (rule-reads c.args.columns c.args.reader.now (Err _) c.field.new.self c.in_err-bits.ensures)

pub returns : goal.returns
returns c = rule-reads c.args.columns c.args.reader.now (Ok _) _ c.in_ok-bits.ensures
