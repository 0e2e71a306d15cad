-- `sheet::registers::read_register` meets its contract: three readings, one behind the other.
use Rattle.plan.specs.Reader.{marks}
use Rattle.plan.specs.Sheet.{register}
use Rattle.sheet.specs.Fields.{register_of}
use Rattle.sheet.specs.Parts.{rules_of}
use Rattle.sheet.proofs.ReadsLaws.{handed, come_none, come_number, come_on, come_stop, come_give}
use Rattle.sheet.proofs.Arrays.{each-length}
use Rattle.sheet.proofs.registers.read_register.Goals as goal

pub returns-in_err-columns : goal.returns-in_err-columns
unfolding register
returns-in_err-columns c =
    handed _ _ _ _ _ _ c.from_residual.ensures.1 (come_stop _ _ (come_none register c.args.reader.now) c.in_err-columns.ensures)

pub returns-in_err-rules : goal.returns-in_err-rules
unfolding register
returns-in_err-rules c =
    handed _ _ _ _ _ _ c.from_residual-in_err-rules.ensures.1
    (come_stop _ _ (come_number _ _ (come_none register c.args.reader.now) c.in_ok-columns.ensures) c.in_err-rules.ensures)

pub returns-in_err-rule : goal.returns-in_err-rule
unfolding register
returns-in_err-rule c =
    handed _ _ _ _ _ _ c.from_residual-in_err-rule.ensures.1
    (come_stop _ _ (come_number _ _ (come_number _ _ (come_none register c.args.reader.now) c.in_ok-columns.ensures) c.in_ok-rules.ensures)
    c.in_err-rule.ensures)

pub returns : goal.returns
unfolding register register_of rules_of
returns c =
    let g = c.in_ok-rule.ensures in
    let long = each-length (marks _) _ _ _ _ _ g.is in
    come_give register_of _
    (come_on _ _ (come_number _ _ (come_number _ _ (come_none register c.args.reader.now) c.in_ok-columns.ensures) c.in_ok-rules.ensures) g)
    (rw (g.shown, long))
