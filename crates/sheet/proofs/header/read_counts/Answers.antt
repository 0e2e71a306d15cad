-- `sheet::header::read_counts` meets its contract: three readings, one behind the other.
use mathlib.Core.Path.{refl}
use Rattle.sheet.specs.Stages.{counts}
use Rattle.sheet.specs.Parts.{counts_of}
use Rattle.sheet.proofs.ReadsLaws.{handed, come_none, come_number, come_stop, come_give}
use Rattle.sheet.proofs.header.read_counts.Goals as goal

pub returns-in_err-registers : goal.returns-in_err-registers
unfolding counts
returns-in_err-registers c =
    handed _ _ _ _ _ _ c.from_residual.ensures.1 (come_stop _ _ (come_none counts c.args.reader.now) c.in_err-registers.ensures)

pub returns-in_err-variables : goal.returns-in_err-variables
unfolding counts
returns-in_err-variables c =
    handed _ _ _ _ _ _ c.from_residual-in_err-variables.ensures.1
    (come_stop _ _ (come_number _ _ (come_none counts c.args.reader.now) c.in_ok-registers.ensures) c.in_err-variables.ensures)

pub returns-in_err-lookups : goal.returns-in_err-lookups
unfolding counts
returns-in_err-lookups c =
    handed _ _ _ _ _ _ c.from_residual-in_err-lookups.ensures.1
    (come_stop _ _ (come_number _ _ (come_number _ _ (come_none counts c.args.reader.now) c.in_ok-registers.ensures) c.in_ok-variables.ensures)
    c.in_err-lookups.ensures)

pub returns : goal.returns
unfolding counts counts_of
returns c =
    come_give counts_of _
    (come_number _ _ (come_number _ _ (come_number _ _ (come_none counts c.args.reader.now) c.in_ok-registers.ensures) c.in_ok-variables.ensures)
    c.in_ok-lookups.ensures) refl
