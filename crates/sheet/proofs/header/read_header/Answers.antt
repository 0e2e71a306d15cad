-- `sheet::header::read_header` meets its contract: the version, then the counts.
use Rattle.sheet.specs.Stages.{header}
use Rattle.sheet.specs.Parts.{counts_of}
use Rattle.sheet.proofs.ReadsLaws.{handed, come_none, come_number, come_stop, come_last}
use Rattle.sheet.proofs.header.read_header.Goals as goal

pub returns-in_err-version : goal.returns-in_err-version
unfolding header
returns-in_err-version c =
    handed _ _ _ _ _ _ c.from_residual.ensures.1 (come_stop _ _ (come_none header c.args.reader.now) c.in_err-version.ensures)

pub returns : goal.returns
unfolding header
returns c =
    come_last counts_of (come_number _ _ (come_none header c.args.reader.now) c.in_ok-version.ensures) _ _ c.read_counts.ensures
