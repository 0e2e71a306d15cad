-- `ebbcandle::read_file` meets its contract: a file that can't be opened is one whose read failed.
use Rattle.std.proofs.Common.{length}
use Rattle.ebbcandle.proofs.MoveLaws.{kept_read, kept_failed}
use Rattle.ebbcandle.proofs.read_file.Goals as goal

pub returns-in-Err-clause-kept : goal.returns-in-Err-clause-kept
returns-in-Err-clause-kept g c = kept_failed (length c.args.out.now) c.in-Err.e

pub returns-in-Err-last-clause-kept : goal.returns-in-Err-last-clause-kept
returns-in-Err-last-clause-kept g c = rw c.in-Err-last.is (kept_failed (length c.args.out.now) c.in-Err-last.e)

pub returns-clause-kept : goal.returns-clause-kept
returns-clause-kept g c =
    let r = c.read_start-r in
    let was = c.in_default.is in
    rw was (kept_read (length c.args.out.now) r.result.done c.in_default.field-0 (rw was at r.ensures.came))
