-- `sheet::closing::check_closing` meets its contract: the first check, then the second.
use mathlib.Core.Path.{refl}
use Rattle.plan.specs.Lists.{vars_in}
use Rattle.plan.specs.Sheet.{all_used}
use Rattle.sheet.specs.Stages.{closing}
use Rattle.plan.proofs.Readers.{bind_go}
use Rattle.sheet.proofs.Readers.{stops, read_as-ok, stops_first}
use Rattle.sheet.proofs.ReadsLaws.{handed, come_last}
use Rattle.sheet.proofs.Used.{all-used-place}
use Rattle.sheet.proofs.closing.check_closing.Goals as goal

pub returns-in_err-all_used : goal.returns-in_err-all_used
unfolding closing all_used
returns-in_err-all_used c =
    let a = c.args in
    handed _ _ _ _ _ _ c.from_residual.ensures.1
    (stops_first (all_used (vars_in a.used) a.variables) _ a.reader.now.sheet.now a.reader.now.at
    (stops _ _ _ c.in_err-all_used.ensures))

pub returns : goal.returns
unfolding closing all_used
returns c =
    let a = c.args in
    let r = a.reader.now in
    let g = read_as-ok _ (all_used (vars_in a.used) a.variables r.sheet.now r.at) _ c.in_ok-all_used.ensures in
    come_last (λ x. x)
    (record {
      is = bind_go (all_used (vars_in a.used) a.variables) _ r.sheet.now r.at _ _
          (all-used-place (vars_in a.used) a.variables r.sheet.now r.at g.0 g.1 g.2);
      sheet = refl;
    })
    _ _ c.check_ending.ensures
