-- `sheet::bits::Reader::tested` meets its contract: the field, then its test.
use mathlib.Core.Path.{refl, sym, ap}
use Rattle.plan.proofs.Readers.{tested_go, tested_fail}
use Rattle.sheet.proofs.Readers.{stops-tested}
use Rattle.sheet.proofs.ReadsLaws.{handed, goes-number}
use Rattle.sheet.proofs.bits.Reader.tested.Goals as goal

pub returns-in_err-n : goal.returns-in_err-n
returns-in_err-n _ c test fault says same =
    handed _ _ _ _ _ _ c.from_residual.ensures.1 (stops-tested _ test fault _ _ c.in_err-n.ensures)

pub returns-then-not-passes : goal.returns-then-not-passes
returns-then-not-passes _ c test fault says same =
    let a = c.args in
    record {
      fault = fault;
      detail = a.self.now.at;
      is = tested_fail a.width test fault a.self.now.sheet.now a.self.now.at _ _ (goes-number c.in_ok-n.ensures)
          (sym (says _ _ c.if-not-passes.ensures));
      shown = ap (λ r. record { refusal = r; detail = a.self.now.at }) same;
    }

pub returns : goal.returns
returns _ c test fault says same =
    let a = c.args in
    let g = c.in_ok-n.ensures in
    record {
      read = _;
      is = tested_go a.width test fault a.self.now.sheet.now a.self.now.at _ _ (goes-number g) (sym (says _ _ c.if-not-passes.ensures));
      shown = refl;
      sheet = g.sheet;
    }
