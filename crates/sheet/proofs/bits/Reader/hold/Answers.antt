-- `sheet::bits::Reader::hold` meets its contract: the sheet has the bits exactly when it has the byte of the last.
use mathlib.Core.Path.{refl}
use native.Mathlib.Omega.{arith}
use Rattle.plan.specs.Reader.{ends_early}
use Rattle.plan.proofs.Readers.{hold_go, hold_stop}
use Rattle.sheet.proofs.bits.Reader.hold.Goals as goal

pub returns-then-place-width : goal.returns-then-place-width
returns-then-place-width c =
    let a = c.args in
    record {
      fault = ends_early;
      detail = a.self.now.at;
      is = hold_stop a.width (λ bytes at. at) a.self.now.sheet.now a.self.now.at (omega arith);
      shown = refl;
    }

pub returns : goal.returns
returns c =
    let a = c.args in
    record {
      read = a.self.now.at;
      is = hold_go a.width (λ bytes at. at) a.self.now.sheet.now a.self.now.at (omega arith);
      shown = refl;
      sheet = refl;
    }
