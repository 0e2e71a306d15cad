-- `sheet::closing::check_ending` meets its contract: the two tests of the definition; the place is at a full byte, so
-- it is the sheet's end exactly when the byte's number is the length.
use mathlib.Core.Path.{refl, sym, ◌∙◌}
use Prim.Native.Nat.{◌+◌}
use native.Mathlib.Omega.{arith}
use Rattle.plan.specs.Reader.{bad_padding}
use Rattle.plan.specs.Sheet.{to_full_byte}
use Rattle.plan.proofs.First.{ending-bits, ending-long, ending_go}
use Rattle.sheet.proofs.closing.check_ending.Goals as goal

pub returns-then-bits-ne0 : goal.returns-then-bits-ne0
unfolding to_full_byte
returns-then-bits-ne0 c =
    let a = c.args.reader.now in
    record {
      fault = bad_padding;
      detail = a.at;
      is = ending-bits a.sheet.now a.at (λ z. c.if-bits-ne0.true (c.bits.ensures ∙ z));
      shown = refl;
    }

pub returns-then-at-width : goal.returns-then-at-width
unfolding to_full_byte
returns-then-at-width c =
    let a = c.args.reader.now in
    record {
      fault = bad_padding;
      detail = a.at + to_full_byte a.at;
      is = ending-long a.sheet.now a.at (sym c.bits.ensures ∙ c.if-bits-ne0.false) (λ e. omega arith);
      shown = refl;
    }

pub returns : goal.returns
unfolding to_full_byte
returns c =
    let a = c.args.reader.now in
    record {
      read = tt;
      is = ending_go a.sheet.now a.at (sym c.bits.ensures ∙ c.if-bits-ne0.false) (omega arith);
      shown = refl;
      sheet = refl;
    }
