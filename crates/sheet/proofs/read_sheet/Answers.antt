-- `sheet::read_sheet` meets its contract: the counts, the registers, and what stands behind them.
use mathlib.Core.Path.{sym, ◌∙◌, ap}
use native.Mathlib.Omega.{arith}
use Rattle.std.specs.Prelude.{Ok}
use Rattle.plan.specs.Sheet.{register}
use Rattle.sheet.specs.Bounds.{most_register}
use Rattle.sheet.specs.declared.Fields.{Fields}
use Rattle.sheet.specs.Fields.{fields_of}
use Rattle.sheet.specs.Stages.{stages}
use Rattle.plan.proofs.Seen.{each-plain}
use Rattle.plan.proofs.First.{register-plain}
use Rattle.sheet.proofs.Readers.{exit, read_as-got}
use Rattle.sheet.proofs.Arrays.{each-length}
use Rattle.sheet.proofs.ReadsLaws.{come_none, come_on, come_back, come_stop, come_give}
use Rattle.sheet.proofs.Stages.{header-got}
use Rattle.sheet.proofs.Whole.{counts_back, counts-back, header_is, columns-low, front-length, front-widths, front-room, sheet-is, asked-length, fields-made}
use Rattle.sheet.proofs.read_sheet.Goals as goal

pub returns-in_err-counts : goal.returns-in_err-counts
unfolding stages
returns-in_err-counts c =
    exit _ _ _ _ c.from_residual.ensures.1
    (rw (sheet-is c.args.sheet.now) (come_stop _ _ (come_none stages (record { sheet = c.args.sheet; at = 0 })) c.in_err-counts.ensures))

pub read_registers-requires : goal.read_registers-requires
read_registers-requires c =
    let s = header-got _ _ _ (header_is c.in_ok-counts.ensures) in
    (omega (arith, s.far), s.registers-high)

pub returns-in_err-register : goal.returns-in_err-register
unfolding stages
returns-in_err-register c =
    let k = come_back _ _ (come_none stages (record { sheet = c.args.sheet; at = 0 })) counts_back counts-back c.in_ok-counts.ensures in
    exit _ _ _ _ c.from_residual-in_err-register.ensures.1
    (rw (sheet-is c.args.sheet.now) (come_stop _ _ k c.in_err-register.ensures))

pub slice_bounds-register-end : goal.slice_bounds-register-end
slice_bounds-register-end c =
    let s = header-got _ _ _ (header_is c.in_ok-counts.ensures) in
    let r = c.in_ok-register.ensures in
    front-room _ _ _ r.read _ _ r.is r.shown s.registers-high

pub slice_bounds-ranges-end : goal.slice_bounds-ranges-end
slice_bounds-ranges-end c =
    let r = c.in_ok-register.ensures in
    sym (front-length _ _ _ r.read _ _ r.is r.shown ∙ each-length _ _ _ _ r.read _ r.is)

pub invariant_of-ranges-clause-registers_few : goal.invariant_of-ranges-clause-registers_few
invariant_of-ranges-clause-registers_few c =
    let s = header-got _ _ _ (header_is c.in_ok-counts.ensures) in
    let r = c.in_ok-register.ensures in
    omega (arith, front-length _ _ _ r.read _ _ r.is r.shown, each-length _ _ _ _ r.read _ r.is, s.registers-high)

pub invariant_of-ranges-clause-variables_few : goal.invariant_of-ranges-clause-variables_few
invariant_of-ranges-clause-variables_few c = (header-got _ _ _ (header_is c.in_ok-counts.ensures)).variables-high

pub invariant_of-ranges-clause-columns_few : goal.invariant_of-ranges-clause-columns_few
invariant_of-ranges-clause-columns_few c =
    let r = c.in_ok-register.ensures in
    rw (front-widths _ _ _ r.read _ _ r.is r.shown) (columns-low _ _ _ r.read _ r.is)

pub read_asked-requires : goal.read_asked-requires
read_asked-requires c =
    let s = header-got _ _ _ (header_is c.in_ok-counts.ensures) in
    let r = c.in_ok-register.ensures in
    let w = (each-plain register most_register _ register-plain _).sees.passes _ _ r.read _ r.is in
    (omega (arith, s.far, s.registers-high, w.far), s.look_ups-high)

pub returns-in_err-asked : goal.returns-in_err-asked
unfolding stages
returns-in_err-asked c =
    let r = c.in_ok-register.ensures in
    let k = come_back _ _ (come_none stages (record { sheet = c.args.sheet; at = 0 })) counts_back counts-back c.in_ok-counts.ensures in
    exit _ _ _ _ c.from_residual-in_err-asked.ensures.1
    (rw (sheet-is c.args.sheet.now)
    (come_stop _ _ (come_on _ _ k r)
    (rw (front-length _ _ _ r.read _ _ r.is r.shown, front-widths _ _ _ r.read _ _ r.is r.shown) at c.in_err-asked.ensures)))

pub returns : goal.returns
unfolding stages
returns c =
    let r = c.in_ok-register.ensures in
    let a = rw (front-length _ _ _ r.read _ _ r.is r.shown, front-widths _ _ _ r.read _ _ r.is r.shown) at c.in_ok-asked.ensures in
    let k = come_back _ _ (come_none stages (record { sheet = c.args.sheet; at = 0 })) counts_back counts-back c.in_ok-counts.ensures in
    let g = come_give fields_of _ (come_on _ _ (come_on _ _ k r) a)
    (fields-made _ _ _ r.read a.read _ _ r.shown a.shown (each-length _ _ _ _ r.read _ r.is) (asked-length _ _ _ _ _ _ a.read _ a.is)) in
    ap (λ (f : Fields). Ok (record { value = f; next = c.read_asked.new.reader.at })) g.shown
    ∙ read_as-got _ _ g.read _ (sheet-is c.args.sheet.now ∙ g.is)
