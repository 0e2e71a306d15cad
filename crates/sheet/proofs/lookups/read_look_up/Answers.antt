-- `sheet::lookups::read_look_up` meets its contract: the register, then a variable for each of its columns.
use mathlib.Core.Path.{◌≡◌, sym, ◌∙◌}
use mathlib.Core.List.{List, []}
use Prim.Native.Nat.{ℕ, ◌<◌}
use borrow.Author.Rules.{rules}
use native.Mathlib.Omega.{arith}
use lib.ListN.{length, get_or}
use Rattle.plan.specs.Sheet.{one_of}
use Rattle.sheet.specs.Fields.{look_up_of}
use Rattle.sheet.specs.Stages.{look_up_by}
use Rattle.sheet.specs.Parts.{widths, vars_using, look_up_using}
use Rattle.sheet.specs.declared.Register.{Register}
use Rattle.plan.proofs.Padded.{map_at}
use Rattle.sheet.proofs.ReadsLaws.{handed, come_none, come_number, come_on, come_stop, come_give}
use Rattle.sheet.proofs.Arrays.{each-length}
use Rattle.sheet.proofs.Stages.{one_ok}
use Rattle.sheet.proofs.lookups.read_look_up.Goals as goal

-- the columns of a register
width : (registers : List Register) (r : ℕ) → r < length registers
    → get_or (widths registers) r 0 ≡ (get_or registers r (record { columns = 0; rules = 0; rule = [] })).columns
width registers r h = map_at (λ (r : Register). r.columns) registers r 0 _ h

pub returns-in_err-register : goal.returns-in_err-register
unfolding look_up_by
returns-in_err-register c =
    handed _ _ _ _ _ _ c.from_residual.ensures.1
    (come_stop _ _ (come_none (look_up_by _ _ _) c.args.reader.now) c.in_err-register.ensures)

pub read_vars-requires : goal.read_vars-requires
read_vars-requires c =
    let registers = c.args.ranges.now.registers.now in
    let r = c.in_ok-register.register in
    let g = one_ok _ _ _ _ c.in_ok-register.ensures in
    (omega (arith, g.1), rw (c.from.ensures, ← width registers r g.0) (c.args.ranges.now.columns_few r), search rules)

pub returns-in_err-asked : goal.returns-in_err-asked
unfolding look_up_by
returns-in_err-asked c =
    let registers = c.args.ranges.now.registers.now in
    let r = c.in_ok-register.register in
    let same = c.from.ensures ∙ sym (width registers r (one_ok _ _ _ _ c.in_ok-register.ensures).0) in
    handed _ _ _ _ _ _ c.from_residual-in_err-asked.ensures.1
    (come_stop _ _ (come_number _ _ (come_none (look_up_by _ _ _) c.args.reader.now) c.in_ok-register.ensures)
    (rw same at c.in_err-asked.ensures))

pub returns : goal.returns
unfolding look_up_by look_up_of look_up_using vars_using
returns c =
    let registers = c.args.ranges.now.registers.now in
    let r = c.in_ok-register.register in
    let w = width registers r (one_ok _ _ _ _ c.in_ok-register.ensures).0 in
    let g = rw (c.from.ensures ∙ sym w) at c.in_ok-asked.ensures in
    let long = each-length (one_of _) _ _ _ _ _ g.is in
    come_give look_up_using _
    (come_on _ _ (come_number _ _ (come_none (look_up_by _ _ _) c.args.reader.now) c.in_ok-register.ensures) g)
    (rw (← w, g.shown, long))
