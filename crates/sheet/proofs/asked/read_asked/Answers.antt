-- `sheet::asked::read_asked` meets its contract: the given variables, the look-ups, and what is asked behind them.
use mathlib.Core.Path.{◌≡◌, ◌∙◌, ap}
use mathlib.Core.List.{List}
use Prim.Native.Nat.{ℕ, ◌≤◌}
use borrow.Author.Rules.{rules}
use native.Mathlib.Omega.{arith}
use Rattle.plan.specs.Lists.{set_of, vars_in}
use Rattle.plan.specs.Sheet.{LookUp, used}
use Rattle.sheet.specs.Bounds.{most_look_up}
use Rattle.sheet.specs.Stages.{Given, closing, asked}
use Rattle.sheet.specs.Parts.{first_row_of, look_ups_using, asked_of}
use Rattle.sheet.specs.declared.LookUp as Asks
use Rattle.sheet.specs.declared.given.FirstRow.{FirstRow}
use Rattle.sheet.specs.declared.lookups.Using.{Using}
use Rattle.plan.proofs.Seen.{Any, each-plain}
use Rattle.sheet.proofs.ReadsLaws.{handed, come_none, come_on, come_stop, come_give, goes-as}
use Rattle.sheet.proofs.Stages.{given_far, given-end, look_up-plain}
use Rattle.sheet.proofs.Used.{used-set, closing-set}
use Rattle.sheet.proofs.asked.read_asked.Goals as goal

-- the set of all variables that are used
all-used : (g : Given) (ls : List LookUp) (f : FirstRow) (u : Using (List Asks.LookUp)) → f ≡ first_row_of g → u ≡ look_ups_using ls
    → Rattle.std.specs.Prelude.bit_or u.used f.given ≡ set_of (used g.given ls)
unfolding first_row_of look_ups_using
all-used g ls f u e h =
    used-set g.given ls u.used f.given (ap (λ (u : Using (List Asks.LookUp)). u.used) h) (ap (λ (f : FirstRow). f.given) e)

-- the check on the set is the check on the variables
closing-is : (g : Given) (ls : List LookUp) (f : FirstRow) (u : Using (List Asks.LookUp)) (variables : ℕ) → variables ≤ 16
    → f ≡ first_row_of g → u ≡ look_ups_using ls → (bytes : List ℕ) (at : ℕ)
    → closing (vars_in (Rattle.std.specs.Prelude.bit_or u.used f.given)) variables bytes at
    ≡ closing (used g.given ls) variables bytes at
closing-is g ls f u variables low e h bytes at =
    ap (λ x. closing (vars_in x) variables bytes at) (all-used g ls f u e h)
    ∙ closing-set (used g.given ls) variables bytes at low

pub returns-in_err-first : goal.returns-in_err-first
unfolding asked
returns-in_err-first c =
    handed _ _ _ _ _ _ c.from_residual.ensures.1 (come_stop _ _ (come_none (asked _ _ _ _) c.args.reader.now) c.in_err-first.ensures)

pub read_look_ups-requires : goal.read_look_ups-requires
read_look_ups-requires c =
    let g = c.in_ok-first.ensures in
    let far = given_far _ _ _ g.read _ g.is c.args.ranges.now.variables_few in
    (omega (arith, far), search rules)

pub returns-in_err-asked : goal.returns-in_err-asked
unfolding asked
returns-in_err-asked c =
    handed _ _ _ _ _ _ c.from_residual-in_err-asked.ensures.1
    (come_stop _ _ (come_on _ _ (come_none (asked _ _ _ _) c.args.reader.now) c.in_ok-first.ensures) c.in_err-asked.ensures)

pub check_closing-requires : goal.check_closing-requires
check_closing-requires c =
    let g = c.in_ok-first.ensures in
    let l = c.in_ok-asked.ensures in
    let far = given_far _ _ _ g.read _ g.is c.args.ranges.now.variables_few in
    let w = (each-plain _ most_look_up Any (look_up-plain _ _ _ c.args.ranges.now.columns_few) c.args.lookups).sees.passes _ _ l.read _ l.is in
    let most = c.requires.1 in (
      rw l.sheet (w.inside (rw g.sheet (given-end _ _ _ g.read _ g.is))),
      omega (arith, c.requires.0, far, w.far),
      c.args.ranges.now.variables_few,
    )

pub returns-in_err-check_closing : goal.returns-in_err-check_closing
unfolding asked
returns-in_err-check_closing c =
    let g = c.in_ok-first.ensures in
    let l = c.in_ok-asked.ensures in
    let now = c.read_look_ups.new.reader in
    let same = closing-is g.read l.read c.in_ok-first.first c.in_ok-asked.asked c.args.ranges.now.variables
    c.args.ranges.now.variables_few g.shown l.shown now.sheet.now now.at in
    handed _ _ _ _ _ _ c.from_residual-in_err-check_closing.ensures.1
    (come_stop _ _ (come_on _ _ (come_on _ _ (come_none (asked _ _ _ _) c.args.reader.now) g) l)
    (rw same at c.in_err-check_closing.ensures))

pub returns : goal.returns
unfolding asked asked_of look_ups_using
returns c =
    let g = c.in_ok-first.ensures in
    let l = c.in_ok-asked.ensures in
    let same = closing-is g.read l.read _ _ _ c.args.ranges.now.variables_few g.shown l.shown _ _ in
    let z = goes-as _ (closing (used g.read.given l.read) _) same c.in_ok-check_closing.ensures in
    come_give asked_of _ (come_on _ _ (come_on _ _ (come_on _ _ (come_none (asked _ _ _ _) c.args.reader.now) g) l) z)
    (rw (g.shown, ap (λ (u : Using (List Asks.LookUp)). u.read) l.shown))
