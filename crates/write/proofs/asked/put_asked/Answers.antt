-- `write::asked::put_asked` meets its contract: what is given, the look-ups, and the lowest variable that is not used.
use mathlib.Core.Path.{◌≡◌}
use mathlib.Core.List.{List, []}
use Prim.Native.Nat.{ℕ, ◌^◌, ◌≤◌, ◌<◌}
use borrow.Author.Rules.{rules}
use lib.Bits.{bit_or}
use Rattle.std.specs.Prelude.{Result}
use Rattle.plan.specs.Lists.{set_of, vars_in}
use Rattle.plan.specs.Sheet.{used, all_used}
use Rattle.plan.specs.Write.{Item, given_items, look_up_items, all_items, written}
use Rattle.plan.specs.declared.Refused.{Refused}
use Rattle.sheet.specs.declared.Fields.{Fields}
use Rattle.sheet.specs.Answers.{passed}
use Rattle.write.specs.declared.bits.Writer.{Writer}
use Rattle.write.specs.Said.{sheet_said, asked_items}
use Rattle.write.specs.Puts.{Goes, Puts}
use Rattle.write.proofs.PutsLaws.{puts_told, come_none, come_on, come_stop, come_last}
use Rattle.write.proofs.ClosingLaws.{used-same, used_puts}
use Rattle.write.proofs.asked.put_asked.Goals as goal

-- the items of what is given, and of the look-ups
abbrev given_of : Fields → List Item
given_of f = given_items f.variables (sheet_said f).given (sheet_said f).values

abbrev look_ups_of : Fields → List Item
look_ups_of f = all_items (look_up_items f.registers f.variables) (sheet_said f).look_ups

pub returns-in_err-put_given-clause-puts : goal.returns-in_err-put_given-clause-puts
unfolding sheet_said
returns-in_err-put_given-clause-puts c =
    puts_told _ _ _ _ _ c.from_residual.ensures.1
    (come_stop (given_of c.args.f.now) _ (come_none _ c.args.writer.now) c.in_err-put_given.ensures.puts)

pub returns-in_err-asked-clause-puts : goal.returns-in_err-asked-clause-puts
unfolding sheet_said
returns-in_err-asked-clause-puts c =
    let s = come_on (given_of c.args.f.now) _ (come_none _ c.args.writer.now) c.in_ok-put_given.ensures.puts in
    puts_told _ _ _ _ _ c.from_residual-in_err-asked.ensures.1
    (come_stop (look_ups_of c.args.f.now) _ s c.in_err-asked.ensures.puts)

-- the check of the variables is the last stage
last : (f : Fields) → f.given < 2 ^ 16 → f.variables ≤ 16 → (asked : ℕ) → asked ≡ set_of (used [] (sheet_said f).look_ups)
    → (before given now : Writer)
    → Goes (written (given_of f) before.at) before given → Goes (written (look_ups_of f) given.at) given now
    → (r : Result ℕ Refused) → r ≡ passed (all_used (vars_in (bit_or asked f.given)) f.variables [] now.at)
    → Puts (written (asked_items f) before.at) before r now
unfolding sheet_said
last f low few asked e before given now g l r is =
    let s = come_on (look_ups_of f) _ (come_on (given_of f) _ (come_none _ before) g) l in
    come_last r now s
    (rw is (used_puts (vars_in (bit_or asked f.given)) (used (sheet_said f).given (sheet_said f).look_ups) f.variables now
    (used-same f.variables f.given (sheet_said f).look_ups asked few low e)))

pub returns-in_err-all_used-clause-puts : goal.returns-in_err-all_used-clause-puts
unfolding sheet_said
returns-in_err-all_used-clause-puts c =
    let f = c.args.f.now in
    let low : f.given < 2 ^ 16 = search rules in
    puts_told _ _ _ _ _ c.from_residual-in_err-all_used.ensures.1
    (last f low c.requires.few.2 _ c.in_ok-asked.ensures.set c.args.writer.now c.put_given.new.writer c.put_look_ups.new.writer
    c.in_ok-put_given.ensures.puts c.in_ok-asked.ensures.puts _ c.in_err-all_used.ensures)

pub returns-clause-puts : goal.returns-clause-puts
unfolding sheet_said
returns-clause-puts c =
    let f = c.args.f.now in
    let low : f.given < 2 ^ 16 = search rules in
    last f low c.requires.few.2 _ c.in_ok-asked.ensures.set c.args.writer.now c.put_given.new.writer c.put_look_ups.new.writer
    c.in_ok-put_given.ensures.puts c.in_ok-asked.ensures.puts _ c.in_ok-all_used.ensures
