-- `write::lookups::put_look_up` meets its contract: the register's name, and then the variables.
use mathlib.Core.Path.{◌≡◌, refl, sym, ◌∙◌, ap}
use mathlib.Core.List.{List, [], ◌∷◌, map}
use Prim.Native.Nat.{ℕ, ◌≤◌, ◌<◌}
use native.Mathlib.Omega.{arith}
use borrow.Author.Rules.{rules}
use lib.Dec.{ltb}
use lib.ListN.{length, get_or}
use lib.Seq.{length-take-le}
use Rattle.write.proofs.LoopLaws.{reads_first}
use Rattle.std.proofs.lemmas.Result.{IfOk-weaker}
use Rattle.plan.specs.Lists.{numbers, set_of}
use Rattle.plan.specs.Reader.{not_in_sheet}
use Rattle.plan.specs.Request.{reads}
use Rattle.plan.specs.Write.{Item, name_item, look_up_items, written}
use Rattle.sheet.specs.declared.LookUp.{LookUp}
use Rattle.sheet.specs.declared.Fields.{Fields}
use Rattle.sheet.specs.Fields.{register_beyond}
use Rattle.write.specs.declared.bits.Writer.{Writer}
use Rattle.write.specs.Said.{look_up_said}
use Rattle.write.specs.Puts.{tested_item}
use Rattle.write.proofs.ItemLaws.{name-tested}
use Rattle.write.proofs.PutsLaws.{Come, open_on, open_less, puts_told, come_none, come_as, come_on, come_stop, come_last}
use Rattle.write.proofs.lookups.put_look_up.Goals as goal

-- the variables of a look-up
abbrev vars_of : Fields → LookUp → ℕ → List Item
vars_of f l columns = map (name_item f.variables) (reads l.vars (numbers 0 columns))

-- at the start, with the register's name as it is tested
opened : (f : Fields) (l : LookUp) (register columns : ℕ) (before : Writer) → register ≡ l.register
    → columns ≡ (get_or f.register register register_beyond).columns
    → Come (written (look_up_items f.registers f.variables (look_up_said f.register l)) before.at)
    (written (tested_item (ltb register f.registers) 4 register not_in_sheet ∷ vars_of f l columns) before.at) before before
unfolding look_up_items look_up_said
opened f l register columns before e k =
    rw (k, e)
    (come_as
    (ap (λ (i : Item). written (i ∷ vars_of f l (get_or f.register l.register register_beyond).columns) before.at)
    (name-tested f.registers l.register))
    (come_none _ before))

pub put_if-requires : goal.put_if-requires
put_if-requires c = (open_less _ 4 (omega arith) c.requires.few.0, omega arith)

pub returns-in_err-put_if-clause-puts : goal.returns-in_err-put_if-clause-puts
returns-in_err-put_if-clause-puts c =
    let a = c.args in
    let s = opened a.f.now a.l.now c.from-register.result _ a.writer.now c.from-register.ensures refl in
    puts_told _ _ _ _ _ c.from_residual.ensures.1
    (come_stop (tested_item _ 4 c.from-register.result not_in_sheet ∷ []) _ s (c.in_err-put_if.ensures.puts not_in_sheet refl))

pub put_vars-requires : goal.put_vars-requires
put_vars-requires c =
    let few = c.requires.few in
    let p = c.in_ok-put_if.ensures in
    let low : c.from-register.result < c.args.f.now.registers = search rules in
    let six : length c.args.l.now.vars ≡ 6 = search rules in
    let columns : c.from-columns.result ≤ 6 = rw c.from-columns.ensures (c.requires.narrow c.from-register.result low) in
    let long = length-take-le c.from-columns.result c.args.l.now.vars (omega (arith, six, columns)) in (
      open_on _ _ few.0 (p.puts not_in_sheet refl) (omega (arith, few.0.room, p.passed.1)),
      omega (arith, long, columns),
      few.2,
    )

pub returns : goal.returns
unfolding look_up_said
returns c =
    let a = c.args in
    let f = a.f.now in
    let l = a.l.now in
    let low : c.from-register.result < f.registers = search rules in
    let six : length l.vars ≡ 6 = search rules in
    let few : c.from-columns.result ≤ 6 = rw c.from-columns.ensures (c.requires.narrow c.from-register.result low) in
    let first = reads_first l.vars c.from-columns.result (omega (arith, six, few)) in
    let columns : c.from-columns.result ≡ (get_or f.register l.register register_beyond).columns =
    c.from-columns.ensures ∙ ap (λ n. (get_or f.register n register_beyond).columns) c.from-register.ensures in
    let s = opened f l c.from-register.result c.from-columns.result a.writer.now c.from-register.ensures c.from-columns.ensures in
    let t = come_on (tested_item _ 4 c.from-register.result not_in_sheet ∷ []) _ s (c.in_ok-put_if.ensures.puts not_in_sheet refl) in
    record {
      puts = come_last c.put_vars.result c.put_vars.new.writer t (rw first c.put_vars.ensures.puts);
      at_most = IfOk-weaker c.put_vars.result _ _ (λ used p. omega (arith, p, c.in_ok-put_if.ensures.passed.1)) c.put_vars.ensures.at_most;
      set = IfOk-weaker c.put_vars.result _ _ (λ used p. p ∙ ap set_of (sym first) ∙ ap (λ n. set_of (reads l.vars (numbers 0 n))) columns)
          c.put_vars.ensures.set;
    }
