-- `notes::note` meets its contract: names by the stage, values, the closing bracket; any other token says nothing.
use mathlib.Core.Path.{◌≡◌, refl, ◌∙◌, ap}
use borrow.Author.Tests.{ne_eqb}
use Rattle.plan.specs.Typed.{of_register, role}
use Rattle.plan.specs.declared.Stage.{Stage}
use Rattle.plan.specs.declared.Stage.TheVariants.{Asked, Column}
use Rattle.plan.specs.declared.Token.TheVariants.{Mark}
use Rattle.typed.proofs.NoteLaws.{notes_as, notes_register, notes_column, notes_value}
use Rattle.typed.proofs.NoteLaws.{notes_look_up, notes_elsewhere, notes_mark, notes_silent}
use Rattle.typed.proofs.notes.note.Goals as goal

-- a register is named where one is asked
of_register_lem : (s : Stage) → s ≡ Asked → role s ≡ of_register
unfolding role
of_register_lem s e = ap role e

pub with_register-requires : goal.with_register-requires
with_register-requires c =
    c.requires.register-low (of_register_lem c.args.stage c.in-Asked.is)

pub returns-then-b-eq41 : goal.returns-then-b-eq41
returns-then-b-eq41 c =
    let a = c.args in
    let k = c.in-Mark in
    notes_as a.stage a.stage a.token _ a.which a.said.now c.with_look_up.new.said refl
    (k.is ∙ ap Mark c.if-b-eq41.true)
    (notes_look_up a.which a.said.now c.with_look_up.new.said a.stage c.with_look_up.ensures)

pub returns-in-Asked : goal.returns-in-Asked
returns-in-Asked c =
    let a = c.args in
    let k = c.in-Name in
    notes_as a.stage Asked a.token _ a.which a.said.now c.with_register.new.said
    c.in-Asked.is k.is
    (notes_register a.which a.said.now c.with_register.new.said _ _ c.with_register.ensures)

pub returns-in-Column : goal.returns-in-Column
returns-in-Column c =
    let a = c.args in
    let k = c.in-Name in
    notes_as a.stage Column a.token _ a.which a.said.now c.with_column.new.said
    c.in-Column.is k.is
    (notes_column a.which a.said.now c.with_column.new.said _ _ c.with_column.ensures)

pub returns-in_default-stage : goal.returns-in_default-stage
returns-in_default-stage c =
    let a = c.args in
    let k = c.in-Name in
    notes_as a.stage a.stage a.token _ a.which a.said.now a.said.now refl k.is
    (notes_elsewhere a.which a.said.now a.stage _ _ c.in_default-stage.not-Asked c.in_default-stage.not-Column)

pub returns-in-Number : goal.returns-in-Number
returns-in-Number c =
    let a = c.args in
    let k = c.in-Number in
    notes_as a.stage a.stage a.token _ a.which a.said.now c.with_value.new.said refl
    k.is
    (notes_value a.which a.said.now c.with_value.new.said a.stage k.x c.with_value.ensures)

pub returns-else-b-eq41 : goal.returns-else-b-eq41
returns-else-b-eq41 c =
    let a = c.args in
    let k = c.in-Mark in
    notes_as a.stage a.stage a.token _ a.which a.said.now a.said.now refl k.is
    (notes_mark a.which a.said.now a.stage k.b (ne_eqb _ _ c.if-b-eq41.false))

pub returns-in_default : goal.returns-in_default
returns-in_default c =
    let a = c.args in
    notes_silent a.which a.said.now a.stage a.token c.in_default.not-Name c.in_default.not-Number c.in_default.not-Mark
