-- `notes::Seen::note` meets its contract: a variable's name is one of those so far or one more; any other token
-- leaves the names.
use mathlib.Core.Path.{refl}
use mathlib.Core.Logic.{⊎_elim}
use Rattle.plan.specs.declared.Stage.TheVariants.{Given, Column}
use Rattle.typed.proofs.NoteLaws.{names_as, names_silent, names_elsewhere, names-given, names-column}
use Rattle.typed.proofs.notes.Seen.note.Goals as goal

pub returns-in_default : goal.returns-in_default
returns-in_default c =
    let a = c.args in
    names_silent a.which a.self.now.count a.self.now.place a.stage a.token c.in_default.not-Name

pub returns-in-Given : goal.returns-in-Given
returns-in-Given c =
    let a = c.args in
    let k = c.in-Name in
    let n = c.add.ensures in
    ⊎_elim
    (λ e.
    names_as a.stage Given a.token _ a.which a.self.now.count a.self.now.place _ _ _ _ e k.is n.count n.place
    (names-given a.which a.self.now.count a.self.now.place _ _ c.requires))
    (λ e.
    names_as a.stage Column a.token _ a.which a.self.now.count a.self.now.place _ _ _ _ e k.is n.count n.place
    (names-column a.which a.self.now.count a.self.now.place _ _ c.requires))
    c.in-Given.is

pub returns-in_default-stage : goal.returns-in_default-stage
returns-in_default-stage c =
    let a = c.args in
    let k = c.in-Name in
    names_as a.stage a.stage a.token _ a.which a.self.now.count a.self.now.place _ _ _ _ refl k.is refl refl
    (names_elsewhere a.which a.self.now.count a.self.now.place _ _ a.stage c.in_default-stage.not-Given c.in_default-stage.not-Column)
