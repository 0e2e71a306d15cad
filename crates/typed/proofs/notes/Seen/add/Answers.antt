-- `notes::Seen::add` meets its contract: a name that is one of those so far adds nothing, another stands behind them.
use native.Mathlib.Numerals.{add-one}
use mathlib.Core.Path.{◌∙◌}
use Rattle.typed.proofs.NoteLaws.{count_old, places_old, count_new, places_new}
use Rattle.typed.proofs.notes.Seen.add.Goals as goal

pub returns-then-which-self-clause-count : goal.returns-then-which-self-clause-count
returns-then-which-self-clause-count c =
    let s = c.args.self.now in count_old c.args.which s.count c.if-which-self.true

pub returns-then-which-self-clause-place : goal.returns-then-which-self-clause-place
returns-then-which-self-clause-place c =
    let s = c.args.self.now in places_old c.args.which s.count c.args.at s.place c.if-which-self.true

pub returns-clause-count : goal.returns-clause-count
returns-clause-count c =
    let s = c.args.self.now in add-one s.count ∙ count_new c.args.which s.count c.if-which-self.false

pub returns-clause-place : goal.returns-clause-place
returns-clause-place c =
    let s = c.args.self.now in places_new c.args.which s.count c.args.at s.place c.if-which-self.false
