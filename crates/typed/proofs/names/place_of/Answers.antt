use mathlib.Core.Path.{sym, ◌∙◌}
use native.Mathlib.Omega.{arith}
use Rattle.typed.proofs.HeldNames.{among_here, among_later, among_none}
use Rattle.typed.proofs.names.place_of.Goals as goal

pub loop-i-init : goal.loop-i-init
loop-i-init c = omega arith

pub returns-then-is_name_at : goal.returns-then-is_name_at
returns-then-is_name_at c =
    let a = c.args in
    among_here a.text.now a.name.now a.places.now c.loop-i.i (omega arith) (sym c.is_name_at.ensures ∙ c.if-is_name_at.true) ∙ sym c.loop-i.invariant

pub loop-i-preserved : goal.loop-i-preserved
loop-i-preserved c =
    let a = c.args in
    c.loop-i.invariant ∙ among_later a.text.now a.name.now a.places.now c.loop-i.i (omega arith) (sym c.is_name_at.ensures ∙ c.if-is_name_at.false)

pub returns : goal.returns
returns c =
    let a = c.args in
    let none = among_none a.text.now a.name.now a.places.now c.loop-i.i (omega arith) in
    omega (arith, none, c.loop-i.invariant)
