-- `faults::fault_of` meets its contract: each test that does not fit is passed, and the first that does ends it.
use Rattle.std.proofs.Common.{rules}
use mathlib.Core.Path.{◌≡◌, sym, ap, ◌∙◌}
use mathlib.Core.Bool.{true, false}
use Rattle.plan.specs.Typed.{follows, is_nowhere, first_fit, fits_of, is_other}
use Rattle.plan.specs.declared.Token.TheVariants.{Other}
use Rattle.typed.proofs.Others.{nowhere, somewhere, not_other}
use Rattle.typed.proofs.faults.fault_of.Goals as goal
use Rattle.typed.proofs.faults.fault_of.Goals.{then-eq-via-then-eq, then-eq-via-else-eq+then-cut}

pub returns-then-is_nought : goal.returns-then-is_nought
unfolding fits_of first_fit
returns-then-is_nought c =
    rw (sym c.is_nought.ensures ∙ c.if-is_nought.true, first_fit)

pub returns-then-eq : goal.returns-then-eq
unfolding fits_of first_fit is_other
returns-then-eq c =
    let a = c.args in
    let nought = sym c.is_nought.ensures ∙ c.if-is_nought.false in
    elim c.then-eq.branch [
      | then-eq-via-then-eq w ↦
          let found = w.if-eq.true in
          let e : a.cut.token ≡ Other = search rules in
          rw (nought, e, first_fit)
      | then-eq-via-else-eq+then-cut w ↦
          let missed = w.if-eq.false in
          let other : is_other a.cut.token ≡ false = sym (not_other a.cut.token (search rules)) in
          rw (nought, other, w.if-cut.true, first_fit)
    ]

pub returns-then-eq-2 : goal.returns-then-eq-2
unfolding fits_of first_fit
returns-then-eq-2 c =
    let a = c.args in
    let nought = sym c.is_nought.ensures ∙ c.if-is_nought.false in
    let other : is_other a.cut.token ≡ false = sym (not_other a.cut.token (search rules)) in
    let off : is_nowhere (follows a.stage a.cut.token) ≡ true =
    ap is_nowhere (sym c.behind.ensures) ∙ nowhere c.behind.result (search rules) in
    rw (nought, other, c.if-cut.false, off, first_fit)

pub returns-then-is_unknown : goal.returns-then-is_unknown
unfolding fits_of first_fit
returns-then-is_unknown c =
    let a = c.args in
    let nought = sym c.is_nought.ensures ∙ c.if-is_nought.false in
    let other : is_other a.cut.token ≡ false = sym (not_other a.cut.token (search rules)) in
    let placed : is_nowhere (follows a.stage a.cut.token) ≡ false =
    ap is_nowhere (sym c.behind.ensures) ∙ sym (somewhere c.behind.result (search rules)) in
    rw (nought, other, c.if-cut.false, placed, sym c.is_unknown.ensures ∙ c.if-is_unknown.true, first_fit)

pub returns-then-is_miscounted : goal.returns-then-is_miscounted
unfolding fits_of first_fit
returns-then-is_miscounted c =
    let a = c.args in
    let nought = sym c.is_nought.ensures ∙ c.if-is_nought.false in
    let other : is_other a.cut.token ≡ false = sym (not_other a.cut.token (search rules)) in
    let placed : is_nowhere (follows a.stage a.cut.token) ≡ false =
    ap is_nowhere (sym c.behind.ensures) ∙ sym (somewhere c.behind.result (search rules)) in
    let known = sym c.is_unknown.ensures ∙ c.if-is_unknown.false in
    rw (nought, other, c.if-cut.false, placed, known, sym c.is_miscounted.ensures ∙ c.if-is_miscounted.true, first_fit)

pub returns-then-is_over : goal.returns-then-is_over
unfolding fits_of first_fit
returns-then-is_over c =
    let a = c.args in
    let nought = sym c.is_nought.ensures ∙ c.if-is_nought.false in
    let other : is_other a.cut.token ≡ false = sym (not_other a.cut.token (search rules)) in
    let placed : is_nowhere (follows a.stage a.cut.token) ≡ false =
    ap is_nowhere (sym c.behind.ensures) ∙ sym (somewhere c.behind.result (search rules)) in
    let known = sym c.is_unknown.ensures ∙ c.if-is_unknown.false in
    let counted = sym c.is_miscounted.ensures ∙ c.if-is_miscounted.false in
    rw (nought, other, c.if-cut.false, placed, known, counted, sym c.is_over.ensures ∙ c.if-is_over.true, first_fit)

pub returns-then-is_again : goal.returns-then-is_again
unfolding fits_of first_fit
returns-then-is_again c =
    let a = c.args in
    let nought = sym c.is_nought.ensures ∙ c.if-is_nought.false in
    let other : is_other a.cut.token ≡ false = sym (not_other a.cut.token (search rules)) in
    let placed : is_nowhere (follows a.stage a.cut.token) ≡ false =
    ap is_nowhere (sym c.behind.ensures) ∙ sym (somewhere c.behind.result (search rules)) in
    let known = sym c.is_unknown.ensures ∙ c.if-is_unknown.false in
    let counted = sym c.is_miscounted.ensures ∙ c.if-is_miscounted.false in
    let within = sym c.is_over.ensures ∙ c.if-is_over.false in
    rw (nought, other, c.if-cut.false, placed, known, counted, within, sym c.is_again.ensures ∙ c.if-is_again.true, first_fit)

pub returns : goal.returns
unfolding fits_of first_fit
returns c =
    let a = c.args in
    let nought = sym c.is_nought.ensures ∙ c.if-is_nought.false in
    let other : is_other a.cut.token ≡ false = sym (not_other a.cut.token (search rules)) in
    let placed : is_nowhere (follows a.stage a.cut.token) ≡ false =
    ap is_nowhere (sym c.behind.ensures) ∙ sym (somewhere c.behind.result (search rules)) in
    let known = sym c.is_unknown.ensures ∙ c.if-is_unknown.false in
    let counted = sym c.is_miscounted.ensures ∙ c.if-is_miscounted.false in
    let within = sym c.is_over.ensures ∙ c.if-is_over.false in
    let once = sym c.is_again.ensures ∙ c.if-is_again.false in
    rw (nought, other, c.if-cut.false, placed, known, counted, within, once, first_fit)
