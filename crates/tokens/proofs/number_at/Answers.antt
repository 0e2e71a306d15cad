-- `tokens::number_at` meets its contract: the digits are those of the definition, and the first of several is a leading zero, if
-- it is 0.
use mathlib.Core.Path.{◌≡◌, sym, ap, ap₂, ◌∙◌}
use mathlib.Core.Bool.{Bool, ◌&&◌}
use native.Mathlib.Omega.{arith}
use lib.Dec.{eqb, ltb}
use lib.ListN.{get_or, take, drop, length-drop}
use lib.Seq.{length-take-le}
use borrow.Author.Tests.{eq-eqb, ne_eqb}
use Rattle.plan.specs.Tokens.{is_digit, value_of, cut, cut_number}
use Rattle.plan.specs.declared.Token.TheVariants.{Number}
use Rattle.lines.proofs.Cuts.{run-every, cut_at_digit}
use Rattle.tokens.proofs.TokenLaws.{rest_is, run_from, run-within}
use Rattle.tokens.proofs.number_at.Goals as goal
use Rattle.tokens.proofs.number_at.Goals.{After-cut, then-line-at-eq48, else-line-at-eq48}

pub slice_bounds-value_of-end : goal.slice_bounds-value_of-end
slice_bounds-value_of-end c =
    let n = c.digits_of-digits in
    let line = c.args.line.now in
    let at = c.args.at in
    let inside = run-within is_digit line at n.result n.ensures (omega arith) in
    rw (rest_is line at) (sym (length-take-le n.result (drop at line) (omega (arith, length-drop at line))))

pub value_of-value-requires : goal.value_of-value-requires
value_of-value-requires c =
    let n = c.digits_of-digits in
    let line = c.args.line.now in
    let at = c.args.at in
    rw (rest_is line at, run_from is_digit line at n.result n.ensures) (run-every is_digit (drop at line))

pub cut-requires : goal.cut-requires
cut-requires c =
    let n = c.digits_of-digits in
    omega (arith, run-within is_digit c.args.line.now c.args.at n.result n.ensures (omega arith))

-- its first digit is a leading zero
led : (c : After-cut)
    → c.if-line-at-eq48.zero ≡ (eqb (get_or c.args.line.now c.args.at 0) 48 && ltb 1 c.digits_of-digits.result)
led c =
    let n = c.digits_of-digits.result in
    let first = get_or c.args.line.now c.args.at 0 in
    elim c.if-line-at-eq48.branch [
      | then-line-at-eq48 w ↦
          w.zero-is ∙ sym (ap (λ (k : Bool). k && ltb 1 n) (eq-eqb first 48 w.if-line-at-eq48.true))
      | else-line-at-eq48 w ↦
          let other = ne_eqb first 48 w.if-line-at-eq48.false in
          w.zero-is ∙ other ∙ sym (ap (λ (k : Bool). k && ltb 1 n) other)
    ]

pub returns : goal.returns
unfolding cut_number
returns c =
    let line = c.args.line.now in
    let at = c.args.at in
    let n = c.digits_of-digits in
    let first = get_or line at 0 in
    let e = run_from is_digit line at n.result n.ensures in
    let value = c.value_of-value.ensures ∙ ap (λ l. value_of (take n.result l)) (rest_is line at) in
    c.cut.ensures
    ∙ ap₂ (λ v z. cut (Number v) at n.result z) value (led c)
    ∙ ap (λ k. cut (Number (value_of (take k (drop at line)))) at k (eqb first 48 && ltb 1 k)) e
    ∙ sym (cut_at_digit line at c.requires.0 c.requires.1)
