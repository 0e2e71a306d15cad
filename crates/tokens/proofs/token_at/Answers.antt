-- `tokens::token_at` meets its contract: one law for each way the line's first byte there may go.
use mathlib.Core.Path.{sym, ap, ◌∙◌}
use mathlib.Core.Bool.{false}
use native.Mathlib.Omega.{arith}
use Rattle.plan.specs.Tokens.{is_letter, cut}
use Rattle.plan.specs.declared.Token.TheVariants.{Name}
use Rattle.lines.proofs.Cuts.{cut_at-end, cut_at_letter, cut_at-one}
use Rattle.tokens.proofs.TokenLaws.{run_from, run-within}
use Rattle.tokens.proofs.token_at.Goals as goal

pub returns-then-line-at : goal.returns-then-line-at
returns-then-line-at c = c.cut.ensures ∙ sym (cut_at-end c.args.line.now c.args.at c.if-line-at.true)

pub cut-requires-then-is_letter : goal.cut-requires-then-is_letter
cut-requires-then-is_letter c =
    let n = c.letters_of-letters in
    omega (arith, run-within is_letter c.args.line.now c.args.at n.result n.ensures (omega arith))

pub returns-then-is_letter : goal.returns-then-is_letter
returns-then-is_letter c =
    let a = c.args in
    let n = c.letters_of-letters in
    c.cut-then-is_letter.ensures
    ∙ ap (λ k. cut (Name a.at k) a.at k false) (run_from is_letter a.line.now a.at n.result n.ensures)
    ∙ sym (cut_at_letter a.line.now a.at (omega arith) (sym c.is_letter.ensures ∙ c.if-is_letter.true))

pub number_at-requires : goal.number_at-requires
number_at-requires c = (omega arith, sym c.is_digit.ensures ∙ c.if-is_digit.true)

pub returns-else-is_digit : goal.returns-else-is_digit
returns-else-is_digit c =
    let a = c.args in
    let letter = sym c.is_letter.ensures ∙ c.if-is_letter.false in
    let digit = sym c.is_digit.ensures ∙ c.if-is_digit.false in
    c.one_byte.ensures ∙ sym (cut_at-one a.line.now a.at (omega arith) letter digit)
