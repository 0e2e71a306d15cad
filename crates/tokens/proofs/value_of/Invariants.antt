-- `tokens::value_of` meets its contract. Invariant: the number is the value so far, with the digits that are left behind it.
use Rattle.tokens.proofs.DigitsLaws.{Read}
use Rattle.tokens.proofs.value_of.Given as goal

abbrev pub invariant-loop-digit : goal.invariant-loop-digit
invariant-loop-digit l = Read l.digits l.value l.digit-index
