-- The measure of the cycle of calls {put_digits} is the number of digits asked for: the call of itself puts one digit
-- fewer, and the last digit goes behind them.
use Rattle.ebbcandle.proofs.text.+put_digits.Given as goal

abbrev pub decreases-put_digits : goal.decreases-put_digits
decreases-put_digits l = l.most
