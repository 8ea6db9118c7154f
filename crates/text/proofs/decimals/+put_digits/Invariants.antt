-- The measure is the number of digits that may still come.
use Rattle.text.proofs.decimals.+put_digits.Given as goal

abbrev pub decreases-put_digits : goal.decreases-put_digits
decreases-put_digits l = l.most
