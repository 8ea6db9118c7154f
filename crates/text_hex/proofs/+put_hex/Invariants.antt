-- The last k digits, by a function that calls itself. The measure is the number of digits that are to come.
use Rattle.text_hex.proofs.+put_hex.Given as goal

abbrev pub decreases-put_hex : goal.decreases-put_hex
decreases-put_hex l = l.k
