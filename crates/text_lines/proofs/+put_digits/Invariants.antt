-- The measure is the number: a tenth part of one of at least 10 is smaller.
use Rattle.text_lines.proofs.+put_digits.Given as goal

abbrev pub decreases-put_digits : goal.decreases-put_digits
decreases-put_digits l = l.v
