-- The measure is the number: the call is for a tenth of it.
use Rattle.text.proofs.answers.+put_decimal.Given as goal

abbrev pub decreases-put_decimal : goal.decreases-put_decimal
decreases-put_decimal l = l.n
