-- The measure is the number of digits allowed.
use Rattle.report.proofs.write.Text.+digits.Given as goal

abbrev pub decreases-digits : goal.decreases-digits
decreases-digits l = l.k
