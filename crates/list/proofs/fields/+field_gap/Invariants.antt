-- `list::fields::field` and `list::fields::gap` read the fields of the words of what is left of a line. The measure is the bytes left. Assumes nothing.
use lib.ListN.{length}
use Rattle.list.proofs.fields.+field_gap.Given as goal

abbrev pub decreases-field : goal.decreases-field
decreases-field l = length l.line.now

abbrev pub decreases-gap : goal.decreases-gap
decreases-gap l = length l.line.now
