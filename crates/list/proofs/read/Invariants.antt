-- `list::read` is the reading of the list. The invariant: the set has read some tasks, and the lines of the rest decide. Assumes nothing.
use lib.ListN.{length}
use Rattle.list.proofs.ByLines.{Progress}
use Rattle.list.proofs.read.Given as goal

abbrev pub invariant-loop-rest : goal.invariant-loop-rest
invariant-loop-rest l = Progress l.list l.set l.line l.rest

abbrev pub decreases-loop-rest : goal.decreases-loop-rest
decreases-loop-rest l = length l.rest
