-- `planner::mark::choice_from`: the first ready task whose bit is set, or idle. Assumes nothing.
use Rattle.planner.proofs.Loops.{Looked}
use Rattle.planner.proofs.mark.choice_from.Given as goal

abbrev pub invariant-loop-i : goal.invariant-loop-i
invariant-loop-i l = Looked l.mark l.rows l.before l.i l.bits
