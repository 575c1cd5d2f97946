-- `planner::search::first_task`: none of the tasks before i leads on, and the list of progress is as it was.
use Rattle.planner.specs.Ahead.{urgent_of}
use Rattle.planner.proofs.Firsts.{Missed}
use Rattle.planner.proofs.search.first_task.Given as goal

abbrev pub invariant-loop-i : goal.invariant-loop-i
invariant-loop-i l = Missed l.n l.fn.choice (urgent_of l.urgent) l.slot l.recorded l.go l.initial.stay l.area l.i l.stay
