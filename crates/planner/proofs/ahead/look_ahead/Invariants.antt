-- `planner::ahead::look_ahead`: each task's ways, from the last task down. Assumes nothing.
use Rattle.planner.proofs.Outlooks.{Looked, Saved}
use Rattle.planner.proofs.ahead.look_ahead.Given as goal

abbrev pub invariant-loop-i : goal.invariant-loop-i
invariant-loop-i l = Looked l.rows l.initial.progress l.slot l.i l.waits l.late l.first l.progress l.go × Saved l.rows l.initial.progress l.slot l.i l.before
