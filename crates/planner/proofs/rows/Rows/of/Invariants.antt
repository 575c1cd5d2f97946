-- `planner::rows::Rows::of`: the rows before place i hold the tasks. Assumes nothing.
use Rattle.planner.proofs.Places.{Laying}
use Rattle.planner.proofs.rows.Rows.of.Given as goal

abbrev pub invariant-loop-i : goal.invariant-loop-i
invariant-loop-i l = Laying l.used l.i l.tasks
