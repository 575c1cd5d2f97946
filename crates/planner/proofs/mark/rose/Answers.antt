-- `planner::mark::rose`: the lowest bit is set and the task was ready. Assumes nothing.
use Rattle.planner.proofs.Loops.{rose-other}
use Rattle.planner.proofs.mark.rose.Goals as goal

pub returns-in_default : goal.returns-in_default
returns-in_default c = rose-other _ _ _ _ c.standing_at.ensures c.in_default.not-Ready
