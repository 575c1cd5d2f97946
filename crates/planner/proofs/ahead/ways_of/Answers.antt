-- `planner::ahead::ways_of` is what a slot does to one task, chosen and not, by how its progress stands. Assumes nothing.
use Rattle.planner.proofs.Outlooks.{way-ready, way-waiting, way-done, done-ends}
use Rattle.planner.proofs.ahead.ways_of.Goals as goal

pub returns-in-Ready : goal.returns-in-Ready
returns-in-Ready c = way-ready _ _ _ _ _ c.standing_at.ensures c.since_end-since.ensures c.in-Ready.is _ c.ends_well.ensures _ c.begun.ensures _ c.go_from.ensures

pub returns-in-Waiting : goal.returns-in-Waiting
returns-in-Waiting c = way-waiting _ _ _ _ _ c.standing_at.ensures c.since_end-since.ensures c.in-Waiting.is _ c.ends_well-in-Waiting.ensures _ c.begun-in-Waiting.ensures

pub returns-in-Done : goal.returns-in-Done
returns-in-Done c = way-done _ _ _ _ _ c.standing_at.ensures c.since_end-since.ensures c.in-Done.is _ (done-ends _ _ _ _ c.standing_at.ensures c.in-Done.is _ c.ends_well-in-Done.ensures) _ c.begun-in-Done.ensures
