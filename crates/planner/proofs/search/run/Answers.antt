-- `planner::search::run` is a run of the machine from its start to its end. Assumes nothing.
use Rattle.planner.proofs.Repeats.{underway-start, step_fits, underway-step, step_less, stops}
use Rattle.planner.proofs.search.run.Goals as goal

pub loop-answer-init : goal.loop-answer-init
loop-answer-init c = underway-start _ _ _ _ _ c.requires

pub step-requires : goal.step-requires
step-requires c = step_fits _ _ _ _ _ _ _ _ c.loop-answer.invariant

pub loop-answer-smaller : goal.loop-answer-smaller
loop-answer-smaller c = step_less _ _ _ _ _ _ _ _ c.loop-answer.invariant _ _ _ (rw c.in_default.is at c.step.ensures)

pub loop-answer-preserved : goal.loop-answer-preserved
loop-answer-preserved c = underway-step _ _ _ _ _ _ _ _ c.loop-answer.invariant _ _ _ (rw c.in_default.is at c.step.ensures)

pub returns-in-Some : goal.returns-in-Some
returns-in-Some c = stops _ _ _ _ _ _ _ _ c.loop-answer.invariant _ _ _ _ c.in-Some.ensures
