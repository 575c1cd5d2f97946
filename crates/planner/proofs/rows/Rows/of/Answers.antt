-- `planner::rows::Rows::of` gives the rows of the tasks in use. Assumes nothing.
use Rattle.planner.proofs.Places.{laying-step, laying-end}
use mathlib.Core.Path.{refl}
use Rattle.planner.proofs.rows.Rows.of.Goals as goal

pub loop-i-preserved : goal.loop-i-preserved
loop-i-preserved c = laying-step _ _ _ c.loop-i.invariant c.loop-i-test.true _ _ c.from.ensures

pub returns : goal.returns
returns c = laying-end _ _ _ _ c.used-used.ensures.tasks c.loop-i.invariant c.loop-i-test.false refl
