-- `planner::mark::take_back`: the progress before a slot, task by task, with the bit of each. Assumes nothing.
use borrow.Author.Rules.{rules}
use mathlib.Core.Path.{refl}
use Rattle.planner.proofs.Loops.{filled-start, kept-start, kept_step, halved, halved-next, back_step, back_end}
use Rattle.planner.proofs.mark.take_back.Goals as goal

pub loop-i-init : goal.loop-i-init
unfolding halved
loop-i-init c = (search (rules, filled-start), search (rules, kept-start), refl)

pub loop-i-preserved : goal.loop-i-preserved
loop-i-preserved c =
    let v = c.loop-i.invariant in (
      rw (c.saturating_sub.ensures) (back_step _ _ _ _ _ _ _ v.0 v.1 v.2 _ c.in_use-task-items.ensures.tasks c.loop-i-test.true _ c.task-item.is _ c.at_end-end.ensures),
      kept_step _ _ _ _ v.1,
      halved-next _ _ _ v.2,
    )

pub returns : goal.returns
returns c = search (rules, back_end)
