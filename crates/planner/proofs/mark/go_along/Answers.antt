-- `planner::mark::go_along`: the progress after a slot, task by task, with the bit of each. Assumes nothing.
use borrow.Author.Rules.{rules}
use native.Mathlib.Omega.{arith}
use mathlib.Core.Path.{refl}
use Rattle.planner.proofs.Loops.{filled-start, kept-start, kept_step, kept-modest, halved, halved-next, forth-step, forth-end}
use Rattle.planner.proofs.mark.go_along.Goals as goal

pub loop-i-init : goal.loop-i-init
unfolding halved
loop-i-init c = (search (rules, filled-start), search (rules, kept-start), refl)

pub overflow_add-risen : goal.overflow_add-risen
overflow_add-risen c = let m = kept-modest _ _ _ _ c.loop-i.invariant.1 c.requires (search rules) in omega arith

pub loop-i-preserved : goal.loop-i-preserved
loop-i-preserved c =
    let v = c.loop-i.invariant in (
      forth-step _ _ _ _ _ _ _ v.0 v.1 v.2 _ c.in_use-task-items.ensures.tasks c.loop-i-test.true _ c.task-item.is _ _ c.since_end.ensures c.begun.ensures,
      kept_step _ _ _ _ v.1,
      halved-next _ _ _ v.2,
    )

pub returns : goal.returns
returns c = search (rules, forth-end)
