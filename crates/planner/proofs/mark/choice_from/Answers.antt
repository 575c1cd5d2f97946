-- `planner::mark::choice_from`: the first ready task whose bit is set, or idle. Assumes nothing.
use borrow.Author.Rules.{rules}
use Rattle.planner.proofs.Loops.{looked-step, looked-found, looked-end}
use Rattle.planner.proofs.mark.choice_from.Goals as goal

pub returns-then-rose : goal.returns-then-rose
returns-then-rose c = looked-found _ _ _ _ _ _ c.loop-i.invariant _ c.in_use-task-items.ensures.tasks c.loop-i-test.true _ c.task-item.is c.rose.ensures c.if-rose.true

pub loop-i-preserved : goal.loop-i-preserved
loop-i-preserved c = looked-step _ _ _ _ _ _ c.loop-i.invariant _ c.in_use-task-items.ensures.tasks c.loop-i-test.true _ c.task-item.is c.rose.ensures c.if-rose.false

pub returns : goal.returns
returns c = search (rules, looked-end)
