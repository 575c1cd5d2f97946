-- `planner::ahead::look_ahead`: each task's ways, from the last task down. Assumes nothing.
use borrow.Author.Rules.{rules}
use Rattle.planner.proofs.Outlooks.{looked-start, looked-late, looked-well, looked-end, saved-start, saved-step, saved_end}
use Rattle.planner.proofs.ahead.look_ahead.Goals as goal

pub loop-i-init : goal.loop-i-init
loop-i-init c = (search (rules, looked-start), search (rules, saved-start))

pub loop-i-preserved-then-not-way : goal.loop-i-preserved-then-not-way
loop-i-preserved-then-not-way c =
    let v = c.loop-i.invariant in
    let s = saved-step _ _ _ _ _ _ _ _ _ _ v.0 c.loop-i-test.true v.1 in
    (looked-late _ _ _ _ _ _ _ _ _ v.0 c.loop-i-test.true _ _ _ _ _ c.ways_of-way.ensures c.if-not-way.true, s)

pub loop-i-preserved : goal.loop-i-preserved
loop-i-preserved c =
    let v = c.loop-i.invariant in
    let s = saved-step _ _ _ _ _ _ _ _ _ _ v.0 c.loop-i-test.true v.1 in
    (looked-well _ _ _ _ _ _ _ _ _ v.0 c.loop-i-test.true _ _ _ _ _ c.ways_of-way.ensures c.if-not-way.false, s)

pub returns-clause-saved : goal.returns-clause-saved
returns-clause-saved c = saved_end _ _ _ _ _ (search rules) c.loop-i.invariant.1 c.loop-i-test.false

pub returns-clause-ahead : goal.returns-clause-ahead
returns-clause-ahead c = looked-end _ _ _ _ _ _ _ _ _ _ c.loop-i.invariant.0 c.loop-i-test.false c.urgent_from.ensures
