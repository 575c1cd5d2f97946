-- `planner::search::first_task`: a task that does not lead on is passed. Assumes nothing.
use Rattle.planner.proofs.Firsts.{missed-none, missed-step, missed-again, first-hit, stay-hit, first-none}
use mathlib.Core.Path.{ap}
use mathlib.Core.Bool.{not}
use Rattle.planner.proofs.search.first_task.Goals as goal
use Rattle.planner.proofs.search.first_task.Goals.{in-Some+then-allows+else-not-seen, in-Some+else-allows, in_default-go}

pub loop-i-preserved : goal.loop-i-preserved
loop-i-preserved c =
    let v = c.loop-i.invariant in
    elim c.match-go-i.branch [
      | in-Some+then-allows+else-not-seen w ↦ missed-again _ _ _ _ _ _ _ _ _ _ _ _ v w.in-Some.is w.allows.ensures _ w.if-allows.true w.seen.ensures (ap not w.if-not-seen.false) _ w.stay-is
      | in-Some+else-allows w ↦ missed-step _ _ _ _ _ _ _ _ _ _ _ _ v w.in-Some.is w.allows.ensures w.if-allows.false _ w.stay-is
      | in_default-go w ↦ missed-none _ _ _ _ _ _ _ _ _ _ _ v w.in_default-go.not-Some w.stay-is
    ]

pub returns-then-not-seen-clause-first : goal.returns-then-not-seen-clause-first
returns-then-not-seen-clause-first c =
    first-hit _ _ _ _ _ _ _ _ _ _ _ _ c.loop-i.invariant c.in-Some.is c.allows.ensures _ c.if-allows.true c.seen.ensures c.loop-i-test.true (ap not c.if-not-seen.true)

pub returns-then-not-seen-clause-reached : goal.returns-then-not-seen-clause-reached
returns-then-not-seen-clause-reached c = stay-hit _ _ _ _ _ _ _ _ _ _ _ _ c.loop-i.invariant c.in-Some.is c.allows.ensures

pub returns-clause-first : goal.returns-clause-first
returns-clause-first c = first-none _ _ _ _ _ _ _ _ _ _ c.loop-i.invariant c.loop-i-test.false
