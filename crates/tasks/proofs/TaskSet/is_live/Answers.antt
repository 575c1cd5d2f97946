use borrow.Author.Rules.{rules}
use mathlib.Core.Bool.{not}
use mathlib.Core.Path.{ap, refl, ◌∙◌}
use native.Mathlib.Omega.{arith}
use Rattle.rules.specs.Positions.{live_position}
use Rattle.tasks.specs.Views.{no_entry, position_of}
use Rattle.tasks.proofs.Positions.{in_use-length, in_use-at, tests-start, tests-step, tests-fail, tests-pass}
use Rattle.tasks.proofs.TaskSet.is_live.Goals as goal

pub loop-i-init : goal.loop-i-init
loop-i-init c = search (rules, tests-start)

pub returns-then-not-in_time : goal.returns-then-not-in_time
unfolding live_position position_of
returns-then-not-in_time c =
    let l = in_use-length _ _ c.used-task-items.ensures.tasks in
    tests-fail _ _ _ _ _ c.loop-i.invariant (omega arith) (c.in_time.ensures ∙ rw (c.since_start.ensures, c.from-task.ensures, in_use-at _ _ c.used-task-items.ensures.tasks c.loop-i.i no_entry c.loop-i-test.true) refl) (ap not c.if-not-in_time.true)

pub loop-i-preserved : goal.loop-i-preserved
loop-i-preserved c =
    let l = in_use-length _ _ c.used-task-items.ensures.tasks in
    tests-step _ _ _ _ _ c.loop-i.invariant (omega arith) (c.in_time.ensures ∙ rw (c.since_start.ensures, c.from-task.ensures, in_use-at _ _ c.used-task-items.ensures.tasks c.loop-i.i no_entry c.loop-i-test.true) refl) (ap not c.if-not-in_time.false)

pub returns : goal.returns
unfolding live_position position_of
returns c =
    let l = in_use-length _ _ c.used-task-items.ensures.tasks in
    tests-pass _ _ _ _ c.loop-i.invariant (omega arith)
