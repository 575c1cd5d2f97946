use borrow.Author.Rules.{rules}
use native.Mathlib.Omega.{arith}
use mathlib.Core.Path.{◌≡◌, refl, ◌∙◌}
use mathlib.Core.Bool.{◌&&◌}
use Rattle.rules.specs.Positions.{passed}
use Rattle.tasks.specs.Views.{no_entry}
use Rattle.tasks.proofs.Positions.{in_use-length, in_use-at}
use Rattle.tasks.proofs.Slotwise.{through-start, through-step, through-end}
use Rattle.tasks.proofs.TaskSet.advance.Goals as goal
use Rattle.tasks.proofs.TaskSet.advance.Goals.{then-legal, else-legal}

pub loop-i-init : goal.loop-i-init
loop-i-init c = search (rules, through-start)

pub loop-i-preserved : goal.loop-i-preserved
unfolding passed
loop-i-preserved c =
    let l = in_use-length _ _ c.used-task-items.ensures.tasks in
    let a : c.if-legal.legal ≡ c.loop-i.legal && c.pass-passed.result.well = elim c.if-legal.branch [ then-legal w ↦ rw w.if-legal.true w.legal-is | else-legal w ↦ rw w.if-legal.false (w.legal-is ∙ w.if-legal.false) ] in
    through-step _ _ _ _ _ _ _ _ _ _ c.loop-i.invariant (omega arith) (c.pass-passed.ensures.ending ∙ rw (c.from.ensures, c.from-in-loop-i.ensures, in_use-at _ _ c.used-task-items.ensures.tasks c.loop-i.i no_entry c.loop-i-test.true) refl) (c.pass-passed.ensures.on ∙ rw (c.from.ensures, c.from-in-loop-i.ensures, in_use-at _ _ c.used-task-items.ensures.tasks c.loop-i.i no_entry c.loop-i-test.true) refl) a

pub returns-clause-leads : goal.returns-clause-leads
returns-clause-leads c =
    let l = in_use-length _ _ c.used-task-items.ensures.tasks in
    (through-end _ _ _ _ _ _ _ c.loop-i.invariant (omega arith)).0

pub returns-clause-lands : goal.returns-clause-lands
returns-clause-lands c =
    let l = in_use-length _ _ c.used-task-items.ensures.tasks in
    (through-end _ _ _ _ _ _ _ c.loop-i.invariant (omega arith)).1
