use native.Mathlib.Omega.{arith}
use mathlib.Core.Path.{◌∙◌}
use borrow.Author.Tests.{le-ltb}
use Rattle.tasks.specs.Views.{no_entry}
use Rattle.tasks.proofs.Positions.{in_use-length, in_use-at, idle-may, none-may, task-may}
use Rattle.tasks.proofs.TaskSet.may_choose.Goals as goal

pub returns-then-choice-eq-IDLE : goal.returns-then-choice-eq-IDLE
returns-then-choice-eq-IDLE c = idle-may _ _ _ c.if-choice-eq-IDLE.true

pub returns-then-i-used : goal.returns-then-i-used
returns-then-i-used c =
    let l = in_use-length _ _ c.used-used.ensures.tasks in
    let t = in_use-at _ _ c.used-used.ensures.tasks c.from-i.result no_entry c.if-i-used.true in
    c.is_ready.ensures ∙ task-may _ _ _ _ c.if-choice-eq-IDLE.false (omega arith) (c.standing_at.ensures ∙ rw (c.from.ensures, t, c.from-i.ensures))

pub returns-else-i-used : goal.returns-else-i-used
returns-else-i-used c =
    let l = in_use-length _ _ c.used-used.ensures.tasks in
    le-ltb _ _ c.if-i-used.false ∙ none-may _ _ _ c.if-choice-eq-IDLE.false (omega arith)
