use Rattle.tasks.proofs.Slotwise.{Through}
use Rattle.tasks.proofs.TaskSet.advance.Given as goal

-- the tasks before place i are taken on
abbrev pub invariant-loop-i : goal.invariant-loop-i
invariant-loop-i l = Through l.self l.at.slot l.at.progress l.choice l.i l.legal l.progress
