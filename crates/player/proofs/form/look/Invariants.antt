use Rattle.std.proofs.Common.{◌≡◌}
use Rattle.tasks.proofs.Slotwise.{Through}
use Rattle.player.specs.Views.{state_of}
use Rattle.player.specs.Forms.{tasks_fit}
use Rattle.player.proofs.form.look.Given as goal

-- the tasks before place i fit and are taken on; those still to come decide
abbrev pub invariant-loop-i : goal.invariant-loop-i
invariant-loop-i l = (tasks_fit (state_of l.state) l.i ≡ tasks_fit (state_of l.fn.state) 0) × Through l.state.set l.state.slot l.state.planned l.choice l.i l.legal l.progress
