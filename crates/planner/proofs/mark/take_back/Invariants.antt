-- `planner::mark::take_back`: the progress before a slot, task by task, with the bit of each. Assumes nothing.
use mathlib.Core.Path.{◌≡◌}
use Rattle.planner.proofs.Loops.{Filled, Kept, halved, back}
use Rattle.planner.proofs.mark.take_back.Given as goal

abbrev pub invariant-loop-i : goal.invariant-loop-i
invariant-loop-i l = Filled (back l.slot l.mark) l.rows l.initial.progress l.i l.progress × Kept l.i l.initial.progress l.progress × (l.bits ≡ halved l.mark l.i)
