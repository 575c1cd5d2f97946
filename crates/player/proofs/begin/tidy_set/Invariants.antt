-- The entries before place i are tidy, and blank ones follow.
use Prim.Native.Nat.{◌≤◌}
use lib.ListN.{length}
use Rattle.player.proofs.Starts.{Tidied}
use Rattle.player.proofs.begin.tidy_set.Given as goal

abbrev pub invariant-loop-i : goal.invariant-loop-i
invariant-loop-i l = (length l.task-items ≤ 8) × Tidied l.task-items l.i l.tasks
