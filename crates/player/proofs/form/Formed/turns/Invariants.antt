-- There are at most eight tasks, and the turns before place i are taken.
use Prim.Native.Nat.{◌≤◌}
use lib.ListN.{length}
use Rattle.player.proofs.Rounds.{Taken}
use Rattle.player.proofs.form.Formed.turns.Given as goal

abbrev pub invariant-loop-i : goal.invariant-loop-i
invariant-loop-i l = (length l.reports ≤ 8) × Taken l.self.state.now l.entry l.reports l.i l.jobs l.faults l.runner
