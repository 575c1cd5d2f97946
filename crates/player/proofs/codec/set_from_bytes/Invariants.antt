-- the tasks before place i are read
use Rattle.std.proofs.Common.{◌+◌, ◌*◌}
use Rattle.tasks.specs.Views.{no_entry, entry_of}
use Rattle.player.specs.Bytes.{task_at}
use Rattle.player.proofs.Places.{Got}
use Rattle.player.proofs.codec.set_from_bytes.Given as goal

abbrev pub invariant-loop-i : goal.invariant-loop-i
invariant-loop-i l = Got 8 entry_of no_entry (λ k. task_at l.bytes (1 + k * 12)) l.i l.tasks
