-- the tasks before place i are written
use Rattle.std.proofs.Common.{List, ℕ, [], get_or}
use Rattle.tasks.specs.Views.{no_entry, entry_of}
use Rattle.player.specs.Bytes.{task_bytes}
use Rattle.player.proofs.Places.{Got}
use Rattle.player.proofs.codec.set_to_bytes.Given as goal

abbrev pub invariant-loop-i : goal.invariant-loop-i
invariant-loop-i l = Got 8 (λ (piece : List ℕ). piece) [] (λ k. task_bytes (entry_of (get_or l.set.tasks k no_entry))) l.i l.held
