-- the numbers before place i are written
use Rattle.std.proofs.Common.{List, ℕ, [], get_or}
use Rattle.player.specs.Bytes.{pair}
use Rattle.player.proofs.Places.{Got}
use Rattle.player.proofs.codec.planned_to_bytes.Given as goal

abbrev pub invariant-loop-i : goal.invariant-loop-i
invariant-loop-i l = Got 8 (λ (piece : List ℕ). piece) [] (λ k. pair (get_or l.planned k 0)) l.i l.held
