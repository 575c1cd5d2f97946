use Rattle.player.specs.Bytes.{pair_at}
use Rattle.player.proofs.Places.{Got}
use Rattle.std.proofs.Common.{ℕ, ◌+◌, ◌*◌}
use Rattle.player.proofs.codec.planned_in.Given as goal

-- the numbers before place i are read
abbrev pub invariant-loop-i : goal.invariant-loop-i
invariant-loop-i l = Got 8 (λ (p : ℕ). p) 0 (λ k. pair_at l.bytes (99 + k * 2)) l.i l.planned
