use Rattle.player.specs.Views.{no_job, job_of}
use Rattle.player.specs.Bytes.{job_at}
use Rattle.player.proofs.Places.{Got}
use Rattle.std.proofs.Common.{ℕ, ◌+◌, ◌*◌, ◌≤◌, ◌<◌, get_or}
use Rattle.player.proofs.codec.jobs_in.Given as goal

-- the jobs before place i are read
abbrev pub invariant-loop-i : goal.invariant-loop-i
invariant-loop-i l = record { got : Got 8 job_of no_job (λ k. job_at l.bytes (115 + k * 3)) l.i l.jobs; known : (k : ℕ) → k < l.i → get_or l.bytes (115 + k * 3) 0 ≤ 5 }
