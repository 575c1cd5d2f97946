-- the jobs before place i are written
use Rattle.std.proofs.Common.{List, ℕ, [], get_or}
use Rattle.player.specs.Views.{no_job, job_of}
use Rattle.player.specs.Bytes.{job_bytes}
use Rattle.player.proofs.Places.{Got}
use Rattle.player.proofs.codec.jobs_to_bytes.Given as goal

abbrev pub invariant-loop-i : goal.invariant-loop-i
invariant-loop-i l = Got 8 (λ (piece : List ℕ). piece) [] (λ k. job_bytes (job_of (get_or l.jobs k no_job))) l.i l.held
