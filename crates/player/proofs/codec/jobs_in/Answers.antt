use Rattle.std.proofs.Common.{rules, arith, below_more, refl, ◌≡◌, ◌+◌, ◌*◌, get_or, []}
use Rattle.player.specs.Views.{jobs_of}
use Rattle.player.specs.Bytes.{state_at}
use Rattle.player.proofs.Places.{got-step, got-end}
use Rattle.player.proofs.Pieces.{job_read, stand_read, all_known, none_readable}
use Rattle.player.proofs.codec.jobs_in.Goals as goal

pub returns-in_err-jobs-clause-readable : goal.returns-in_err-jobs-clause-readable
returns-in_err-jobs-clause-readable c =
    let e : get_or (get_or c.as_chunks.result.0.now c.loop-i.i []) 0 0 ≡ get_or c.args.bytes.now (115 + c.loop-i.i * 3) 0 = stand_read c.args.bytes.now 115 24 _ c.loop-i.i _ c.as_chunks.ensures.front (search rules) (omega arith) in
    none_readable c.args.bytes.now _ c.loop-i.i c.from_residual.ensures (omega arith) (λ q. c.in_err-jobs.ensures.known.1 (omega (arith, e)))

pub loop-i-preserved : goal.loop-i-preserved
loop-i-preserved c =
    let e : get_or (get_or c.as_chunks.result.0.now c.loop-i.i []) 0 0 ≡ get_or c.args.bytes.now (115 + c.loop-i.i * 3) 0 = stand_read c.args.bytes.now 115 24 _ c.loop-i.i _ c.as_chunks.ensures.front (search rules) (omega arith) in
    record {
      got = got-step _ _ _ _ c.loop-i.i c.loop-i.jobs _ c.loop-i.invariant.got (search rules) (job_read c.args.bytes.now 115 24 _ c.loop-i.i _ _ c.as_chunks.ensures.front (search rules) (omega arith) c.in_ok-jobs.ensures.value);
      known = below_more _ _ c.loop-i.invariant.known (omega (arith, e, c.in_ok-jobs.ensures.known.0 refl));
    }

pub returns-clause-readable : goal.returns-clause-readable
returns-clause-readable c = (λ _. all_known _ (omega arith) (λ k h. c.loop-i.invariant.known k (omega arith)), λ _. refl)

pub returns-clause-value : goal.returns-clause-value
unfolding jobs_of state_at
returns-clause-value c = got-end _ _ _ _ _ _ c.loop-i.invariant.got (search rules)
