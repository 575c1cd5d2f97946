-- n finished jobs, and blank ones behind them.
use mathlib.Core.Path.{◌≡◌, refl, ◌∙◌}
use lib.ListN.{length, take, replicate}
use lib.Seq.{length-take-le}
use native.Mathlib.Omega.{arith}
use Rattle.rules.specs.States.{blank_job}
use Rattle.player.specs.Views.{no_job, stand_of, job_of}
use Rattle.player.proofs.Starts.{fresh-jobs}
use Rattle.player.proofs.begin.fresh_jobs.Goals as goal

pub returns : goal.returns
unfolding job_of stand_of blank_job
returns c =
    let j = c.default-jobs.result in
    let l : length (take c.args.n (replicate 8 j)) ≡ c.args.n = length-take-le c.args.n (replicate 8 j) c.requires in
    fresh-jobs j c.done.result c.args.n c.fill.new.self c.requires (c.fill.ensures.len ∙ l) (λ k h. c.fill.ensures.clones k no_job (omega arith) refl) (grind arith) c.done.ensures
