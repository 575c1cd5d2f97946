-- The tidy set, and as many finished jobs as it has tasks.
use Rattle.tasks.proofs.Positions.{in_use-length}
use Rattle.player.proofs.Starts.{fresh-is}
use Rattle.player.proofs.begin.fresh_state.Goals as goal

pub returns-clause-begun : goal.returns-clause-begun
returns-clause-begun c = fresh-is _ _ _ _ c.tidy_set.ensures (in_use-length _ _ c.used.ensures.tasks) c.fresh_jobs.ensures
