-- The steps' units, and zeros behind them.
use Rattle.player.proofs.Starts.{tidy-units}
use Rattle.player.proofs.begin.tidy_task.Goals as goal

pub returns : goal.returns
returns c = rw (c.copy_from_slice.ensures.after) (tidy-units c.args.task.now c.entries-entries.result.now c.entries-entries.ensures.pattern)
