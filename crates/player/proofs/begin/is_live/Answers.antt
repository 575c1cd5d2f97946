-- The start of the table tells of all.
use Rattle.player.proofs.Starts.{followed-start}
use Rattle.player.proofs.begin.is_live.Goals as goal

pub loop-entry-init : goal.loop-entry-init
loop-entry-init c = search followed-start
