-- The table from this slot on tells of all.
use Rattle.player.proofs.Starts.{Followed}
use Rattle.player.proofs.begin.is_live.Given as goal

abbrev pub invariant-loop-entry : goal.invariant-loop-entry
invariant-loop-entry l = Followed l.set l.table l.at.slot l.entry-index l.at.progress
