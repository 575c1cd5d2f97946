-- `planner::mark::spell`: marks into choices, slot by slot, with the position. Assumes nothing.
use Rattle.planner.proofs.Loops.{Spelling}
use Rattle.planner.proofs.mark.spell.Given as goal

abbrev pub invariant-loop-slot : goal.invariant-loop-slot
invariant-loop-slot l = Spelling l.rows l.h l.initial.table l.slot l.table l.progress
