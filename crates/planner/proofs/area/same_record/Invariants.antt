-- `planner::area::same_record`: the record at a place, compared number by number. Assumes nothing.
use Rattle.planner.proofs.Records.{Alike}
use Rattle.planner.proofs.area.same_record.Given as goal

abbrev pub invariant-loop-j : goal.invariant-loop-j
invariant-loop-j l = Alike l.area l.at l.n l.slot l.progress l.j
