-- `planner::search::run`: what is reached from the search as it stands is reached from its start. The measure is what is left to search.
use Rattle.rules.proofs.Plan.Ends.{left}
use Rattle.planner.specs.Views.{number_in}
use Rattle.planner.proofs.Repeats.{Underway}
use Rattle.planner.proofs.search.run.Given as goal

abbrev pub invariant-loop-answer : goal.invariant-loop-answer
invariant-loop-answer l = Underway l.frame.rows.now l.frame.h l.frame.room l.initial.table l.initial.area l.table l.area l.at

abbrev pub decreases-loop-answer : goal.decreases-loop-answer
decreases-loop-answer l = left l.frame.room l.frame.h l.at.recorded l.at.slot (number_in l.at.choice)
