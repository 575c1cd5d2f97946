-- `planner::search::lead_on` adds the first choice that leads on to the list, or finds none. Assumes nothing.
use borrow.Author.Rules.{rules}
use Rattle.planner.proofs.Trials.{mark-fits, adds-task, adds-idle, spent_seen, spent-urgent}
use Rattle.planner.proofs.search.lead_on.Goals as goal
use Rattle.planner.proofs.search.lead_on.Goals.{in-Some, in-None, then-is_nobody+else-not-seen, else-is_nobody}

pub overflow_add-mark : goal.overflow_add-mark
overflow_add-mark c =
    let f = c.first_task-task.ensures in
    record {
      fits = mark-fits _ _ _ _ _ c.requires _ _ _ _ c.look_ahead-ahead.ensures.ahead _ f.first (search rules) (search rules) _ f.reached _ c.in-Some.is _ c.bit_of.ensures;
    }

pub returns-in-None-2 : goal.returns-in-None-2
returns-in-None-2 c =
    let f = c.first_task-task.ensures in
    elim c.if-is_nobody.branch [
      | then-is_nobody+else-not-seen w ↦ spent_seen _ _ _ _ _ c.requires _ _ _ _ c.look_ahead-ahead.ensures.ahead _ f.first (search rules) (search rules) _ f.reached c.in-None.is _ c.look_ahead-ahead.ensures.saved _ w.seen.ensures (search rules)
      | else-is_nobody w ↦ spent-urgent _ _ _ _ _ c.requires _ _ _ _ c.look_ahead-ahead.ensures.ahead _ f.first (search rules) (search rules) _ f.reached c.in-None.is _ c.look_ahead-ahead.ensures.saved _ c.is_nobody.ensures w.if-is_nobody.false
    ]

pub returns : goal.returns
returns c =
    let f = c.first_task-task.ensures in
    elim c.match-task.branch [
      | in-Some w ↦ adds-task _ _ _ _ _ c.requires _ _ _ _ c.look_ahead-ahead.ensures.ahead _ f.first (search rules) (search rules) _ f.reached _ w.in-Some.is _ _ w.bit_of.ensures w.mark-is
      | in-None w ↦ adds-idle _ _ _ _ _ c.requires _ _ _ _ c.look_ahead-ahead.ensures.ahead _ f.first (search rules) (search rules) _ f.reached w.in-None.is _ _ _ w.is_nobody.ensures w.if-is_nobody.true w.seen.ensures (search rules) w.mark-is
    ]
