-- `planner::mark::spell`: marks into choices, slot by slot, with the position. Assumes nothing.
use borrow.Author.Rules.{rules}
use Rattle.planner.proofs.Loops.{spelling-start, spelling-modest, spelling-step, spelling-end}
use Rattle.planner.proofs.mark.spell.Goals as goal

pub loop-slot-init : goal.loop-slot-init
loop-slot-init c = search (rules, spelling-start)

pub go_along-requires : goal.go_along-requires
go_along-requires c = search (rules, spelling-modest)

pub loop-slot-preserved : goal.loop-slot-preserved
loop-slot-preserved c =
    spelling-step _ _ _ _ _ _ c.loop-slot.invariant c.loop-slot-test.true _ c.choice_from.ensures _ (search rules) c.go_along.ensures

pub returns : goal.returns
returns c = search (rules, spelling-end)
