-- `planner::plan` replies as the rules say. Assumes nothing.
use Rattle.planner.proofs.Replies.{set-refused-too, table-short, never-begun, opens, may-spell, first_found, none_found}
use mathlib.Core.Path.{ap}
use mathlib.Core.Bool.{not}
use Rattle.planner.proofs.plan.Goals as goal

pub returns-in_err-h : goal.returns-in_err-h
returns-in_err-h c = set-refused-too _ _ _ _ _ c.in_err-h.ensures.refused c.from_residual.ensures.1

pub returns-then-table-slots : goal.returns-then-table-slots
returns-then-table-slots c = table-short _ _ _ _ c.in_ok-h.ensures.admitted.0 c.in_ok-h.ensures.admitted.1 c.if-table-slots.true

pub returns-then-not-is_live : goal.returns-then-not-is_live
returns-then-not-is_live c = never-begun _ _ _ _ c.in_ok-h.ensures.admitted.0 c.in_ok-h.ensures.admitted.1 c.if-table-slots.false _ c.is_live.ensures (ap not c.if-not-is_live.true) _ c.fill.ensures

pub run-answer-requires : goal.run-answer-requires
run-answer-requires c =
    opens _ _ _ _ c.in_ok-h.ensures.admitted.0 c.in_ok-h.ensures.admitted.1 c.if-table-slots.false _ c.is_live.ensures (ap not c.if-not-is_live.false) _ c.of-rows.ensures

pub spell-requires-clause-listed : goal.spell-requires-clause-listed
spell-requires-clause-listed c =
    (may-spell _ _ _ _ c.in_ok-h.ensures.admitted.0 c.in_ok-h.ensures.admitted.1 c.if-table-slots.false _ c.is_live.ensures (ap not c.if-not-is_live.false) _ c.of-rows.ensures _ _ _ c.run-answer.ensures c.in-Schedule.is).1

pub returns-in-Schedule : goal.returns-in-Schedule
returns-in-Schedule c =
    first_found _ _ _ _ c.in_ok-h.ensures.admitted.0 c.in_ok-h.ensures.admitted.1 c.if-table-slots.false _ c.is_live.ensures (ap not c.if-not-is_live.false) _ c.of-rows.ensures _ _ _ c.run-answer.ensures _ c.in-Schedule.is c.spell.ensures

pub returns-in-Infeasible : goal.returns-in-Infeasible
returns-in-Infeasible c =
    none_found _ _ _ _ c.in_ok-h.ensures.admitted.0 c.in_ok-h.ensures.admitted.1 c.if-table-slots.false _ c.is_live.ensures (ap not c.if-not-is_live.false) _ c.of-rows.ensures _ _ _ c.run-answer.ensures _ c.in-Infeasible.is c.fill-in-Infeasible.ensures
