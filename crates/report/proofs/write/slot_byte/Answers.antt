-- A choice that is not idle is below 8, so the sum fits a byte.
use native.Mathlib.Omega.{arith}
use Rattle.report.proofs.Slots.{task-small}
use Rattle.report.proofs.write.slot_byte.Goals as goal

pub overflow_add-result : goal.overflow_add-result
overflow_add-result c = omega (arith, task-small _ c.requires c.if-choice-eq-IDLE.false)
