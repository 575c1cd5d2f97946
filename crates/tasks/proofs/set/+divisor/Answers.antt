-- `tasks::set::divisor` is the greatest common divisor of the rules. The measure is `b`. Assumes nothing.
use native.Mathlib.Nat.{pos_of_ne-zero}
use Rattle.tasks.proofs.Multiple.{divisor-zero, divisor-step}
use Rattle.tasks.proofs.set.+divisor.Goals as goal

pub returns-then-b-eq0 : goal.returns-then-b-eq0
returns-then-b-eq0 t c = divisor-zero _ _ c.if-b-eq0.true

pub returns-else-b-eq0 : goal.returns-else-b-eq0
returns-else-b-eq0 t c = divisor-step _ _ _ (pos_of_ne-zero c.if-b-eq0.false) c.divisor.ensures
