-- `tasks::set::divisor` is the greatest common divisor of the rules. The measure is `b`. Assumes nothing.
use Rattle.tasks.proofs.set.+divisor.Given as goal

abbrev pub decreases-divisor : goal.decreases-divisor
decreases-divisor l = l.b
