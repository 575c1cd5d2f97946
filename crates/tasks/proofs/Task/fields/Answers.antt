use native.Mathlib.Omega.{arith}
use Rattle.tasks.proofs.OneTask.{pattern-length}
use Rattle.tasks.proofs.Task.fields.Goals as goal

pub returns : goal.returns
returns c = grind (arith, pattern-length)
