use Rattle.rules.specs.Tasks.{span}
use Rattle.tasks.proofs.OneTask.{sum-same}
use mathlib.Core.Path.{◌∙◌}
use Rattle.tasks.proofs.Task.length.Goals as goal

pub returns : goal.returns
unfolding span
returns c = c.total.ensures ∙ rw c.entries.ensures.pattern (sum-same _)
