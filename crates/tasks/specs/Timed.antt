-- The task of the rules that a timed one stands for.
use Rattle.std.specs.Prelude.{take}
use Rattle.rules.specs.Tasks as model
use Rattle.tasks.specs.declared.timed.Timed.{Timed}

-- the task of the rules, with the pattern's entries in use
unfoldable pub timed_task : Timed → model.Task
timed_task t = record { period = t.period; deadline = t.deadline; pattern = take t.entries t.pattern }
