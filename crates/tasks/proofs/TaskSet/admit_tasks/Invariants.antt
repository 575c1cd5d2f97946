use mathlib.Core.Path.{◌≡◌}
use Rattle.std.specs.Prelude.{map, drop}
use Rattle.rules.specs.Records.{tasks_refusal, used}
use Rattle.tasks.specs.Views.{entry_of, record_of}
use Rattle.tasks.proofs.TaskSet.admit_tasks.Given as goal

-- the tasks passed are admissible, so the rest decides
abbrev pub invariant-loop-task : goal.invariant-loop-task
invariant-loop-task l = tasks_refusal (map entry_of (drop l.task-index l.task-items)) ≡ tasks_refusal (used (record_of l.self))
