use mathlib.Core.Path.{◌≡◌}
use Rattle.std.specs.Prelude.{map, drop}
use Rattle.rules.specs.Hyper.{hyper}
use Rattle.tasks.specs.Views.{task_of, within}
use Rattle.tasks.proofs.TaskSet.hyper_period.Given as goal

-- the tasks behind those that are still to come
abbrev pub invariant-loop-i : goal.invariant-loop-i
invariant-loop-i l = within (hyper (map task_of (drop l.i l.used))) ≡ l.hyper
