-- The tasks of a set in rows, which the search reads in place.
use Rattle.std.specs.Prelude.{List, ℕ, ◌≤◌, ◌<◌, map, get_or}
use Rattle.rules.specs.Lists.{tabulate}
use Rattle.rules.specs.Tasks.{Task, no_task}
use Rattle.tasks.specs.declared.timed.Timed.{Timed}
use Rattle.tasks.specs.Timed.{timed_task}
use Rattle.planner.specs.declared.rows.Rows.{Rows}

-- the task of a row
unfoldable pub task_at : List Timed → ℕ → Task
task_at rows i = get_or (map timed_task rows) i no_task

-- the tasks in use
unfoldable pub row_tasks : Rows → List Task
row_tasks rows = tabulate (task_at rows.tasks) 0 rows.count

-- progress far from the end of 16 bits
unfoldable pub Modest : ℕ → List ℕ → Type 0
Modest n ps = (j : ℕ) → j < n → get_or ps j 0 ≤ 4096
