-- What the code's structs stand for in the rules. Arrays are read by place, so a view has eight entries of seven units whatever it is given.
use Rattle.std.specs.Prelude.{ℕ, cond, List, [], leb, eqb, length, get_or, take, Option, Some, None}
use Rattle.rules.specs.Lists.{tabulate, padded}
use Rattle.rules.specs.Tasks as model
use Rattle.rules.specs.Hyper.{lcm}
use Rattle.rules.specs.Positions.{Position}
use Rattle.rules.specs.Records.{TaskRecord, SetRecord, task_in, set_in}
use Rattle.tasks.specs.declared.Task.{Task}
use Rattle.tasks.specs.declared.TaskSet.{TaskSet}
use Rattle.tasks.specs.declared.Standing.{Standing}
use Rattle.tasks.specs.declared.Standing.TheVariants.{Ready, Waiting, Done}

-- what the logic reads past the end of an array of tasks
abbrev pub no_entry : Task
no_entry = record { period = 0; deadline = 0; steps = 0; pattern = [] }

-- a task as it is handed over
unfoldable pub entry_of : Task → TaskRecord
entry_of t = record { period = t.period; deadline = t.deadline; steps = t.steps; units = tabulate (λ i. get_or t.pattern i 0) 0 7 }

-- a set as it is handed over
unfoldable pub record_of : TaskSet → SetRecord
record_of s = record { count = s.count; entries = tabulate (λ i. entry_of (get_or s.tasks i no_entry)) 0 8 }

-- the task of the rules, with the pattern's entries in use
unfoldable pub task_of : Task → model.Task
task_of t = task_in (entry_of t)

-- the set of the rules, with the tasks in use
unfoldable pub set_of : TaskSet → List model.Task
set_of s = set_in (record_of s)

-- the progress of the tasks in use
unfoldable pub progress_of : TaskSet → List ℕ → List ℕ
progress_of s p = take (length (set_of s)) p

-- a slot and the progress of the tasks in use
unfoldable pub position_of : TaskSet → ℕ → List ℕ → Position
position_of s t p = record { slot = t; progress = progress_of s p }

-- progress as an array: zeros beyond the tasks in use
unfoldable pub array_of : List ℕ → List ℕ
array_of ps = padded 8 0 ps

unfoldable pub standing_of : Standing → model.Standing
standing_of Ready = model.ready
standing_of Waiting = model.waiting
standing_of Done = model.done

-- a hyper-period, if it is at most 4,096
unfoldable pub within : ℕ → Option ℕ
within h = cond (leb h 4096) (Some h) None

-- a period with the multiple of those behind it, if that is at most 4,096: a period 0 makes it 0
unfoldable pub joined : ℕ → Option ℕ → Option ℕ
joined p None = cond (eqb p 0) (Some 0) None
joined p (Some h) = within (lcm p h)
