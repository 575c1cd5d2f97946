-- A task set handed over as a record, and the refusal it is given: document 01, "Task set" and the table of refusals.
use Rattle.std.specs.Prelude.{Bool, true, not, cond, ◌&&◌, List, [], ◌∷◌, map, ℕ, zero, suc, ◌+◌, ◌-◌, ◌<◌, leb, ltb, length, take, get_or, ◌≡◌}
use Rattle.rules.specs.Tasks.{Task}
use Rattle.rules.specs.Hyper.{hyper}

-- a task as it is handed over: m steps, of whose units the first 2m - 1 count
pub record TaskRecord : Type 0 where
  pub period : ℕ
  pub deadline : ℕ
  pub steps : ℕ
  pub units : List ℕ

-- a ≤ x ≤ b
unfoldable pub between : ℕ → ℕ → ℕ → Bool
between a b x = leb a x && leb x b

-- all numbers lie between a and b
unfoldable pub all_between : ℕ → ℕ → List ℕ → Bool
all_between a b [] = true
all_between a b (x ∷ xs) = between a b x && all_between a b xs

-- the pattern: the units in use
unfoldable pub pattern_of : TaskRecord → List ℕ
pattern_of r = take (r.steps + r.steps - 1) r.units

-- the task of a record
unfoldable pub task_in : TaskRecord → Task
task_in r = record { period = r.period; deadline = r.deadline; pattern = pattern_of r }

-- 2: m outside 1 to 4; 3: a number outside its range; 4: D greater than T
unfoldable pub task_refusal : TaskRecord → ℕ
task_refusal r = cond (not (between 1 4 r.steps)) 2
    (cond (not (between 1 4096 r.period && (between 1 4096 r.deadline && all_between 1 255 (pattern_of r)))) 3
    (cond (ltb r.period r.deadline) 4 0))

-- the first that is not 0
unfoldable pub or_else : ℕ → ℕ → ℕ
or_else zero n = n
or_else (suc m) n = suc m

-- "task by task": the first task that is refused decides
unfoldable pub tasks_refusal : List TaskRecord → ℕ
tasks_refusal [] = 0
tasks_refusal (r ∷ rs) = or_else (task_refusal r) (tasks_refusal rs)

-- the tasks of records
unfoldable pub tasks_in : List TaskRecord → List Task
tasks_in rs = map task_in rs

-- 5, then task by task 2, 3, 4, then 6; 0 where the set is admissible
unfoldable pub set_refusal : List TaskRecord → ℕ
set_refusal rs = cond (not (between 1 8 (length rs))) 5 (or_else (tasks_refusal rs) (cond (ltb 4096 (hyper (tasks_in rs))) 6 0))

-- what stands for an entry beyond the last
unfoldable pub no_record : TaskRecord
no_record = record { period = 0; deadline = 0; steps = 0; units = [] }

-- "A task set handed over as a record": a number of tasks, which may be any, and entries of which the first so many count
pub record SetRecord : Type 0 where
  pub count : ℕ
  pub entries : List TaskRecord

-- the lengths of the record's arrays, which no caller can change: eight entries, of seven units each
pub record Arrays (r : SetRecord) : Type 0 where
  pub eight : length r.entries ≡ 8
  pub seven : (j : ℕ) → j < 8 → length (get_or r.entries j no_record).units ≡ 7

-- "entries beyond its tasks and steps are ignored"
unfoldable pub used : SetRecord → List TaskRecord
used r = take r.count r.entries

-- the set of a record: its tasks in use
unfoldable pub set_in : SetRecord → List Task
set_in r = tasks_in (used r)

-- "5, then task by task 2, 3, 4, then 6"; 0 where the set is admissible
unfoldable pub record_refusal : SetRecord → ℕ
record_refusal r = cond (not (between 1 8 r.count)) 5 (set_refusal (used r))

-- all of the above, for proofs that compute
unfoldable pub open_records : Type 0
unfolding between all_between pattern_of task_in task_refusal or_else tasks_refusal tasks_in set_refusal no_record used set_in record_refusal
open_records = Unit {0}
