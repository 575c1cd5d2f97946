-- The form of a state, as the code tests it: the tasks in use one by one.
use Rattle.std.specs.Prelude.{◌≡◌, Bool, not, ◌&&◌, ◌||◌, ℕ, ◌%◌, leb, length, drop}
use Rattle.rules.specs.Lists.{all_of, is_zero}
use Rattle.rules.specs.Tasks.{Task, span}
use Rattle.rules.specs.Positions.{starts, in_time, next, legal}
use Rattle.rules.specs.Records.{TaskRecord, task_in, used, set_in}
use Rattle.rules.specs.Jobs as model
use Rattle.tasks.specs.declared.position.Onward.{Onward}
use Rattle.tasks.specs.Views.{set_of, position_of, array_of}
use Rattle.player.specs.declared.State.{State}
use Rattle.rules.specs.States.{StateRecord, is_blank_job, is_blank_task, units_tidy, planned_form, job_form, jobs_form, last_form, in_use}

-- planned progress at slot t: at most the length, 0 where the job starts, and in time
abbrev pub plan_fits : ℕ → Task → ℕ → Bool
plan_fits t τ p = (leb p (span τ) && (not (starts t τ) || is_zero p)) && in_time (t % τ.period) τ p

-- a task in use, its planned progress and its job
abbrev pub task_fits : ℕ → TaskRecord → ℕ → Bool → model.Job → Bool
task_fits t r p ran j = plan_fits t (task_in r) p && (job_form (task_in r) ran j && units_tidy r)

-- so fit the tasks in use from number i + 1 on
unfoldable pub tasks_fit : StateRecord → ℕ → Bool
tasks_fit w i = planned_form (drop i (set_in w.set)) w.slot (drop i (in_use w).planned)
    && (jobs_form w.last i (drop i (set_in w.set)) (drop i (in_use w).jobs) && all_of units_tidy (drop i (used w.set)))

-- the parts not in use are zero
unfoldable pub rest_fits : StateRecord → Bool
rest_fits w = all_of is_blank_task (drop w.set.count w.set.entries) && (all_of is_zero (drop w.set.count w.planned) && all_of is_blank_job (drop w.set.count w.jobs))

-- the last runner, and the parts not in use
unfoldable pub others_fit : StateRecord → Bool
others_fit w = last_form (length (set_in w.set)) w.last (in_use w).jobs && rest_fits w

-- the form of all but the set and the slot: the tasks in use, and the others
unfoldable pub parts_fit : StateRecord → Bool
parts_fit w = tasks_fit w 0 && others_fit w

-- where a choice leads from the planned position
pub record Leads (st : State) (choice : ℕ) (onward : Onward) : Type 0 where
  pub leads : onward.legal ≡ legal (set_of st.set) (position_of st.set st.slot st.planned) choice
  pub lands : onward.progress ≡ array_of (next (set_of st.set) (position_of st.set st.slot st.planned) choice).progress
