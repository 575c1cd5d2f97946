-- One task's turn, as the code has it.
use Rattle.std.specs.Prelude.{ℕ, eqb, get_or}
use Rattle.rules.specs.Tasks.{no_task}
use Rattle.rules.specs.Jobs.{finished, Turn, turn}
use Rattle.rules.specs.States.{in_use}
use Rattle.tasks.specs.Views.{task_of, set_of}
use Rattle.player.specs.declared.State.{State}
use Rattle.player.specs.declared.turn.TaskTurn.{TaskTurn}
use Rattle.player.specs.Views.{job_of, runner_number, state_of}

-- the turn of the rules, with its report
abbrev pub turn_in : TaskTurn → ℕ → Turn
turn_in x report = turn (task_of x.task) x.slot x.planned x.owner x.ran (job_of x.job) report

-- the turn of task i + 1 in a slot of this entry
unfoldable pub turn_for : State → ℕ → ℕ → ℕ → Turn
turn_for st entry i report =
    turn (get_or (set_of st.set) i no_task) st.slot (get_or (in_use (state_of st)).planned i 0) (eqb entry i) (eqb (runner_number st.last) i) (get_or (in_use (state_of st)).jobs i finished) report
