-- Document 01, "The player": a tick of all tasks.
use Rattle.std.specs.Prelude.{cond, ◌&&◌, List, ℕ, suc, ◌%◌, ltb, eqb, length, get_or, replicate}
use Rattle.rules.specs.Lists.{tabulate}
use Rattle.rules.specs.Tasks.{Task, no_task}
use Rattle.rules.specs.Hyper.{hyper}
use Rattle.rules.specs.Positions.{idle, next}
use Rattle.rules.specs.Jobs.{Job, finished, Turn, turn}

-- the whole state
pub record State : Type 0 where
  pub slot : ℕ
  pub planned : List ℕ
  pub jobs : List Job
  pub last : ℕ

-- "Fresh state: start position, all done, nobody ran."
unfoldable pub fresh : List Task → State
fresh s = record { slot = 0; planned = replicate (length s) 0; jobs = replicate (length s) finished; last = idle }

-- the turn of task i + 1: its own task, planned progress, job and report
unfoldable pub turn_of : List Task → List ℕ → State → List ℕ → ℕ → Turn
turn_of s table st reports i =
    turn (get_or s i no_task) st.slot (get_or st.planned i 0) (eqb (get_or table st.slot idle) i) (eqb st.last i) (get_or st.jobs i finished) (get_or reports i 0)

-- "The reply is the runner or 255, one fault byte per task and the new state"
pub record Ticked : Type 0 where
  pub runner : ℕ
  pub faults : List ℕ
  pub state : State

-- the owner e of the slot if it runs, else idle
unfoldable pub runner_of : List Task → List ℕ → State → List ℕ → ℕ → ℕ
runner_of s table st reports e = cond (ltb e (length s) && (turn_of s table st reports e).runs) e idle

-- a tick: every task takes its turn; "the slot after H − 1 is 0"
unfoldable pub tick : List Task → List ℕ → State → List ℕ → Ticked
tick s table st reports =
    let e = get_or table st.slot idle in
    let r = runner_of s table st reports e in
    record {
      runner = r;
      faults = tabulate (λ i. (turn_of s table st reports i).fault) 0 (length s);
      state = record {
        slot = suc st.slot % hyper s;
        planned = (next s (record { slot = st.slot; progress = st.planned }) e).progress;
        jobs = tabulate (λ i. (turn_of s table st reports i).job) 0 (length s);
        last = r;
      };
    }

-- all of the above, for proofs that compute
unfoldable pub open_player : Type 0
unfolding fresh turn_of runner_of tick
open_player = Unit {0}
