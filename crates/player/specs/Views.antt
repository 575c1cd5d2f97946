-- What the player's structs stand for in the rules. Arrays are read by place.
use Rattle.std.specs.Prelude.{ℕ, ◌<◌, List, Option, Some, None, IfSome, get_or}
use Rattle.rules.specs.Lists.{tabulate}
use Rattle.rules.specs.Jobs as model
use Rattle.rules.specs.States.{StateRecord}
use Rattle.tasks.specs.Views.{record_of}
use Rattle.player.specs.declared.Cause.{Cause}
use Rattle.player.specs.declared.Cause.TheVariants.{Overrun, Late, Untrue}
use Rattle.player.specs.declared.Stand.{Stand}
use Rattle.player.specs.declared.Stand.TheVariants.{Ready, Waiting, Done, Stopped}
use Rattle.player.specs.declared.Job.{Job}
use Rattle.player.specs.declared.State.{State}

unfoldable pub cause_of : Cause → model.Cause
cause_of Overrun = model.overrun
cause_of Late = model.late
cause_of Untrue = model.untrue

-- "0 none, 1 overrun, 2 late, 3 false"
abbrev pub fault_of : Cause → ℕ
fault_of Overrun = 1
fault_of Late = 2
fault_of Untrue = 3

abbrev pub fault_number : Option Cause → ℕ
fault_number None = 0
fault_number (Some c) = fault_of c

unfoldable pub stand_of : Stand → model.Stand
stand_of Ready = model.Ready
stand_of Waiting = model.Waiting
stand_of Done = model.Done
stand_of (Stopped c) = model.Stopped (cause_of c)

unfoldable pub job_of : Job → model.Job
job_of j = record { step = j.step; given = j.given; stand = stand_of j.stand }

-- what the logic reads past the end of an array of jobs
abbrev pub no_job : Job
no_job = record { stand = Ready; step = 0; given = 0 }

-- the eight numbers of an array
unfoldable pub eight : List ℕ → List ℕ
eight p = tabulate (λ i. get_or p i 0) 0 8

unfoldable pub jobs_of : List Job → List model.Job
jobs_of js = tabulate (λ i. job_of (get_or js i no_job)) 0 8

unfoldable pub faults_of : List (Option Cause) → List ℕ
faults_of fs = tabulate (λ i. fault_number (get_or fs i None)) 0 8

-- the number of who runs: 255 for nobody
abbrev pub runner_number : Option ℕ → ℕ
runner_number None = 255
runner_number (Some i) = i

-- who runs, if anybody does, is one of the eight tasks
abbrev pub IsTask : Option ℕ → Type 0
IsTask r = IfSome r (λ i. i < 8)

unfoldable pub state_of : State → StateRecord
state_of st = record { set = record_of st.set; slot = st.slot; planned = eight st.planned; jobs = jobs_of st.jobs; last = runner_number st.last }
