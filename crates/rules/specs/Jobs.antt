-- Document 01, "The player": one task's turn at a tick.
use Rattle.std.specs.Prelude.{Bool, true, false, cond, ◌&&◌, ℕ, zero, suc, ◌+◌, ltb, eqb, length}
use Rattle.rules.specs.Tasks.{Task, written, place_of}
use Rattle.rules.specs.Positions.{starts}

-- why a job was stopped: overrun, late, or a false report
pub data Cause : Type 0 where
  overrun late untrue : Cause

-- "ready, waiting, done, or stopped with the cause"
pub data Stand : Type 0 where
  Ready Waiting Done : Stand
  Stopped : Cause → Stand

-- a job: its step (from 0), the slots given in that step, and how it stands. Parts not in use are zero
pub record Job : Type 0 where
  pub step : ℕ
  pub given : ℕ
  pub stand : Stand

-- a job whose last step is finished
unfoldable pub finished : Job
finished = record { step = 0; given = 0; stand = Done }

-- a stopped job uses neither step nor slots given
unfoldable pub stop : Cause → Job
stop c = record { step = 0; given = 0; stand = Stopped c }

-- the step is finished: waiting, or done after the last
unfoldable pub step_done : Task → Job → Job
step_done τ j = cond (ltb (suc (j.step + j.step)) (length τ.pattern)) (record { step = j.step; given = 0; stand = Waiting }) finished

-- 1. the report on the slot just ended
unfoldable pub reported : Task → Stand → Bool → Job → ℕ → Job
reported τ Ready true j zero = cond (eqb j.given (written τ j.step)) (stop overrun) j
reported τ Ready true j (suc zero) = step_done τ j
reported τ Ready true j (suc (suc r)) = stop untrue
reported τ Ready false j zero = j
reported τ Ready false j (suc r) = stop untrue
reported τ Waiting b j zero = j
reported τ Waiting b j (suc zero) = stop untrue
reported τ Waiting b j (suc (suc zero)) = record { step = suc j.step; given = 0; stand = Ready }
reported τ Waiting b j (suc (suc (suc r))) = stop untrue
reported τ Done b j zero = j
reported τ Done b j (suc r) = stop untrue
reported τ (Stopped c) b j r = j

-- 2. if the slot is a multiple of T, a new job starts, ready in step 1
unfoldable pub begun : Task → ℕ → Job → Job
begun τ t j = cond (starts t τ) (record { step = 0; given = 0; stand = Ready }) j

-- 3. the owner of this slot, whose plan stands at place b, runs if it is ready in the planned step; if it still waits
-- before that step, or is in an earlier one, it is stopped, late; if beyond it, done or stopped: idle
unfoldable pub owner_runs : Stand → ℕ → Job → Bool
owner_runs Ready b j = eqb (j.step + j.step) b
owner_runs Waiting b j = false
owner_runs Done b j = false
owner_runs (Stopped c) b j = false

-- the owner still waits before the planned step, or is in an earlier one
unfoldable pub owner_late : Stand → ℕ → Job → Bool
owner_late Ready b j = ltb (j.step + j.step) b
owner_late Waiting b j = ltb (suc (j.step + j.step)) b
owner_late Done b j = false
owner_late (Stopped c) b j = false

-- the owner after its part: it got the slot, or is stopped as late, or is as it was
unfoldable pub owned_by : Bool → Bool → Job → Job
owned_by true l j = record { step = j.step; given = suc j.given; stand = Ready }
owned_by false true j = stop late
owned_by false false j = j

-- "0 none, 1 overrun, 2 late, 3 false"
unfoldable pub code : Stand → ℕ
code Ready = 0
code Waiting = 0
code Done = 0
code (Stopped overrun) = 1
code (Stopped late) = 2
code (Stopped untrue) = 3

-- the fault of a job that was stopped at this tick; one stopped before shows no further fault
unfoldable pub new_fault : Stand → Stand → ℕ
new_fault (Stopped c) k = 0
new_fault Ready k = code k
new_fault Waiting k = code k
new_fault Done k = code k

-- what one task's tick gives
pub record Turn : Type 0 where
  pub job : Job
  pub runs : Bool
  pub fault : ℕ

-- 1, 2 and 3 for one task: t is the slot, p its planned progress, owner whether the table gives it the slot, ran whether it ran last
unfoldable pub turn : Task → ℕ → ℕ → Bool → Bool → Job → ℕ → Turn
turn τ t p owner ran j r =
    let a = reported τ j.stand ran j r in
    let b = begun τ t a in
    let place = place_of τ.pattern p in
    let go = owner && owner_runs b.stand place b in
    let late_now = owner && owner_late b.stand place b in
    record { job = owned_by go late_now b; runs = go; fault = new_fault j.stand a.stand + cond late_now 2 0 }

-- all of the above, for proofs that compute
unfoldable pub open_jobs : Type 0
unfolding finished stop step_done reported begun owner_runs owner_late owned_by code new_fault turn
open_jobs = Unit {0}
