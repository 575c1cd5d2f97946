-- The player's state as a record, the form it must have (else 10), and a start and a tick with their refusals: document 01, "The player".
use Rattle.std.specs.Prelude.{◌≡◌, Bool, true, false, not, cond, ◌&&◌, ◌||◌, List, [], ◌∷◌, map, ℕ, zero, suc, ◌+◌, ◌-◌, leb, ltb, eqb, length, get_or, take, drop, replicate}
use Rattle.rules.specs.Lists.{all_of, is_zero, padded}
use Rattle.rules.specs.Tasks.{Task, span, written}
use Rattle.rules.specs.Hyper.{hyper}
use Rattle.rules.specs.Positions.{idle, every, starts, live_position, legal, start}
use Rattle.rules.specs.Choices.{live_from}
use Rattle.rules.specs.Records.{TaskRecord, pattern_of, or_else, SetRecord, Arrays, used, set_in, record_refusal}
use Rattle.rules.specs.Jobs.{Stand, Ready, Waiting, Done, Stopped, Job, finished}
use Rattle.rules.specs.Player.{State, fresh, tick}

-- "A state holds the task set, the slot, the planned progress of each task and, for each task, its step, the slots given in that step,
-- and how it stands. It also holds who ran last": entries for eight tasks, as in the set
pub record StateRecord : Type 0 where
  pub set : SetRecord
  pub slot : ℕ
  pub planned : List ℕ
  pub jobs : List Job
  pub last : ℕ

-- the lengths of its arrays, which no caller can change
pub record StateArrays (w : StateRecord) : Type 0 where
  pub in_set : Arrays w.set
  pub plans : length w.planned ≡ 8
  pub standings : length w.jobs ≡ 8

-- ── "parts not in use are zero" ─────────────────────────────────────────────

-- an entry for a job not in use
unfoldable pub blank_job : Job
blank_job = record { step = 0; given = 0; stand = Ready }

-- the job is ready
unfoldable pub is_ready_stand : Stand → Bool
is_ready_stand Ready = true
is_ready_stand Waiting = false
is_ready_stand Done = false
is_ready_stand (Stopped c) = false

-- the entry for a job is blank
unfoldable pub is_blank_job : Job → Bool
is_blank_job j = is_ready_stand j.stand && (is_zero j.step && is_zero j.given)

-- an entry for a task not in use
unfoldable pub blank_task : TaskRecord
blank_task = record { period = 0; deadline = 0; steps = 0; units = replicate 7 0 }

-- a set of no task: zeros throughout
unfoldable pub blank_set : SetRecord
blank_set = record { count = 0; entries = replicate 8 blank_task }

-- a state of no use
unfoldable pub blank_state : StateRecord
blank_state = record { set = blank_set; slot = 0; planned = replicate 8 0; jobs = replicate 8 blank_job; last = 0 }

-- the entry for a task is blank
unfoldable pub is_blank_task : TaskRecord → Bool
is_blank_task r = (is_zero r.period && is_zero r.deadline) && (is_zero r.steps && all_of is_zero r.units)

-- the units beyond a task's steps
unfoldable pub units_tidy : TaskRecord → Bool
units_tidy r = all_of is_zero (drop (r.steps + r.steps - 1) r.units)

-- "parts not in use are zero"
unfoldable pub rest_zero : StateRecord → Bool
rest_zero w = (all_of units_tidy (used w.set) && all_of is_blank_task (drop w.set.count w.set.entries))
    && (all_of is_zero (drop w.set.count w.planned) && all_of is_blank_job (drop w.set.count w.jobs))

-- ── the form of a state ─────────────────────────────────────────────────────

-- "a live planned position with progress 0 for each task whose period divides the slot"; progress is 0 to L
unfoldable pub planned_form : List Task → ℕ → List ℕ → Bool
planned_form s t ps = every (λ τ p. leb p (span τ) && (not (starts t τ) || is_zero p)) s ps && live_position s (record { slot = t; progress = ps })

-- "steps within the pattern, waiting only between two steps, given slots at most C (below C for a ready task that didn't run last)";
-- "a waiting one uses only its step, the one just finished, a done or stopped one neither". Step k is at place 2k of the pattern
unfoldable pub job_form_in : Task → Stand → Bool → Job → Bool
job_form_in τ Ready ran j = ltb (j.step + j.step) (length τ.pattern) && cond ran (leb j.given (written τ j.step)) (ltb j.given (written τ j.step))
job_form_in τ Waiting ran j = ltb (suc (suc (j.step + j.step))) (length τ.pattern) && is_zero j.given
job_form_in τ Done ran j = is_zero j.step && is_zero j.given
job_form_in τ (Stopped c) ran j = is_zero j.step && is_zero j.given

-- the form of one job
unfoldable pub job_form : Task → Bool → Job → Bool
job_form τ ran j = job_form_in τ j.stand ran j

-- the tasks' jobs, from number i on
unfoldable pub jobs_form : ℕ → ℕ → List Task → List Job → Bool
jobs_form last i [] js = true
jobs_form last i (τ ∷ s) [] = true
jobs_form last i (τ ∷ s) (j ∷ js) = job_form τ (eqb last i) j && jobs_form last (suc i) s js

-- "the last runner none or a ready task with a slot given"
unfoldable pub last_form : ℕ → ℕ → List Job → Bool
last_form n last js = eqb last idle || (ltb last n && (is_ready_stand (get_or js last finished).stand && ltb 0 (get_or js last finished).given))

-- the parts in use
unfoldable pub in_use : StateRecord → State
in_use w = record { slot = w.slot; planned = take w.set.count w.planned; jobs = take w.set.count w.jobs; last = w.last }

-- the form of the parts in use
unfoldable pub in_use_form : List Task → State → Bool
in_use_form s st = (ltb st.slot (hyper s) && planned_form s st.slot st.planned) && (jobs_form st.last 0 s st.jobs && last_form (length s) st.last st.jobs)

-- "Form required (else 10)"
unfoldable pub form : StateRecord → Bool
form w = eqb (record_refusal w.set) 0 && (in_use_form (set_in w.set) (in_use w) && rest_zero w)

-- ── a start ─────────────────────────────────────────────────────────────────

-- the set with zeros in the parts not in use
unfoldable pub tidy_task : TaskRecord → TaskRecord
tidy_task r = record { period = r.period; deadline = r.deadline; steps = r.steps; units = padded 7 0 (pattern_of r) }

-- the set that a start puts into the state
unfoldable pub tidied : SetRecord → SetRecord
tidied r = record { count = r.count; entries = padded 8 blank_task (map tidy_task (used r)) }

-- a state as it travels: the parts in use, and zeros
unfoldable pub as_record : SetRecord → State → StateRecord
as_record r st = record { set = r; slot = st.slot; planned = padded 8 0 st.planned; jobs = padded 8 blank_job st.jobs; last = st.last }

-- 12 at a start: "table not of length H; not a schedule"
unfoldable pub is_schedule : List Task → List ℕ → Bool
is_schedule s table = eqb (length table) (hyper s) && (live_position s (start s) && live_from s (start s) table)

-- a refusal's number, or a state
pub data StartReply : Type 0 where
  start_refused : ℕ → StartReply
  started : StateRecord → StartReply

-- the refusal of a start, 0 if it is accepted. "Starting the player tests that, then 12, then 8"; `enough` says that the lent buffer is
-- long enough (true where it isn't called from C)
unfoldable pub start_refusal : SetRecord → List ℕ → Bool → ℕ
start_refusal r table enough = or_else (record_refusal r) (cond (not (is_schedule (set_in r) table)) 12 (cond (not enough) 8 0))

-- the reply to a start whose refusal is known
unfoldable pub started_or : SetRecord → ℕ → StartReply
started_or r zero = started (as_record (tidied r) (fresh (set_in r)))
started_or r (suc n) = start_refused (suc n)

-- "Fresh state: start position, all done, nobody ran"
unfoldable pub start_reply : SetRecord → List ℕ → Bool → StartReply
start_reply r table enough = started_or r (start_refusal r table enough)

-- ── a tick ──────────────────────────────────────────────────────────────────

-- a refusal's number, or runner, faults and state
pub data TickReply : Type 0 where
  tick_refused : ℕ → TickReply
  ticked : ℕ → List ℕ → StateRecord → TickReply

-- 12 at a tick: "table not of length H; this slot's entry not an allowed choice to a live position"
unfoldable pub entry_fits : List Task → State → List ℕ → Bool
entry_fits s st table = eqb (length table) (hyper s) && legal s (record { slot = st.slot; progress = st.planned }) (get_or table st.slot idle)

-- "A tick: 10, 11, 12, 8"
unfoldable pub tick_refusal : StateRecord → List ℕ → List ℕ → Bool → ℕ
tick_refusal w table reports enough = cond (not (form w)) 10 (cond (not (eqb (length reports) w.set.count)) 11
    (cond (not (entry_fits (set_in w.set) (in_use w) table)) 12 (cond (not enough) 8 0)))

-- the reply to a tick whose refusal is known
unfoldable pub ticked_or : StateRecord → List ℕ → List ℕ → ℕ → TickReply
ticked_or w table reports zero = ticked (tick (set_in w.set) table (in_use w) reports).runner (tick (set_in w.set) table (in_use w) reports).faults
    (as_record w.set (tick (set_in w.set) table (in_use w) reports).state)
ticked_or w table reports (suc n) = tick_refused (suc n)

-- the reply to a tick
unfoldable pub tick_reply : StateRecord → List ℕ → List ℕ → Bool → TickReply
tick_reply w table reports enough = ticked_or w table reports (tick_refusal w table reports enough)

-- ── a set written by hand, for examples ─────────────────────────────────────

-- T, D, m and the pattern, zeros behind it
unfoldable pub task_entry : ℕ → ℕ → ℕ → List ℕ → TaskRecord
task_entry T D m units = record { period = T; deadline = D; steps = m; units = padded 7 0 units }

-- a record of these tasks, zeros behind them
unfoldable pub handed : List TaskRecord → SetRecord
handed rs = record { count = length rs; entries = padded 8 blank_task rs }

-- all of the above, for proofs that compute
unfoldable pub open_states : Type 0
unfolding blank_job is_ready_stand is_blank_job blank_task blank_set blank_state is_blank_task units_tidy rest_zero planned_form job_form_in job_form jobs_form last_form in_use in_use_form form tidy_task tidied as_record is_schedule start_refusal started_or start_reply entry_fits tick_refusal ticked_or tick_reply task_entry handed
open_states = Unit {0}
