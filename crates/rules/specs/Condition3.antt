-- Condition 3 of the mission, over what a controller sees: reports in, runners and faults out.
use Rattle.std.specs.Prelude.{◌≡◌, ◌⊎◌, Bool, true, List, ℕ, zero, suc, ◌+◌, ◌*◌, ◌≤◌, ◌<◌, ◌%◌, eqb, length, get_or}
use Rattle.rules.specs.Tasks.{Task, no_task, written}
use Rattle.rules.specs.Hyper.{hyper}
use Rattle.rules.specs.Positions.{idle}
use Rattle.rules.specs.Records.{SetRecord}
use Rattle.rules.specs.States.{StateRecord, started, start_reply, ticked, tick_reply}
use Rattle.rules.specs.Observer.{in_step, over, Watch, watched}

-- what comes out of a tick
pub record Out : Type 0 where
  pub runner : ℕ
  pub faults : List ℕ

-- the report on task j + 1, and its fault
unfoldable pub report_on : (ℕ → List ℕ) → ℕ → ℕ → ℕ
report_on reports j t = get_or (reports t) j 0

-- the fault byte of task j + 1
unfoldable pub fault_on : (ℕ → Out) → ℕ → ℕ → ℕ
fault_on outs j t = get_or (outs t).faults j 0

-- task j + 1 got slot t
unfoldable pub gets_slot : (ℕ → Out) → ℕ → ℕ → Bool
gets_slot outs j t = eqb (outs t).runner j

-- job k (from 0) of task j + 1, n slots after its release
unfoldable pub job_seen : List Task → (ℕ → List ℕ) → (ℕ → Out) → ℕ → ℕ → ℕ → Watch
job_seen s reports outs j k n = watched (get_or s j no_task) (report_on reports j) (gets_slot outs j) (k * (get_or s j no_task).period) n

-- the entry of the table, lent unchanged at every tick, for slot t of endless time
unfoldable pub entry : List Task → List ℕ → ℕ → ℕ
entry s table t = get_or table (t % hyper s) idle

-- Condition 3 of one run: `reports` went in, `outs` came out. Each part speaks of no tick but those up to its own, so it holds of
-- any number of ticks.
pub record Condition3 (s : List Task) (table : List ℕ) (reports : ℕ → List ℕ) (outs : ℕ → Out) : Type 0 where
  -- a job whose reports keep within its pattern has finished every step at the tick that starts at its deadline
  pub finishes : (j : ℕ) → j < length s → (k : ℕ)
      → (job_seen s reports outs j k (get_or s j no_task).deadline).keeps ≡ true → (job_seen s reports outs j k (get_or s j no_task).deadline).phase ≡ over
  -- a job gets no slot while it waits, after it finished, or after a false report, whatever is reported
  pub never_waiting : (j : ℕ) → j < length s → (k n : ℕ) → n < (get_or s j no_task).period
      → gets_slot outs j (k * (get_or s j no_task).period + n) ≡ true → (job_seen s reports outs j k n).phase ≡ in_step
  -- no job gets more slots in a step than written, whatever is reported
  pub not_more : (j : ℕ) → j < length s → (k n : ℕ) → n < (get_or s j no_task).period
      → gets_slot outs j (k * (get_or s j no_task).period + n) ≡ true → (job_seen s reports outs j k n).got < written (get_or s j no_task) (job_seen s reports outs j k n).step
  -- nor a slot that the table gives to another: the runner is idle, or a task and the table's entry
  pub own_slots : (t : ℕ) → ((outs t).runner ≡ idle) ⊎ (((outs t).runner < length s) × ((outs t).runner ≡ entry s table t))
  -- a job whose reports keep within its pattern, and after its end are 0, is given no fault up to the tick that ends its period
  pub no_fault : (j : ℕ) → j < length s → (k n : ℕ) → n < (get_or s j no_task).period
      → (job_seen s reports outs j k (suc n)).keeps ≡ true → (job_seen s reports outs j k (suc n)).quiet ≡ true
      → fault_on outs j (suc (k * (get_or s j no_task).period + n)) ≡ 0
  -- at the first tick there is no job to report on: 0 is no fault
  pub no_fault_first : (j : ℕ) → j < length s → report_on reports j 0 ≡ 0 → fault_on outs j 0 ≡ 0
  -- a fault byte for each task
  pub fault_each : (t : ℕ) → length (outs t).faults ≡ length s

-- a report byte for each task, so that no tick is refused by 11
unfoldable pub OneEach : List Task → (ℕ → List ℕ) → Type 0
OneEach s reports = (t : ℕ) → length (reports t) ≡ length s

-- "for one list a task's slots and faults depend on nothing but the table and its own reports": two runs of one table whose reports
-- on a task agree up to a tick give that task the same slot and the same fault at that tick
pub record Independent (s : List Task) (outs_of : (ℕ → List ℕ) → ℕ → Out) : Type 0 where
  pub slots : (j : ℕ) → j < length s → (a b : ℕ → List ℕ) → OneEach s a → OneEach s b → (t : ℕ) → ((u : ℕ) → u ≤ t → report_on a j u ≡ report_on b j u)
      → gets_slot (outs_of a) j t ≡ gets_slot (outs_of b) j t
  pub faults : (j : ℕ) → j < length s → (a b : ℕ → List ℕ) → OneEach s a → OneEach s b → (t : ℕ) → ((u : ℕ) → u ≤ t → report_on a j u ≡ report_on b j u)
      → fault_on (outs_of a) j t ≡ fault_on (outs_of b) j t

-- a player of one set and table: a state of its own, the fresh one, and what a tick takes and gives
pub record AnyPlayer : Type 1 where
  pub State : Type 0
  pub begin : State
  pub out : State → List ℕ → Out
  pub onward : State → List ℕ → State

-- each tick is handed the state that the one before gave
unfoldable pub state_at : (P : AnyPlayer) → (ℕ → List ℕ) → ℕ → P.State
state_at P reports zero = P.begin
state_at P reports (suc t) = P.onward (state_at P reports t) (reports t)

-- what comes out of the tick of slot t
unfoldable pub out_at : AnyPlayer → (ℕ → List ℕ) → ℕ → Out
out_at P reports t = P.out (state_at P reports t) (reports t)

-- Condition 3 of a player, for one set and an accepted table
pub record Obeys (s : List Task) (table : List ℕ) (P : AnyPlayer) : Type 0 where
  pub condition : (reports : ℕ → List ℕ) → OneEach s reports → Condition3 s table reports (out_at P reports)
  pub independent : Independent s (out_at P)

-- w is the state before tick t: an accepted start, then accepted ticks, the table lent unchanged at every tick, each tick handed the
-- state that the one before gave
pub data Reached (r : SetRecord) (table : List ℕ) (reports : ℕ → List ℕ) : ℕ → StateRecord → Type 0 where
  from_start : {w : StateRecord} → start_reply r table true ≡ started w → Reached r table reports 0 w
  by_tick : {t : ℕ} {w v : StateRecord} {runner : ℕ} {faults : List ℕ} → Reached r table reports t w → tick_reply w table (reports t) true ≡ ticked runner faults v → Reached r table reports (suc t) v

-- tick t of such a run is accepted, and this comes out of it
pub record Given (r : SetRecord) (table : List ℕ) (reports : ℕ → List ℕ) (t : ℕ) (out : Out) : Type 0 where
  pub state : StateRecord
  pub next : StateRecord
  pub reached : Reached r table reports t state
  pub reply : tick_reply state table (reports t) true ≡ ticked out.runner out.faults next

-- all of the above, for proofs that compute
unfoldable pub open_condition3 : Type 0
unfolding report_on fault_on gets_slot job_seen entry OneEach state_at out_at
open_condition3 = Unit {0}
