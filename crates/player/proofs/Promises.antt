-- Condition 3 of the code that runs: of any run whose replies are as the contracts of `start` and `tick` say.
use mathlib.Core.Path.{◌≡◌, refl, sym, ap, ◌∙◌}
use mathlib.Core.Bool.{true}
use mathlib.Core.List.{List}
use Prim.Native.Nat.{ℕ, zero, suc, ◌≤◌, ◌<◌}
use lib.ListN.{length, take, replicate}
use Rattle.std.specs.Prelude.{Result, Ok, Err}
use Rattle.rules.specs.Lists.{padded}
use Rattle.rules.specs.Positions.{idle}
use Rattle.rules.specs.Records.{SetRecord}
use Rattle.rules.specs.States.{StateRecord, start_refusal, started_or, start_reply, started, ticked, tick_reply}
use Rattle.rules.specs.Condition3.{Out, report_on, gets_slot, fault_on, Condition3, Reached, from_start, by_tick, Given}
use Rattle.rules.proofs.Lists.{clash}
use Rattle.rules.proofs.Set.Tidy.{padded-take, set-length}
use Rattle.rules.proofs.Play.AnyRun.{origin, Goes, goes_on, run-condition3, run_alone}
use Rattle.tasks.specs.declared.TaskSet.{TaskSet}
use Rattle.tasks.specs.Views.{record_of, set_of}
use Rattle.tasks.specs.declared.refusal.Refusal.{Refusal}
use Rattle.tasks.proofs.Refusals.{number-some}
use Rattle.tasks.proofs.Views.{arrays}
use Rattle.player.specs.declared.State.{State}
use Rattle.player.specs.declared.Ticked.{Ticked}
use Rattle.player.specs.Views.{faults_of, runner_number, state_of}
use Rattle.player.specs.Answers.{StartAnswer, start_answer, started_of, TickAnswer, tick_answer, ticked_of}

-- ── a run ───────────────────────────────────────────────────────────────────

-- the state after a tick of this state: a refused tick leaves it as it was
unfoldable pub state_after : State → Result Ticked Refusal → State
state_after st (Ok r) = r.state
state_after st (Err e) = st

-- the state that tick t is handed: the one that the start gave, and then the one after the tick before
unfoldable pub before : State → (ℕ → Result Ticked Refusal) → ℕ → State
before first replies zero = first
before first replies (suc t) = state_after (before first replies t) (replies t)

-- the replies to an accepted start and to the ticks after it, each as its contract says; the table is the same at every tick, and
-- each tick is handed one report for each task
pub record Run (set : TaskSet) (table : List ℕ) (reports : ℕ → List ℕ) (first : Result State Refusal) (s : State) (replies : ℕ → Result Ticked Refusal) : Type 0 where
  pub accepted : first ≡ Ok s
  pub one : (t : ℕ) → length (reports t) ≡ set.count
  pub starts : started_of first ≡ start_answer (start_reply (record_of set) table true)
  pub ticks : (t : ℕ) → ticked_of (state_of (before s replies t)) (replies t) ≡ tick_answer (state_of (before s replies t)) (tick_reply (state_of (before s replies t)) table (reports t) true)

-- what a controller sees of a reply: the runner, and the fault bytes
unfoldable pub runner_in : Result Ticked Refusal → ℕ
runner_in (Ok r) = runner_number r.runner
runner_in (Err e) = idle

unfoldable pub faults_in : Result Ticked Refusal → List ℕ
faults_in (Ok r) = faults_of r.faults
faults_in (Err e) = replicate 8 0

-- what it sees of the replies: the runner, and the fault bytes of the tasks in use
unfoldable pub seen : TaskSet → (ℕ → Result Ticked Refusal) → ℕ → Out
seen set replies t = record { runner = runner_in (replies t); faults = take set.count (faults_in (replies t)) }

-- ── a reply that is accepted ────────────────────────────────────────────────

start-accepted : (r : SetRecord) (table : List ℕ) → (start_answer (start_reply r table true)).refusal ≡ 0 → start_reply r table true ≡ started (start_answer (start_reply r table true)).state
unfolding start_reply start_answer started_or
start-accepted r table e = go (start_refusal r table true) e
  where
    go : (n : ℕ) → (start_answer (started_or r n)).refusal ≡ 0 → started_or r n ≡ started (start_answer (started_or r n)).state
    go zero e = refl
    go (suc n) e = clash n e

-- a reply that is accepted, and what it holds
pub record Accepted (r : Result Ticked Refusal) : Type 0 where
  pub ticked : Ticked
  pub is : r ≡ Ok ticked

record Shown (st : State) (r : Result Ticked Refusal) (runner : ℕ) (faults : List ℕ) (v : StateRecord) : Type 0 where
  fine : Accepted r
  runs : runner_in r ≡ runner
  tells : faults_in r ≡ padded 8 0 faults
  leads : state_of (state_after st r) ≡ v

tick-shown : (r : Result Ticked Refusal) (st : State) (v : StateRecord) (runner : ℕ) (faults : List ℕ) → ticked_of (state_of st) r ≡ tick_answer (state_of st) (ticked runner faults v) → Shown st r runner faults v
unfolding ticked_of tick_answer state_after runner_in faults_in
tick-shown (Ok r) st v runner faults e = record {
  fine = record { ticked = r; is = refl };
  runs = ap (λ (a : TickAnswer). a.runner) e;
  tells = ap (λ (a : TickAnswer). a.faults) e;
  leads = ap (λ (a : TickAnswer). a.state) e;
}
tick-shown (Err q) st v runner faults e = absurd (number-some q (ap (λ (a : TickAnswer). a.refusal) e))

-- ── any run ─────────────────────────────────────────────────────────────────

module _ (set : TaskSet) (table : List ℕ) (reports : ℕ → List ℕ) (first : Result State Refusal) (s : State) (replies : ℕ → Result Ticked Refusal) (run : Run set table reports first s replies) where
  at : ℕ → StateRecord
  at t = state_of (before s replies t)

  one_each : (t : ℕ) → length (reports t) ≡ (record_of set).count
  unfolding record_of
  one_each t = run.one t

  begins : Reached (record_of set) table reports 0 (at 0)
  unfolding at before started_of
  begins =
      let m = rw (run.accepted) at run.starts in
      from_start (start-accepted (record_of set) table (sym (ap (λ (a : StartAnswer). a.refusal) m)) ∙ ap started (sym (ap (λ (a : StartAnswer). a.state) m)))

  goes : (t : ℕ) → Reached (record_of set) table reports t (at t) → Goes table (reports t) (at t)
  goes t h = goes_on (record_of set) (arrays set) table reports one_each t (at t) h

  shown : (t : ℕ) (h : Reached (record_of set) table reports t (at t)) → Shown (before s replies t) (replies t) (goes t h).out.runner (goes t h).out.faults (goes t h).onward
  unfolding at
  shown t h = let g = goes t h in tick-shown (replies t) (before s replies t) g.onward g.out.runner g.out.faults (run.ticks t ∙ ap (tick_answer (at t)) g.reply)

  leads-on : (t : ℕ) (h : Reached (record_of set) table reports t (at t)) → at (suc t) ≡ (goes t h).onward
  unfolding at before
  leads-on t h = (shown t h).leads

  reached : (t : ℕ) → Reached (record_of set) table reports t (at t)
  reached zero = begins
  reached (suc t) = by_tick (reached t) ((goes t (reached t)).reply ∙ ap (λ v. ticked (goes t (reached t)).out.runner (goes t (reached t)).out.faults v) (sym (leads-on t (reached t))))

  -- no tick is refused
  pub none-refused : (t : ℕ) → Accepted (replies t)
  none-refused t = (shown t (reached t)).fine

  -- what the rules' tick gives
  ruled : ℕ → Out
  ruled t = (goes t (reached t)).out

  ruled-given : (t : ℕ) → Given (record_of set) table reports t (ruled t)
  unfolding ruled
  ruled-given t = record { state = at t; next = (goes t (reached t)).onward; reached = reached t; reply = (goes t (reached t)).reply }

  faults-long : (t : ℕ) → length (ruled t).faults ≡ set.count
  unfolding record_of
  faults-long t =
      (run-condition3 (record_of set) (arrays set) table reports one_each ruled ruled-given).fault_each t
      ∙ set-length (record_of set) (arrays set) (origin (record_of set) table reports 0 (at 0) begins).0

  seen-is : (t : ℕ) → seen set replies t ≡ ruled t
  unfolding seen ruled
  seen-is t =
      let h = shown t (reached t) in
      let f = ap (take set.count) h.tells ∙ padded-take 8 0 (goes t (reached t)).out.faults set.count (faults-long t) in
      λ i. record { runner = h.runs i; faults = f i }

  given : (t : ℕ) → Given (record_of set) table reports t (seen set replies t)
  given t = rw (seen-is t) (ruled-given t)

  -- Condition 3 of the run
  pub condition-3 : Condition3 (set_of set) table reports (seen set replies)
  unfolding set_of
  condition-3 = run-condition3 (record_of set) (arrays set) table reports one_each (seen set replies) given

-- two runs of one set and table whose reports on a task agree up to a tick give that task the same slot and the same fault there
pub alone : (set : TaskSet) (table : List ℕ) (a b : ℕ → List ℕ) (first_a first_b : Result State Refusal) (s_a s_b : State) (replies_a replies_b : ℕ → Result Ticked Refusal) → Run set table a first_a s_a replies_a → Run set table b first_b s_b replies_b
    → (j : ℕ) → j < length (set_of set) → (t : ℕ) → ((u : ℕ) → u ≤ t → report_on a j u ≡ report_on b j u)
    → (gets_slot (seen set replies_a) j t ≡ gets_slot (seen set replies_b) j t) × (fault_on (seen set replies_a) j t ≡ fault_on (seen set replies_b) j t)
unfolding set_of
alone set table a b first_a first_b s_a s_b replies_a replies_b A B j h t e = run_alone (record_of set) (arrays set) table a b (one_each set table a first_a s_a replies_a A) (one_each set table b first_b s_b replies_b B)
    (seen set replies_a) (seen set replies_b) (given set table a first_a s_a replies_a A) (given set table b first_b s_b replies_b B) j h t e

-- ── functions that meet the contracts ───────────────────────────────────────

-- the contracts of `start` and `tick`, for every input
pub record Meets (start_fn : TaskSet → List ℕ → Result State Refusal) (tick_fn : State → List ℕ → List ℕ → Result Ticked Refusal) : Type 0 where
  pub starts : (set : TaskSet) (table : List ℕ) → started_of (start_fn set table) ≡ start_answer (start_reply (record_of set) table true)
  pub ticks : (st : State) (table reports : List ℕ) → ticked_of (state_of st) (tick_fn st table reports) ≡ tick_answer (state_of st) (tick_reply (state_of st) table reports true)

module _ (start_fn : TaskSet → List ℕ → Result State Refusal) (tick_fn : State → List ℕ → List ℕ → Result Ticked Refusal) (set : TaskSet) (table : List ℕ) (reports : ℕ → List ℕ) (s : State) where
  -- the state that tick t is handed, and the reply to it: each tick is handed the state after the tick before
  unfoldable pub state_at : ℕ → State
  state_at zero = s
  state_at (suc t) = state_after (state_at t) (tick_fn (state_at t) table (reports t))

  unfoldable pub reply_at : ℕ → Result Ticked Refusal
  reply_at t = tick_fn (state_at t) table (reports t)

  handed : (t : ℕ) → before s reply_at t ≡ state_at t
  unfolding before state_at reply_at
  handed zero = refl
  handed (suc t) = ap (λ st. state_after st (tick_fn (state_at t) table (reports t))) (handed t)

  -- their replies are a run
  pub runs : Meets start_fn tick_fn → start_fn set table ≡ Ok s → ((t : ℕ) → length (reports t) ≡ set.count) → Run set table reports (start_fn set table) s reply_at
  unfolding reply_at
  runs m e one = record { accepted = e; one = one; starts = m.starts set table; ticks = λ t. rw (handed t) (m.ticks (state_at t) table (reports t)) }
