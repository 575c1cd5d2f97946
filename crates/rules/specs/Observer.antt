-- The observer of one job, who sees its reports and its slots and nothing of a player's state.
use Rattle.std.specs.Prelude.{Bool, true, false, cond, ◌&&◌, ℕ, zero, suc, ◌+◌, leb, ltb, length}
use Rattle.rules.specs.Tasks.{Task, written, wait_written}

-- how a job stands, told from its reports and its slots: in a step, in a wait, over (every step finished), or broken by a false report
pub data Phase : Type 0 where
  in_step in_wait over broken : Phase

-- what the observer has noted of a job
pub record Watch : Type 0 where
  pub phase : Phase
  -- the step it is in, or the one whose wait it is in, from 0
  pub step : ℕ
  -- the slots it got in that step
  pub got : ℕ
  -- the slots that its wait has lasted
  pub waited : ℕ
  -- its reports, up to the end of its last step, keep within its pattern
  pub keeps : Bool
  -- and nothing was reported after that end
  pub quiet : Bool

-- a wait stands behind step k, which is not the last
unfoldable pub has_wait : Task → ℕ → Bool
has_wait τ k = ltb (suc (k + k)) (length τ.pattern)

-- "a new job starts, ready in step 1"
unfoldable pub opening : Watch
opening = record { phase = in_step; step = 0; got = 0; waited = 0; keeps = true; quiet = true }

-- the same job, with the further demand on its reports
unfoldable pub demand : Bool → Watch → Watch
demand b w = record { phase = w.phase; step = w.step; got = w.got; waited = w.waited; keeps = w.keeps && b; quiet = w.quiet }

-- a false report
unfoldable pub breaks : Watch → Watch
breaks w = record { phase = broken; step = w.step; got = w.got; waited = w.waited; keeps = false; quiet = w.quiet }

-- a report after the end
unfoldable pub after_end : Watch → Watch
after_end w = record { phase = over; step = w.step; got = w.got; waited = w.waited; keeps = w.keeps; quiet = false }

-- "1 means the step is finished (waiting, or done after the last)"; the step may not have been longer than written
unfoldable pub step_ends : Task → Watch → Watch
step_ends τ w = record {
  phase = cond (has_wait τ w.step) in_wait over;
  step = w.step;
  got = 0;
  waited = 0;
  keeps = w.keeps && leb w.got (written τ w.step);
  quiet = w.quiet;
}

-- "2 makes it ready in the next step"; the wait may not have been longer than written
unfoldable pub wait_ends : Task → Watch → Watch
wait_ends τ w = record {
  phase = in_step;
  step = suc w.step;
  got = 0;
  waited = 0;
  keeps = w.keeps && leb w.waited (wait_written τ w.step);
  quiet = w.quiet;
}

-- the report on the slot just ended, in which the job ran or did not: 0 nothing, 1 step finished, 2 wait ended. A 0 says that a
-- step, or a wait, goes on: within the pattern only if it has lasted less than is written
unfoldable pub heard_in : Task → Phase → Bool → ℕ → Watch → Watch
heard_in τ in_step true zero w = demand (ltb w.got (written τ w.step)) w
heard_in τ in_step true (suc zero) w = step_ends τ w
heard_in τ in_step true (suc (suc r)) w = breaks w
heard_in τ in_step false zero w = w
heard_in τ in_step false (suc r) w = breaks w
heard_in τ in_wait ran zero w = demand (ltb w.waited (wait_written τ w.step)) w
heard_in τ in_wait ran (suc zero) w = breaks w
heard_in τ in_wait ran (suc (suc zero)) w = wait_ends τ w
heard_in τ in_wait ran (suc (suc (suc r))) w = breaks w
heard_in τ over ran zero w = w
heard_in τ over ran (suc r) w = after_end w
heard_in τ broken ran r w = w

-- the job after a report
unfoldable pub heard : Task → Bool → ℕ → Watch → Watch
heard τ ran r w = heard_in τ w.phase ran r w

-- a slot passes, which the job got or did not
unfoldable pub slot_in : Phase → Bool → Watch → Watch
slot_in in_step true w = record { phase = w.phase; step = w.step; got = suc w.got; waited = w.waited; keeps = w.keeps; quiet = w.quiet }
slot_in in_step false w = w
slot_in in_wait gets w = record { phase = w.phase; step = w.step; got = w.got; waited = suc w.waited; keeps = w.keeps; quiet = w.quiet }
slot_in over gets w = w
slot_in broken gets w = w

-- the job after a slot
unfoldable pub slot_passes : Bool → Watch → Watch
slot_passes gets w = slot_in w.phase gets w

-- the job released at slot a, as it stands at the tick of slot a + n once that tick's report is taken (at n = 0 the report is on the
-- job before). `report t` is the report at the tick of slot t, `gets t` whether the task got slot t
unfoldable pub watched : Task → (ℕ → ℕ) → (ℕ → Bool) → ℕ → ℕ → Watch
watched τ report gets a zero = opening
watched τ report gets a (suc n) = heard τ (gets (a + n)) (report (suc (a + n))) (slot_passes (gets (a + n)) (watched τ report gets a n))

-- all of the above, for proofs that compute
unfoldable pub open_observer : Type 0
unfolding has_wait opening demand breaks after_end step_ends wait_ends heard_in heard slot_in slot_passes watched
open_observer = Unit {0}
