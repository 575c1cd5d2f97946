-- Document 01, "Positions and choices": what a slot does, and which positions are live.
use Rattle.std.specs.Prelude.{Bool, true, not, cond, ◌&&◌, ◌||◌, List, [], ◌∷◌, ℕ, suc, ◌%◌, eqb, length, get_or, replicate, ℤ, pos, ◌-ℤ◌}
use Rattle.std.specs.Int.Signed.{non_neg}
use Rattle.rules.specs.Tasks.{Task, no_task, span, Standing, waiting, done, ready, standing, is_ready, is_done}

-- A position: a slot number and every task's progress, in task order
pub record Position : Type 0 where
  pub slot : ℕ
  pub progress : List ℕ

-- the number that stands for idle; a task's choice is its number less 1
unfoldable pub idle : ℕ
idle = 255

-- f at each task's number less 1, task and progress
unfoldable pub each : (ℕ → Task → ℕ → ℕ) → ℕ → List Task → List ℕ → List ℕ
each f i [] ps = []
each f i (τ ∷ τs) [] = []
each f i (τ ∷ τs) (p ∷ ps) = f i τ p ∷ each f (suc i) τs ps

-- the test passes at every task and its progress
unfoldable pub every : (Task → ℕ → Bool) → List Task → List ℕ → Bool
every g [] ps = true
every g (τ ∷ τs) [] = true
every g (τ ∷ τs) (p ∷ ps) = g τ p && every g τs ps

-- At slot t the choice is a ready task or idle; idle is allowed always. (A number beyond the tasks has no pattern, and is not ready.)
unfoldable pub allowed : List Task → List ℕ → ℕ → Bool
allowed s ps c = eqb c idle || is_ready (standing (get_or s c no_task) (get_or ps c 0))

-- The chosen task's progress rises by 1, as does that of every task that was waiting at the start of the slot.
unfoldable pub moved : Standing → Bool → ℕ → ℕ
moved ready chosen p = cond chosen (suc p) p
moved waiting chosen p = suc p
moved done chosen p = p

-- the progress of task i + 1 after a slot with choice c
unfoldable pub passed : ℕ → ℕ → Task → ℕ → ℕ
passed c i τ p = moved (standing τ p) (eqb c i) p

-- every task's progress at the end of a slot, before restarting
unfoldable pub ended : List Task → List ℕ → ℕ → List ℕ
ended s ps c = each (passed c) 0 s ps

-- Then, at t + 1, a task whose period divides t + 1 starts again at 0
unfoldable pub starts : ℕ → Task → Bool
starts t τ = eqb (t % τ.period) 0

-- the progress at the start of slot t
unfoldable pub restarted : ℕ → ℕ → Task → ℕ → ℕ
restarted t i τ p = cond (starts t τ) 0 p

-- the position that a choice leads to
unfoldable pub next : List Task → Position → ℕ → Position
next s x c = record { slot = suc x.slot; progress = each (restarted (suc x.slot)) 0 s (ended s x.progress c) }

-- Laxity is the time to the deadline minus the pattern left, and may be below zero; `since` is the time since release
unfoldable pub laxity : Task → ℕ → ℕ → ℤ
laxity τ since p = (pos τ.deadline -ℤ pos since) -ℤ (pos (span τ) -ℤ pos p)

-- a task that isn't done has laxity 0 or more
unfoldable pub in_time : ℕ → Task → ℕ → Bool
in_time since τ p = is_done (standing τ p) || non_neg (laxity τ since p)

-- A position is live if every task that isn't done has laxity 0 or more
unfoldable pub live_position : List Task → Position → Bool
live_position s x = every (λ τ p. in_time (x.slot % τ.period) τ p) s x.progress

-- the end of slot t is tested before restarting, with the time since release counted up to T;
-- a task whose period divides t + 1 starts again provided its job was done: if not, the choice leads nowhere
unfoldable pub ends_well : ℕ → Task → ℕ → Bool
ends_well t τ p = in_time (suc (t % τ.period)) τ p && (not (starts (suc t) τ) || is_done (standing τ p))

-- the choice is allowed, and the end of its slot is live, before restarting
unfoldable pub ends_live : List Task → Position → ℕ → Bool
ends_live s x c = allowed s x.progress c && every (ends_well x.slot) s (ended s x.progress c)

-- an allowed choice to a live position: the end of the slot is live, and so is the position after restarting
-- (from a live start the two agree: Reach, `legal-ends`, `live-ends`)
unfoldable pub legal : List Task → Position → ℕ → Bool
legal s x c = ends_live s x c && live_position s (next s x c)

-- "All tasks release a job at time 0": slot 0, progress 0
unfoldable pub start : List Task → Position
start s = record { slot = 0; progress = replicate (length s) 0 }

-- all of the above, for proofs that compute
unfoldable pub open_positions : Type 0
unfolding idle each every allowed moved passed ended starts restarted next laxity in_time live_position ends_well ends_live legal start
open_positions = Unit {0}
