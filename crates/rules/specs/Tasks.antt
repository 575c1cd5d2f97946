-- Document 01, "Task set": a task, its pattern, and where progress stands in it.
use Rattle.std.specs.Prelude.{◌≡◌, Bool, true, false, cond, List, [], ◌∷◌, ℕ, suc, ◌+◌, ◌-◌, ◌≤◌, ◌<◌, ltb, length, get_or}

-- A task: period, deadline, and the whole pattern C E C .. (steps and waits by turns, the first a step)
pub record Task : Type 0 where
  pub period : ℕ
  pub deadline : ℕ
  pub pattern : List ℕ

-- what stands for a task beyond the last
unfoldable pub no_task : Task
no_task = record { period = 0; deadline = 0; pattern = [] }

-- the sum of a list
unfoldable pub sum : List ℕ → ℕ
sum [] = 0
sum (x ∷ xs) = x + sum xs

-- Length L of a task: the sum of its whole pattern
unfoldable pub span : Task → ℕ
span τ = sum τ.pattern

-- Progress is ready inside a computing step, waiting inside a wait, done at L
pub data Standing : Type 0 where
  ready waiting done : Standing

-- where progress p stands in the durations, which are of the kinds a and b by turns
unfoldable pub within : Standing → Standing → List ℕ → ℕ → Standing
within a b [] p = done
within a b (n ∷ ns) p = cond (ltb p n) a (within b a ns (p - n))

-- how progress p of a task stands
unfoldable pub standing : Task → ℕ → Standing
standing τ p = within ready waiting τ.pattern p

-- the task is ready
unfoldable pub is_ready : Standing → Bool
is_ready ready = true
is_ready waiting = false
is_ready done = false

-- the task is done
unfoldable pub is_done : Standing → Bool
is_done ready = false
is_done waiting = false
is_done done = true

-- the place in the pattern of progress p: 2k is step k + 1, 2k + 1 the wait behind it, and the pattern's length is done
unfoldable pub place_of : List ℕ → ℕ → ℕ
place_of [] p = 0
place_of (n ∷ ns) p = cond (ltb p n) 0 (suc (place_of ns (p - n)))

-- the slots written for step k + 1
unfoldable pub written : Task → ℕ → ℕ
written τ k = get_or τ.pattern (k + k) 0

-- the slots written for the wait behind step k + 1
unfoldable pub wait_written : Task → ℕ → ℕ
wait_written τ k = get_or τ.pattern (suc (k + k)) 0

-- what the theorems ask of a set: 1 ≤ D ≤ T
pub record Fit (s : List Task) : Type 0 where
  pub due : (j : ℕ) → j < length s → 0 < (get_or s j no_task).deadline
  pub fits : (j : ℕ) → j < length s → (get_or s j no_task).deadline ≤ (get_or s j no_task).period

-- what the patterns of admissible tasks are: m steps with m - 1 waits between them, each 1 or more
pub record Shape (ns : List ℕ) : Type 0 where
  pub waits : ℕ
  pub odd : length ns ≡ suc (waits + waits)
  pub positive : (b : ℕ) → b < length ns → 0 < get_or ns b 0

-- all of the above, for proofs that compute
unfoldable pub open_tasks : Type 0
unfolding no_task sum span within standing is_ready is_done written place_of wait_written
open_tasks = Unit {0}
