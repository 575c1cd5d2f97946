-- Endless schedules: the mission's condition 2, "an endless schedule without a missed deadline".
use Rattle.std.specs.Prelude.{◌≡◌, List, [], ◌∷◌, ℕ, zero, suc, ◌+◌, ◌*◌, ◌<◌, ◌%◌, T, length, get_or}
use Rattle.rules.specs.Tasks.{Task, standing, is_done, no_task}
use Rattle.rules.specs.Positions.{Position, idle, allowed, ended, next, start}

-- the position at the start of slot t of an endless run of choices
unfoldable pub at : List Task → (ℕ → ℕ) → ℕ → Position
at s c zero = start s
at s c (suc t) = next s (at s c t) (c t)

-- the progress of task j + 1 at the end of slot t, before restarting
unfoldable pub ending : List Task → (ℕ → ℕ) → ℕ → ℕ → ℕ
ending s c t j = get_or (ended s (at s c t).progress (c t)) j 0

-- every choice is allowed, and at each k T + D the job of the task is done
pub record Endless (s : List Task) (c : ℕ → ℕ) : Type 0 where
  pub choice : (t : ℕ) → T (allowed s (at s c t).progress (c t))
  pub on_time : (j : ℕ) → j < length s → (k t : ℕ) → suc t ≡ k * (get_or s j no_task).period + (get_or s j no_task).deadline
      → T (is_done (standing (get_or s j no_task) (ending s c t j)))

-- the progress of task j + 1 at the start of slot t
unfoldable pub progress_of : List Task → (ℕ → ℕ) → ℕ → ℕ → ℕ
progress_of s c t j = get_or (at s c t).progress j 0

-- n choices of c from t on
unfoldable pub beginning : (ℕ → ℕ) → ℕ → ℕ → List ℕ
beginning c t zero = []
beginning c t (suc n) = c t ∷ beginning c (suc t) n

-- the choices over and over
unfoldable pub repeated : List ℕ → ℕ → ℕ
repeated cs t = get_or cs (t % length cs) idle

-- all of the above, for proofs that compute
unfoldable pub open_endless : Type 0
unfolding at ending progress_of beginning repeated
open_endless = Unit {0}
