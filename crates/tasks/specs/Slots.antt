-- What a slot does to one task, from its end to the start of the next.
use Rattle.std.specs.Prelude.{Bool, not, cond, ◌&&◌, ◌||◌, ℕ, suc, ◌%◌, eqb}
use Rattle.rules.specs.Tasks.{Task, standing, is_done}
use Rattle.rules.specs.Positions.{starts, in_time, ends_well}

-- a task's progress in the next slot, from that at the end of slot t: 0 where its job starts again
unfoldable pub onward : ℕ → Task → ℕ → ℕ
onward t τ p = cond (starts (suc t) τ) 0 p

-- with progress p it ends slot t well, and begins the next one live
unfoldable pub well_after : ℕ → Task → ℕ → Bool
well_after t τ p = ends_well t τ p && in_time (suc t % τ.period) τ (onward t τ p)

-- the same, e slots after the release, which are counted up to T
unfoldable pub well_at : ℕ → Task → ℕ → Bool
well_at e τ p = in_time e τ p && (not (eqb e τ.period) || (is_done (standing τ p) && in_time 0 τ 0))
