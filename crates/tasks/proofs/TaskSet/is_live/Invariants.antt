use mathlib.Core.Bool.{Bool}
use Prim.Native.Nat.{ℕ, ◌%◌}
use Rattle.rules.specs.Tasks.{Task}
use Rattle.rules.specs.Positions.{in_time}
use Rattle.tasks.proofs.Positions.{Tests}
use Rattle.tasks.proofs.TaskSet.is_live.Given as goal

abbrev pub timely : ℕ → Task → ℕ → Bool
timely slot τ p = in_time (slot % τ.period) τ p

-- the tests from place i on tell of all
abbrev pub invariant-loop-i : goal.invariant-loop-i
invariant-loop-i l = Tests (timely l.at.slot) l.self l.at.progress l.i
