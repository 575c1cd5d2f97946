-- Document 01, "Task set": the hyper-period.
use Rattle.std.specs.Prelude.{List, [], ◌∷◌, ℕ, zero, suc, ◌*◌, ◌%◌, ◌/◌}
use Rattle.rules.specs.Tasks.{Task}

-- The greatest common divisor by a falling remainder, and the least common multiple of the periods
unfoldable pub gcd_in : ℕ → ℕ → ℕ → ℕ
gcd_in zero a b = a
gcd_in (suc k) a zero = a
gcd_in (suc k) a (suc b) = gcd_in k (suc b) (a % suc b)

-- the greatest common divisor
unfoldable pub gcd : ℕ → ℕ → ℕ
gcd a b = gcd_in (suc b) a b

-- the least common multiple
unfoldable pub lcm : ℕ → ℕ → ℕ
lcm a b = a / gcd a b * b

-- "The hyper-period is the least common multiple of the periods, H"
unfoldable pub hyper : List Task → ℕ
hyper [] = 1
hyper (τ ∷ τs) = lcm τ.period (hyper τs)

-- all of the above, for proofs that compute
unfoldable pub open_hyper : Type 0
unfolding gcd_in gcd lcm hyper
open_hyper = Unit {0}
