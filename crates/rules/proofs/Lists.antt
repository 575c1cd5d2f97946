-- Laws about lists and numbers that the other proofs share.
use mathlib.Core.Path.{◌≡◌, refl, ap, ◌∙◌}
use mathlib.Core.Bool.{Bool, true, false, ◌&&◌}
use Prim.Native.Nat.{ℕ, zero, suc, ◌+◌, ◌<◌}
use native.Mathlib.Omega.{arith}
use lib.ListN.{length, get_or}
use Rattle.rules.specs.Lists.{tabulate}

-- ── what cannot be ──────────────────────────────────────────────────────────

pub clash : {A : Type 0} (n : ℕ) → ◌≡◌ {A = ℕ} (suc n) 0 → A
clash n e = let z : ⊥ = omega arith in absurd z

pub clash-01 : {A : Type 0} → ◌≡◌ {A = ℕ} 0 1 → A
clash-01 e = let z : ⊥ = omega arith in absurd z

pub clash-bool : {A : Type 0} → ◌≡◌ {A = Bool} false true → A
clash-bool e = let z : ◌≡◌ {A = ℕ} 0 1 = cc in clash-01 z

-- a test of two parts that passes, part by part
pub and_parts : (a b : Bool) → (a && b) ≡ true → (a ≡ true) × (b ≡ true)
and_parts true b e = (refl, e)
and_parts false b e = clash-bool e

-- ── tabulate ────────────────────────────────────────────────────────────────

pub tabulate-length : {A : Type 0} (f : ℕ → A) (i n : ℕ) → length (tabulate f i n) ≡ n
unfolding tabulate
tabulate-length f i zero = refl
tabulate-length f i (suc n) = ap suc (tabulate-length f (suc i) n)

pub tabulate-at : {A : Type 0} (f : ℕ → A) (i n j : ℕ) (d : A) → j < n → get_or (tabulate f i n) j d ≡ f (i + j)
unfolding tabulate
tabulate-at f i zero j d h = let z : ⊥ = omega arith in absurd z
tabulate-at f i (suc n) zero d h = ap f (omega arith)
tabulate-at f i (suc n) (suc j) d h = tabulate-at f (suc i) n j d (omega arith) ∙ ap f (omega arith)
