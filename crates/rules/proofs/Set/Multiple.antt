-- The hyper-period is the least common multiple.
use mathlib.Core.Path.{◌≡◌, refl, sym, ap, ◌∙◌}
use mathlib.Core.List.{List, [], ◌∷◌}
use Prim.Native.Nat.{ℕ, zero, suc, ◌*◌, ◌-◌, ◌<◌, ◌%◌, ◌/◌, ◌∣◌}
use native.Mathlib.Omega.{arith}
use native.Mathlib.Nat.{mod-lt, dvd_refl, dvd-zero, dvd-mod_iff, dvd-mul_left, dvd-mul_right, dvd_trans, div-mul_cancel, mul-div_cancel', mul-pos, mul_assoc, mul_comm, mul-dvd-mul_left, mul-dvd-mul_right, mod_def, mul-sub, mul-div-mul_left, dvd_of_mul-dvd-mul_right, mul-zero, zero-mul}
use lib.ListN.{length, get_or}
use Rattle.rules.specs.Tasks.{Task, no_task}
use Rattle.rules.specs.Hyper.{gcd_in, gcd, lcm, hyper}

gcd_in-dvd : (k a b : ℕ) → b < k → (gcd_in k a b ∣ a) × (gcd_in k a b ∣ b)
unfolding gcd_in
gcd_in-dvd zero a b h = let z : ⊥ = omega arith in absurd z
gcd_in-dvd (suc k) a zero h = (dvd_refl a, dvd-zero a)
gcd_in-dvd (suc k) a (suc b) h =
    let m : a % suc b < suc b = mod-lt a (omega arith) in
    let ih = gcd_in-dvd k (suc b) (a % suc b) (omega arith) in
    ((dvd-mod_iff (gcd_in k (suc b) (a % suc b)) ih.0).0 ih.1, ih.0)

gcd_in-greatest : (k a b d : ℕ) → d ∣ a → d ∣ b → d ∣ gcd_in k a b
unfolding gcd_in
gcd_in-greatest zero a b d p q = p
gcd_in-greatest (suc k) a zero d p q = p
gcd_in-greatest (suc k) a (suc b) d p q = gcd_in-greatest k (suc b) (a % suc b) d q ((dvd-mod_iff d q).1 p)

-- a common factor comes out
mod-mul-mul : (c a b : ℕ) → 0 < c → (c * a) % (c * b) ≡ c * (a % b)
mod-mul-mul c a b h = mod_def (c * a) (c * b) ∙ ap (λ q. c * a - c * b * q) (mul-div-mul_left a b h) ∙ ap (λ q. c * a - q) (mul_assoc c b (a / b)) ∙ sym (mul-sub c a (b * (a / b))) ∙ ap (λ q. c * q) (sym (mod_def a b))

gcd_in-step : (k a b : ℕ) → 0 < b → gcd_in (suc k) a b ≡ gcd_in k b (a % b)
unfolding gcd_in
gcd_in-step k a zero h = let z : ⊥ = omega arith in absurd z
gcd_in-step k a (suc b) h = refl

gcd_in-mul : (c k a b : ℕ) → 0 < c → gcd_in k (c * a) (c * b) ≡ c * gcd_in k a b
unfolding gcd_in
gcd_in-mul c zero a b h = refl
gcd_in-mul c (suc k) a zero h = rw (mul-zero c) refl
gcd_in-mul c (suc k) a (suc b) h = gcd_in-step k (c * a) (c * suc b) (mul-pos h (omega arith)) ∙ ap (λ r. gcd_in k (c * suc b) r) (mod-mul-mul c a (suc b) h) ∙ gcd_in-mul c k (suc b) (a % suc b) h

pub gcd-left : (a b : ℕ) → gcd a b ∣ a
unfolding gcd
gcd-left a b = (gcd_in-dvd (suc b) a b (omega arith)).0

pub gcd-right : (a b : ℕ) → gcd a b ∣ b
unfolding gcd
gcd-right a b = (gcd_in-dvd (suc b) a b (omega arith)).1

lcm-gcd : (a b : ℕ) → lcm a b * gcd a b ≡ a * b
unfolding lcm
lcm-gcd a b = let e : a / gcd a b * gcd a b ≡ a = div-mul_cancel (gcd a b) (gcd-left a b) in let r = ap (λ n. n * b) e in omega arith

pub lcm-left : (a b : ℕ) → a ∣ lcm a b
unfolding lcm
lcm-left a b =
    let e : a / gcd a b * gcd a b ≡ a = div-mul_cancel (gcd a b) (gcd-left a b) in
    let f : gcd a b * (b / gcd a b) ≡ b = mul-div_cancel' (gcd a b) (gcd-right a b) in
    let g : a / gcd a b * b ≡ a * (b / gcd a b) = ap (λ n. a / gcd a b * n) (sym f) ∙ sym (mul_assoc (a / gcd a b) (gcd a b) (b / gcd a b)) ∙ ap (λ n. n * (b / gcd a b)) e in
    rw g (dvd-mul_right a (b / gcd a b))

pub lcm-right : (a b : ℕ) → b ∣ lcm a b
unfolding lcm
lcm-right a b = dvd-mul_left b (a / gcd a b)

pos-dvd : (g a : ℕ) → 0 < a → g ∣ a → 0 < g
pos-dvd g a h d = native.Mathlib.Nat.pos_of_dvd_of_pos d h

pub lcm-pos : (a b : ℕ) → 0 < a → 0 < b → 0 < lcm a b
lcm-pos a b h k = go (lcm a b) (lcm-gcd a b)
  where
    go : (l : ℕ) → l * gcd a b ≡ a * b → 0 < l
    go zero e = let m : 0 < a * b = mul-pos h k in let z : ⊥ = omega (arith, zero-mul (gcd a b)) in absurd z
    go (suc l) e = omega arith

pub lcm-least : (a b m : ℕ) → 0 < a → 0 < m → a ∣ m → b ∣ m → lcm a b ∣ m
unfolding gcd
lcm-least a b m h k p q =
    let x : a * b ∣ m * a = rw (mul_comm m a) (mul-dvd-mul_left b a q) in
    let y : a * b ∣ m * b = mul-dvd-mul_right a p b in
    let z : a * b ∣ m * gcd a b = rw (gcd_in-mul m (suc b) a b k) at (gcd_in-greatest (suc b) (m * a) (m * b) (a * b) x y) in
    dvd_of_mul-dvd-mul_right (lcm a b) (pos-dvd (gcd a b) a h (gcd-left a b)) (rw (lcm-gcd a b) z)

-- every period divides H
pub hyper-dvd : (s : List Task) (j : ℕ) → j < length s → (get_or s j no_task).period ∣ hyper s
unfolding hyper
hyper-dvd [] j h = let z : ⊥ = omega arith in absurd z
hyper-dvd (τ ∷ s) zero h = lcm-left τ.period (hyper s)
hyper-dvd (τ ∷ s) (suc j) h = dvd_trans (get_or s j no_task).period (hyper-dvd s j (omega arith)) (lcm-right τ.period (hyper s))

pub hyper-pos : (s : List Task) → ((j : ℕ) → j < length s → 0 < (get_or s j no_task).period) → 0 < hyper s
unfolding hyper
hyper-pos [] h = omega arith
hyper-pos (τ ∷ s) h = lcm-pos τ.period (hyper s) (h 0 (omega arith)) (hyper-pos s (λ j k. h (suc j) (omega arith)))

-- and H is the least number above 0 that they divide: it divides every other
pub hyper-least : (s : List Task) (m : ℕ) → ((j : ℕ) → j < length s → 0 < (get_or s j no_task).period) → 0 < m → ((j : ℕ) → j < length s → (get_or s j no_task).period ∣ m) → hyper s ∣ m
unfolding hyper
hyper-least [] m h k d = native.Mathlib.Nat.one-dvd m
hyper-least (τ ∷ s) m h k d = lcm-least τ.period (hyper s) m (h 0 (omega arith)) k (d 0 (omega arith)) (hyper-least s m (λ j l. h (suc j) (omega arith)) k (λ j l. d (suc j) (omega arith)))
