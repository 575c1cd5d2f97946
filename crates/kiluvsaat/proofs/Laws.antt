-- Laws of lists, numbers and bytes that hold by themselves: a table cut or with an entry more, a pattern with an entry more, a product that fits, and bytes that
-- are zero.
use mathlib.Core.Path.{◌≡◌, refl, sym, ap, ◌∙◌}
use mathlib.Core.Logic.{◌⊎◌, inl, inr}
use mathlib.Core.Bool.{true, false, cond, ◌&&◌, and-true, and_assoc}
use mathlib.Core.List.{List, [], ◌∷◌, ◌++◌}
use Prim.Native.Nat.{ℕ, zero, suc, ◌+◌, ◌-◌, ◌*◌, ◌/◌, ◌≤◌, ◌<◌}
use native.Mathlib.Nat.{mul-le-mul, le_trans, div-le_self}
use native.Mathlib.Omega.{arith}
use borrow.Author.Tests.{lt-ltb, le-ltb, le-leb, lt-leb, eq-eqb, ne_eqb}
use lib.Dec.{leb, ltb}
use lib.ListN.{get_or, take}
use Rattle.rules.specs.Lists.{tabulate, is_zero}
use Rattle.rules.specs.Tasks.{sum, place_of}
use Rattle.rules.specs.Records.{between, all_between}
use Rattle.rules.specs.States.{is_ready_stand, is_blank_job}
use Rattle.rules.proofs.Laws.{le-or-lt}
use Rattle.player.specs.Bytes.{pair_at, stand_of_byte, job_at}

module _ {A : Type 0} where
  pub tabulate-more : (g : ℕ → A) (i n : ℕ) → tabulate g i (suc n) ≡ tabulate g i n ++ (g (i + n) ∷ [])
  unfolding tabulate
  tabulate-more g i zero = let e : i + 0 ≡ i = omega arith in rw e
  tabulate-more g i (suc n) = let e : suc i + n ≡ i + suc n = omega arith in ap (λ l. g i ∷ l) (tabulate-more g (suc i) n ∙ ap (λ k. tabulate g (suc i) n ++ (g k ∷ [])) e)

  pub tabulate-few : (g : ℕ → A) (i n m : ℕ) → n ≤ m → take n (tabulate g i m) ≡ tabulate g i n
  unfolding tabulate
  tabulate-few g i zero m h = refl
  tabulate-few g i (suc n) zero h = absurd (omega arith)
  tabulate-few g i (suc n) (suc m) h = ap (λ l. g i ∷ l) (tabulate-few g (suc i) n m (omega arith))

-- progress is a place further where the whole is not longer than it
pub place-more : (xs : List ℕ) (x p : ℕ) → place_of (xs ++ (x ∷ [])) p ≡ cond (leb (sum xs + x) p) (suc (place_of xs p)) (place_of xs p)
unfolding sum place_of
place-more [] x p = go (le-or-lt x p)
  where
    go : (x ≤ p) ⊎ (p < x) → ◌≡◌ {A = ℕ} (cond (ltb p x) 0 1) (cond (leb (0 + x) p) 1 0)
    go (inl h) = rw (le-ltb p x h, le-leb (0 + x) p (omega arith))
    go (inr h) = rw (lt-ltb p x h, lt-leb (0 + x) p (omega arith))
place-more (y ∷ ys) x p = go (le-or-lt y p) (le-or-lt (sum ys + x) (p - y)) (place-more ys x (p - y))
  where
    go : (y ≤ p) ⊎ (p < y) → (sum ys + x ≤ p - y) ⊎ (p - y < sum ys + x) → place_of (ys ++ (x ∷ [])) (p - y) ≡ cond (leb (sum ys + x) (p - y)) (suc (place_of ys (p - y))) (place_of ys (p - y))
        → cond (ltb p y) 0 (suc (place_of (ys ++ (x ∷ [])) (p - y))) ≡ cond (leb (y + sum ys + x) p) (suc (cond (ltb p y) 0 (suc (place_of ys (p - y))))) (cond (ltb p y) 0 (suc (place_of ys (p - y))))
    go (inr h) k e = rw (lt-ltb p y h, lt-leb (y + sum ys + x) p (omega arith))
    go (inl h) (inl k) e = rw (le-ltb p y h, e, le-leb (sum ys + x) (p - y) k, le-leb (y + sum ys + x) p (omega arith))
    go (inl h) (inr k) e = rw (le-ltb p y h, e, lt-leb (sum ys + x) (p - y) k, lt-leb (y + sum ys + x) p (omega arith))

pub between_more : (a b : ℕ) (xs : List ℕ) (x : ℕ) → all_between a b (xs ++ (x ∷ [])) ≡ (all_between a b xs && between a b x)
unfolding all_between
between_more a b [] x = and-true (between a b x)
between_more a b (y ∷ ys) x = ap (λ u. between a b y && u) (between_more a b ys x) ∙ sym (and_assoc (between a b y) (all_between a b ys) (between a b x))

pub multiple-fits : (a b g : ℕ) → a ≤ 65535 → b ≤ 65535 → a / g * b ≤ 65535 * 65535
multiple-fits a b g h k = mul-le-mul (le_trans (div-le_self a g) h) k

not-zero : (n : ℕ) → (n ≡ 0 → ⊥) → is_zero n ≡ false
unfolding is_zero
not-zero n h = ne_eqb n 0 h

is-zero : (n : ℕ) → n ≡ 0 → is_zero n ≡ true
unfolding is_zero
is-zero n h = eq-eqb n 0 h

-- such a number is zero if its bytes are
two-zero : (x y : ℕ) → is_zero (x + 256 * y) ≡ (is_zero x && is_zero y)
unfolding is_zero
two-zero zero zero = refl
two-zero zero (suc y) = not-zero (zero + 256 * suc y) (λ q. omega arith) ∙ sym (not-zero (suc y) (λ q. omega arith))
two-zero (suc x) y = not-zero (suc x + 256 * y) (λ q. omega arith) ∙ ap (λ b. b && is_zero y) (sym (not-zero (suc x) (λ q. omega arith)))

pub pair-zero : (bs : List ℕ) (at : ℕ) → is_zero (pair_at bs at) ≡ (is_zero (get_or bs at 0) && is_zero (get_or bs (suc at) 0))
unfolding pair_at
pair-zero bs at = two-zero (get_or bs at 0) (get_or bs (suc at) 0)

pub ready-byte : (b : ℕ) → is_ready_stand (stand_of_byte b) ≡ is_zero b
unfolding is_ready_stand stand_of_byte
ready-byte zero = sym (is-zero 0 refl)
ready-byte (suc zero) = sym (not-zero 1 (λ q. omega arith))
ready-byte (suc (suc zero)) = sym (not-zero 2 (λ q. omega arith))
ready-byte (suc (suc (suc zero))) = sym (not-zero 3 (λ q. omega arith))
ready-byte (suc (suc (suc (suc zero)))) = sym (not-zero 4 (λ q. omega arith))
ready-byte (suc (suc (suc (suc (suc b))))) = sym (not-zero (suc (suc (suc (suc (suc b))))) (λ q. omega arith))

pub job-zero : (bs : List ℕ) (at : ℕ) → is_blank_job (job_at bs at) ≡ (is_zero (pair_at bs at) && is_zero (get_or bs (2 + at) 0))
unfolding is_blank_job job_at
job-zero bs at =
    let one : suc at ≡ 1 + at = omega arith in
    rw (pair-zero bs at, ready-byte (get_or bs at 0), one) (sym (and_assoc (is_zero (get_or bs at 0)) (is_zero (get_or bs (1 + at) 0)) (is_zero (get_or bs (2 + at) 0))))
