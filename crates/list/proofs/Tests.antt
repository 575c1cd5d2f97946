-- A test of every element of a list, and the first element that passes one.
use mathlib.Core.Bool.{Bool, true, false, ◌&&◌, and_assoc}
use mathlib.Core.List.{List, [], ◌∷◌, ◌++◌}
use mathlib.Core.Path.{◌≡◌, refl, sym, ap, ◌∙◌}
use Prim.Native.Nat.{ℕ, zero, suc, ◌≤◌, ◌<◌}
use native.Mathlib.Omega.{arith}
use Rattle.std.specs.Prelude.{Some, None, position, length}
use lib.ListN.{get_or}
use Rattle.std.specs.List.{position_or_len}
use Rattle.std.proofs.lemmas.Bool.Decides.{nat_tests}
use Rattle.rules.specs.Lists.{all_of}

pub all_append : {A : Type 0} (f : A → Bool) (xs ys : List A) → all_of f (xs ++ ys) ≡ (all_of f xs && all_of f ys)
unfolding all_of
all_append f [] ys = refl
all_append f (x ∷ xs) ys = ap (λ (t : Bool). f x && t) (all_append f xs ys) ∙ sym (and_assoc (f x) (all_of f xs) (all_of f ys))

pub position-at : {A : Type 0} (p : A → Bool) (xs : List A) (i : ℕ) → position p xs ≡ Some i → (i ≡ position_or_len p xs) × (i < length xs)
position-at p xs i e = grind (arith, nat_tests)

pub position-none : {A : Type 0} (p : A → Bool) (xs : List A) → position p xs ≡ None → length xs ≤ position_or_len p xs
position-none p xs e = grind (arith, nat_tests)

-- ── a search by place ───────────────────────────────────────────────────────

first-here : {A : Type 0} (p : A → Bool) (d : A) (xs : List A) (i : ℕ) → i < length xs → p (get_or xs i d) ≡ true → ((k : ℕ) → k < i → p (get_or xs k d) ≡ false) → position_or_len p xs ≡ i
first-here p d [] i h e b = absurd (omega arith)
first-here p d (x ∷ xs) zero h e b = rw e refl
first-here p d (x ∷ xs) (suc i) h e b =
    let r = first-here p d xs i (omega arith) e (λ k m. b (suc k) (omega arith)) in
    rw (b 0 (omega arith)) (omega (arith, r))

first-nowhere : {A : Type 0} (p : A → Bool) (d : A) (xs : List A) → ((k : ℕ) → k < length xs → p (get_or xs k d) ≡ false) → position_or_len p xs ≡ length xs
first-nowhere p d [] b = refl
first-nowhere p d (x ∷ xs) b =
    let r = first-nowhere p d xs (λ k m. b (suc k) (omega arith)) in
    rw (b 0 (omega arith)) (omega (arith, r))

-- the place of a number that passes, where none before it does
pub position_here : (p : ℕ → Bool) (xs : List ℕ) (i : ℕ) → i < length xs → p (get_or xs i 0) ≡ true → ((k : ℕ) → k < i → p (get_or xs k 0) ≡ false) → Some i ≡ position p xs
position_here p xs i h e b = let r = first-here p 0 xs i h e b in grind (arith, nat_tests)

pub position_nowhere : (p : ℕ → Bool) (xs : List ℕ) (i : ℕ) → length xs ≤ i → ((k : ℕ) → k < i → p (get_or xs k 0) ≡ false) → None ≡ position p xs
position_nowhere p xs i h b = let r = first-nowhere p 0 xs (λ k m. b k (omega arith)) in grind (arith, nat_tests)

pub ruleset first_laws = (position_here, position_nowhere)
