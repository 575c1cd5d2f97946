-- Laws about tests and lists that the other proofs share.
use mathlib.Core.Path.{◌≡◌, refl}
use mathlib.Core.Logic.{◌⊎◌, inl, inr}
use mathlib.Core.Bool.{Bool, true, false, not, cond, ◌&&◌}
use mathlib.Core.List.{List, [], ◌∷◌, ◌++◌}
use Prim.Native.Nat.{ℕ, zero, suc, ◌≤◌, ◌<◌}
use native.Mathlib.Omega.{arith}
use borrow.Author.Tests.{eqb-true, eq-eqb, ne_eqb}
use lib.ListN.{length, get_or}
use Rattle.rules.specs.Lists.{all_of, is_zero}
use Rattle.rules.proofs.Lists.{clash, and_parts}

-- ── tests ───────────────────────────────────────────────────────────────────

pub decide : (b : Bool) → (b ≡ true) ⊎ (b ≡ false)
decide true = inl refl
decide false = inr refl

pub both : (a b : Bool) → a ≡ true → b ≡ true → (a && b) ≡ true
both a b p q = rw p q

pub all_append : {A : Type 0} (f : A → Bool) (xs ys : List A) → all_of f xs ≡ true → all_of f ys ≡ true → all_of f (xs ++ ys) ≡ true
unfolding all_of
all_append f [] ys p q = q
all_append f (x ∷ xs) ys p q = let a = and_parts (f x) (all_of f xs) p in both (f x) _ a.0 (all_append f xs ys a.1 q)

pub all-weaken : {A : Type 0} (f g : A → Bool) → ((x : A) → f x ≡ true → g x ≡ true) → (xs : List A) → all_of f xs ≡ true → all_of g xs ≡ true
unfolding all_of
all-weaken f g h [] p = refl
all-weaken f g h (x ∷ xs) p = let a = and_parts (f x) (all_of f xs) p in both (g x) _ (h x a.0) (all-weaken f g h xs a.1)

pub zero-true : (n : ℕ) → is_zero n ≡ true → n ≡ 0
unfolding is_zero
zero-true n e = eqb-true n 0 e

pub is-zero : (n : ℕ) → n ≡ 0 → is_zero n ≡ true
unfolding is_zero
is-zero n e = eq-eqb n 0 e

pub not-zero : (n : ℕ) → 1 ≤ n → is_zero n ≡ false
unfolding is_zero
not-zero n h = ne_eqb n 0 (omega arith)

-- the first of two refusals was not given
pub unrefused : (b : Bool) (n m : ℕ) → cond (not b) (suc n) m ≡ 0 → (b ≡ true) × (m ≡ 0)
unrefused true n m e = (refl, e)
unrefused false n m e = clash n e

-- ── what holds of each ──────────────────────────────────────────────────────

abbrev pub Each : {A : Type 0} → (A → Type 0) → List A → Type 0
Each P [] = Unit {0}
Each P (x ∷ xs) = P x × Each P xs

pub each_at : {A : Type 0} (P : A → Type 0) (xs : List A) (d : A) → Each P xs → (j : ℕ) → j < length xs → P (get_or xs j d)
each_at P [] d e j h = let z : ⊥ = omega arith in absurd z
each_at P (x ∷ xs) d e zero h = e.0
each_at P (x ∷ xs) d e (suc j) h = each_at P xs d e.1 j (omega arith)

pub each_append : {A : Type 0} (P : A → Type 0) (xs ys : List A) → Each P xs → Each P ys → Each P (xs ++ ys)
each_append P [] ys e f = f
each_append P (x ∷ xs) ys e f = (e.0, each_append P xs ys e.1 f)
