-- The units of a pattern as bytes.
use mathlib.Core.Bool.{true, false, and-false}
use mathlib.Core.List.{List, [], ◌∷◌, ◌++◌}
use mathlib.Core.Path.{◌≡◌, refl, sym, ◌∙◌}
use Prim.Native.Nat.{ℕ, zero, suc, ◌+◌, ◌-◌, ◌≤◌, ◌<◌}
use native.Mathlib.Numerals.{add-one}
use native.Mathlib.Omega.{arith}
use Rattle.std.specs.Prelude.{Option, Some, None, Result, Ok, Err, OkIff}
use Rattle.std.specs.Result.{result_ok}
use borrow.Author.Tests.{le-leb, lt-leb}
use lib.Dec.{leb-zero}
use lib.ListN.{length, get_or, take, set, replicate, length-append}
use lib.Seq.{length-take-le, take-suc, take_all, set_at, append_snoc}
use Rattle.rules.specs.Lists.{padded}
use Rattle.rules.specs.Records.{between, all_between}
use Rattle.list.specs.Inner.{units_of}

-- one entry more in a padded list
pub padded-more : {A : Type 0} (n : ℕ) (z x : A) (xs : List A) (k : ℕ) → length xs ≡ k → k < n → set (padded n z xs) k x ≡ padded n z (xs ++ x ∷ [])
unfolding padded
padded-more n z x xs k e h =
    let m : n - length xs ≡ suc (n - length (xs ++ x ∷ [])) = omega (arith, length-append xs (x ∷ [])) in
    rw m (set_at xs z (replicate (n - length (xs ++ x ∷ [])) z) x k e ∙ sym (append_snoc xs x (replicate (n - length (xs ++ x ∷ [])) z)))

all-bytes : (us : List ℕ) → ((k : ℕ) → k < length us → get_or us k 0 ≤ 255) → all_between 0 255 us ≡ true
unfolding all_between between
all-bytes [] h = refl
all-bytes (x ∷ us) h = rw (leb-zero, le-leb x 255 (h 0 (omega arith)), all-bytes us (λ k m. h (suc k) (omega arith)))

no-byte : (us : List ℕ) (i : ℕ) → i < length us → 255 < get_or us i 0 → all_between 0 255 us ≡ false
unfolding all_between between
no-byte [] i h g = absurd (omega arith)
no-byte (x ∷ us) zero h g = rw (leb-zero, lt-leb x 255 g)
no-byte (x ∷ us) (suc i) h g = rw (no-byte us i (omega arith) g, and-false)

pub units_good : (us : List ℕ) (n : ℕ) (p : List ℕ) → length us ≤ n → ((k : ℕ) → k < n → get_or us k 0 ≤ 255) → p ≡ padded 7 0 (take n us) → Some p ≡ units_of us
unfolding units_of
units_good us n p h b e = rw (all-bytes us (λ k m. b k (omega arith)), e, take_all n us h)

pub units_bad : (us : List ℕ) (i : ℕ) → i < length us → 255 < get_or us i 0 → None ≡ units_of us
unfolding units_of
units_bad us i h g = rw (no-byte us i h g)

pub unit_store : (us : List ℕ) (i : ℕ) (p : List ℕ) → i < length us → i < 7 → p ≡ padded 7 0 (take i us) → set p i (get_or us i 0) ≡ padded 7 0 (take (i + 1) us)
unit_store us i p h m e = rw (e, add-one, take-suc us i 0 h) (padded-more 7 0 (get_or us i 0) (take i us) i (length-take-le i us (omega arith)) m)

-- what `u8::try_from(x).ok()` gives
module _ {E : Type 0} where
  pub byte_is : (r : Result ℕ E) (x v : ℕ) → OkIff r (x < 256) x → ◌≡◌ {A = Option ℕ} (Some v) (result_ok r) → (x < 256) × (x ≡ v)
  byte_is (Ok y) x v h e = let q : y ≡ x = h.1 in (h.0, cc)
  byte_is (Err f) x v h e = absurd cc

  pub byte_not : (r : Result ℕ E) (x : ℕ) → OkIff r (x < 256) x → ◌≡◌ {A = Option ℕ} None (result_ok r) → 255 < x
  byte_not (Ok y) x h e = absurd cc
  byte_not (Err f) x h e = omega (arith, h)
