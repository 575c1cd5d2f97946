-- An array made place by place: what a loop over the first places keeps, and what its view is at the end.
use mathlib.Core.Path.{◌≡◌, refl, sym, ap, ◌∙◌}
use mathlib.Core.Logic.{◌⊎◌, inl, inr}
use mathlib.Core.List.{List, [], ◌∷◌, ◌++◌}
use Prim.Native.Nat.{ℕ, zero, suc, ◌+◌, ◌-◌, ◌≤◌, ◌<◌}
use native.Mathlib.Omega.{arith}
use lib.ListN.{length, get_or, set, replicate, length-append, length-set, length-replicate, get_or-replicate, replicate-append-replicate, get_or-eq_default}
use lib.Seq.{get_or-set_same, get_or-set_other, ext_get_or}
use Rattle.rules.specs.Lists.{tabulate, padded}
use Rattle.rules.proofs.Laws.{le-or-lt}
use Rattle.rules.proofs.Lists.{tabulate-at, tabulate-length}

-- ── padding ─────────────────────────────────────────────────────────────────

module _ {A : Type 0} (x : A) where
  same_at : (n k : ℕ) → get_or (replicate n x) k x ≡ x
  same_at n k = go (le-or-lt n k)
    where
      go : (n ≤ k) ⊎ (k < n) → get_or (replicate n x) k x ≡ x
      go (inl h) = get_or-eq_default (replicate n x) x (omega (arith, length-replicate n x))
      go (inr h) = get_or-replicate n k x x h

  more-at : (n : ℕ) (xs : List A) (k : ℕ) → get_or (xs ++ replicate n x) k x ≡ get_or xs k x
  more-at n [] k = same_at n k
  more-at n (y ∷ ys) zero = refl
  more-at n (y ∷ ys) (suc k) = more-at n ys k

  pub padded-at : (m : ℕ) (xs : List A) (k : ℕ) → get_or (padded m x xs) k x ≡ get_or xs k x
  unfolding padded
  padded-at m xs k = more-at (m - length xs) xs k

  pub padded-length : (m : ℕ) (xs : List A) → length xs ≤ m → length (padded m x xs) ≡ m
  unfolding padded
  padded-length m xs h = omega (arith, length-append xs (replicate (m - length xs) x), length-replicate (m - length xs) x)

  pub padded-same : (m n : ℕ) → n ≤ m → padded m x (replicate n x) ≡ replicate m x
  unfolding padded
  padded-same m n h =
      let l = length-replicate n x in
      let e : n + (m - length (replicate n x)) ≡ m = omega arith in
      replicate-append-replicate n (m - length (replicate n x)) x ∙ ap (λ k. replicate k x) e

-- ── an array made place by place ────────────────────────────────────────────

-- v is the view of an entry, d what is read past the array's end, x the view of an entry not in use, and xs what is to be made
module _ {A B : Type 0} (m : ℕ) (v : A → B) (d : A) (x : B) (xs : List B) where
  -- the entries before place i are made, and the others are not in use
  pub record Made (i : ℕ) (l : List A) : Type 0 where
    pub long : length l ≡ m
    pub done : (k : ℕ) → k < i → v (get_or l k d) ≡ get_or xs k x
    pub rest : (k : ℕ) → i ≤ k → k < m → v (get_or l k d) ≡ x

  pub made-start : (y : A) → v y ≡ x → Made 0 (replicate m y)
  made-start y e = record { long = length-replicate m y; done = λ k h. absurd (omega arith); rest = λ k h l. ap v (get_or-replicate m k y d l) ∙ e }

  pub made-step : (i : ℕ) (l : List A) (y : A) → Made i l → i < m → v y ≡ get_or xs i x → Made (i + 1) (set l i y)
  made-step i l y s h e = record {
    long = length-set l i y ∙ s.long;
    done = λ k j. at k (le-or-lt i k) j;
    rest = λ k j n. ap v (get_or-set_other l i k y d (λ q. omega arith)) ∙ s.rest k (omega arith) n;
  }
    where
      at : (k : ℕ) → (i ≤ k) ⊎ (k < i) → k < i + 1 → v (get_or (set l i y) k d) ≡ get_or xs k x
      at k (inr j) n = ap v (get_or-set_other l i k y d (λ q. omega arith)) ∙ s.done k j
      at k (inl j) n =
          let q : k ≡ i = omega arith in
          let w = s.long in
          rw q (ap v (get_or-set_same l i y d (omega arith)) ∙ e)

  pub made-end : (i : ℕ) (l : List A) → Made i l → length xs ≤ i → length xs ≤ m → tabulate (λ k. v (get_or l k d)) 0 m ≡ padded m x xs
  made-end i l s h j =
      let t = tabulate-length (λ k. v (get_or l k d)) 0 m in
      let p = padded-length x m xs j in
      ext_get_or x (tabulate (λ k. v (get_or l k d)) 0 m) (padded m x xs) (omega arith) (λ k n. tabulate-at (λ k. v (get_or l k d)) 0 m k x (omega arith) ∙ ap (λ k. v (get_or l k d)) (omega arith) ∙ at k (le-or-lt (length xs) k) (omega arith) ∙ sym (padded-at x m xs k))
    where
      at : (k : ℕ) → (length xs ≤ k) ⊎ (k < length xs) → k < m → v (get_or l k d) ≡ get_or xs k x
      at k (inr n) q = s.done k (omega arith)
      at k (inl n) q = beyond k (le-or-lt i k) n q
        where
          beyond : (k : ℕ) → (i ≤ k) ⊎ (k < i) → length xs ≤ k → k < m → v (get_or l k d) ≡ get_or xs k x
          beyond k (inl u) n q = s.rest k u q ∙ sym (get_or-eq_default xs x n)
          beyond k (inr u) n q = s.done k u
