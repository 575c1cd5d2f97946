-- Arrays made entry by entry, and parts of a string: what a loop over the entries keeps, what it has at the end, and parts written one behind the other.
use mathlib.Core.Path.{◌≡◌, refl, ap, ◌∙◌}
use borrow.Author.Count.{below_more}
use mathlib.Core.List.{List, [], ◌∷◌, ◌++◌}
use Prim.Native.Nat.{ℕ, zero, suc, ◌+◌, ◌≤◌, ◌<◌}
use native.Mathlib.Nat.{zero-add}
use native.Mathlib.Omega.{arith}
use lib.ListN.{length, get_or, set, drop, length-set}
use lib.Seq.{get_or-set_same, get_or-set_other, sets, sets-eq}
use Rattle.rules.specs.Lists.{tabulate}
use Rattle.player.specs.Bytes.{joined}

-- ── tables ──────────────────────────────────────────────────────────────────

module _ {A : Type 0} where
  pub tabulate-same : (f g : ℕ → A) (i n : ℕ) → ((k : ℕ) → k < i + n → f k ≡ g k) → tabulate f i n ≡ tabulate g i n
  unfolding tabulate
  tabulate-same f g i zero h = refl
  tabulate-same f g i (suc n) h = rw (h i (omega arith), tabulate-same f g (suc i) n (λ k l. h k (omega arith)))

-- ── reading ─────────────────────────────────────────────────────────────────

-- m entries are read; v is the view of an entry, d what is read past the array's end, and f what stands at a place
module _ {A B : Type 0} (m : ℕ) (v : A → B) (d : A) (f : ℕ → B) where
  -- the entries before place i are read
  pub record Got (i : ℕ) (l : List A) : Type 0 where
    pub long : length l ≡ m
    pub done : (k : ℕ) → k < i → v (get_or l k d) ≡ f k

  pub got-step : (i : ℕ) (l : List A) (y : A) → Got i l → i < m → v y ≡ f i → Got (i + 1) (set l i y)
  got-step i l y s h e =
      let w = s.long in
      record {
        long = length-set l i y ∙ s.long;
        done = below_more _ _ (λ k j. ap v (get_or-set_other l i k y d (λ q. omega arith)) ∙ s.done k j) (ap v (get_or-set_same l i y d (omega arith)) ∙ e);
      }

  pub got-end : (i : ℕ) (l : List A) → Got i l → m ≤ i → tabulate (λ k. v (get_or l k d)) 0 m ≡ tabulate f 0 m
  got-end i l s h = tabulate-same (λ k. v (get_or l k d)) f 0 m (λ k j. s.done k (omega arith))

-- ── writing ─────────────────────────────────────────────────────────────────

pub sets-append : (o : List ℕ) (i : ℕ) (vs ws : List ℕ) → sets o i (vs ++ ws) ≡ sets (sets o i vs) (i + length vs) ws
sets-append o i [] ws = let e : i + 0 ≡ i = omega arith in rw e
sets-append o i (v ∷ vs) ws = let e : suc i + length vs ≡ i + suc (length vs) = omega arith in sets-append (set o i v) (suc i) vs ws ∙ ap (λ k. sets (sets (set o i v) (suc i) vs) k ws) e

pub sets-next : (o : List ℕ) (i n : ℕ) (vs ws : List ℕ) → length vs ≡ n → sets o i (vs ++ ws) ≡ sets (sets o i vs) (i + n) ws
sets-next o i n vs ws e = sets-append o i vs ws ∙ ap (λ k. sets (sets o i vs) (i + k) ws) e

-- all from the start on
pub sets-all : (o vs : List ℕ) (n : ℕ) → length vs ≡ n → n ≤ length o → sets o 0 vs ≡ vs ++ drop n o
sets-all o vs n e h = sets-eq vs o 0 (omega arith) ∙ ap (λ k. vs ++ drop k o) (zero-add (length vs) ∙ e)

pub joined-single : (xs : List ℕ) → joined (λ (x : ℕ). x ∷ []) xs ≡ xs
unfolding joined
joined-single [] = refl
joined-single (x ∷ xs) = ap (λ l. x ∷ l) (joined-single xs)
