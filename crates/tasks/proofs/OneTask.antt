-- Laws of one task: its pattern walked entry by entry, where progress stands in it, and its laxity in 32 bits.
use Rattle.std.specs.Prelude.{min}
use Rattle.std.specs.List.{fold}
use mathlib.Core.Path.{◌≡◌, refl, sym, ap, ap₂, ◌∙◌}
use mathlib.Core.Logic.{◌⊎◌, inl, inr}
use mathlib.Core.Bool.{Bool, true, false, cond}
use mathlib.Core.List.{List, [], ◌∷◌}
use Prim.Native.Nat.{ℕ, suc, ◌+◌, ◌-◌, ◌*◌, ◌%◌, ◌≤◌, ◌<◌, ◌^◌}
use native.Mathlib.Numerals.{add-one}
use native.Mathlib.Omega.{arith}
use lib.Dec.{T, leb, ltb}
use lib.IntN.{ℤ, pos, negsuc, ◌-ℤ◌}
use lib.Signed.{mag, non_neg, le_z}
use lib.ListN.{length, get_or, take, drop, drop_of_length-le, get_or-eq_default}
use lib.Seq.{drop-cons, get_or-take, length-take-le, ext_get_or}
use mir.Syntax.{w8, w32}
use mir.Val.{Fits, SFits, hbits, to_z, of_z}
use mir.Facts.{to_z_pos, to_z-of_z}
use borrow.Author.Rules.{sfits_of}
use borrow.Author.Tests.{lt-ltb, le-ltb, le-leb, lt-leb}
use Rattle.rules.specs.Tasks as model
use Rattle.rules.specs.Tasks.{sum, span, Standing, ready, waiting, done, within, standing, is_done, place_of}
use Rattle.rules.specs.Positions.{laxity, in_time}
use Rattle.rules.proofs.Laws.{T_true, le-or-lt, done_at, undone, in_time-lax, in_time-use, mag-sub, mag_less}
use Rattle.rules.proofs.Lists.{clash-01, clash-bool}
use Rattle.tasks.specs.declared.Task.{Task}
use Rattle.tasks.specs.declared.Standing as code
use Rattle.tasks.specs.Views.{task_of, standing_of}
use Rattle.tasks.proofs.Views.{pattern-few, pattern-all, pattern-at}

-- ── the sum of a pattern, in the library's word ─────────────────────────────

sum-from : (ns : List ℕ) (a : ℕ) → fold ◌+◌ a ns ≡ a + sum ns
unfolding sum
sum-from [] a = omega arith
sum-from (n ∷ ns) a = omega (arith, sum-from ns (a + n))

pub sum-same : (ns : List ℕ) → Rattle.std.specs.List.sum ns ≡ sum ns
sum-same ns = omega (arith, sum-from ns 0)

-- ── the entries in use are the first of the array ───────────────────────────

in_use : (t : Task) (i : ℕ) → i < length (task_of t).pattern → (i < t.steps + t.steps - 1) × (i < 7)
in_use t i h = go (le-or-lt (t.steps + t.steps - 1) 7)
  where
    go : (t.steps + t.steps - 1 ≤ 7) ⊎ (7 < t.steps + t.steps - 1) → (i < t.steps + t.steps - 1) × (i < 7)
    go (inl k) = let e = pattern-few t k in (omega arith, omega arith)
    go (inr k) = let e = pattern-all t (omega arith) in (omega arith, omega arith)

pub pattern-short : (t : Task) → length (task_of t).pattern ≤ 7
pattern-short t = go (le-or-lt (length (task_of t).pattern) 7)
  where
    go : (length (task_of t).pattern ≤ 7) ⊎ (7 < length (task_of t).pattern) → length (task_of t).pattern ≤ 7
    go (inl k) = k
    go (inr k) = let h = in_use t 7 k in omega arith

pub pattern-length : (t : Task) → length (task_of t).pattern ≡ min (2 * t.steps - 1) 7
pattern-length t = go (le-or-lt (t.steps + t.steps - 1) 7)
  where
    go : (t.steps + t.steps - 1 ≤ 7) ⊎ (7 < t.steps + t.steps - 1) → length (task_of t).pattern ≡ min (2 * t.steps - 1) 7
    go (inl k) = let e = pattern-few t k in grind arith
    go (inr k) = let e = pattern-all t (omega arith) in grind arith

pub entry_read : (t : Task) (i : ℕ) → i < length (task_of t).pattern → get_or t.pattern i 0 ≡ get_or (task_of t).pattern i 0
entry_read t i h = let k = in_use t i h in sym (pattern-at t i k.0 k.1)

pub entry-beyond : (t : Task) (i : ℕ) → length (task_of t).pattern ≤ i → 0 ≡ get_or (task_of t).pattern i 0
entry-beyond t i h = sym (get_or-eq_default (task_of t).pattern 0 h)

pub pattern-take : (t : Task) (n : ℕ) → length t.pattern ≡ 7 → n ≡ length (task_of t).pattern → (task_of t).pattern ≡ take n t.pattern
pattern-take t n e h =
    let k = pattern-short t in
    let q : length (take n t.pattern) ≡ n = length-take-le n t.pattern (omega arith) in
    ext_get_or 0 (task_of t).pattern (take n t.pattern) (omega arith) (λ i l. sym (entry_read t i l) ∙ sym (get_or-take n t.pattern i 0 (omega arith)))

-- ── a pattern walked entry by entry ─────────────────────────────────────────

module _ (l : List ℕ) (i : ℕ) (lt : i < length l) (p : ℕ) where
  pub place_more : get_or l i 0 ≤ p → place_of (drop i l) p ≡ place_of (drop (i + 1) l) (p - get_or l i 0) + 1
  unfolding place_of
  place_more h = rw (drop-cons l i 0 lt, add-one, add-one, le-ltb p (get_or l i 0) h) refl

  pub place_here : p < get_or l i 0 → place_of (drop i l) p ≡ 0
  unfolding place_of
  place_here h = rw (drop-cons l i 0 lt, lt-ltb p (get_or l i 0) h) refl

pub place_end : (l : List ℕ) (i p : ℕ) → length l ≤ i → place_of (drop i l) p ≡ 0
unfolding place_of
place_end l i p le = ap (λ (k : List ℕ). place_of k p) (drop_of_length-le l {i = i} le)

pub ruleset place_laws = (place_more, place_here, place_end)

-- ── where progress stands, by its place ─────────────────────────────────────

-- past the last entry it is done
within-past : (a b : Standing) (ns : List ℕ) (p : ℕ) → length ns ≤ place_of ns p → within a b ns p ≡ done
unfolding within place_of
within-past a b [] p h = refl
within-past a b (n ∷ ns) p h = go (ltb p n) refl h (within-past b a ns (p - n))
  where
    go : (u : Bool) → ltb p n ≡ u → length (n ∷ ns) ≤ cond u 0 (suc (place_of ns (p - n))) → (length ns ≤ place_of ns (p - n) → within b a ns (p - n) ≡ done) → cond (ltb p n) a (within b a ns (p - n)) ≡ done
    go true e k ih = let z : ⊥ = omega arith in absurd z
    go false e k ih = rw e (ih (omega arith))

-- at an even place it is of the first kind, at an odd one of the second
record Turns (a b : Standing) (ns : List ℕ) (p : ℕ) : Type 0 where
  pub even : place_of ns p % 2 ≡ 0 → within a b ns p ≡ a
  pub odd : place_of ns p % 2 ≡ 1 → within a b ns p ≡ b

within-turns : (a b : Standing) (ns : List ℕ) (p : ℕ) → place_of ns p < length ns → Turns a b ns p
unfolding within place_of
within-turns a b [] p h = let z : ⊥ = omega arith in absurd z
within-turns a b (n ∷ ns) p h = go (ltb p n) refl h (within-turns b a ns (p - n))
  where
    go : (u : Bool) → ltb p n ≡ u → cond u 0 (suc (place_of ns (p - n))) < length (n ∷ ns) → (place_of ns (p - n) < length ns → Turns b a ns (p - n)) → Turns a b (n ∷ ns) p
    go true e k ih = record { even = λ _. rw e; odd = λ o. clash-01 (rw e at o) }
    go false e k ih = let t = ih (omega arith) in record {
      even = λ o. let q : suc (place_of ns (p - n)) % 2 ≡ 0 = rw e at o in rw e (t.odd (omega arith));
      odd = λ o. let q : suc (place_of ns (p - n)) % 2 ≡ 1 = rw e at o in rw e (t.even (omega arith));
    }

module _ (τ : model.Task) (p : ℕ) where
  pub stands-done : length τ.pattern ≤ place_of τ.pattern p → standing τ p ≡ done
  unfolding standing
  stands-done h = within-past ready waiting τ.pattern p h

  pub stands-ready : place_of τ.pattern p < length τ.pattern → place_of τ.pattern p % 2 ≡ 0 → standing τ p ≡ ready
  unfolding standing
  stands-ready h e = (within-turns ready waiting τ.pattern p h).even e

  pub stands-waiting : place_of τ.pattern p < length τ.pattern → place_of τ.pattern p % 2 ≡ 1 → standing τ p ≡ waiting
  unfolding standing
  stands-waiting h e = (within-turns ready waiting τ.pattern p h).odd e

-- the same, walked entry by entry: k are passed, and q is left of the progress
module _ (τ : model.Task) (p k q : ℕ) (left : place_of τ.pattern p ≡ k + place_of (drop k τ.pattern) q) where
  walked-here : k < length τ.pattern → q < get_or τ.pattern k 0 → place_of τ.pattern p ≡ k
  walked-here h l = let z = place_here τ.pattern k h q l in omega arith

  pub walked-ready : k < length τ.pattern → q < get_or τ.pattern k 0 → k % 2 ≡ 0 → ready ≡ standing τ p
  walked-ready h l e = let y = walked-here h l in sym (stands-ready τ p (omega arith) (rw y e))

  pub walked-waiting : k < length τ.pattern → q < get_or τ.pattern k 0 → k % 2 ≡ 1 → waiting ≡ standing τ p
  walked-waiting h l e = let y = walked-here h l in sym (stands-waiting τ p (omega arith) (rw y e))

  pub walked-done : length τ.pattern ≤ k → done ≡ standing τ p
  walked-done h = let z = place_end τ.pattern k q h in sym (stands-done τ p (omega arith))

-- ── progress that may rise ──────────────────────────────────────────────────

-- seven bytes sum to 1,785 at most
sum-small : (ns : List ℕ) → ((i : ℕ) → i < length ns → Fits w8 (get_or ns i 0)) → sum ns ≤ 255 * length ns
unfolding sum
sum-small [] h = omega arith
sum-small (n ∷ ns) h = let a = h 0 (omega arith) in let b = sum-small ns (λ i k. h (suc i) (omega arith)) in omega arith

pub span_small : (t : Task) → ((i : ℕ) → Fits w8 (get_or t.pattern i 0)) → span (task_of t) ≤ 1785
unfolding span
span_small t h =
    let a = sum-small (task_of t).pattern (λ i k. rw (sym (entry_read t i k)) (h i)) in
    let b = pattern-short t in
    omega arith

pub undone-below : (τ : model.Task) (p : ℕ) → is_done (standing τ p) ≡ false → p < span τ
unfolding is_done
undone-below τ p e = go (le-or-lt (span τ) p)
  where
    go : (span τ ≤ p) ⊎ (p < span τ) → p < span τ
    go (inl k) = clash-bool (sym (rw (done_at τ p k) at e))
    go (inr k) = k

-- ── what a call of `standing_at` told ───────────────────────────────────────

pub told : (k j : code.Standing) (σ : Standing) → standing_of k ≡ σ → k ≡ j → σ ≡ standing_of j
told k j σ e h = sym e ∙ ap standing_of h

-- ── laxity in 32 bits ───────────────────────────────────────────────────────

half : (n : ℕ) → n < 2 ^ 31 → to_z w32 n ≡ pos n
half n h = let k : n < 2 ^ hbits w32 = omega arith in to_z_pos w32 k

mag-minus : (y z : ℤ) → mag (y -ℤ z) ≤ mag y + mag z + 2
mag-minus y (pos b) = let h = mag_less y b in omega arith
mag-minus (pos a) (negsuc b) = omega arith
mag-minus (negsuc a) (negsuc b) = let h = mag-sub (suc b) (suc a) in omega arith

module _ (a b : ℕ) (h : a + b < 2 ^ 20) where
  pub difference-fits : SFits w32 (to_z w32 a -ℤ to_z w32 b)
  difference-fits = let m = mag-sub a b in rw (half a (omega arith), half b (omega arith)) (sfits_of (omega arith))

  difference : to_z w32 (of_z w32 (to_z w32 a -ℤ to_z w32 b)) ≡ pos a -ℤ pos b
  difference = to_z-of_z difference-fits ∙ ap₂ (λ y z. y -ℤ z) (half a (omega arith)) (half b (omega arith))

module _ (a b x y : ℕ) (h : a + b < 2 ^ 20) (k : x + y < 2 ^ 20) where
  pub differences-fit : SFits w32 (to_z w32 (of_z w32 (to_z w32 a -ℤ to_z w32 b)) -ℤ to_z w32 (of_z w32 (to_z w32 x -ℤ to_z w32 y)))
  differences-fit =
      let m = mag-sub a b in
      let n = mag-sub x y in
      let o = mag-minus (pos a -ℤ pos b) (pos x -ℤ pos y) in
      rw (difference a b h, difference x y k) (sfits_of (omega arith))

  pub differences : to_z w32 (of_z w32 (to_z w32 (of_z w32 (to_z w32 a -ℤ to_z w32 b)) -ℤ to_z w32 (of_z w32 (to_z w32 x -ℤ to_z w32 y)))) ≡ (pos a -ℤ pos b) -ℤ (pos x -ℤ pos y)
  differences = to_z-of_z differences-fit ∙ ap₂ (λ u v. u -ℤ v) (difference a b h) (difference x y k)

-- ── in time, by the progress and the length of the pattern ─────────────────

from_zero : (z : ℤ) → le_z (pos 0) z ≡ non_neg z
from_zero (pos a) = le-leb 0 a (omega arith)
from_zero (negsuc a) = refl

module _ (τ : model.Task) (length p : ℕ) (whole : length ≡ span τ) where
  pub done-from : length ≤ p → is_done (standing τ p) ≡ true
  unfolding is_done
  done-from h = ap is_done (done_at τ p (omega arith))

  pub undone-till : p < length → is_done (standing τ p) ≡ false
  undone-till h = undone τ p (omega arith)

  pub in-time-done : (e : ℕ) → length ≤ p → true ≡ in_time e τ p
  unfolding in_time
  in-time-done e h = rw (done-from h)

  pub in-time-left : (e : ℕ) → p < length → le_z (pos 0) (laxity τ e p) ≡ in_time e τ p
  unfolding in_time
  in-time-left e h = rw (undone-till h) (from_zero (laxity τ e p))

-- a job that is not done is in time where time and length do not pass deadline and progress
not_so : (b : Bool) → (T b → ⊥) → b ≡ false
not_so true h = absurd (h tt)
not_so false h = refl

pub lax-is : (e : ℕ) (τ : model.Task) (p : ℕ) → p < span τ → leb (e + span τ) (τ.deadline + p) ≡ in_time e τ p
lax-is e τ p h = go (le-or-lt (e + span τ) (τ.deadline + p))
  where
    go : (e + span τ ≤ τ.deadline + p) ⊎ (τ.deadline + p < e + span τ) → leb (e + span τ) (τ.deadline + p) ≡ in_time e τ p
    go (inl k) = le-leb (e + span τ) (τ.deadline + p) k ∙ sym (T_true (in_time e τ p) (in_time-lax e τ p (omega arith) k))
    go (inr k) = lt-leb (e + span τ) (τ.deadline + p) k ∙ sym (not_so (in_time e τ p) (λ t. let l = in_time-use e τ p h t in omega arith))
