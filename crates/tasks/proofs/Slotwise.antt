-- What a slot does: to one task, as the code tests it, and to all tasks, with what the loop over them keeps.
use mathlib.Core.Path.{◌≡◌, refl, sym, ap, ◌∙◌}
use mathlib.Core.Logic.{◌⊎◌, inl, inr}
use mathlib.Core.Bool.{Bool, true, false, cond, ◌&&◌, and-false, and-true, and_assoc}
use mathlib.Core.List.{List, [], ◌∷◌}
use Prim.Native.Nat.{ℕ, suc, ◌+◌, ◌%◌, ◌≤◌, ◌<◌}
use native.Mathlib.Nat.{mod-zero, mod-lt, mod_self, mod-eq_of_lt, suc-mod}
use native.Mathlib.Numerals.{add-one}
use native.Mathlib.Omega.{arith}
use borrow.Author.Tests.{eq-eqb, ne_eqb, eqb-true, eqb-false}
use lib.Dec.{eqb}
use lib.ListN.{length, get_or, drop, set, replicate, drop_of_length-le}
use lib.Seq.{drop-cons}
use Rattle.rules.specs.Tasks.{Task, no_task, standing, is_done}
use Rattle.rules.specs.Positions.{Position, each, every, allowed, passed, ended, starts, restarted, next, in_time, live_position, ends_well, ends_live, legal}
use Rattle.rules.proofs.Laws.{le-or-lt}
use Rattle.tasks.specs.declared.TaskSet.{TaskSet}
use Rattle.tasks.specs.Slots.{onward, well_after}
use Rattle.tasks.specs.Views.{set_of, progress_of, position_of, array_of}
use Rattle.tasks.proofs.Positions.{Written, each_long, number_at, written_start, written_step, written-end}

-- ── tests ───────────────────────────────────────────────────────────────────

and_same : (b : Bool) → (b && true) && b ≡ b
and_same true = refl
and_same false = refl

pub and-swap : (a b c d : Bool) → (a && b) && (c && d) ≡ (a && c) && (b && d)
and-swap true true c d = refl
and-swap true false c d = sym (and-false c)
and-swap false b c d = refl

-- ── the time since release, one slot on: any period, 0 too ──────────────────

module _ (t n : ℕ) where
  since-over : suc (t % n) ≡ n → suc t % n ≡ 0
  since-over e = suc-mod t n ∙ ap (λ m. m % n) e ∙ mod_self n

  since-amid : (suc (t % n) ≡ n → ⊥) → suc t % n ≡ suc (t % n)
  since-amid d = go (le-or-lt n 0)
    where
      go : (n ≤ 0) ⊎ (0 < n) → suc t % n ≡ suc (t % n)
      go (inl z) = let e : n ≡ 0 = omega arith in ap (λ m. suc t % m) e ∙ mod-zero (suc t) ∙ ap suc (sym (mod-zero t) ∙ ap (λ m. t % m) (sym e))
      go (inr h) =
          let m : t % n < n = mod-lt t h in
          let l : suc (t % n) < n = omega (arith, d) in
          suc-mod t n ∙ mod-eq_of_lt l

-- a job starts again where the time since release is the period
pub starts-full : (t : ℕ) (τ : Task) → starts (suc t) τ ≡ eqb (suc (t % τ.period)) τ.period
unfolding starts
starts-full t τ = go (eqb (suc (t % τ.period)) τ.period) refl
  where
    go : (b : Bool) → eqb (suc (t % τ.period)) τ.period ≡ b → eqb (suc t % τ.period) 0 ≡ b
    go true e = eq-eqb (suc t % τ.period) 0 (since-over t τ.period (eqb-true _ _ e))
    go false e = let z = since-amid t τ.period (eqb-false _ _ e) in ne_eqb (suc t % τ.period) 0 (λ y. omega arith)

-- ── one task ────────────────────────────────────────────────────────────────

-- r is the time since release, w tells whether the progress `end` at the end of the slot is in time
module _ (t : ℕ) (τ : Task) (q end r : ℕ) (w : Bool) (ends : end ≡ q) (since : r ≡ t % τ.period) (timely : w ≡ in_time (r + 1) τ end) where
  one_on : in_time (suc (t % τ.period)) τ q ≡ w
  one_on = sym (timely ∙ rw (add-one, since, ends) refl)

  -- its job starts again
  pub pass-over : (b : Bool) → r + 1 ≡ τ.period → b ≡ w && (is_done (standing τ end) && in_time 0 τ 0) → (b ≡ well_after t τ q) × (0 ≡ onward t τ q)
  unfolding well_after ends_well onward starts
  pass-over b h e =
      let z : suc t % τ.period ≡ 0 = since-over t τ.period (omega arith) in
      rw (z, one_on) (e ∙ rw ends (sym (and_assoc w (is_done (standing τ q)) (in_time 0 τ 0))), refl)

  -- its job goes on
  pub pass-amid : (r + 1 ≡ τ.period → ⊥) → (w ≡ well_after t τ q) × (end ≡ onward t τ q)
  unfolding well_after ends_well onward starts
  pass-amid h =
      let z : suc t % τ.period ≡ suc (t % τ.period) = since-amid t τ.period (λ e. h (omega arith)) in
      let n : eqb (suc (t % τ.period)) 0 ≡ false = ne_eqb (suc (t % τ.period)) 0 (λ e. let z : ⊥ = omega arith in z) in
      rw (z, n, one_on) (sym (and_same w), ends)

-- ── all tasks ───────────────────────────────────────────────────────────────

-- the two tests of a slot's end are one
ends-live : (t i : ℕ) (s : List Task) (qs : List ℕ)
    → every (ends_well t) s qs && every (λ τ p. in_time (suc t % τ.period) τ p) s (each (restarted (suc t)) i s qs) ≡ every (well_after t) s qs
unfolding every each restarted well_after onward
ends-live t i [] qs = refl
ends-live t i (τ ∷ s) [] = refl
ends-live t i (τ ∷ s) (q ∷ qs) =
    and-swap (ends_well t τ q) (every (ends_well t) s qs) (in_time (suc t % τ.period) τ (cond (starts (suc t) τ) 0 q)) _
    ∙ ap (λ b. (ends_well t τ q && in_time (suc t % τ.period) τ (cond (starts (suc t) τ) 0 q)) && b) (ends-live t (suc i) s qs)

-- a choice is legal where it is allowed and every task ends its slot well and begins the next one live
pub legal-well : (s : List Task) (x : Position) (c : ℕ) → legal s x c ≡ allowed s x.progress c && every (well_after x.slot) s (ended s x.progress c)
unfolding legal ends_live live_position next
legal-well s x c =
    and_assoc (allowed s x.progress c) (every (ends_well x.slot) s (ended s x.progress c)) _
    ∙ ap (λ b. allowed s x.progress c && b) (ends-live x.slot 0 s (ended s x.progress c))

-- a task's progress in the next slot, from that at the start of slot t
abbrev taken : ℕ → ℕ → ℕ → Task → ℕ → ℕ
taken t c i τ p = onward t τ (passed c i τ p)

-- so a slot takes every task on by itself
next-taken : (t c i : ℕ) (s : List Task) (ps : List ℕ) → each (taken t c) i s ps ≡ each (restarted (suc t)) i s (each (passed c) i s ps)
unfolding each restarted onward
next-taken t c i [] ps = refl
next-taken t c i (τ ∷ s) [] = refl
next-taken t c i (τ ∷ s) (p ∷ ps) = ap (λ qs. cond (starts (suc t) τ) 0 (passed c i τ p) ∷ qs) (next-taken t c (suc i) s ps)

-- ── the loop over the tasks ─────────────────────────────────────────────────

module _ (s : TaskSet) (slot : ℕ) (p : List ℕ) (c : ℕ) where
  -- the tests of the tasks from place i on, from the progress at the end of the slot
  abbrev rest : ℕ → Bool
  rest i = every (well_after slot) (drop i (set_of s)) (drop i (ended (set_of s) (progress_of s p) c))

  -- the tasks before place i are taken on: b tells of their tests and of the choice
  pub record Through (i : ℕ) (b : Bool) (out : List ℕ) : Type 0 where
    pub writes : Written (taken slot c) s p i out
    pub tells : allowed (set_of s) (progress_of s p) c && rest 0 ≡ b && rest i

  rest-next : (i : ℕ) → length p ≡ 8 → i < length (set_of s)
      → rest i ≡ well_after slot (get_or (set_of s) i no_task) (passed c i (get_or (set_of s) i no_task) (get_or p i 0)) && rest (i + 1)
  unfolding every ended
  rest-next i e h =
      let l = each_long (passed c) s p e in
      let j : i < length (each (passed c) 0 (set_of s) (progress_of s p)) = omega arith in
      rw (add-one, drop-cons (set_of s) i no_task h, drop-cons (each (passed c) 0 (set_of s) (progress_of s p)) i 0 j, number_at (passed c) s p i e h)

  pub through-start : (b : Bool) → length p ≡ 8 → b ≡ allowed (set_of s) (progress_of s p) c → Through 0 b (replicate 8 0)
  through-start b e a = record { writes = written_start (taken slot c) s p e; tells = rw a }

  pub through-step : (i : ℕ) (b w r : Bool) (n : ℕ) (out : List ℕ) → Through i b out → i < length (set_of s)
      → w ≡ well_after slot (get_or (set_of s) i no_task) (passed c i (get_or (set_of s) i no_task) (get_or p i 0))
      → n ≡ onward slot (get_or (set_of s) i no_task) (passed c i (get_or (set_of s) i no_task) (get_or p i 0))
      → r ≡ b && w → Through (i + 1) r (set out i n)
  through-step i b w r n out v h e f k = record {
    writes = written_step (taken slot c) s p i n out v.writes h f;
    tells = v.tells ∙ ap (λ u. b && u) (rest-next i v.writes.eight h) ∙ rw (← e, k) (sym (and_assoc b w (rest (i + 1))));
  }

  -- what the choice leads to: whether it is legal, and the progress after it
  pub through-end : (i : ℕ) (b : Bool) (out : List ℕ) → Through i b out → length (set_of s) ≤ i
      → (b ≡ legal (set_of s) (position_of s slot p) c) × (out ≡ array_of (next (set_of s) (position_of s slot p) c).progress)
  unfolding every next position_of ended
  through-end i b out v h =
      let d : rest i ≡ true = rw (drop_of_length-le (set_of s) h) refl in (
        sym (legal-well (set_of s) (position_of s slot p) c ∙ v.tells ∙ ap (λ u. b && u) d ∙ and-true b),
        written-end (taken slot c) s p i out v.writes h ∙ ap array_of (next-taken slot c 0 (set_of s) (progress_of s p)),
      )
