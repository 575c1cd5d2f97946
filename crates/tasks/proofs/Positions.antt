-- Positions by place: what a loop over the tasks in use keeps, for a test of each (`every`) and for a number for each (`each`); and which choices are allowed.
use mathlib.Core.Path.{◌≡◌, refl, sym, ap, ◌∙◌}
use mathlib.Core.Bool.{Bool, true, false, not, ◌&&◌}
use mathlib.Core.Logic.{◌⊎◌, inl, inr}
use mathlib.Core.List.{List, [], ◌∷◌}
use Prim.Native.Nat.{ℕ, zero, suc, ◌+◌, ◌-◌, ◌≤◌, ◌<◌}
use native.Mathlib.Numerals.{add-one, unary_clauses}
use native.Mathlib.Omega.{arith}
use borrow.Author.Tests.{eq-eqb, ne_eqb, not-true, not-false}
use Rattle.std.proofs.lemmas.List.{get_or_default}
use Rattle.std.specs.Prelude.{map}
use Rattle.rules.specs.Records.{task_in, pattern_of}
use Rattle.tasks.specs.declared.Task.{Task}
use lib.ListN.{length-map, get_or-map, length, get_or, take, drop, set, replicate, drop_of_length-le, get_or-eq_default}
use lib.Seq.{get_or-take, length-take-le, take_all, take_at, drop-cons}
use Rattle.rules.specs.Lists.{padded}
use Rattle.rules.specs.Tasks as model
use Rattle.rules.specs.Tasks.{no_task, within, standing, is_ready}
use Rattle.rules.specs.Positions.{idle, each, every, allowed}
use Rattle.rules.proofs.Laws.{le-or-lt, each_at, each-length}
use Rattle.tasks.specs.declared.TaskSet.{TaskSet}
use Rattle.tasks.specs.declared.Standing.{Standing}
use Rattle.tasks.specs.Views.{no_entry, entry_of, task_of, set_of, progress_of, array_of, standing_of}
use Rattle.tasks.proofs.Views.{set-few, set_all}

-- ── the tasks in use and their progress ─────────────────────────────────────

pub set-fits : (s : TaskSet) → (length (set_of s) ≤ s.count) × (length (set_of s) ≤ 8)
set-fits s = go (le-or-lt s.count 8)
  where
    go : (s.count ≤ 8) ⊎ (8 < s.count) → (length (set_of s) ≤ s.count) × (length (set_of s) ≤ 8)
    go (inl h) = let e = set-few s h in omega arith
    go (inr h) = let e = set_all s (omega arith) in omega arith

-- a task of the slice in use is the set's
module _ (s : TaskSet) (ts : List Task) (tasks : map task_of ts ≡ set_of s) where
  pub in_use-length : length ts ≡ length (set_of s)
  in_use-length = sym (length-map ts task_of) ∙ ap length tasks

  pub in_use-at : (i : ℕ) (d : Task) → i < length ts → task_of (get_or ts i d) ≡ get_or (set_of s) i no_task
  unfolding no_task task_of task_in entry_of pattern_of
  in_use-at i d h = ap task_of (get_or_default ts i d no_entry h) ∙ sym (get_or-map task_of ts i no_entry) ∙ ap (λ τs. get_or τs i no_task) tasks

pub progress-length : (s : TaskSet) (p : List ℕ) → length p ≡ 8 → length (progress_of s p) ≡ length (set_of s)
unfolding progress_of
progress-length s p e = let f = set-fits s in length-take-le (length (set_of s)) p (omega arith)

pub progress-at : (s : TaskSet) (p : List ℕ) (i : ℕ) → i < length (set_of s) → get_or (progress_of s p) i 0 ≡ get_or p i 0
unfolding progress_of
progress-at s p i h = get_or-take (length (set_of s)) p i 0 h

-- progress written as an array is read back
pub progress-array : (s : TaskSet) (ps : List ℕ) → length ps ≡ length (set_of s) → progress_of s (array_of ps) ≡ ps
unfolding progress_of array_of padded
progress-array s ps e = take_at ps (replicate (8 - length ps) 0) (length (set_of s)) e

-- ── a test of every task ────────────────────────────────────────────────────

module _ (g : model.Task → ℕ → Bool) (s : TaskSet) (p : List ℕ) where
  -- the tests from place i on tell of all
  pub record Tests (i : ℕ) : Type 0 where
    pub eight : length p ≡ 8
    pub few : length (set_of s) ≤ 8
    pub rest : every g (set_of s) (progress_of s p) ≡ every g (drop i (set_of s)) (drop i (progress_of s p))

  tests-next : (i : ℕ) → length p ≡ 8 → i < length (set_of s)
      → every g (drop i (set_of s)) (drop i (progress_of s p))
      ≡ g (get_or (set_of s) i no_task) (get_or p i 0) && every g (drop (i + 1) (set_of s)) (drop (i + 1) (progress_of s p))
  unfolding every
  tests-next i e h =
      let k = progress-length s p e in
      let j : i < length (progress_of s p) = omega arith in
      rw (add-one, drop-cons (set_of s) i no_task h, drop-cons (progress_of s p) i 0 j, progress-at s p i h)

  pub tests-start : length p ≡ 8 → Tests 0
  tests-start e = record { eight = e; few = (set-fits s).1; rest = refl }

  pub tests-step : (i : ℕ) (b : Bool) → Tests i → i < length (set_of s) → b ≡ g (get_or (set_of s) i no_task) (get_or p i 0) → not b ≡ false → Tests (i + 1)
  tests-step i b v h e t = record { eight = v.eight; few = v.few; rest = v.rest ∙ tests-next i v.eight h ∙ rw (← e, not-false b t) refl }

  pub tests-fail : (i : ℕ) (b : Bool) → Tests i → i < length (set_of s) → b ≡ g (get_or (set_of s) i no_task) (get_or p i 0) → not b ≡ true
      → false ≡ every g (set_of s) (progress_of s p)
  tests-fail i b v h e t = sym (v.rest ∙ tests-next i v.eight h ∙ rw (← e, not-true b t) refl)

  pub tests-pass : (i : ℕ) → Tests i → length (set_of s) ≤ i → true ≡ every g (set_of s) (progress_of s p)
  unfolding every
  tests-pass i v h = sym (v.rest ∙ rw (drop_of_length-le (set_of s) h) refl)

-- ── a number for each task ──────────────────────────────────────────────────

pad-set : (n : ℕ) (xs : List ℕ) (i : ℕ) → i < length xs → i < n → set (padded n 0 (take i xs)) i (get_or xs i 0) ≡ padded n 0 (take (suc i) xs)
unfolding padded
pad-set zero xs i h k = let z : ⊥ = omega arith in absurd z
pad-set (suc n) [] i h k = let z : ⊥ = omega arith in absurd z
pad-set (suc n) (x ∷ xs) zero h k = simp unary_clauses refl
pad-set (suc n) (x ∷ xs) (suc i) h k = simp unary_clauses (ap (λ ys. x ∷ ys) (pad-set n xs i (omega arith) (omega arith)))

module _ (f : ℕ → model.Task → ℕ → ℕ) (s : TaskSet) (p : List ℕ) where
  -- the numbers before place i are written, and zeros from there on
  pub record Written (i : ℕ) (out : List ℕ) : Type 0 where
    pub eight : length p ≡ 8
    pub few : length (set_of s) ≤ 8
    pub done : out ≡ array_of (take i (each f 0 (set_of s) (progress_of s p)))

  pub each_long : length p ≡ 8 → length (each f 0 (set_of s) (progress_of s p)) ≡ length (set_of s)
  each_long e = each-length f 0 (set_of s) (progress_of s p) (progress-length s p e)

  pub number_at : (i : ℕ) → length p ≡ 8 → i < length (set_of s)
      → get_or (each f 0 (set_of s) (progress_of s p)) i 0 ≡ f i (get_or (set_of s) i no_task) (get_or p i 0)
  number_at i e h = each_at f 0 (set_of s) (progress_of s p) i (progress-length s p e) h ∙ rw (progress-at s p i h) (ap (λ j. f j (get_or (set_of s) i no_task) (get_or p i 0)) (omega arith))

  pub written_start : length p ≡ 8 → Written 0 (replicate 8 0)
  unfolding array_of padded
  written_start e = record { eight = e; few = (set-fits s).1; done = refl }

  pub written_step : (i n : ℕ) (out : List ℕ) → Written i out → i < length (set_of s) → n ≡ f i (get_or (set_of s) i no_task) (get_or p i 0) → Written (i + 1) (set out i n)
  unfolding array_of
  written_step i n out v h e =
      let xs = each f 0 (set_of s) (progress_of s p) in
      let l = each_long v.eight in
      let b = v.few in
      record { eight = v.eight; few = v.few; done = rw (v.done, e, ← number_at i v.eight h, add-one) (pad-set 8 xs i (omega arith) (omega arith)) }

  pub written-end : (i : ℕ) (out : List ℕ) → Written i out → length (set_of s) ≤ i → out ≡ array_of (each f 0 (set_of s) (progress_of s p))
  written-end i out v h = let l = each_long v.eight in v.done ∙ ap array_of (take_all i (each f 0 (set_of s) (progress_of s p)) (omega arith))

-- ── a choice ────────────────────────────────────────────────────────────────

module _ (s : TaskSet) (p : List ℕ) (c : ℕ) where
  pub idle-may : c ≡ 255 → true ≡ allowed (set_of s) (progress_of s p) c
  unfolding allowed idle
  idle-may e = rw (eq-eqb c 255 e)

  -- a number beyond the tasks
  pub none-may : (c ≡ 255 → ⊥) → length (set_of s) ≤ c → false ≡ allowed (set_of s) (progress_of s p) c
  unfolding allowed idle standing within is_ready no_task
  none-may n h = rw (ne_eqb c 255 n, get_or-eq_default (set_of s) no_task h)

  pub task-may : (k : Standing) → (c ≡ 255 → ⊥) → c < length (set_of s)
      → standing_of k ≡ standing (get_or (set_of s) c no_task) (get_or p c 0) → is_ready (standing_of k) ≡ allowed (set_of s) (progress_of s p) c
  unfolding allowed idle
  task-may k n h e = rw (ne_eqb c 255 n, progress-at s p c h, ← e)
