-- What an admissible set is known to hold.
use mathlib.Core.Path.{◌≡◌, refl}
use mathlib.Core.Bool.{Bool, true, false, not, cond, ◌&&◌}
use mathlib.Core.List.{List, [], ◌∷◌}
use Prim.Native.Nat.{ℕ, zero, suc, ◌+◌, ◌-◌, ◌≤◌, ◌<◌}
use native.Mathlib.Omega.{arith}
use borrow.Author.Tests.{ltb-false, leb-true}
use lib.Dec.{leb, ltb}
use lib.ListN.{length, get_or, take, length-map}
use lib.Seq.{length-take-le}
use Rattle.rules.specs.Tasks.{Fit, no_task, Shape}
use Rattle.rules.specs.Hyper.{hyper}
use Rattle.rules.specs.Positions.{idle}
use Rattle.rules.specs.Records.{TaskRecord, between, all_between, pattern_of, task_in, task_refusal, or_else, tasks_refusal, tasks_in, set_refusal, no_record}
use Rattle.rules.proofs.Lists.{clash}

-- ── what admissible sets are ────────────────────────────────────────────────

pub between_le : (a b x : ℕ) → between a b x ≡ true → (a ≤ x) × (x ≤ b)
unfolding between
between_le a b x e = go (leb a x) refl e
  where
    go : (t : Bool) → leb a x ≡ t → (t && leb x b) ≡ true → (a ≤ x) × (x ≤ b)
    go true q e = (leb-true a x q, leb-true x b e)
    go false q e = let z : ◌≡◌ {A = ℕ} 0 1 = cc in let y : ⊥ = omega arith in absurd y

all_between-at : (a b : ℕ) (xs : List ℕ) → all_between a b xs ≡ true → (i : ℕ) → i < length xs → a ≤ get_or xs i 0
unfolding all_between
all_between-at a b [] e i h = let z : ⊥ = omega arith in absurd z
all_between-at a b (x ∷ xs) e i h = go (between a b x) refl e i h (all_between-at a b xs)
  where
    go : (t : Bool) → between a b x ≡ t → (t && all_between a b xs) ≡ true → (i : ℕ) → i < length (x ∷ xs) → (all_between a b xs ≡ true → (i : ℕ) → i < length xs → a ≤ get_or xs i 0) → a ≤ get_or (x ∷ xs) i 0
    go false q e i h ih = let z : ◌≡◌ {A = ℕ} 0 1 = cc in let y : ⊥ = omega arith in absurd y
    go true q e zero h ih = (between_le a b x q).0
    go true q e (suc i) h ih = ih e i (omega arith)

pub record Good (r : TaskRecord) : Type 0 where
  pub steps : (1 ≤ r.steps) × (r.steps ≤ 4)
  pub due : 1 ≤ r.deadline
  pub fits : r.deadline ≤ r.period
  pub units : all_between 1 255 (pattern_of r) ≡ true

pub task_refusal-good : (r : TaskRecord) → task_refusal r ≡ 0 → Good r
unfolding task_refusal
task_refusal-good r e = a (between 1 4 r.steps) refl e
  where
    c : between 1 4 r.steps ≡ true → between 1 4096 r.deadline ≡ true → all_between 1 255 (pattern_of r) ≡ true → (t : Bool) → ltb r.period r.deadline ≡ t → ◌≡◌ {A = ℕ} (cond t 4 0) 0 → Good r
    c p d u true q e = clash 3 e
    c p d u false q e = record { steps = between_le 1 4 r.steps p; due = (between_le 1 4096 r.deadline d).0; fits = ltb-false r.period r.deadline q; units = u }

    b : between 1 4 r.steps ≡ true → (t : Bool) → between 1 4096 r.period ≡ t → (d : Bool) → between 1 4096 r.deadline ≡ d → (u : Bool) → all_between 1 255 (pattern_of r) ≡ u
        → ◌≡◌ {A = ℕ} (cond (not (t && (d && u))) 3 (cond (ltb r.period r.deadline) 4 0)) 0 → Good r
    b p true q true dq true uq e = c p dq uq (ltb r.period r.deadline) refl e
    b p true q true dq false uq e = clash 2 e
    b p true q false dq u uq e = clash 2 e
    b p false q d dq u uq e = clash 2 e

    a : (t : Bool) → between 1 4 r.steps ≡ t → ◌≡◌ {A = ℕ} (cond (not t) 2 (cond (not (between 1 4096 r.period && (between 1 4096 r.deadline && all_between 1 255 (pattern_of r)))) 3 (cond (ltb r.period r.deadline) 4 0))) 0 → Good r
    a true q e = b q (between 1 4096 r.period) refl (between 1 4096 r.deadline) refl (all_between 1 255 (pattern_of r)) refl e
    a false q e = clash 1 e

pub tasks-good : (rs : List TaskRecord) → tasks_refusal rs ≡ 0 → (j : ℕ) → j < length rs → Good (get_or rs j no_record) × (get_or (tasks_in rs) j no_task ≡ task_in (get_or rs j no_record))
unfolding tasks_refusal tasks_in or_else
tasks-good [] e j h = let z : ⊥ = omega arith in absurd z
tasks-good (r ∷ rs) e j h = go (task_refusal r) refl e j h (tasks-good rs)
  where
    go : (n : ℕ) → task_refusal r ≡ n → or_else n (tasks_refusal rs) ≡ 0 → (j : ℕ) → j < length (r ∷ rs) → (tasks_refusal rs ≡ 0 → (j : ℕ) → j < length rs → Good (get_or rs j no_record) × (get_or (tasks_in rs) j no_task ≡ task_in (get_or rs j no_record)))
        → Good (get_or (r ∷ rs) j no_record) × (get_or (tasks_in (r ∷ rs)) j no_task ≡ task_in (get_or (r ∷ rs) j no_record))
    go zero q e zero h ih = (task_refusal-good r q, refl)
    go zero q e (suc j) h ih = ih e j (omega arith)
    go (suc n) q e j h ih = clash n e

pub set-tasks : (rs : List TaskRecord) → set_refusal rs ≡ 0 → (length rs ≤ 8) × (tasks_refusal rs ≡ 0)
unfolding set_refusal or_else
set-tasks rs e = go (between 1 8 (length rs)) refl e
  where
    two : (n : ℕ) → tasks_refusal rs ≡ n → or_else n (cond (ltb 4096 (hyper (tasks_in rs))) 6 0) ≡ 0 → tasks_refusal rs ≡ 0
    two zero q e = q
    two (suc n) q e = clash n e

    go : (t : Bool) → between 1 8 (length rs) ≡ t → ◌≡◌ {A = ℕ} (cond (not t) 5 (or_else (tasks_refusal rs) (cond (ltb 4096 (hyper (tasks_in rs))) 6 0))) 0 → (length rs ≤ 8) × (tasks_refusal rs ≡ 0)
    go false q e = clash 4 e
    go true q e = ((between_le 1 8 (length rs) q).1, two (tasks_refusal rs) refl e)

pub tasks-length : (rs : List TaskRecord) → length (tasks_in rs) ≡ length rs
unfolding tasks_in
tasks-length rs = length-map rs task_in

-- what the theorems ask of a set
pub admitted-fit : (rs : List TaskRecord) → set_refusal rs ≡ 0 → Fit (tasks_in rs)
unfolding task_in
admitted-fit rs e = record {
  due = λ j h. let l = tasks-length rs in let g = tasks-good rs (set-tasks rs e).1 j (omega arith) in rw g.1 g.0.due;
  fits = λ j h. let l = tasks-length rs in let g = tasks-good rs (set-tasks rs e).1 j (omega arith) in rw g.1 g.0.fits;
}

pub admitted-small : (rs : List TaskRecord) → set_refusal rs ≡ 0 → length (tasks_in rs) ≤ idle
unfolding idle
admitted-small rs e = let l = tasks-length rs in let b = (set-tasks rs e).0 in omega arith

pub admitted-shape : (rs : List TaskRecord) → set_refusal rs ≡ 0 → ((j : ℕ) → j < length rs → 7 ≤ length (get_or rs j no_record).units) → (j : ℕ) → j < length (tasks_in rs) → Shape (get_or (tasks_in rs) j no_task).pattern
unfolding task_in pattern_of
admitted-shape rs e seven j h =
    let l = tasks-length rs in
    let g = tasks-good rs (set-tasks rs e).1 j (omega arith) in
    let m : ℕ = (get_or rs j no_record).steps in
    let a = g.0.steps.0 in let b = g.0.steps.1 in let u = seven j (omega arith) in
    let n : length (take (m + m - 1) (get_or rs j no_record).units) ≡ m + m - 1 = length-take-le (m + m - 1) (get_or rs j no_record).units (omega arith) in
    rw g.1 (record { waits = m - 1; odd = omega arith; positive = all_between-at 1 255 (pattern_of (get_or rs j no_record)) g.0.units })
