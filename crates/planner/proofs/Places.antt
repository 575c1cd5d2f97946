-- The tasks of rows, place by place, and the progress that a search begins with.
use mathlib.Core.Path.{◌≡◌, refl, sym, ap, ◌∙◌}
use mathlib.Core.List.{List, [], ◌∷◌, map}
use mathlib.Core.Logic.{◌⊎◌, inl, inr}
use Prim.Native.Nat.{ℕ, zero, suc, ◌+◌, ◌≤◌, ◌<◌}
use native.Mathlib.Omega.{arith}
use lib.Seq.{ext_get_or, map-set, get_or-set_same, get_or-set_other, get_or-take, length-take-le}
use lib.ListN.{length, get_or, take, set, replicate, length-set, length-map}
use Rattle.std.proofs.lemmas.List.{get_or-map, take-map}
use Rattle.rules.specs.Tasks.{Task, no_task, sum, span}
use Rattle.rules.proofs.Laws.{le-or-lt}
use Rattle.rules.proofs.Lists.{tabulate-length, tabulate-at}
use Rattle.tasks.specs.declared.timed.Timed.{Timed}
use Rattle.tasks.specs.Timed.{timed_task}
use Rattle.tasks.specs.declared.Task as code
use Rattle.tasks.specs.Views.{task_of, set_of}
use Rattle.tasks.specs.declared.TaskSet.{TaskSet}
use Rattle.tasks.proofs.Timing.{whole-is}
use Rattle.tasks.proofs.Positions.{set-fits}
use Rattle.planner.specs.declared.rows.Rows.{Rows}
use Rattle.planner.specs.Rows.{task_at, row_tasks}

pub rows-length : (rows : Rows) → length (row_tasks rows) ≡ rows.count
unfolding row_tasks
rows-length rows = tabulate-length (task_at rows.tasks) 0 rows.count

pub row_at : (rows : Rows) (i : ℕ) → i < rows.count → get_or (row_tasks rows) i no_task ≡ task_at rows.tasks i
unfolding row_tasks
row_at rows i h = tabulate-at (task_at rows.tasks) 0 rows.count i no_task h ∙ ap (task_at rows.tasks) (omega arith)

-- a row that is there, as the code reads it
pub row_is : (rows : List Timed) (i : ℕ) (d : Timed) → i < length rows → timed_task (get_or rows i d) ≡ task_at rows i
unfolding task_at
row_is rows i d h = sym (get_or-map timed_task rows i d no_task h)

pub row_small : (rows : List Timed) (i : ℕ) → span (task_at rows i) ≤ 1785
unfolding task_at no_task sum span
row_small [] i = omega arith
row_small (r ∷ rs) zero = let w = whole-is r in let s = r.small in omega arith
row_small (r ∷ rs) (suc i) = row_small rs i

-- the tasks in use, as a slice
module _ (rows : Rows) where
  pub in-use-many : length rows.tasks ≡ 8 → length (take rows.count rows.tasks) ≡ rows.count
  in-use-many e = let f = rows.few in length-take-le rows.count rows.tasks (omega arith)

  pub in-use-tasks : length rows.tasks ≡ 8 → map timed_task (take rows.count rows.tasks) ≡ row_tasks rows
  unfolding task_at
  in-use-tasks e =
      let n = rows.count in
      let f = rows.few in
      let l = in-use-many e in
      let m = length-map (take n rows.tasks) timed_task in
      let r = rows-length rows in
      ext_get_or no_task (map timed_task (take n rows.tasks)) (row_tasks rows) (omega arith)
      (λ j k. rw (← take-map timed_task n rows.tasks) (get_or-take n (map timed_task rows.tasks) j no_task (omega arith)) ∙ sym (row_at rows j (omega arith)))

  module _ (used : List Timed) (are : map timed_task used ≡ row_tasks rows) where
    pub used-many : length used ≡ rows.count
    used-many = sym (length-map used timed_task) ∙ ap length are ∙ rows-length rows

    pub used_is : (i : ℕ) (τ : Timed) → i < length used → τ ≡ get_or used i τ → timed_task τ ≡ task_at rows.tasks i
    used_is i τ h e = let m = used-many in ap timed_task e ∙ sym (get_or-map timed_task used i τ no_task h) ∙ ap (λ (τs : List Task). get_or τs i no_task) are ∙ row_at rows i (omega arith)

pub ruleset in_use_laws = (in-use-many, in-use-tasks)

-- the tasks in use are eight at most
few-tasks : (s : TaskSet) (tasks : List code.Task) → map task_of tasks ≡ set_of s → length tasks ≤ 8
few-tasks s tasks all = let f = set-fits s in let l = length-map tasks task_of in let e = ap length all in omega arith

-- the rows before place i hold the tasks
module _ (tasks : List code.Task) where
  pub record Laying (i : ℕ) (rows : List Timed) : Type 0 where
    pub few : length tasks ≤ 8
    pub eight : length rows ≡ 8
    pub done : (j : ℕ) → j < i → task_at rows j ≡ get_or (map task_of tasks) j no_task

  pub laying_start : (s : TaskSet) (rows : List Timed) → map task_of tasks ≡ set_of s → length rows ≡ 8 → Laying 0 rows
  laying_start s rows all e = record { few = few-tasks s tasks all; eight = e; done = λ j h. let z : ⊥ = omega arith in absurd z }

  pub laying-step : (i : ℕ) (rows : List Timed) → Laying i rows → i < length tasks → (r : Timed) (d : code.Task) → timed_task r ≡ task_of (get_or tasks i d) → Laying (i + 1) (set rows i r)
  unfolding task_at
  laying-step i rows v h r d e = record { few = v.few; eight = length-set rows i r ∙ v.eight; done = λ j k. rw (map-set timed_task rows i r) (go j (le-or-lt i j) k) }
    where
      go : (j : ℕ) → (i ≤ j) ⊎ (j < i) → j < i + 1 → get_or (set (map timed_task rows) i (timed_task r)) j no_task ≡ get_or (map task_of tasks) j no_task
      go j (inl l) k =
          let z : j ≡ i = omega arith in
          let f = v.few in
          let a = v.eight in
          let m = length-map rows timed_task in
          rw z (get_or-set_same (map timed_task rows) i (timed_task r) no_task (omega arith) ∙ e ∙ sym (get_or-map task_of tasks i d no_task h))
      go j (inr l) k = get_or-set_other (map timed_task rows) i j (timed_task r) no_task (λ z. let y : ⊥ = omega arith in y) ∙ v.done j l

  pub laying-end : (s : TaskSet) (i : ℕ) (rows : Rows) → map task_of tasks ≡ set_of s → Laying i rows.tasks → length tasks ≤ i → rows.count ≡ length tasks → row_tasks rows ≡ set_of s
  laying-end s i rows all v h many =
      let l = rows-length rows in
      let f = length-map tasks task_of in
      let e = ap length all in
      ext_get_or no_task (row_tasks rows) (set_of s) (omega arith)
      (λ j k. row_at rows j (omega arith) ∙ v.done j (omega arith) ∙ ap (λ (τs : List Task). get_or τs j no_task) all)

-- the first of the eight zeros that a search begins with
pub take-replicate : (n k a : ℕ) → n ≤ k → take n (replicate k a) ≡ replicate n a
take-replicate zero k a h = refl
take-replicate (suc n) zero a h = let z : ⊥ = omega arith in absurd z
take-replicate (suc n) (suc k) a h = ap (λ l. a ∷ l) (take-replicate n k a (omega arith))
