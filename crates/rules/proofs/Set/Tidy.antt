-- A set with zeros in the parts not in use is the same set.
use mathlib.Core.Path.{◌≡◌, refl, ap, ap₂, ◌∙◌}
use mathlib.Core.Bool.{Bool, true, false, not, cond, ◌&&◌}
use mathlib.Core.List.{List, [], ◌∷◌, map}
use Prim.Native.Nat.{ℕ, zero, suc, ◌+◌, ◌-◌, ◌≤◌, ◌<◌}
use native.Mathlib.Omega.{arith}
use lib.Dec.{T, ltb, eqb_refl}
use lib.ListN.{length, get_or, take, drop, replicate, length-map}
use lib.Seq.{length-take-le, take_at, drop_at, get_or-take}
use Rattle.rules.specs.Lists.{all_of, is_zero, padded}
use Rattle.rules.specs.Tasks.{Fit, Task, no_task, Shape}
use Rattle.rules.specs.Positions.{idle}
use Rattle.rules.specs.Records.{TaskRecord, between, all_between, pattern_of, task_in, task_refusal, or_else, tasks_refusal, tasks_in, set_refusal, no_record, SetRecord, Arrays, used, set_in, record_refusal}
use Rattle.rules.specs.States.{is_blank_task, blank_task, blank_job, is_blank_job, is_ready_stand, units_tidy, tidy_task, tidied}
use Rattle.rules.proofs.Laws.{and_T}
use Rattle.rules.proofs.Set.Admitted.{between_le, tasks-good, set-tasks, tasks-length, admitted-fit, admitted-small, admitted-shape}

-- ── padding ─────────────────────────────────────────────────────────────────

pub all_same : {A : Type 0} (f : A → Bool) (n : ℕ) (x : A) → T (f x) → T (all_of f (replicate n x))
unfolding all_of
all_same f zero x t = tt
all_same f (suc n) x t = and_T (f x) _ t (all_same f n x t)

pub padded-take : {A : Type 0} (n : ℕ) (x : A) (xs : List A) (k : ℕ) → length xs ≡ k → take k (padded n x xs) ≡ xs
unfolding padded
padded-take n x xs k e = take_at xs (replicate (n - length xs) x) k e

pub padded-rest : {A : Type 0} (f : A → Bool) (n : ℕ) (x : A) (xs : List A) (k : ℕ) → length xs ≡ k → T (f x) → T (all_of f (drop k (padded n x xs)))
unfolding padded
padded-rest f n x xs k e t = rw (drop_at xs (replicate (n - length xs) x) k e) (all_same f (n - length xs) x t)

pub zero_is : T (is_zero 0)
unfolding is_zero
zero_is = eqb_refl 0

pub blank-job-is : T (is_blank_job blank_job)
unfolding is_blank_job blank_job is_ready_stand
blank-job-is = and_T (is_zero 0) (is_zero 0) zero_is zero_is

blank-task-is : T (is_blank_task blank_task)
unfolding is_blank_task blank_task
blank-task-is = and_T (is_zero 0 && is_zero 0) _ (and_T (is_zero 0) (is_zero 0) zero_is zero_is) (and_T (is_zero 0) _ zero_is (all_same is_zero 7 0 zero_is))

-- ── one task ────────────────────────────────────────────────────────────────

-- its pattern is whole
WholePattern : TaskRecord → Type 0
WholePattern r = length (pattern_of r) ≡ r.steps + r.steps - 1

pattern-tidy : (r : TaskRecord) → WholePattern r → pattern_of (tidy_task r) ≡ pattern_of r
unfolding WholePattern tidy_task pattern_of
pattern-tidy r e = padded-take 7 0 (take (r.steps + r.steps - 1) r.units) (r.steps + r.steps - 1) e

task-tidy : (r : TaskRecord) → WholePattern r → task_in (tidy_task r) ≡ task_in r
unfolding task_in tidy_task
task-tidy r e = ap (λ p. record { period = r.period; deadline = r.deadline; pattern = p }) (pattern-tidy r e)

refusal-tidy : (r : TaskRecord) → WholePattern r → task_refusal (tidy_task r) ≡ task_refusal r
unfolding task_refusal tidy_task
refusal-tidy r e = ap (λ p. cond (not (between 1 4 r.steps)) 2
    (cond (not (between 1 4096 r.period && (between 1 4096 r.deadline && all_between 1 255 p))) 3
    (cond (ltb r.period r.deadline) 4 0))) (pattern-tidy r e)

units-tidy : (r : TaskRecord) → WholePattern r → T (units_tidy (tidy_task r))
unfolding WholePattern units_tidy tidy_task pattern_of
units-tidy r e = padded-rest is_zero 7 0 (take (r.steps + r.steps - 1) r.units) (r.steps + r.steps - 1) e zero_is

-- ── all tasks ───────────────────────────────────────────────────────────────

tasks-tidy : (rs : List TaskRecord) → ((j : ℕ) → j < length rs → WholePattern (get_or rs j no_record)) → tasks_in (map tidy_task rs) ≡ tasks_in rs
unfolding tasks_in
tasks-tidy [] w = refl
tasks-tidy (r ∷ rs) w = ap₂ {C = List Task} (λ a l. a ∷ l) (task-tidy r (w 0 (omega arith))) (tasks-tidy rs (λ j h. w (suc j) (omega arith)))

refusals-tidy : (rs : List TaskRecord) → ((j : ℕ) → j < length rs → WholePattern (get_or rs j no_record)) → tasks_refusal (map tidy_task rs) ≡ tasks_refusal rs
unfolding tasks_refusal
refusals-tidy [] w = refl
refusals-tidy (r ∷ rs) w = ap₂ (λ a l. or_else a l) (refusal-tidy r (w 0 (omega arith))) (refusals-tidy rs (λ j h. w (suc j) (omega arith)))

all-tidy : (rs : List TaskRecord) → ((j : ℕ) → j < length rs → WholePattern (get_or rs j no_record)) → T (all_of units_tidy (map tidy_task rs))
unfolding all_of
all-tidy [] w = tt
all-tidy (r ∷ rs) w = and_T (units_tidy (tidy_task r)) _ (units-tidy r (w 0 (omega arith))) (all-tidy rs (λ j h. w (suc j) (omega arith)))

set-tidy : (rs : List TaskRecord) → ((j : ℕ) → j < length rs → WholePattern (get_or rs j no_record)) → set_refusal (map tidy_task rs) ≡ set_refusal rs
unfolding set_refusal
set-tidy rs w = rw (length-map rs tidy_task, refusals-tidy rs w, tasks-tidy rs w) refl

-- ── an admissible record ────────────────────────────────────────────────────

pub record Counts (r : SetRecord) : Type 0 where
  pub low : 1 ≤ r.count
  pub high : r.count ≤ 8
  pub fine : set_refusal (used r) ≡ 0

pub counts : (r : SetRecord) → record_refusal r ≡ 0 → Counts r
unfolding record_refusal
counts r e = go (between 1 8 r.count) refl e
  where
    go : (b : Bool) → between 1 8 r.count ≡ b → ◌≡◌ {A = ℕ} (cond (not b) 5 (set_refusal (used r))) 0 → Counts r
    go true q e = record { low = (between_le 1 8 r.count q).0; high = (between_le 1 8 r.count q).1; fine = e }
    go false q e = let z : ⊥ = omega arith in absurd z

module _ (r : SetRecord) (A : Arrays r) (ok : record_refusal r ≡ 0) where
  pub used-length : length (used r) ≡ r.count
  unfolding used
  used-length = let h = (counts r ok).high in let e = A.eight in length-take-le r.count r.entries (omega arith)

  pub set-length : length (set_in r) ≡ r.count
  unfolding set_in
  set-length = tasks-length (used r) ∙ used-length

  used-at : (j : ℕ) → j < r.count → get_or (used r) j no_record ≡ get_or r.entries j no_record
  unfolding used
  used-at j h = get_or-take r.count r.entries j no_record h

  used-seven : (j : ℕ) → j < length (used r) → length (get_or (used r) j no_record).units ≡ 7
  used-seven j h =
      let l = used-length in let u = (counts r ok).high in
      ap (λ x. length x.units) (used-at j (omega arith)) ∙ A.seven j (omega arith)

  whole : (j : ℕ) → j < length (used r) → WholePattern (get_or (used r) j no_record)
  unfolding WholePattern pattern_of
  whole j h =
      let g = (tasks-good (used r) (set-tasks (used r) (counts r ok).fine).1 j h).0 in
      let a = g.steps.1 in let u = used-seven j h in
      length-take-le ((get_or (used r) j no_record).steps + (get_or (used r) j no_record).steps - 1) (get_or (used r) j no_record).units (omega arith)

  pub set-fit : Fit (set_in r)
  unfolding set_in
  set-fit = admitted-fit (used r) (counts r ok).fine

  pub set-small : length (set_in r) ≤ idle
  unfolding set_in
  set-small = admitted-small (used r) (counts r ok).fine

  pub set-shape : (j : ℕ) → j < length (set_in r) → Shape (get_or (set_in r) j no_task).pattern
  unfolding set_in
  set-shape = admitted-shape (used r) (counts r ok).fine (λ j h. let u = used-seven j h in omega arith)

  pub used-tidied : used (tidied r) ≡ map tidy_task (used r)
  unfolding tidied used
  used-tidied = padded-take 8 blank_task (map tidy_task (take r.count r.entries)) r.count (length-map (take r.count r.entries) tidy_task ∙ used-length)

  pub set_in-tidied : set_in (tidied r) ≡ set_in r
  unfolding set_in
  set_in-tidied = ap tasks_in used-tidied ∙ tasks-tidy (used r) whole

  pub refusal-tidied : record_refusal (tidied r) ≡ 0
  unfolding record_refusal tidied
  refusal-tidied = ap (λ n. cond (not (between 1 8 r.count)) 5 n) (ap set_refusal used-tidied ∙ set-tidy (used r) whole) ∙ ok

  pub rest-tidied : T (all_of units_tidy (used (tidied r)) && all_of is_blank_task (drop r.count (tidied r).entries))
  unfolding tidied
  rest-tidied = and_T (all_of units_tidy (used (tidied r))) _ (rw used-tidied (all-tidy (used r) whole))
      (padded-rest is_blank_task 8 blank_task (map tidy_task (used r)) r.count (length-map (used r) tidy_task ∙ used-length) blank-task-is)
