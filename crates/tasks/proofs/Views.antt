-- The views by place: how many tasks a set has and which, and how many entries a pattern has and which.
use mathlib.Core.Path.{◌≡◌, ap, sym, ◌∙◌}
use Prim.Native.Nat.{ℕ, ◌+◌, ◌-◌, ◌≤◌, ◌<◌}
use native.Mathlib.Omega.{arith}
use Rattle.std.specs.Prelude.{map, min}
use mathlib.Core.Logic.{◌⊎◌, inl, inr}
use Rattle.rules.proofs.Laws.{le-or-lt}
use Rattle.std.proofs.lemmas.List.{get_or_default}
use lib.ListN.{length, get_or, take, length-take, length-map, get_or-map}
use lib.Seq.{ext_get_or, get_or-take, length-take-le, take_all}
use Rattle.rules.specs.Tasks.{no_task}
use Rattle.rules.specs.Records.{TaskRecord, Arrays, pattern_of, task_in, tasks_in, no_record, used, set_in}
use Rattle.rules.proofs.Lists.{tabulate-at, tabulate-length}
use Rattle.tasks.specs.declared.Task.{Task}
use Rattle.tasks.specs.declared.TaskSet.{TaskSet}
use Rattle.tasks.specs.Views.{no_entry, entry_of, record_of, task_of, set_of}

-- ── the arrays ──────────────────────────────────────────────────────────────

unit : Task → ℕ → ℕ
unit t i = get_or t.pattern i 0

entry : TaskSet → ℕ → TaskRecord
entry s i = entry_of (get_or s.tasks i no_entry)

pub units-length : (t : Task) → length (entry_of t).units ≡ 7
unfolding entry_of unit
units-length t = tabulate-length (unit t) 0 7

pub unit-at : (t : Task) (i : ℕ) → i < 7 → get_or (entry_of t).units i 0 ≡ get_or t.pattern i 0
unfolding entry_of unit
unit-at t i h = tabulate-at (unit t) 0 7 i 0 h ∙ ap (unit t) (omega arith)

pub entries-length : (s : TaskSet) → length (record_of s).entries ≡ 8
unfolding record_of entry
entries-length s = tabulate-length (entry s) 0 8

pub entry_at : (s : TaskSet) (i : ℕ) (d : TaskRecord) → i < 8 → get_or (record_of s).entries i d ≡ entry_of (get_or s.tasks i no_entry)
unfolding record_of entry
entry_at s i d h = tabulate-at (entry s) 0 8 i d h ∙ ap (entry s) (omega arith)

-- the record of a set has arrays of the lengths that the rules ask
pub arrays : (s : TaskSet) → Arrays (record_of s)
arrays s = record { eight = entries-length s; seven = λ j h. ap (λ r. length r.units) (entry_at s j no_record h) ∙ units-length (get_or s.tasks j no_entry) }

-- ── the tasks in use ────────────────────────────────────────────────────────

pub used-few : (s : TaskSet) → s.count ≤ 8 → length (used (record_of s)) ≡ s.count
unfolding used record_of
used-few s h = let k = entries-length s in length-take-le s.count (record_of s).entries (omega arith)

pub used_all : (s : TaskSet) → 8 ≤ s.count → length (used (record_of s)) ≡ 8
unfolding used record_of
used_all s h = let k = entries-length s in ap length (take_all s.count (record_of s).entries (omega arith)) ∙ k

pub used-at : (s : TaskSet) (i : ℕ) (d : TaskRecord) → i < s.count → i < 8 → get_or (used (record_of s)) i d ≡ entry_of (get_or s.tasks i no_entry)
unfolding used record_of
used-at s i d h k = get_or-take s.count (record_of s).entries i d h ∙ entry_at s i d k

pub set-used : (s : TaskSet) → length (set_of s) ≡ length (used (record_of s))
unfolding set_of set_in tasks_in
set-used s = length-map (used (record_of s)) task_in

pub set-few : (s : TaskSet) → s.count ≤ 8 → length (set_of s) ≡ s.count
set-few s h = set-used s ∙ used-few s h

pub set_all : (s : TaskSet) → 8 ≤ s.count → length (set_of s) ≡ 8
set_all s h = set-used s ∙ used_all s h

pub set_at : (s : TaskSet) (i : ℕ) → i < s.count → i < 8 → get_or (set_of s) i no_task ≡ task_of (get_or s.tasks i no_entry)
unfolding set_of set_in tasks_in task_of no_task task_in no_record pattern_of
set_at s i h k = get_or-map task_in (used (record_of s)) i no_record ∙ ap task_in (used-at s i no_record h k)

-- ── the entries in use ──────────────────────────────────────────────────────

pub pattern-few : (t : Task) → t.steps + t.steps - 1 ≤ 7 → length (task_of t).pattern ≡ t.steps + t.steps - 1
unfolding task_of task_in pattern_of entry_of
pattern-few t h = let k = units-length t in length-take-le (t.steps + t.steps - 1) (entry_of t).units (omega arith)

pub pattern-all : (t : Task) → 7 ≤ t.steps + t.steps - 1 → length (task_of t).pattern ≡ 7
unfolding task_of task_in pattern_of entry_of
pattern-all t h = let k = units-length t in ap length (take_all (t.steps + t.steps - 1) (entry_of t).units (omega arith)) ∙ k

pub pattern-at : (t : Task) (i : ℕ) → i < t.steps + t.steps - 1 → i < 7 → get_or (task_of t).pattern i 0 ≡ get_or t.pattern i 0
unfolding task_of task_in pattern_of entry_of
pattern-at t i h k = get_or-take (t.steps + t.steps - 1) (entry_of t).units i 0 h ∙ unit-at t i k

-- ── the slice of the tasks in use ───────────────────────────────────────────

module _ (s : TaskSet) (eight : length s.tasks ≡ 8) where
  pub slice-length : length (take (min s.count 8) s.tasks) ≡ length (set_of s)
  slice-length = go (le-or-lt s.count 8)
    where
      go : (s.count ≤ 8) ⊎ (8 < s.count) → length (take (min s.count 8) s.tasks) ≡ length (set_of s)
      go (inl h) = let e = set-few s h in let l = length-take-le (min s.count 8) s.tasks (grind arith) in grind arith
      go (inr h) = let e = set_all s (omega arith) in let l = length-take-le (min s.count 8) s.tasks (grind arith) in grind arith

  pub slice-at : (i : ℕ) (d : Task) → i < length (set_of s) → get_or (take (min s.count 8) s.tasks) i d ≡ get_or s.tasks i no_entry
  slice-at i d h =
      let l = slice-length in
      let w : i < min s.count 8 = len-take i (omega arith) in
      get_or-take (min s.count 8) s.tasks i d w ∙ get_or_default s.tasks i d no_entry (omega arith)
    where
      len-take : (i : ℕ) → i < length (take (min s.count 8) s.tasks) → i < min s.count 8
      len-take i h = omega (arith, length-take (min s.count 8) s.tasks)

  pub slice-tasks : map task_of (take (min s.count 8) s.tasks) ≡ set_of s
  unfolding no_task task_of task_in entry_of pattern_of
  slice-tasks =
      let l = slice-length in
      let m = length-map (take (min s.count 8) s.tasks) task_of in
      ext_get_or no_task (map task_of (take (min s.count 8) s.tasks)) (set_of s) (omega arith)
      (λ i h. let k : i < length (set_of s) = omega arith in let w = within i k in
      get_or-map task_of (take (min s.count 8) s.tasks) i no_entry ∙ ap task_of (slice-at i no_entry k) ∙ sym (set_at s i (omega arith) (omega arith)))
    where
      within : (i : ℕ) → i < length (set_of s) → i < min s.count 8
      within i k = let l = slice-length in omega (arith, length-take (min s.count 8) s.tasks)

  pub slice-entries : map entry_of (take (min s.count 8) s.tasks) ≡ used (record_of s)
  unfolding no_record entry_of
  slice-entries =
      let l = slice-length in
      let k = set-used s in
      let m = length-map (take (min s.count 8) s.tasks) entry_of in
      ext_get_or (entry_of no_entry) (map entry_of (take (min s.count 8) s.tasks)) (used (record_of s)) (omega arith)
      (λ i h. let k : i < length (set_of s) = omega arith in let w = within i k in
      get_or-map entry_of (take (min s.count 8) s.tasks) i no_entry ∙ ap entry_of (slice-at i no_entry k) ∙ sym (used-at s i (entry_of no_entry) (omega arith) (omega arith)))
    where
      within : (i : ℕ) → i < length (set_of s) → i < min s.count 8
      within i k = let l = slice-length in omega (arith, length-take (min s.count 8) s.tasks)
