-- What a task and a set are by default: blank.
use Rattle.std.proofs.Common.{◌≡◌, ℕ, zero, suc, ◌+◌, ◌<◌, get_or, replicate, refl, arith}
use Rattle.std.specs.Array.{AllOfLen}
use Rattle.rules.specs.Lists.{tabulate}
use Rattle.rules.specs.States.{blank_task, blank_set}
use Rattle.tasks.specs.declared.Task.{Task}
use Rattle.tasks.specs.declared.TaskSet.{TaskSet}
use Rattle.tasks.specs.Views.{no_entry, entry_of, record_of}

-- a table whose entries are all one
tabulate-constant : {A : Type 0} (f : ℕ → A) (x : A) (i n : ℕ) → ((k : ℕ) → k < i + n → f k ≡ x) → tabulate f i n ≡ replicate n x
unfolding tabulate
tabulate-constant f x i zero h = refl
tabulate-constant f x i (suc n) h = rw (h i (omega arith), tabulate-constant f x (suc i) n (λ k l. h k (omega arith)))

-- the fields of a task by default
abbrev pub IsBlank : Task → Type 0
IsBlank t = (t.period ≡ 0) × ((t.deadline ≡ 0) × ((t.steps ≡ 0) × AllOfLen (λ x. x ≡ 0) t.pattern 7))

pub task_default : (t : Task) → IsBlank t → entry_of t ≡ blank_task
unfolding entry_of blank_task
task_default t h = rw (h.0, h.1.0, h.1.1.0, tabulate-constant (λ k. get_or t.pattern k 0) 0 0 7 (λ k l. h.1.1.1.at k 0 l)) refl

pub set_default : (s : TaskSet) → s.count ≡ 0 → AllOfLen IsBlank s.tasks 8 → record_of s ≡ blank_set
unfolding record_of blank_set
set_default s e h = rw (e, tabulate-constant (λ k. entry_of (get_or s.tasks k no_entry)) blank_task 0 8 (λ k l. task_default (get_or s.tasks k no_entry) (h.at k no_entry l))) refl
