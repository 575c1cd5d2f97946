-- The refusals in the code's terms: a law for each branch of the rules' definitions.
use mathlib.Core.Path.{◌≡◌, refl, sym, ap, ◌∙◌}
use mathlib.Core.Bool.{Bool, true, false, not, cond, ◌&&◌, and-false}
use mathlib.Core.Logic.{◌⊎◌, inl, inr, ⊎_elim}
use mathlib.Core.List.{List, [], ◌∷◌}
use Prim.Native.Nat.{ℕ, zero, suc, ◌+◌, ◌≤◌, ◌<◌}
use native.Mathlib.Nat.{pos_of_ne-zero}
use native.Mathlib.Numerals.{add-one}
use native.Mathlib.Omega.{arith}
use borrow.Author.Tests.{ne_eqb, le-leb, lt-leb, lt-ltb, le-ltb}
use Rattle.std.specs.List.{list_any}
use lib.Dec.{leb, ltb, eqb}
use lib.ListN.{length, get_or, drop}
use lib.Seq.{drop-cons}
use Rattle.rules.specs.Hyper.{hyper}
use Rattle.rules.specs.Records.{between, all_between, task_in, task_refusal, or_else, tasks_refusal, set_refusal, used, set_in, record_refusal}
use Rattle.rules.proofs.Laws.{le-or-lt}
use Rattle.tasks.specs.declared.Task.{Task}
use Rattle.tasks.specs.declared.TaskSet.{TaskSet}
use Rattle.tasks.specs.declared.refusal.Refusal.{Refusal}
use Rattle.tasks.specs.declared.refusal.Refusal.TheVariants.{ListTooLong, Malformed, OutOfRange, LateDeadline, TaskCount, HyperTooLong, ShortTable, ShortBuffer, BadState, ReportCount, BadTable}
use Rattle.tasks.specs.Refusals.{number_of}
use Rattle.std.proofs.lemmas.List.{drop_all}
use Rattle.std.specs.Prelude.{map, Some, None}
use Rattle.tasks.specs.Views.{entry_of, record_of, task_of, set_of, within}
use Rattle.tasks.proofs.Views.{used-few}

-- ── tests ───────────────────────────────────────────────────────────────────

and_no : (a b : Bool) → false ≡ b → false ≡ a && b
and_no true b e = e
and_no false b e = refl

-- ── a number in its range ───────────────────────────────────────────────────

pub between-zero : (b x : ℕ) → x ≡ 0 → false ≡ between 1 b x
unfolding between
between-zero b x e = rw e

pub between_more : (b x : ℕ) → (x ≡ 0 → ⊥) → leb x b ≡ between 1 b x
unfolding between
between_more b x h = rw (le-leb 1 x (pos_of_ne-zero h))

-- ── the entries of a pattern ────────────────────────────────────────────────

all-no : (b : ℕ) (xs : List ℕ) (i : ℕ) → i < length xs → get_or xs i 0 ≡ 0 → false ≡ all_between 1 b xs
unfolding all_between
all-no b [] i h e = let z : ⊥ = omega arith in absurd z
all-no b (x ∷ xs) zero h e = ap (λ t. t && all_between 1 b xs) (between-zero b x e)
all-no b (x ∷ xs) (suc i) h e = and_no (between 1 b x) (all_between 1 b xs) (all-no b xs i (omega arith) e)

pub units-any : (ns : List ℕ) → ((i : ℕ) → get_or ns i 0 ≤ 255) → not (list_any (λ n. eqb n 0) ns) ≡ all_between 1 255 ns
unfolding all_between between
units-any [] f = refl
units-any (n ∷ ns) f = one n (f 0) (units-any ns (λ i. f (suc i)))
  where
    one : (n : ℕ) → n ≤ 255 → not (list_any (λ n. eqb n 0) ns) ≡ all_between 1 255 ns → not (list_any (λ n. eqb n 0) (n ∷ ns)) ≡ (leb 1 n && leb n 255) && all_between 1 255 ns
    one zero h e = refl
    one (suc n) h e = rw (ne_eqb (suc n) 0 (λ z. absurd (omega arith)), le-leb 1 (suc n) (omega arith), le-leb (suc n) 255 h) e

true-false : true ≡ false → ⊥
true-false e = cc

none-some : {k : ℕ} → None ≡ Some k → ⊥
none-some e = cc

some-same : {k h : ℕ} → Some k ≡ Some h → k ≡ h
some-same e = cc

between-below : (b x : ℕ) → between 1 b x ≡ true → x ≤ b
unfolding between
between-below b x e = go (le-or-lt x b)
  where
    go : (x ≤ b) ⊎ (b < x) → x ≤ b
    go (inl k) = k
    go (inr k) = absurd (true-false (sym e ∙ rw (lt-leb x b k) (and-false _)))

-- ── one task ────────────────────────────────────────────────────────────────

module _ (t : Task) where
  pub steps-wrong : (b : Bool) → b ≡ false → b ≡ between 1 4 t.steps → task_refusal (entry_of t) ≡ 2
  unfolding task_refusal entry_of task_of task_in
  steps-wrong b f e = rw (← e, f)

  module _ (few : between 1 4 t.steps ≡ true) where
    pub out_of_range : between 1 4096 t.period && (between 1 4096 t.deadline && all_between 1 255 (task_of t).pattern) ≡ false → task_refusal (entry_of t) ≡ 3
    unfolding task_refusal entry_of task_of task_in
    out_of_range e = rw (few, e)

    module _ (fine : between 1 4096 t.period && (between 1 4096 t.deadline && all_between 1 255 (task_of t).pattern) ≡ true) where
      pub deadline-late : t.period < t.deadline → task_refusal (entry_of t) ≡ 4
      unfolding task_refusal entry_of task_of task_in
      deadline-late h = rw (few, fine, lt-ltb t.period t.deadline h)

      pub task-fine : t.deadline ≤ t.period → task_refusal (entry_of t) ≡ 0
      unfolding task_refusal entry_of task_of task_in
      task-fine h = rw (few, fine, le-ltb t.period t.deadline h)

-- ── the tasks in use ────────────────────────────────────────────────────────

or-first : (r n : ℕ) → (r ≡ 0 → ⊥) → r ≡ or_else r n
unfolding or_else
or-first zero n h = absurd (h refl)
or-first (suc r) n h = refl

or-next : (r n : ℕ) → r ≡ 0 → or_else r n ≡ n
unfolding or_else
or-next r n e = rw e

tasks-from : (ts : List Task) (i : ℕ) (d : Task) → i < length ts → tasks_refusal (map entry_of (drop i ts)) ≡ or_else (task_refusal (entry_of (get_or ts i d))) (tasks_refusal (map entry_of (drop (i + 1) ts)))
unfolding tasks_refusal
tasks-from ts i d h = rw (add-one) (ap (λ us. tasks_refusal (map entry_of us)) (drop-cons ts i d h))

pub first-here : (ts : List Task) (i r n : ℕ) (d : Task) → i < length ts → tasks_refusal (map entry_of (drop i ts)) ≡ n → task_refusal (entry_of (get_or ts i d)) ≡ r → (r ≡ 0 → ⊥) → n ≡ r
first-here ts i r n d h e f z = sym (or-first r _ z ∙ sym (rw f at (tasks-from ts i d h)) ∙ e)

pub first_next : (ts : List Task) (i n : ℕ) (d : Task) → i < length ts → tasks_refusal (map entry_of (drop i ts)) ≡ n → task_refusal (entry_of (get_or ts i d)) ≡ 0 → tasks_refusal (map entry_of (drop (i + 1) ts)) ≡ n
first_next ts i n d h e f = sym (or-next _ _ f) ∙ sym (tasks-from ts i d h) ∙ e

pub first-end : (ts : List Task) (i n : ℕ) → length ts ≤ i → tasks_refusal (map entry_of (drop i ts)) ≡ n → n ≡ 0
unfolding tasks_refusal
first-end ts i n h e = sym e ∙ rw (drop_all i ts h) refl

pub number-some : (r : Refusal) → number_of r ≡ 0 → ⊥
number-some ListTooLong e = absurd (omega arith)
number-some Malformed e = absurd (omega arith)
number-some OutOfRange e = absurd (omega arith)
number-some LateDeadline e = absurd (omega arith)
number-some TaskCount e = absurd (omega arith)
number-some HyperTooLong e = absurd (omega arith)
number-some ShortTable e = absurd (omega arith)
number-some ShortBuffer e = absurd (omega arith)
number-some BadState e = absurd (omega arith)
number-some ReportCount e = absurd (omega arith)
number-some BadTable e = absurd (omega arith)

abbrev six : Bool → ℕ
six b = cond b 6 0

over-limit : (h : ℕ) → None ≡ cond (leb h 4096) (Some h) None → six (ltb 4096 h) ≡ 6
over-limit h e = ⊎_elim (λ few. absurd (none-some (rw (le-leb h 4096 few) at e))) (λ many. rw (lt-ltb 4096 h many) refl) (le-or-lt h 4096)

-- ── the set ─────────────────────────────────────────────────────────────────

pub count-wrong : (s : TaskSet) → between 1 8 s.count ≡ false → record_refusal (record_of s) ≡ 5
unfolding record_refusal record_of
count-wrong s e = rw e

module _ (s : TaskSet) (few : between 1 8 s.count ≡ true) where
  refusal-from : record_refusal (record_of s) ≡ or_else (tasks_refusal (used (record_of s))) (cond (ltb 4096 (hyper (set_of s))) 6 0)
  unfolding record_refusal set_refusal set_of set_in record_of
  refusal-from = rw (few, used-few s (between-below 8 s.count few), few)

  pub task-refused : (r : ℕ) → tasks_refusal (used (record_of s)) ≡ r → (r ≡ 0 → ⊥) → record_refusal (record_of s) ≡ r
  task-refused r e n = rw (refusal-from, e) (sym (or-first r _ n))

  module _ (fine : tasks_refusal (used (record_of s)) ≡ 0) where
    hyper-decides : record_refusal (record_of s) ≡ cond (ltb 4096 (hyper (set_of s))) 6 0
    hyper-decides = refusal-from ∙ or-next _ _ fine

    pub hyper-over : None ≡ within (hyper (set_of s)) → record_refusal (record_of s) ≡ 6
    unfolding within
    hyper-over e = hyper-decides ∙ over-limit (hyper (set_of s)) e

    pub set-fine : (k : ℕ) → Some k ≡ within (hyper (set_of s)) → (record_refusal (record_of s) ≡ 0) × (k ≡ hyper (set_of s))
    unfolding within
    set-fine k e = fit (hyper (set_of s)) e hyper-decides
      where
        fit : (h : ℕ) → Some k ≡ cond (leb h 4096) (Some h) None → record_refusal (record_of s) ≡ cond (ltb 4096 h) 6 0 → (record_refusal (record_of s) ≡ 0) × (k ≡ h)
        fit h e d = ⊎_elim (λ few. (d ∙ rw (le-ltb 4096 h few) refl, some-same (rw (le-leb h 4096 few) at e))) (λ many. absurd (none-some (sym (rw (lt-leb h 4096 many) at e)))) (le-or-lt h 4096)

pub ruleset first_laws = (first-here, first_next, first-end, number-some)

pub ruleset set_laws = (count-wrong, task-refused, hyper-over, set-fine, number-some)

pub ruleset task_laws = (steps-wrong, out_of_range, deadline-late, task-fine)
