-- What fits 16 bits.
use mathlib.Core.Path.{◌≡◌, refl}
use mathlib.Core.Bool.{Bool, true, false, not, cond, ◌&&◌}
use mathlib.Core.List.{List, [], ◌∷◌}
use Prim.Native.Nat.{ℕ, zero, suc, ◌+◌, ◌*◌, ◌-◌, ◌≤◌, ◌<◌}
use native.Mathlib.Omega.{arith}
use borrow.Author.Tests.{ltb-false}
use lib.Dec.{ltb}
use lib.ListN.{length, get_or, take, get_or-replicate}
use Rattle.rules.specs.Tasks.{Task, sum, span, no_task}
use Rattle.rules.specs.Hyper.{hyper}
use Rattle.rules.specs.Positions.{Position, starts, next, start}
use Rattle.rules.specs.Choices.{run, Counted}
use Rattle.rules.specs.Records.{TaskRecord, between, all_between, pattern_of, task_in, or_else, tasks_refusal, tasks_in, set_refusal, no_record, SetRecord, used, set_in, record_refusal}
use Rattle.rules.proofs.Laws.{passed-fits}
use Rattle.rules.proofs.Set.Admitted.{between_le, tasks-good, set-tasks, tasks-length}
use Rattle.rules.proofs.Set.Tidy.{counts}
use Rattle.rules.proofs.Run.Reach.{start-length, next-length, next-at, ended_at}
use Rattle.rules.proofs.Lists.{clash}

-- "The hyper-period is at most 4,096"
hyper-within : (rs : List TaskRecord) → set_refusal rs ≡ 0 → hyper (tasks_in rs) ≤ 4096
unfolding set_refusal or_else
hyper-within rs e = one (between 1 8 (length rs)) refl e
  where
    three : (b : Bool) → ltb 4096 (hyper (tasks_in rs)) ≡ b → ◌≡◌ {A = ℕ} (cond b 6 0) 0 → hyper (tasks_in rs) ≤ 4096
    three true q e = clash 5 e
    three false q e = ltb-false 4096 (hyper (tasks_in rs)) q

    two : (n : ℕ) → tasks_refusal rs ≡ n → or_else n (cond (ltb 4096 (hyper (tasks_in rs))) 6 0) ≡ 0 → hyper (tasks_in rs) ≤ 4096
    two zero q e = three (ltb 4096 (hyper (tasks_in rs))) refl e
    two (suc n) q e = clash n e

    one : (b : Bool) → between 1 8 (length rs) ≡ b → ◌≡◌ {A = ℕ} (cond (not b) 5 (or_else (tasks_refusal rs) (cond (ltb 4096 (hyper (tasks_in rs))) 6 0))) 0 → hyper (tasks_in rs) ≤ 4096
    one true q e = two (tasks_refusal rs) refl e
    one false q e = clash 4 e

sum-within : (xs : List ℕ) → all_between 1 255 xs ≡ true → sum xs ≤ length xs * 255
unfolding sum all_between
sum-within [] e = omega arith
sum-within (x ∷ xs) e = go (between 1 255 x) refl e (sum-within xs)
  where
    go : (b : Bool) → between 1 255 x ≡ b → (b && all_between 1 255 xs) ≡ true → (all_between 1 255 xs ≡ true → sum xs ≤ length xs * 255) → x + sum xs ≤ suc (length xs) * 255
    go true q e ih = let a = (between_le 1 255 x q).1 in let b = ih e in omega arith
    go false q e ih = let z : ◌≡◌ {A = ℕ} 0 1 = cc in let y : ⊥ = omega arith in absurd y

take_within : (n : ℕ) (xs : List ℕ) → length (take n xs) ≤ n
take_within zero xs = omega arith
take_within (suc n) [] = omega arith
take_within (suc n) (x ∷ xs) = let r = take_within n xs in omega arith

module _ (r : SetRecord) (ok : record_refusal r ≡ 0) where
  pub hyper-small : hyper (set_in r) ≤ 4096
  unfolding set_in
  hyper-small = hyper-within (used r) (counts r ok).fine

  -- "Length L of a task" is at most 7 times 255
  pub span_small : (j : ℕ) → j < length (set_in r) → span (get_or (set_in r) j no_task) ≤ 1785
  unfolding set_in span task_in pattern_of
  span_small j h =
      let l = tasks-length (used r) in
      let g = tasks-good (used r) (set-tasks (used r) (counts r ok).fine).1 j (omega arith) in
      let m = g.0.steps.1 in
      let a = sum-within (pattern_of (get_or (used r) j no_record)) g.0.units in
      let b = take_within ((get_or (used r) j no_record).steps + (get_or (used r) j no_record).steps - 1) (get_or (used r) j no_record).units in
      rw g.1 (omega arith)

-- ── the positions that choices reach ────────────────────────────────────────

cond-le : (b : Bool) (m n : ℕ) → m ≤ n → cond b 0 m ≤ n
cond-le true m n h = omega arith
cond-le false m n h = h

-- progress is 0 to L
pub run_fits : (s : List Task) (x : Position) (v : List ℕ) → length x.progress ≡ length s → ((j : ℕ) → j < length s → get_or x.progress j 0 ≤ span (get_or s j no_task))
    → (j : ℕ) → j < length s → get_or (run s x v).progress j 0 ≤ span (get_or s j no_task)
unfolding run
run_fits s x [] e f j h = f j h
run_fits s x (c ∷ v) e f j h = run_fits s (next s x c) v (next-length s x c e)
    (λ i k. rw (next-at s x c i e k, ended_at s x.progress c i e k) (cond-le (starts (suc x.slot) (get_or s i no_task)) _ _ (passed-fits c i (get_or s i no_task) (get_or x.progress i 0) (f i k)))) j h

pub counted-fits : (s : List Task) (x : Position) → Counted s x → (j : ℕ) → j < length s → get_or x.progress j 0 ≤ span (get_or s j no_task)
unfolding start
counted-fits s x C j h = rw C.reached at (run_fits s (start s) C.by (start-length s) (λ i k. rw (get_or-replicate {A = ℕ} (length s) i 0 0 k) (omega arith)) j h)

-- "A record is n + 1 numbers of 16 bits"
pub record-small : (r : SetRecord) → record_refusal r ≡ 0 → (x : Position) → Counted (set_in r) x → (x.slot < 65536) × ((j : ℕ) → j < length (set_in r) → get_or x.progress j 0 < 65536)
record-small r ok x C =
    let b = C.dead.below in let m = hyper-small r ok in
    (omega arith, λ j h. let f = counted-fits (set_in r) x C j h in let l = span_small r ok j h in omega arith)
