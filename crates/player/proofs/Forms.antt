-- The form of a state, test by test, as the code makes them.
use Rattle.std.proofs.Common.{◌≡◌, ◌≤◌, ◌<◌, ◌+◌, ◌-◌, ◌%◌, ◌==◌, ◌⊎◌, inl, inr, ℕ, suc, zero, List, [], ◌∷◌, Bool, true, false, not, eqb, leb, ltb, ◌&&◌, ◌||◌, T, length, map, get_or, take, drop, arith, sym, ap, refl, ◌∙◌, add-one, drop-cons}
use borrow.Author.Tests.{ne_eqb, eq-eqb, lt-ltb, le-ltb}
use lib.ListN.{length-drop}
use lib.Seq.{ext_get_or, length-take-le, take_all}
use Rattle.std.specs.List.{list_all}
use Rattle.std.proofs.lemmas.List.{drop_all, take-map}
use Rattle.rules.specs.Lists.{all_of, is_zero}
use Rattle.rules.specs.Tasks.{Task, no_task, span}
use Rattle.rules.specs.Positions.{starts, in_time, every, live_position}
use Rattle.rules.specs.Hyper.{hyper}
use Rattle.rules.specs.Jobs as model
use Rattle.rules.specs.Jobs.{finished}
use Rattle.rules.specs.Records.{TaskRecord, no_record, task_in, pattern_of, used, set_in, record_refusal}
use Rattle.rules.specs.States.{is_blank_job, is_blank_task, units_tidy, rest_zero, planned_form, job_form, jobs_form, last_form, in_use, in_use_form, form}
use Rattle.rules.proofs.Laws.{le-or-lt, true-T}
use Rattle.tasks.specs.declared.Task as code
use Rattle.tasks.specs.declared.TaskSet.{TaskSet}
use Rattle.tasks.specs.declared.timed.Timed.{Timed}
use Rattle.tasks.specs.Timed.{timed_task}
use Rattle.tasks.specs.Views.{no_entry, entry_of, record_of, task_of, set_of}
use Rattle.tasks.proofs.OneTask.{pattern-short}
use Rattle.tasks.proofs.Views.{units-length, unit-at, set-few, set_all, set-used, set_at, used-at, slice-at}
use Rattle.tasks.proofs.Positions.{set-fits, in_use-length}
use Rattle.tasks.proofs.Slotwise.{and-swap}
use Rattle.tasks.proofs.Refusals.{number-some}
use Rattle.player.specs.declared.State.{State}
use Rattle.player.specs.Views.{job_of, no_job, eight, jobs_of, runner_number, state_of}
use Rattle.player.specs.Forms.{plan_fits, task_fits, tasks_fit, rest_fits, others_fit, parts_fit}
use Rattle.player.proofs.Views.{mapped, eight-length, jobs-length, plan-at, job-at}

-- ── lists ───────────────────────────────────────────────────────────────────

zeros : (xs : List ℕ) → all_of is_zero xs ≡ list_all (λ x. x == 0) xs
unfolding all_of is_zero
zeros [] = refl
zeros (x ∷ xs) = ap (λ b. (x == 0) && b) (zeros xs)

drop-taken : (n : ℕ) (xs : List ℕ) → drop (length (take n xs)) xs ≡ drop n xs
drop-taken zero xs = refl
drop-taken (suc n) [] = refl
drop-taken (suc n) (x ∷ xs) = drop-taken n xs

-- a test of what is read from a place on
beyond : {A B : Type 0} (test : B → Bool) (f : A → B) (xs : List A) (n : ℕ) → all_of test (drop n (map f xs)) ≡ list_all (λ x. test (f x)) (drop n xs)
unfolding all_of
beyond test f [] zero = refl
beyond test f [] (suc n) = refl
beyond test f (x ∷ xs) zero = ap (λ b. test (f x) && b) (beyond test f xs zero)
beyond test f (x ∷ xs) (suc n) = beyond test f xs n

-- ── planned progress ────────────────────────────────────────────────────────

or-swap : (a b : Bool) → (not a || b) ≡ (b || not a)
or-swap true true = refl
or-swap true false = refl
or-swap false true = refl
or-swap false false = refl

module _ (t : Timed) (slot p : ℕ) where
  whole : span (timed_task t) ≡ t.length
  unfolding timed_task span
  whole = sym t.whole

  pub plan-is : plan_fits slot (timed_task t) p ≡ (leb p t.length && (p == 0 || not (slot % (timed_task t).period == 0))) && in_time (slot % (timed_task t).period) (timed_task t) p
  unfolding starts is_zero
  plan-is = rw (whole, or-swap (slot % (timed_task t).period == 0) (p == 0)) refl

pub ruleset plans = plan-is

-- ── units not in use ────────────────────────────────────────────────────────

module _ (t : code.Task) (seven : length t.pattern ≡ 7) where
  units-are : (entry_of t).units ≡ t.pattern
  units-are = let l = units-length t in ext_get_or 0 (entry_of t).units t.pattern (omega arith) (λ i h. unit-at t i (omega arith))

  pub blank-is : is_blank_task (entry_of t) ≡ ((t.period == 0 && t.deadline == 0) && (t.steps == 0 && list_all (λ x. x == 0) t.pattern))
  unfolding is_blank_task is_zero entry_of
  blank-is = rw (units-are, zeros t.pattern) refl

  pub tidy-is : (n : ℕ) → n ≡ length (task_of t).pattern → units_tidy (entry_of t) ≡ list_all (λ x. x == 0) (take (7 - n) (drop n t.pattern))
  unfolding units_tidy task_of task_in pattern_of
  tidy-is n e =
      let l = length-drop n t.pattern in
      let k : length (drop n t.pattern) ≤ 7 - n = omega arith in
      let f : n ≡ length (take ((entry_of t).steps + (entry_of t).steps - 1) t.pattern) = rw units-are at e in
      rw (units-are, zeros (drop ((entry_of t).steps + (entry_of t).steps - 1) t.pattern), take_all (7 - n) (drop n t.pattern) k, f, drop-taken ((entry_of t).steps + (entry_of t).steps - 1) t.pattern) refl

pub ruleset blanks = (pattern-short, blank-is, tidy-is)

-- ── the tasks in use ────────────────────────────────────────────────────────

used-length : (s : TaskSet) {A : Type 0} (xs : List A) → length xs ≡ 8 → length (take s.count xs) ≡ length (set_of s)
used-length s xs e = go (le-or-lt s.count 8)
  where
    go : (s.count ≤ 8) ⊎ (8 < s.count) → length (take s.count xs) ≡ length (set_of s)
    go (inl h) = length-take-le s.count xs (omega arith) ∙ sym (set-few s h)
    go (inr h) = ap length (take_all s.count xs (omega arith)) ∙ e ∙ sym (set_all s (omega arith))

-- two tasks' tests in the order of the lists, and task by task
by-task : (p q j u x y z w : Bool) → ((p && x) && (q && y)) && ((j && z) && (u && w)) ≡ ((p && q) && (j && u)) && ((x && y) && (z && w))
by-task p q j u x y z w = rw (and-swap p x q y, and-swap j z u w) (and-swap (p && q) (x && y) (j && u) (z && w))

-- the tests of the tasks from number i + 1 on
abbrev rest : ℕ → ℕ → ℕ → List Task → List ℕ → List model.Job → List TaskRecord → Bool
rest t last i s ps js rs = planned_form (drop i s) t (drop i ps) && (jobs_form last i (drop i s) (drop i js) && all_of units_tidy (drop i rs))

module _ (t last i : ℕ) (s : List Task) (ps : List ℕ) (js : List model.Job) (rs : List TaskRecord) where
  rest-step : i < length s → i < length ps → i < length js → i < length rs
      → rest t last i s ps js rs
      ≡ (plan_fits t (get_or s i no_task) (get_or ps i 0) && (job_form (get_or s i no_task) (eqb last i) (get_or js i finished) && units_tidy (get_or rs i no_record)))
      && rest t last (suc i) s ps js rs
  unfolding planned_form live_position every jobs_form all_of
  rest-step h p j r = rw (drop-cons s i no_task h, drop-cons ps i 0 p, drop-cons js i finished j, drop-cons rs i no_record r)
      (by-task (leb (get_or ps i 0) (span (get_or s i no_task)) && (not (starts t (get_or s i no_task)) || is_zero (get_or ps i 0))) (in_time (t % (get_or s i no_task).period) (get_or s i no_task) (get_or ps i 0))
      (job_form (get_or s i no_task) (eqb last i) (get_or js i finished)) (units_tidy (get_or rs i no_record))
      (every (λ τ p. leb p (span τ) && (not (starts t τ) || is_zero p)) (drop (suc i) s) (drop (suc i) ps)) (every (λ τ p. in_time (t % τ.period) τ p) (drop (suc i) s) (drop (suc i) ps))
      (jobs_form last (suc i) (drop (suc i) s) (drop (suc i) js)) (all_of units_tidy (drop (suc i) rs)))

  rest-end : length s ≤ i → length rs ≤ i → rest t last i s ps js rs ≡ true
  unfolding planned_form live_position every jobs_form all_of
  rest-end h r = rw (drop_all i s h, drop_all i rs r) refl

module _ (st : State) where
  fit-is : (i : ℕ) → tasks_fit (state_of st) i ≡ rest st.slot (runner_number st.last) i (set_of st.set) (take st.set.count (eight st.planned)) (take st.set.count (jobs_of st.jobs)) (used (record_of st.set))
  unfolding tasks_fit state_of in_use set_of record_of
  fit-is i = refl

  pub fit-few : length (set_of st.set) ≤ 8
  fit-few = (set-fits st.set).1

  pub fit-step : (i : ℕ) → i < length (set_of st.set)
      → tasks_fit (state_of st) i ≡ task_fits st.slot (entry_of (get_or st.set.tasks i no_entry)) (get_or st.planned i 0) (eqb (runner_number st.last) i) (job_of (get_or st.jobs i no_job)) && tasks_fit (state_of st) (i + 1)
  unfolding task_of
  fit-step i h =
      let f = set-fits st.set in
      let b : i < st.set.count = omega arith in
      let e : i < 8 = omega arith in
      let p = used-length st.set (eight st.planned) (eight-length st.planned) in
      let j = used-length st.set (jobs_of st.jobs) (jobs-length st.jobs) in
      let u = set-used st.set in
      fit-is i
      ∙ rest-step st.slot (runner_number st.last) i (set_of st.set) (take st.set.count (eight st.planned)) (take st.set.count (jobs_of st.jobs)) (used (record_of st.set)) h (omega arith) (omega arith) (omega arith)
      ∙ rw (add-one, fit-is (suc i), set_at st.set i b e, plan-at st.planned st.set.count i b e, job-at st.jobs st.set.count i finished b e, used-at st.set i no_record b e) refl

  abbrev fits_at : ℕ → Bool
  fits_at i = task_fits st.slot (entry_of (get_or st.set.tasks i no_entry)) (get_or st.planned i 0) (eqb (runner_number st.last) i) (job_of (get_or st.jobs i no_job))

  pub fit-on : (i : ℕ) → i < length (set_of st.set) → fits_at i ≡ true → tasks_fit (state_of st) (i + 1) ≡ tasks_fit (state_of st) i
  fit-on i h e = sym (fit-step i h ∙ rw e refl)

  pub fit-off : (i : ℕ) → i < length (set_of st.set) → fits_at i ≡ false → tasks_fit (state_of st) i ≡ false
  fit-off i h e = fit-step i h ∙ rw e refl

  pub fit-end : (i : ℕ) → length (set_of st.set) ≤ i → tasks_fit (state_of st) i ≡ true
  fit-end i h = let u = set-used st.set in fit-is i ∙ rest-end _ _ i (set_of st.set) _ _ (used (record_of st.set)) h (omega arith)

pub ruleset fits = (fit-few, fit-on, fit-off, fit-end, in_use-length, slice-at)

-- ── the whole ───────────────────────────────────────────────────────────────

-- the number of tasks in use, up to eight
past : (s : TaskSet) {A : Type 0} (xs : List A) → length xs ≡ 8 → drop s.count xs ≡ drop (length (set_of s)) xs
past s xs e = go (le-or-lt s.count 8)
  where
    go : (s.count ≤ 8) ⊎ (8 < s.count) → drop s.count xs ≡ drop (length (set_of s)) xs
    go (inl h) = rw (set-few s h) refl
    go (inr h) = rw (set_all s (omega arith), drop_all s.count xs (omega arith), drop_all 8 xs (omega arith)) refl

upto : (s : TaskSet) {A : Type 0} (xs : List A) → length xs ≡ 8 → take s.count xs ≡ take (length (set_of s)) xs
upto s xs e = go (le-or-lt s.count 8)
  where
    go : (s.count ≤ 8) ⊎ (8 < s.count) → take s.count xs ≡ take (length (set_of s)) xs
    go (inl h) = rw (set-few s h) refl
    go (inr h) = rw (set_all s (omega arith), take_all s.count xs (omega arith), take_all 8 xs (omega arith)) refl

-- a test of the array's entries behind the tasks in use
tail : {A B : Type 0} (test : B → Bool) (f : A → B) (xs : List A) (s : TaskSet) (n : ℕ) → n ≡ length (set_of s) → length xs ≡ 8
    → all_of test (drop s.count (map f xs)) ≡ list_all (λ x. test (f x)) (take (8 - n) (drop n xs))
tail test f xs s n e l =
    let k = length-drop n xs in
    let m : length (drop n xs) ≤ 8 - n = omega arith in
    beyond test f xs s.count ∙ ap (list_all (λ x. test (f x))) (past s xs l ∙ rw (← e) (sym (take_all (8 - n) (drop n xs) m)))

module _ (st : State) (jobs : length st.jobs ≡ 8) where
  abbrev n : ℕ
  n = length (set_of st.set)

  pub rest-is : length st.set.tasks ≡ 8 → length st.planned ≡ 8 → rest_fits (state_of st)
      ≡ list_all (λ t. is_blank_task (entry_of t)) (take (8 - n) (drop n st.set.tasks)) && (list_all (λ p. p == 0) (take (8 - n) (drop n st.planned)) && list_all (λ j. is_blank_job (job_of j)) (take (8 - n) (drop n st.jobs)))
  unfolding rest_fits state_of record_of eight jobs_of is_zero
  rest-is tasks plans = rw (
    mapped entry_of st.set.tasks no_entry 8 tasks,
    mapped (λ p. p) st.planned 0 8 plans,
    mapped job_of st.jobs no_job 8 jobs,
    tail is_blank_task entry_of st.set.tasks st.set n refl tasks,
    tail is_zero (λ p. p) st.planned st.set n refl plans,
    tail is_blank_job job_of st.jobs st.set n refl jobs,
  ) refl

  pub last-is : last_form (length (set_in (state_of st).set)) (state_of st).last (in_use (state_of st)).jobs ≡ last_form (length (take n st.jobs)) (runner_number st.last) (map job_of (take n st.jobs))
  unfolding in_use state_of record_of jobs_of set_of
  last-is =
      let f = set-fits st.set in
      let l : length (take n st.jobs) ≡ n = length-take-le n st.jobs (omega arith) in
      rw (mapped job_of st.jobs no_job 8 jobs, take-map job_of st.set.count st.jobs, upto st.set st.jobs jobs, l) refl

  pub others-is : others_fit (state_of st) ≡ last_form (length (take n st.jobs)) (runner_number st.last) (map job_of (take n st.jobs)) && rest_fits (state_of st)
  unfolding others_fit
  others-is = rw last-is refl

regroup : (h p j l u x y z : Bool) → ((h && p) && (j && l)) && ((u && x) && (y && z)) ≡ h && ((p && (j && u)) && (l && (x && (y && z))))
regroup false p j l u x y z = refl
regroup true false j l u x y z = refl
regroup true true false l u x y z = refl
regroup true true true false false x y z = refl
regroup true true true false true x y z = refl
regroup true true true true false x y z = refl
regroup true true true true true x y z = refl

module _ (st : State) where
  pub form-refused : (record_refusal (record_of st.set) ≡ 0 → ⊥) → form (state_of st) ≡ false
  unfolding form state_of
  form-refused h = rw (ne_eqb (record_refusal (record_of st.set)) 0 h) refl

  pub form-is : record_refusal (record_of st.set) ≡ 0 → form (state_of st) ≡ ltb st.slot (hyper (set_of st.set)) && parts_fit (state_of st)
  unfolding form in_use_form rest_zero parts_fit others_fit rest_fits tasks_fit state_of set_of in_use
  form-is e =
      let r = record_of st.set in
      let s = set_in r in
      let ps = take r.count (eight st.planned) in
      let js = take r.count (jobs_of st.jobs) in
      let last = runner_number st.last in
      rw (eq-eqb (record_refusal r) 0 e)
      (regroup (ltb st.slot (hyper s)) (planned_form s st.slot ps) (jobs_form last 0 s js) (last_form (length s) last js) (all_of units_tidy (used r))
      (all_of is_blank_task (drop r.count r.entries)) (all_of is_zero (drop r.count (eight st.planned))) (all_of is_blank_job (drop r.count (jobs_of st.jobs))))

  pub has-form : record_refusal (record_of st.set) ≡ 0 → st.slot < hyper (set_of st.set) → tasks_fit (state_of st) 0 ≡ true → others_fit (state_of st) ≡ true → T (form (state_of st))
  unfolding parts_fit
  has-form e h p q = true-T (form (state_of st)) (form-is e ∙ rw (lt-ltb st.slot (hyper (set_of st.set)) h, p, q) refl)

  pub slot-late : record_refusal (record_of st.set) ≡ 0 → hyper (set_of st.set) ≤ st.slot → form (state_of st) ≡ false
  slot-late e h = form-is e ∙ rw (le-ltb st.slot (hyper (set_of st.set)) h) refl

  pub tasks-unfit : record_refusal (record_of st.set) ≡ 0 → st.slot < hyper (set_of st.set) → tasks_fit (state_of st) 0 ≡ false → form (state_of st) ≡ false
  unfolding parts_fit
  tasks-unfit e h p = form-is e ∙ rw (lt-ltb st.slot (hyper (set_of st.set)) h, p) refl

  pub others-unfit : record_refusal (record_of st.set) ≡ 0 → st.slot < hyper (set_of st.set) → tasks_fit (state_of st) 0 ≡ true → others_fit (state_of st) ≡ false → form (state_of st) ≡ false
  unfolding parts_fit
  others-unfit e h p q = form-is e ∙ rw (lt-ltb st.slot (hyper (set_of st.set)) h, p, q) refl

  pub period-is : hyper (set_of st.set) ≡ hyper (set_in (state_of st).set)
  unfolding state_of set_of
  period-is = refl

pub ruleset parts = (fit-few, rest-is, others-is, in_use-length)

pub ruleset wholes = (form-refused, slot-late, tasks-unfit, others-unfit, has-form, period-is, number-some)
