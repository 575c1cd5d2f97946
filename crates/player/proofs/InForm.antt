-- What a state of the form has: a few tasks, a slot of the hyper-period, and for each task a job of its form and a plan that begins anew where the job does.
use mathlib.Core.Path.{◌≡◌, refl, sym, ◌∙◌}
use mathlib.Core.Bool.{Bool, true, false, not, ◌&&◌, ◌||◌}
use mathlib.Core.List.{List, [], ◌∷◌}
use Prim.Native.Nat.{ℕ, ◌+◌, ◌≤◌, ◌<◌}
use native.Mathlib.Omega.{arith}
use lib.Dec.{T, leb, ltb, eqb, ltb→lt, eqb→eq}
use lib.ListN.{length, get_or}
use lib.Seq.{length-take-le}
use borrow.Author.Tests.{lt-ltb}
use Rattle.rules.specs.Lists.{is_zero}
use Rattle.rules.specs.Tasks.{Task, no_task, span, place_of, Shape}
use Rattle.rules.specs.Hyper.{hyper}
use Rattle.rules.specs.Positions.{every, starts, live_position}
use Rattle.rules.specs.Records.{set_in, record_refusal}
use Rattle.rules.specs.Jobs.{finished, turn}
use Rattle.rules.specs.States.{planned_form, job_form, jobs_form, last_form, in_use, in_use_form, rest_zero, form}
use Rattle.rules.proofs.Laws.{T_and, every-at}
use Rattle.rules.proofs.Set.Tidy.{counts, set-shape}
use Rattle.rules.proofs.Play.Closed.{formed-jobs}
use Rattle.tasks.specs.Views.{no_entry, record_of, task_of, set_of}
use Rattle.tasks.proofs.Views.{arrays, set-few, set_at}
use Rattle.player.specs.declared.State.{State}
use Rattle.player.specs.Turns.{turn_for}
use Rattle.player.specs.Views.{no_job, job_of, eight, jobs_of, runner_number, state_of}
use Rattle.player.proofs.Views.{eight-length, jobs-length, plan-at, job-at}

-- progress 0 stands at the first place of a pattern
first_place : (ns : List ℕ) → Shape ns → place_of ns 0 ≡ 0
unfolding place_of
first_place [] s = refl
first_place (n ∷ ns) s = let h = s.positive 0 (omega arith) in rw (lt-ltb 0 n h)

module _ (st : State) (ok : T (form (state_of st))) where
  parts : (record_refusal (record_of st.set) ≡ 0) × T (in_use_form (set_of st.set) (in_use (state_of st)))
  unfolding form state_of set_of
  parts =
      let a = T_and (eqb (record_refusal (record_of st.set)) 0) (in_use_form (set_of st.set) (in_use (state_of st)) && rest_zero (state_of st)) ok in
      (eqb→eq (record_refusal (record_of st.set)) 0 a.0, (T_and (in_use_form (set_of st.set) (in_use (state_of st))) (rest_zero (state_of st)) a.1).0)

  pub few : st.set.count ≤ 8
  unfolding record_of
  few = (counts (record_of st.set) parts.0).high

  pub tasks-are : length (set_of st.set) ≡ st.set.count
  tasks-are = set-few st.set few

  pub task-is : (i : ℕ) → i < st.set.count → get_or (set_of st.set) i no_task ≡ task_of (get_or st.set.tasks i no_entry)
  task-is i h = let f = few in set_at st.set i h (omega arith)

  pub plan-is : (i : ℕ) → i < st.set.count → get_or (in_use (state_of st)).planned i 0 ≡ get_or st.planned i 0
  unfolding in_use state_of record_of
  plan-is i h = let f = few in plan-at st.planned st.set.count i h (omega arith)

  pub job-is : (i : ℕ) → i < st.set.count → get_or (in_use (state_of st)).jobs i finished ≡ job_of (get_or st.jobs i no_job)
  unfolding in_use state_of record_of
  job-is i h = let f = few in job-at st.jobs st.set.count i finished h (omega arith)

  plans-long : length (in_use (state_of st)).planned ≡ length (set_of st.set)
  unfolding in_use state_of record_of
  plans-long = let f = few in let l = eight-length st.planned in length-take-le st.set.count (eight st.planned) (omega arith) ∙ sym tasks-are

  jobs-long : length (in_use (state_of st)).jobs ≡ length (set_of st.set)
  unfolding in_use state_of record_of
  jobs-long = let f = few in let l = jobs-length st.jobs in length-take-le st.set.count (jobs_of st.jobs) (omega arith) ∙ sym tasks-are

  record Inner : Type 0 where
    slot : T (ltb st.slot (hyper (set_of st.set)))
    plans : T (every (λ τ p. leb p (span τ) && (not (starts st.slot τ) || is_zero p)) (set_of st.set) (in_use (state_of st)).planned)
    jobs : T (jobs_form (runner_number st.last) 0 (set_of st.set) (in_use (state_of st)).jobs)

  inner : Inner
  unfolding in_use_form planned_form in_use state_of
  inner =
      let s = set_of st.set in
      let u = in_use (state_of st) in
      let each : Bool = every (λ τ p. leb p (span τ) && (not (starts st.slot τ) || is_zero p)) s u.planned in
      let plans : Bool = planned_form s st.slot u.planned in
      let j : Bool = jobs_form (runner_number st.last) 0 s u.jobs in
      let a = T_and (ltb st.slot (hyper s) && plans) (j && last_form (length s) (runner_number st.last) u.jobs) parts.1 in
      let b = T_and (ltb st.slot (hyper s)) plans a.0 in
      record { slot = b.0; plans = (T_and each (live_position s (record { slot = st.slot; progress = u.planned })) b.1).0; jobs = (T_and j (last_form (length s) (runner_number st.last) u.jobs) a.1).0 }

  pub slot-below : (h : ℕ) → h ≡ hyper (set_in (state_of st).set) → st.slot < h
  unfolding set_of state_of
  slot-below h e = let l = ltb→lt st.slot (hyper (set_of st.set)) inner.slot in omega arith

  -- each task's job has the form
  pub job-formed : (i : ℕ) → i < st.set.count → T (job_form (task_of (get_or st.set.tasks i no_entry)) (eqb (runner_number st.last) i) (job_of (get_or st.jobs i no_job)))
  job-formed i h =
      let l = tasks-are in
      let z : 0 + i ≡ i = omega arith in
      rw (z, task-is i h, job-is i h) at (formed-jobs (runner_number st.last) 0 (set_of st.set) (in_use (state_of st)).jobs jobs-long inner.jobs i (omega arith))

  -- and its plan begins anew where its job does
  pub plan-anew : (i : ℕ) → i < st.set.count → T (starts st.slot (task_of (get_or st.set.tasks i no_entry))) → place_of (task_of (get_or st.set.tasks i no_entry)).pattern (get_or st.planned i 0) ≡ 0
  unfolding set_of is_zero
  plan-anew i h b = rw zero-plan (first_place (task_of (get_or st.set.tasks i no_entry)).pattern shaped)
    where
      here : i < length (set_of st.set)
      here = let l = tasks-are in omega arith

      shaped : Shape (task_of (get_or st.set.tasks i no_entry)).pattern
      shaped = rw (task-is i h) at (set-shape (record_of st.set) (arrays st.set) parts.0 i here)

      τ : Task
      τ = task_of (get_or st.set.tasks i no_entry)

      p : ℕ
      p = get_or st.planned i 0

      both : T (leb p (span τ) && (not (starts st.slot τ) || is_zero p))
      both = rw (task-is i h, plan-is i h) at (every-at (λ τ p. leb p (span τ) && (not (starts st.slot τ) || is_zero p)) (set_of st.set) (in_use (state_of st)).planned i plans-long here inner.plans)

      zero-plan : get_or st.planned i 0 ≡ 0
      zero-plan = go (starts st.slot τ) b (T_and (leb p (span τ)) _ both).1
        where
          go : (s : Bool) → T s → T (not s || is_zero p) → p ≡ 0
          go true b z = eqb→eq p 0 z
          go false b z = elim b [ ]

  -- the turn of a task, in the code's terms
  pub turn-is : (entry i report : ℕ) → i < st.set.count → turn (task_of (get_or st.set.tasks i no_entry)) st.slot (get_or st.planned i 0) (eqb entry i) (eqb (runner_number st.last) i) (job_of (get_or st.jobs i no_job)) report ≡ turn_for st entry i report
  unfolding turn_for
  turn-is entry i report h = rw (task-is i h, plan-is i h, job-is i h)
