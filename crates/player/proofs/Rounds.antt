-- Laws of the turns of all tasks: which are taken before a place, and what they are in the end.
use mathlib.Core.Path.{◌≡◌, refl, sym, ap, ◌∙◌}
use mathlib.Core.Logic.{◌⊎◌, inl, inr}
use mathlib.Core.Bool.{Bool, true, false, cond, ◌&&◌}
use mathlib.Core.List.{List}
use Prim.Native.Nat.{ℕ, zero, suc, ◌+◌, ◌≤◌, ◌<◌}
use native.Mathlib.Omega.{arith}
use lib.Dec.{T, ltb}
use lib.ListN.{length, get_or, set, replicate}
use borrow.Author.Tests.{lt-ltb, le-ltb, ne_eqb}
use Rattle.std.specs.Prelude.{Option, Some, None, min}
use Rattle.std.proofs.lemmas.List.{get_or_default}
use Rattle.rules.specs.Lists.{tabulate, padded}
use Rattle.rules.specs.Tasks as tasks
use Rattle.rules.specs.Positions.{idle}
use Rattle.rules.specs.Jobs as model
use Rattle.rules.specs.Jobs.{reported, Turn, turn}
use Rattle.rules.specs.Player.{turn_of, runner_of, tick}
use Rattle.rules.specs.States.{blank_job, in_use, form}
use Rattle.rules.proofs.Laws.{le-or-lt}
use Rattle.rules.proofs.Lists.{clash-bool, tabulate-at, tabulate-length}
use Rattle.rules.proofs.Play.Lanes.{turn-runs}
use Rattle.tasks.specs.Views.{set_of}
use Rattle.player.specs.declared.Cause.{Cause}
use Rattle.player.specs.declared.Job.{Job}
use Rattle.player.specs.declared.State.{State}
use Rattle.player.specs.Turns.{turn_for}
use Rattle.player.specs.Views.{IsTask, job_of, no_job, jobs_of, fault_number, faults_of, runner_number, state_of}
use Rattle.player.proofs.Arrays.{Made, made-start, made-step, made-end}
use Rattle.player.proofs.InForm.{few, tasks-are}

-- ── reports ─────────────────────────────────────────────────────────────────

-- any number above 2 is as good as 3
capped : {A : Type 0} (f : ℕ → A) → ((n : ℕ) → f (suc (suc (suc n))) ≡ f 3) → (n : ℕ) → f (min n 3) ≡ f n
capped f e zero = ap f (grind arith)
capped f e (suc zero) = ap f (grind arith)
capped f e (suc (suc zero)) = ap f (grind arith)
capped f e (suc (suc (suc n))) = ap f (grind arith) ∙ sym (e n)

told-three : (τ : tasks.Task) (k : model.Stand) (ran : Bool) (j : model.Job) (n : ℕ) → reported τ k ran j (suc (suc (suc n))) ≡ reported τ k ran j 3
unfolding reported
told-three τ model.Ready true j n = refl
told-three τ model.Ready false j n = refl
told-three τ model.Waiting ran j n = refl
told-three τ model.Done ran j n = refl
told-three τ (model.Stopped c) ran j n = refl

pub turn-capped : (st : State) (entry i n : ℕ) → turn_for st entry i (min n 3) ≡ turn_for st entry i n
unfolding turn_for turn
turn-capped st entry i n = capped (turn_for st entry i) (λ n. rw (told-three _ _ _ _ n)) n

-- ── who runs ────────────────────────────────────────────────────────────────

-- of the tasks before number i + 1, only the slot's owner can run
module _ (owner : ℕ) (runs : ℕ → Bool) (other : (i : ℕ) → (owner ≡ i → ⊥) → runs i ≡ false) where
  abbrev runner : ℕ → ℕ
  runner i = cond (ltb owner i && runs owner) owner 255

  runner-next : (i : ℕ) → runs i ≡ false → runner i ≡ runner (i + 1)
  runner-next i f = go (le-or-lt i owner)
    where
      go : (i ≤ owner) ⊎ (owner < i) → runner i ≡ runner (i + 1)
      go (inr l) = rw (lt-ltb owner i l, lt-ltb owner (i + 1) (omega arith))
      go (inl l) = rw (le-ltb owner i l) (last (le-or-lt (i + 1) owner))
        where
          last : (i + 1 ≤ owner) ⊎ (owner < i + 1) → ◌≡◌ {A = ℕ} 255 (runner (i + 1))
          last (inl k) = rw (le-ltb owner (i + 1) k)
          last (inr k) = let q : owner ≡ i = omega arith in rw (lt-ltb owner (i + 1) k) (sym (ap (λ b. cond b owner 255) (ap runs q ∙ f)))

  runner-found : (i : ℕ) → runs i ≡ true → owner ≡ runner (i + 1)
  runner-found i f = go (le-or-lt i owner) (le-or-lt owner i)
    where
      never : (owner ≡ i → ⊥) → owner ≡ runner (i + 1)
      never n = clash-bool (sym (other i n) ∙ f)

      go : (i ≤ owner) ⊎ (owner < i) → (owner ≤ i) ⊎ (i < owner) → owner ≡ runner (i + 1)
      go (inr l) k = never (λ q. omega arith)
      go (inl l) (inr k) = never (λ q. omega arith)
      go (inl l) (inl k) = let q : owner ≡ i = omega arith in rw (lt-ltb owner (i + 1) (omega arith)) (sym (ap (λ b. cond b owner 255) (ap runs q ∙ f)))

-- ── the turns ───────────────────────────────────────────────────────────────

module _ (st : State) (entry : ℕ) (reports : List ℕ) where
  abbrev at : ℕ → Turn
  at i = turn_for st entry i (get_or reports i 0)

  abbrev the_jobs : List model.Job
  the_jobs = tabulate (λ i. (at i).job) 0 (length reports)

  abbrev the_faults : List ℕ
  the_faults = tabulate (λ i. (at i).fault) 0 (length reports)

  abbrev ran_at : ℕ → Bool
  ran_at i = (at i).runs

  pub not-owner : (i : ℕ) → (entry ≡ i → ⊥) → ran_at i ≡ false
  unfolding turn_for
  not-owner i n = turn-runs _ _ _ _ _ _ _ (ne_eqb entry i n)

  -- the turns before place i are taken
  pub record Taken (i : ℕ) (js : List Job) (fs : List (Option Cause)) (r : Option ℕ) : Type 0 where
    pub made : Made 8 job_of no_job blank_job the_jobs i js
    pub told : Made 8 fault_number None 0 the_faults i fs
    pub runs : runner_number r ≡ runner entry ran_at not-owner i
    pub task : IsTask r

  pub taken-start : (j : Job) → job_of j ≡ blank_job → Taken 0 (replicate 8 j) (replicate 8 None) None
  taken-start j e = record {
    made = made-start 8 job_of no_job blank_job the_jobs j e;
    told = made-start 8 fault_number None 0 the_faults None refl;
    runs = rw (le-ltb entry 0 (omega arith));
    task = tt;
  }

  module _ (i : ℕ) (js : List Job) (fs : List (Option Cause)) (r : Option ℕ) (t : Taken i js fs r) (h : i < length reports) (few : length reports ≤ 8)
      (x : Turn) (same : x ≡ at i) (j : Job) (b : Bool) (f : Option Cause) (xj : job_of j ≡ x.job) (xb : b ≡ x.runs) (xf : fault_number f ≡ x.fault) where
    ej : job_of j ≡ (at i).job
    ej = xj ∙ ap (λ (x : Turn). x.job) same

    eb : b ≡ (at i).runs
    eb = xb ∙ ap (λ (x : Turn). x.runs) same

    ef : fault_number f ≡ (at i).fault
    ef = xf ∙ ap (λ (x : Turn). x.fault) same

    made-more : Made 8 job_of no_job blank_job the_jobs (i + 1) (set js i j)
    made-more =
        let z : 0 + i ≡ i = omega arith in
        made-step 8 job_of no_job blank_job the_jobs i js j t.made (omega arith) (ej ∙ sym (tabulate-at (λ i. (at i).job) 0 (length reports) i blank_job (omega arith) ∙ ap (λ i. (at i).job) z))

    told-more : Made 8 fault_number None 0 the_faults (i + 1) (set fs i f)
    told-more =
        let z : 0 + i ≡ i = omega arith in
        made-step 8 fault_number None 0 the_faults i fs f t.told (omega arith) (ef ∙ sym (tabulate-at (λ i. (at i).fault) 0 (length reports) i 0 (omega arith) ∙ ap (λ i. (at i).fault) z))

    -- only the owner runs
    owns : b ≡ true → entry < 8
    owns y = go (le-or-lt entry i) (le-or-lt i entry)
      where
        never : (entry ≡ i → ⊥) → entry < 8
        never n = clash-bool (sym (not-owner i n) ∙ sym eb ∙ y)

        go : (entry ≤ i) ⊎ (i < entry) → (i ≤ entry) ⊎ (entry < i) → entry < 8
        go (inl l) k = omega arith
        go (inr l) k = never (λ q. omega arith)

    pub taken-runs : b ≡ true → Taken (i + 1) (set js i j) (set fs i f) (Some entry)
    taken-runs y = record { made = made-more; told = told-more; runs = runner-found entry ran_at not-owner i (sym eb ∙ y); task = owns y }

    pub taken-rests : b ≡ false → Taken (i + 1) (set js i j) (set fs i f) r
    taken-rests y = record { made = made-more; told = told-more; runs = t.runs ∙ runner-next entry ran_at not-owner i (sym eb ∙ y); task = t.task }

-- all are taken
module _ (st : State) (table reports : List ℕ) (entry : ℕ) (ok : T (form (state_of st))) (within : st.slot < length table) (ee : entry ≡ get_or table st.slot 0) (counted : length reports ≡ st.set.count)
    (i : ℕ) (js : List Job) (fs : List (Option Cause)) (r : Option ℕ) (t : Taken st entry reports i js fs r) (e : i ≡ length reports) where
  each : length (set_of st.set) ≡ length reports
  each = tasks-are st ok ∙ sym counted

  owner : get_or table st.slot idle ≡ entry
  owner = get_or_default table st.slot idle 0 within ∙ sym ee

  small : length reports ≤ 8
  small = let f = few st ok in omega arith

  pub all-jobs : jobs_of js ≡ padded 8 blank_job (tick (set_of st.set) table (in_use (state_of st)) reports).state.jobs
  unfolding tick turn_of jobs_of in_use state_of turn_for
  all-jobs =
      let l = tabulate-length (λ i. (at st entry reports i).job) 0 (length reports) in
      let s = small in
      made-end 8 job_of no_job blank_job (the_jobs st entry reports) i js t.made (omega arith) (omega arith) ∙ rw (owner, each)

  pub all-faults : faults_of fs ≡ padded 8 0 (tick (set_of st.set) table (in_use (state_of st)) reports).faults
  unfolding tick turn_of faults_of in_use state_of turn_for
  all-faults =
      let l = tabulate-length (λ i. (at st entry reports i).fault) 0 (length reports) in
      let s = small in
      made-end 8 fault_number None 0 (the_faults st entry reports) i fs t.told (omega arith) (omega arith) ∙ rw (owner, each)

  pub all-runner : runner_number r ≡ (tick (set_of st.set) table (in_use (state_of st)) reports).runner
  unfolding tick runner_of turn_of idle in_use state_of turn_for
  all-runner = t.runs ∙ rw (e, owner, each)
