-- Any accepted tick from any state gives a state of the form.
use mathlib.Core.Path.{◌≡◌, refl, sym, ap, ◌∙◌}
use mathlib.Core.Bool.{Bool, true, false, not, cond, ◌&&◌, ◌||◌}
use mathlib.Core.List.{List, [], ◌∷◌}
use Prim.Native.Nat.{ℕ, zero, suc, ◌+◌, ◌≤◌, ◌<◌, ◌%◌}
use native.Mathlib.Omega.{arith}
use native.Mathlib.Nat.{mod-lt, mod-mod_of_dvd}
use borrow.Author.Tests.{lt-ltb, le-leb, eqb-true, eq-eqb, ne_eqb}
use lib.Dec.{T, leb, ltb, eqb, leb→le, ltb→lt, eqb→eq}
use lib.ListN.{length, get_or, take, drop}
use lib.Seq.{length-take-le}
use Rattle.rules.specs.Lists.{tabulate, all_of, is_zero, padded}
use Rattle.rules.specs.Tasks.{Fit, Task, span, no_task, written, place_of, Shape}
use Rattle.rules.specs.Hyper.{hyper}
use Rattle.rules.specs.Positions.{Position, idle, every, starts, passed, next, in_time, live_position, ends_live, legal}
use Rattle.rules.specs.Records.{used, set_in, record_refusal}
use Rattle.rules.specs.Jobs.{Stand, Ready, Waiting, Done, Stopped, Job, finished, reported, begun, owner_late, turn}
use Rattle.rules.specs.Player.{State, turn_of, runner_of, tick}
use Rattle.rules.specs.States.{StateRecord, StateArrays, blank_job, is_blank_job, is_blank_task, units_tidy, rest_zero, planned_form, job_form_in, job_form, jobs_form, last_form, in_use, in_use_form, form, as_record, ticked, entry_fits, tick_refusal, ticked_or, tick_reply}
use Rattle.rules.proofs.Laws.{and_T, T_and, true-T, passed-fits, every-at, every_of}
use Rattle.rules.proofs.Set.Multiple.{hyper-dvd, hyper-pos}
use Rattle.rules.proofs.Set.Tidy.{padded-take, padded-rest, zero_is, blank-job-is, counts, set-length, set-fit, set-small, set-shape}
use Rattle.rules.proofs.Run.Reach.{ended_at, next-at, next-length}
use Rattle.rules.proofs.Play.Keep.{Sized, SizedJob, sized-report, sized-begun, sized-slot}
use Rattle.rules.proofs.Play.Lanes.{turn-runs}
use Rattle.rules.proofs.Play.Accepted.{Neat, NeatJob, neat-report, neat-begun, neat-slot, job-form, jobs-form, last-after}
use Rattle.rules.proofs.Lists.{clash, tabulate-length, tabulate-at}

-- ── what the form says of one job ───────────────────────────────────────────

zero_of : (n : ℕ) → T (is_zero n) → n ≡ 0
unfolding is_zero
zero_of n t = eqb→eq n 0 t

formed-job : (τ : Task) (st : Stand) (b : Bool) (k g : ℕ) → T (job_form_in τ st b (record { step = k; given = g; stand = st })) → Sized τ st b k g × Neat st k g
unfolding job_form_in
formed-job τ Ready true k g t =
    let a = T_and (ltb (k + k) (length τ.pattern)) _ t in
    ((ltb→lt (k + k) (length τ.pattern) a.0, leb→le g (written τ k) a.1, λ e. let z : ◌≡◌ {A = ℕ} 0 1 = cc in let y : ⊥ = omega arith in absurd y), tt)
formed-job τ Ready false k g t =
    let a = T_and (ltb (k + k) (length τ.pattern)) _ t in let l = ltb→lt g (written τ k) a.1 in
    ((ltb→lt (k + k) (length τ.pattern) a.0, omega arith, λ e. l), tt)
formed-job τ Waiting b k g t = let a = T_and (ltb (suc (suc (k + k))) (length τ.pattern)) _ t in (ltb→lt (suc (suc (k + k))) (length τ.pattern) a.0, zero_of g a.1)
formed-job τ Done b k g t = let a = T_and (is_zero k) _ t in (tt, (zero_of k a.0, zero_of g a.1))
formed-job τ (Stopped c) b k g t = let a = T_and (is_zero k) _ t in (tt, (zero_of k a.0, zero_of g a.1))

pub formed-jobs : (last i : ℕ) (s : List Task) (js : List Job) → length js ≡ length s → T (jobs_form last i s js) → (j : ℕ) → j < length s → T (job_form (get_or s j no_task) (eqb last (i + j)) (get_or js j finished))
unfolding jobs_form
formed-jobs last i [] js e t j h = let z : ⊥ = omega arith in absurd z
formed-jobs last i (τ ∷ s) [] e t j h = let z : ⊥ = omega arith in absurd z
formed-jobs last i (τ ∷ s) (x ∷ js) e t zero h = let z : i + 0 ≡ i = omega arith in rw z (T_and (job_form τ (eqb last i) x) _ t).0
formed-jobs last i (τ ∷ s) (x ∷ js) e t (suc j) h =
    let z : i + suc j ≡ suc i + j = omega arith in rw z (formed-jobs last (suc i) s js (omega arith) (T_and (job_form τ (eqb last i) x) _ t).1 j (omega arith))

-- ── one tick ────────────────────────────────────────────────────────────────

module _ (s : List Task) (cs : List ℕ) (fit : Fit s) (small : length s ≤ idle) (shape : (j : ℕ) → j < length s → Shape (get_or s j no_task).pattern)
    (st : State) (r : List ℕ) (long_p : length st.planned ≡ length s) (long_j : length st.jobs ≡ length s) (formed : T (in_use_form s st)) (fitting : T (entry_fits s st cs)) where
  e : ℕ
  e = get_or cs st.slot idle

  place : Position
  place = record { slot = st.slot; progress = st.planned }

  slots : 0 < hyper s
  slots = hyper-pos s (λ j h. let d = fit.due j h in let f = fit.fits j h in omega arith)

  -- the parts of the form
  inner : T (ltb st.slot (hyper s) && planned_form s st.slot st.planned) × T (jobs_form st.last 0 s st.jobs && last_form (length s) st.last st.jobs)
  unfolding in_use_form
  inner = T_and (ltb st.slot (hyper s) && planned_form s st.slot st.planned) _ formed

  fits : (j : ℕ) → j < length s → get_or st.planned j 0 ≤ span (get_or s j no_task)
  unfolding planned_form
  fits j h =
      let a = (T_and (ltb st.slot (hyper s)) _ inner.0).1 in
      let b = (T_and (every (λ τ p. leb p (span τ) && (not (starts st.slot τ) || is_zero p)) s st.planned) _ a).0 in
      leb→le (get_or st.planned j 0) (span (get_or s j no_task)) (T_and (leb (get_or st.planned j 0) (span (get_or s j no_task))) _ (every-at (λ τ p. leb p (span τ) && (not (starts st.slot τ) || is_zero p)) s st.planned j long_p h b)).0

  live-next : T (live_position s (next s place e))
  unfolding entry_fits legal place e
  live-next = (T_and (ends_live s place e) _ (T_and (eqb (length cs) (hyper s)) _ fitting).1).1

  -- the slot wraps, and starts what would start
  wraps-start : (j : ℕ) → j < length s → starts (suc st.slot % hyper s) (get_or s j no_task) ≡ starts (suc st.slot) (get_or s j no_task)
  unfolding starts
  wraps-start j h = ap (λ n. eqb n 0) (mod-mod_of_dvd (get_or s j no_task).period (suc st.slot) (hyper-dvd s j h))

  wraps-live : T (live_position s (record { slot = suc st.slot % hyper s; progress = (next s place e).progress }))
  unfolding live_position next place
  wraps-live = every_of _ s (next s place e).progress (λ j h. rw (mod-mod_of_dvd (get_or s j no_task).period (suc st.slot) (hyper-dvd s j h))
      (every-at (λ τ p. in_time (suc st.slot % τ.period) τ p) s (next s place e).progress j (next-length s place e long_p) h live-next))

  cond-le : (b : Bool) (m n : ℕ) → m ≤ n → cond b 0 m ≤ n
  cond-le true m n h = omega arith
  cond-le false m n h = h

  planned-next : T (planned_form s (suc st.slot % hyper s) (next s place e).progress)
  unfolding planned_form place
  planned-next = and_T (every _ s (next s place e).progress) _ (every_of _ s (next s place e).progress (λ j h. rw (next-at s place e j long_p h, wraps-start j h, ended_at s st.planned e j long_p h) (go j h (starts (suc st.slot) (get_or s j no_task))))) wraps-live
    where
      go : (j : ℕ) → j < length s → (b : Bool) → T (leb (cond b 0 (passed e j (get_or s j no_task) (get_or st.planned j 0))) (span (get_or s j no_task)) && (not b || is_zero (cond b 0 (passed e j (get_or s j no_task) (get_or st.planned j 0)))))
      go j h true = and_T (leb 0 (span (get_or s j no_task))) _ (true-T _ (le-leb 0 (span (get_or s j no_task)) (omega arith))) zero_is
      go j h false = and_T (leb (passed e j (get_or s j no_task) (get_or st.planned j 0)) (span (get_or s j no_task))) true (true-T _ (le-leb (passed e j (get_or s j no_task) (get_or st.planned j 0)) (span (get_or s j no_task)) (passed-fits e j (get_or s j no_task) (get_or st.planned j 0) (fits j h)))) tt

  -- the runner is the task that runs
  not-owner : (j : ℕ) → eqb e j ≡ false → (turn_of s cs st r j).runs ≡ false
  unfolding turn_of e
  not-owner j w = turn-runs (get_or s j no_task) st.slot (get_or st.planned j 0) (eqb e j) (eqb st.last j) (get_or st.jobs j finished) (get_or r j 0) w

  runner-is : (j : ℕ) → j < length s → (x : ℕ) → x ≡ e → eqb (runner_of s cs st r x) j ≡ (turn_of s cs st r j).runs
  unfolding runner_of
  runner-is j h x q = go (eqb x j) refl
    where
      idle-not : eqb idle j ≡ false
      idle-not = ne_eqb idle j (λ z. omega arith)

      mine : (b : Bool) → eqb (cond b j idle) j ≡ b
      mine true = eq-eqb j j refl
      mine false = idle-not

      other : eqb x j ≡ false → (b : Bool) → eqb (cond b x idle) j ≡ false
      other n true = n
      other n false = idle-not

      go : (b : Bool) → eqb x j ≡ b → eqb (cond (ltb x (length s) && (turn_of s cs st r x).runs) x idle) j ≡ (turn_of s cs st r j).runs
      go true w = rw (eqb-true x j w, lt-ltb j (length s) h) (mine (turn_of s cs st r j).runs)
      go false w = other w (ltb x (length s) && (turn_of s cs st r x).runs) ∙ sym (not-owner j (rw q at w))

  runner-runs : (j : ℕ) → j < length s → eqb (runner_of s cs st r e) j ≡ (turn_of s cs st r j).runs
  runner-runs j h = runner-is j h e refl

  old-job : (j : ℕ) → j < length s → SizedJob (get_or s j no_task) (eqb st.last j) (get_or st.jobs j finished) × NeatJob (get_or st.jobs j finished)
  unfolding job_form
  old-job j h =
      let z : 0 + j ≡ j = omega arith in
      formed-job (get_or s j no_task) (get_or st.jobs j finished).stand (eqb st.last j) (get_or st.jobs j finished).step (get_or st.jobs j finished).given
      (rw z at (formed-jobs st.last 0 s st.jobs long_j (T_and (jobs_form st.last 0 s st.jobs) _ inner.1).0 j h))

  new-job : (j : ℕ) → j < length s → SizedJob (get_or s j no_task) (turn_of s cs st r j).runs (turn_of s cs st r j).job × NeatJob (turn_of s cs st r j).job
  unfolding turn_of turn
  new-job j h =
      let τ : Task = get_or s j no_task in
      let k : Job = get_or st.jobs j finished in
      let a : Job = reported τ k.stand (eqb st.last j) k (get_or r j 0) in
      let b : Job = begun τ st.slot a in
      let p : ℕ = place_of τ.pattern (get_or st.planned j 0) in
      let O = old-job j h in (
        sized-slot τ (shape j h) (eqb (get_or cs st.slot idle) j) (eqb (get_or cs st.slot idle) j && owner_late b.stand p b) b.stand b.step b.given p
            (sized-begun τ (shape j h) st.slot a (sized-report τ (shape j h) k.stand (eqb st.last j) k.step k.given (get_or r j 0) O.0)),
        neat-slot _ _ b (neat-begun τ st.slot a (neat-report τ k.stand (eqb st.last j) k.step k.given (get_or r j 0) O.1)),
      )

  pub core-closed : T (in_use_form s (tick s cs st r).state)
  unfolding in_use_form tick place e job_form
  core-closed = and_T (ltb (suc st.slot % hyper s) (hyper s) && planned_form s (suc st.slot % hyper s) (next s place e).progress) _
      (and_T (ltb (suc st.slot % hyper s) (hyper s)) _ (true-T _ (lt-ltb (suc st.slot % hyper s) (hyper s) (mod-lt (suc st.slot) slots))) planned-next)
      (and_T (jobs_form (runner_of s cs st r e) 0 s (tabulate (λ i. (turn_of s cs st r i).job) 0 (length s))) _
      (jobs-form (runner_of s cs st r e) 0 s (tabulate (λ i. (turn_of s cs st r i).job) 0 (length s)) each-job) (last-after s cs st r))
    where
      each-job : (j : ℕ) → j < length s → T (job_form (get_or s j no_task) (eqb (runner_of s cs st r e) (0 + j)) (get_or (tabulate (λ i. (turn_of s cs st r i).job) 0 (length s)) j finished))
      each-job j h =
          let z : 0 + j ≡ j = omega arith in
          let N = new-job j h in
          rw (tabulate-at (λ i. (turn_of s cs st r i).job) 0 (length s) j finished h, z, runner-runs j h)
          (job-form (get_or s j no_task) (turn_of s cs st r j).job.stand (turn_of s cs st r j).runs (turn_of s cs st r j).job.step (turn_of s cs st r j).job.given N.0 N.1)

-- ── the whole state ─────────────────────────────────────────────────────────

record Fine (w : StateRecord) (table : List ℕ) : Type 0 where
  admissible : record_refusal w.set ≡ 0
  formed : T (in_use_form (set_in w.set) (in_use w))
  rest : T (rest_zero w)
  fitting : T (entry_fits (set_in w.set) (in_use w) table)

-- what an accepted tick says
tick-parts : (w : StateRecord) (table reports : List ℕ) (enough : Bool) → tick_refusal w table reports enough ≡ 0 → Fine w table
unfolding tick_refusal form
tick-parts w table reports enough e = one (form w) refl e
  where
    three : T (form w) → (b : Bool) → entry_fits (set_in w.set) (in_use w) table ≡ b → ◌≡◌ {A = ℕ} (cond (not b) 12 (cond (not enough) 8 0)) 0 → Fine w table
    three f true q e =
        let a = T_and (eqb (record_refusal w.set) 0) _ f in let b = T_and (in_use_form (set_in w.set) (in_use w)) _ a.1 in
        record { admissible = eqb→eq (record_refusal w.set) 0 a.0; formed = b.0; rest = b.1; fitting = true-T _ q }
    three f false q e = clash 11 e

    two : T (form w) → (b : Bool) → eqb (length reports) w.set.count ≡ b → ◌≡◌ {A = ℕ} (cond (not b) 11 (cond (not (entry_fits (set_in w.set) (in_use w) table)) 12 (cond (not enough) 8 0))) 0 → Fine w table
    two f true q e = three f (entry_fits (set_in w.set) (in_use w) table) refl e
    two f false q e = clash 10 e

    one : (b : Bool) → form w ≡ b → ◌≡◌ {A = ℕ} (cond (not b) 10 (cond (not (eqb (length reports) w.set.count)) 11 (cond (not (entry_fits (set_in w.set) (in_use w) table)) 12 (cond (not enough) 8 0)))) 0 → Fine w table
    one true q e = two (true-T _ q) (eqb (length reports) w.set.count) refl e
    one false q e = clash 9 e

module _ (w : StateRecord) (A : StateArrays w) (table reports : List ℕ) (F : Fine w table) where
  s : List Task
  s = set_in w.set

  after : State
  after = (tick s table (in_use w) reports).state

  s-length : length s ≡ w.set.count
  unfolding s
  s-length = set-length w.set A.in_set F.admissible

  core-planned : length (in_use w).planned ≡ length s
  unfolding in_use
  core-planned = let h = (counts w.set F.admissible).high in let p = A.plans in length-take-le w.set.count w.planned (omega arith) ∙ sym s-length

  core-jobs : length (in_use w).jobs ≡ length s
  unfolding in_use
  core-jobs = let h = (counts w.set F.admissible).high in let p = A.standings in length-take-le w.set.count w.jobs (omega arith) ∙ sym s-length

  after-planned : length after.planned ≡ w.set.count
  unfolding after tick
  after-planned = next-length s (record { slot = (in_use w).slot; progress = (in_use w).planned }) (get_or table (in_use w).slot idle) core-planned ∙ s-length

  after-jobs : length after.jobs ≡ w.set.count
  unfolding after tick
  after-jobs = tabulate-length (λ i. (turn_of s table (in_use w) reports i).job) 0 (length s) ∙ s-length

  core-after : in_use (as_record w.set after) ≡ after
  unfolding in_use as_record
  core-after =
      let p : take w.set.count (padded 8 0 after.planned) ≡ after.planned = padded-take 8 0 after.planned w.set.count after-planned in
      let q : take w.set.count (padded 8 blank_job after.jobs) ≡ after.jobs = padded-take 8 blank_job after.jobs w.set.count after-jobs in
      λ i. record { slot = after.slot; planned = p i; jobs = q i; last = after.last }

  rest-after : T (rest_zero (as_record w.set after))
  unfolding rest_zero as_record
  rest-after = and_T (all_of units_tidy (used w.set) && all_of is_blank_task (drop w.set.count w.set.entries)) _
      (T_and (all_of units_tidy (used w.set) && all_of is_blank_task (drop w.set.count w.set.entries)) _ F.rest).0
      (and_T (all_of is_zero (drop w.set.count (padded 8 0 after.planned))) _
      (padded-rest is_zero 8 0 after.planned w.set.count after-planned zero_is)
      (padded-rest is_blank_job 8 blank_job after.jobs w.set.count after-jobs blank-job-is))

  after-core : T (in_use_form s (in_use (as_record w.set after)))
  unfolding s after
  after-core = rw core-after (core-closed (set_in w.set) table (set-fit w.set A.in_set F.admissible) (set-small w.set A.in_set F.admissible) (set-shape w.set A.in_set F.admissible)
      (in_use w) reports core-planned core-jobs F.formed F.fitting)

  after-form : T (form (as_record w.set after))
  unfolding form s as_record
  after-form = and_T (eqb (record_refusal w.set) 0) _ (true-T _ (eq-eqb (record_refusal w.set) 0 F.admissible)) (and_T (in_use_form (set_in w.set) (in_use (as_record w.set after))) _ after-core rest-after)

-- Whatever state is handed over, with whatever table and reports: the new state of an accepted tick has the form
pub tick-closed : (w : StateRecord) → StateArrays w → (table reports : List ℕ) (enough : Bool) (runner : ℕ) (faults : List ℕ) (v : StateRecord) → tick_reply w table reports enough ≡ ticked runner faults v → T (form v)
unfolding tick_reply ticked_or after s
tick-closed w A table reports enough runner faults v e = go (tick_refusal w table reports enough) refl e
  where
    go : (n : ℕ) → tick_refusal w table reports enough ≡ n → ticked_or w table reports n ≡ ticked runner faults v → T (form v)
    go zero q e = rw (same-state e) (after-form w A table reports (tick-parts w table reports enough q))
      where
        same-state : ticked_or w table reports 0 ≡ ticked runner faults v → v ≡ as_record w.set (after w A table reports (tick-parts w table reports enough q))
        same-state e = cc
    go (suc n) q e = let z : ◌≡◌ {A = ℕ} 0 1 = cc in let y : ⊥ = omega arith in absurd y
