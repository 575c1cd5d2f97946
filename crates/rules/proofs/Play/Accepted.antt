-- Along a run the state has the form and no tick is refused.
use mathlib.Core.Path.{◌≡◌, refl, sym, ap, ◌∙◌}
use mathlib.Core.Logic.{inl, inr}
use mathlib.Core.Bool.{Bool, true, false, not, cond, ◌&&◌, ◌||◌}
use mathlib.Core.List.{List, [], ◌∷◌}
use Prim.Native.Nat.{ℕ, zero, suc, ◌+◌, ◌≤◌, ◌<◌, ◌%◌}
use native.Mathlib.Omega.{arith}
use native.Mathlib.Nat.{mod-lt}
use borrow.Author.Tests.{ltb-true, lt-ltb, le-leb, eq-eqb}
use lib.Dec.{T, leb, ltb, eqb, eqb_refl, eqb→eq}
use lib.ListN.{length, get_or, length-replicate}
use lib.Seq.{ext_get_or}
use Rattle.rules.specs.Lists.{tabulate, is_zero}
use Rattle.rules.specs.Tasks.{Fit, Task, span, no_task, written, Shape}
use Rattle.rules.specs.Hyper.{hyper}
use Rattle.rules.specs.Positions.{Position, idle, every, starts, live_position, ends_live, legal, start}
use Rattle.rules.specs.Choices.{Schedule}
use Rattle.rules.specs.Endless.{repeated, at, progress_of}
use Rattle.rules.specs.Jobs.{overrun, Stand, Ready, Waiting, Done, Stopped, Job, finished, stop, step_done, reported, begun, owned_by, turn}
use Rattle.rules.specs.Player.{State, fresh, turn_of, runner_of, tick}
use Rattle.rules.specs.States.{is_ready_stand, planned_form, job_form_in, job_form, jobs_form, last_form, in_use_form, is_schedule, entry_fits}
use Rattle.rules.proofs.Laws.{and_T, T_and, or-T, true-T, every_of}
use Rattle.rules.proofs.Set.Multiple.{hyper-dvd, hyper-pos}
use Rattle.rules.proofs.Run.Forever.{at_slot, at_length, once, legal-once, wraps, progress-fits}
use Rattle.rules.proofs.Play.Keep.{Sized, sized, Lane, lane, lane_next}
use Rattle.rules.proofs.Play.Lanes.{states, lane_of, follows, same, slot_is, planned-length, starts-slot}
use Rattle.rules.proofs.Lists.{tabulate-at}

-- ── a table that is a schedule ──────────────────────────────────────────────

pub schedule-is : (s : List Task) (table : List ℕ) → T (is_schedule s table) → Schedule s table
unfolding is_schedule
schedule-is s table t =
    let a = T_and (eqb (length table) (hyper s)) _ t in
    let b = T_and (live_position s (start s)) _ a.1 in
    record { live = record { at_start = b.0; after = b.1 }; long = eqb→eq (length table) (hyper s) a.0 }

pub is-schedule : (s : List Task) (table : List ℕ) → Schedule s table → T (is_schedule s table)
unfolding is_schedule
is-schedule s table S = and_T (eqb (length table) (hyper s)) _ (true-T _ (eq-eqb (length table) (hyper s) S.long)) (and_T (live_position s (start s)) _ S.live.at_start S.live.after)

-- ── parts of a job not in use are zero ──────────────────────────────────────

abbrev pub Neat : Stand → ℕ → ℕ → Type 0
Neat Ready k g = Unit {0}
Neat Waiting k g = g ≡ 0
Neat Done k g = (k ≡ 0) × (g ≡ 0)
Neat (Stopped c) k g = (k ≡ 0) × (g ≡ 0)

abbrev pub NeatJob : Job → Type 0
NeatJob j = Neat j.stand j.step j.given

pub neat-report : (τ : Task) (st : Stand) (b : Bool) (k g r : ℕ) → Neat st k g → NeatJob (reported τ st b (record { step = k; given = g; stand = st }) r)
unfolding reported stop step_done finished
neat-report τ Ready true k g zero N = go (eqb g (written τ k))
  where
    go : (t : Bool) → NeatJob (cond t (stop overrun) (record { step = k; given = g; stand = Ready }))
    go true = (refl, refl)
    go false = tt
neat-report τ Ready true k g (suc zero) N = go (ltb (suc (k + k)) (length τ.pattern))
  where
    go : (t : Bool) → NeatJob (cond t (record { step = k; given = 0; stand = Waiting }) finished)
    go true = refl
    go false = (refl, refl)
neat-report τ Ready true k g (suc (suc r)) N = (refl, refl)
neat-report τ Ready false k g zero N = tt
neat-report τ Ready false k g (suc r) N = (refl, refl)
neat-report τ Waiting b k g zero N = N
neat-report τ Waiting b k g (suc zero) N = (refl, refl)
neat-report τ Waiting b k g (suc (suc zero)) N = tt
neat-report τ Waiting b k g (suc (suc (suc r))) N = (refl, refl)
neat-report τ Done b k g zero N = N
neat-report τ Done b k g (suc r) N = (refl, refl)
neat-report τ (Stopped c) b k g r N = N

pub neat-begun : (τ : Task) (t : ℕ) (j : Job) → NeatJob j → NeatJob (begun τ t j)
unfolding begun
neat-begun τ t j N = go (starts t τ)
  where
    go : (b : Bool) → NeatJob (cond b (record { step = 0; given = 0; stand = Ready }) j)
    go true = tt
    go false = N

pub neat-slot : (a b : Bool) (j : Job) → NeatJob j → NeatJob (owned_by a b j)
unfolding owned_by stop
neat-slot true b j N = tt
neat-slot false true j N = (refl, refl)
neat-slot false false j N = N

pub neat : (τ : Task) (own : ℕ → Bool) (p rep : ℕ → ℕ) (t : ℕ) → NeatJob (lane τ own p rep t).job
unfolding lane lane_next turn finished
neat τ own p rep zero = (refl, refl)
neat τ own p rep (suc t) =
    let l : Lane = lane τ own p rep t in
    let a : Job = reported τ l.job.stand l.ran l.job (rep t) in
    neat-slot _ _ (begun τ t a) (neat-begun τ t a (neat-report τ l.job.stand l.ran l.job.step l.job.given (rep t) (neat τ own p rep t)))

-- ── the form of one job ─────────────────────────────────────────────────────

pub is-zero : (n : ℕ) → n ≡ 0 → T (is_zero n)
unfolding is_zero
is-zero n e = true-T _ (eq-eqb n 0 e)

pub job-form : (τ : Task) (st : Stand) (b : Bool) (k g : ℕ) → Sized τ st b k g → Neat st k g → T (job_form_in τ st b (record { step = k; given = g; stand = st }))
unfolding job_form_in
job-form τ Ready true k g S N = and_T (ltb (k + k) (length τ.pattern)) _ (true-T _ (lt-ltb (k + k) (length τ.pattern) S.0)) (true-T _ (le-leb g (written τ k) S.1))
job-form τ Ready false k g S N = and_T (ltb (k + k) (length τ.pattern)) _ (true-T _ (lt-ltb (k + k) (length τ.pattern) S.0)) (true-T _ (lt-ltb g (written τ k) (S.2 refl)))
job-form τ Waiting b k g S N = and_T (ltb (suc (suc (k + k))) (length τ.pattern)) _ (true-T _ (lt-ltb (suc (suc (k + k))) (length τ.pattern) S)) (is-zero g N)
job-form τ Done b k g S N = and_T (is_zero k) _ (is-zero k N.0) (is-zero g N.1)
job-form τ (Stopped c) b k g S N = and_T (is_zero k) _ (is-zero k N.0) (is-zero g N.1)

pub jobs-form : (last i : ℕ) (s : List Task) (js : List Job) → ((j : ℕ) → j < length s → T (job_form (get_or s j no_task) (eqb last (i + j)) (get_or js j finished))) → T (jobs_form last i s js)
unfolding jobs_form
jobs-form last i [] js f = tt
jobs-form last i (τ ∷ s) [] f = tt
jobs-form last i (τ ∷ s) (j ∷ js) f =
    let z : i + 0 ≡ i = omega arith in
    and_T (job_form τ (eqb last i) j) _ (rw z at (f 0 (omega arith)))
    (jobs-form last (suc i) s js (λ k h. let z : i + suc k ≡ suc i + k = omega arith in rw z at (f (suc k) (omega arith))))

-- who ran is ready, with a slot given
runs-given : (τ : Task) (t p : ℕ) (own ran : Bool) (j : Job) (r : ℕ) → (turn τ t p own ran j r).runs ≡ true → ((turn τ t p own ran j r).job.stand ≡ Ready) × (0 < (turn τ t p own ran j r).job.given)
unfolding turn owned_by
runs-given τ t p own ran j r e = rw e (refl, omega arith)

-- the last runner that a tick leaves
pub last-after : (s : List Task) (cs : List ℕ) (st : State) (r : List ℕ) → T (last_form (length s) (tick s cs st r).state.last (tick s cs st r).state.jobs)
unfolding tick runner_of last_form turn_of is_ready_stand
last-after s cs st r = go (ltb e (length s)) refl (turn_of s cs st r e).runs refl
  where
    e : ℕ
    e = get_or cs st.slot idle

    js : List Job
    js = tabulate (λ i. (turn_of s cs st r i).job) 0 (length s)

    none-ran : T (last_form (length s) idle js)
    none-ran = or-T (eqb idle idle) _ (inl (eqb_refl idle))

    go : (a : Bool) → ltb e (length s) ≡ a → (b : Bool) → (turn_of s cs st r e).runs ≡ b → T (last_form (length s) (cond (a && b) e idle) js)
    go false p b q = none-ran
    go true p false q = none-ran
    go true p true q =
        let h = ltb-true e (length s) p in
        let z : 0 + e ≡ e = omega arith in
        let w : get_or js e finished ≡ (turn_of s cs st r e).job = tabulate-at (λ i. (turn_of s cs st r i).job) 0 (length s) e finished h ∙ ap (λ n. (turn_of s cs st r n).job) z in
        or-T (eqb e idle) _ (inr (and_T (ltb e (length s)) _ (true-T _ p) (rw w (ran-fine (turn_of s cs st r e).job (runs q)))))
      where
        runs : (turn_of s cs st r e).runs ≡ true → ((turn_of s cs st r e).job.stand ≡ Ready) × (0 < (turn_of s cs st r e).job.given)
        runs q = runs-given (get_or s e no_task) st.slot (get_or st.planned e 0) (eqb (get_or cs st.slot idle) e) (eqb st.last e) (get_or st.jobs e finished) (get_or r e 0) q

        ran-fine : (j : Job) → (j.stand ≡ Ready) × (0 < j.given) → T (is_ready_stand j.stand && ltb 0 j.given)
        ran-fine j f = and_T (is_ready_stand j.stand) _ (rw f.0 tt) (true-T _ (lt-ltb 0 j.given f.1))

-- ── the states of a run ─────────────────────────────────────────────────────

module _ (s : List Task) (cs : List ℕ) (fit : Fit s) (small : length s ≤ idle) (shape : (j : ℕ) → j < length s → Shape (get_or s j no_task).pattern) (S : Schedule s cs) (reports : ℕ → List ℕ) where
  slots : 0 < hyper s
  slots = hyper-pos s (λ j h. let d = fit.due j h in let f = fit.fits j h in omega arith)

  once_at : ℕ → ℕ
  once_at u = once s cs fit (hyper-dvd s) slots S u

  -- the planned position is that of the table
  position-is : (t : ℕ) → ◌≡◌ {A = Position} (record { slot = (states s cs reports t).slot; progress = (states s cs reports t).planned }) (at s once_at (t % hyper s))
  unfolding once_at progress_of
  position-is t =
      let p : (states s cs reports t).slot ≡ (at s once_at (t % hyper s)).slot = slot_is s cs fit small S reports t ∙ sym (at_slot s once_at (t % hyper s)) in
      let q : (states s cs reports t).planned ≡ (at s once_at (t % hyper s)).progress =
      ext_get_or 0 (states s cs reports t).planned (at s once_at (t % hyper s)).progress (planned-length s cs fit small S reports t ∙ sym (at_length s once_at (t % hyper s)))
      (λ j h. let l = planned-length s cs fit small S reports t in (same s cs fit small S reports t j (omega arith)).plan ∙ wraps s cs fit (hyper-dvd s) slots S t j (omega arith)) in
      λ i. record { slot = p i; progress = q i }

  live_at : (u : ℕ) → u < hyper s → T (live_position s (at s once_at u))
  unfolding at legal once_at
  live_at zero h = S.live.at_start
  live_at (suc u) h = (T_and (ends_live s (at s once_at u) (once_at u)) _ (legal-once s cs fit (hyper-dvd s) slots S u (omega arith))).1

  planned-form : (t : ℕ) → T (planned_form s (states s cs reports t).slot (states s cs reports t).planned)
  unfolding planned_form
  planned-form t = and_T (every _ s (states s cs reports t).planned) _
      (every_of _ s (states s cs reports t).planned (λ j h. and_T (leb (get_or (states s cs reports t).planned j 0) (span (get_or s j no_task))) _
      (true-T _ (le-leb (get_or (states s cs reports t).planned j 0) (span (get_or s j no_task)) (rw (same s cs fit small S reports t j h).plan (progress-fits s (repeated cs) j h t))))
      (go j h (starts (states s cs reports t).slot (get_or s j no_task)) refl)))
      (rw (position-is t) (live_at (t % hyper s) (mod-lt t slots)))
    where
      go : (j : ℕ) → j < length s → (b : Bool) → starts (states s cs reports t).slot (get_or s j no_task) ≡ b → T (not b || is_zero (get_or (states s cs reports t).planned j 0))
      go j h false e = tt
      go j h true e = is-zero (get_or (states s cs reports t).planned j 0) ((same s cs fit small S reports t j h).plan ∙ (follows s cs fit S j h).begins t (sym (starts-slot s cs fit small S reports t j h) ∙ e))

  job-form-at : (t j : ℕ) → j < length s → T (job_form (get_or s j no_task) (eqb (states s cs reports t).last (0 + j)) (get_or (states s cs reports t).jobs j finished))
  unfolding job_form lane_of
  job-form-at t j h =
      let M = same s cs fit small S reports t j h in
      let z : 0 + j ≡ j = omega arith in
      rw (z, M.ran, M.job) (job-form (get_or s j no_task) _ _ _ _
      (sized (get_or s j no_task) (shape j h) (λ u. eqb (repeated cs u) j) (λ u. progress_of s (repeated cs) u j) (λ u. get_or (reports u) j 0) t)
      (neat (get_or s j no_task) (λ u. eqb (repeated cs u) j) (λ u. progress_of s (repeated cs) u j) (λ u. get_or (reports u) j 0) t))

  last-form : (t : ℕ) → T (last_form (length s) (states s cs reports t).last (states s cs reports t).jobs)
  unfolding states fresh last_form
  last-form zero = fresh-last
    where
      fresh-last : T (last_form (length s) (fresh s).last (fresh s).jobs)
      fresh-last = or-T (eqb idle idle) _ (inl (eqb_refl idle))
  last-form (suc t) = last-after s cs (states s cs reports t) (reports t)

  pub core-form : (t : ℕ) → T (in_use_form s (states s cs reports t))
  unfolding in_use_form
  core-form t = and_T (ltb (states s cs reports t).slot (hyper s) && planned_form s (states s cs reports t).slot (states s cs reports t).planned) _
      (and_T (ltb (states s cs reports t).slot (hyper s)) _ (rw (slot_is s cs fit small S reports t) (true-T _ (lt-ltb (t % hyper s) (hyper s) (mod-lt t slots)))) (planned-form t))
      (and_T (jobs_form (states s cs reports t).last 0 s (states s cs reports t).jobs) _ (jobs-form (states s cs reports t).last 0 s (states s cs reports t).jobs (job-form-at t)) (last-form t))

  pub entry-fits : (t : ℕ) → T (entry_fits s (states s cs reports t) cs)
  unfolding entry_fits once_at once
  entry-fits t = and_T (eqb (length cs) (hyper s)) _ (true-T _ (eq-eqb (length cs) (hyper s) S.long))
      (rw (position-is t, slot_is s cs fit small S reports t) (legal-once s cs fit (hyper-dvd s) slots S (t % hyper s) (mod-lt t slots)))

  pub jobs-length : (t : ℕ) → length (states s cs reports t).jobs ≡ length s
  unfolding states tick fresh tabulate
  jobs-length zero = length-replicate (length s) finished
  jobs-length (suc t) = tabulated (λ i. (turn_of s cs (states s cs reports t) (reports t) i).job) 0 (length s)
    where
      tabulated : {A : Type 0} (f : ℕ → A) (i n : ℕ) → length (tabulate f i n) ≡ n
      tabulated f i zero = refl
      tabulated f i (suc n) = ap suc (tabulated f (suc i) n)
