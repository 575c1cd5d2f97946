-- The player's job agrees with what the observer notes.
use mathlib.Core.Path.{◌≡◌, refl, sym, ap, ap₂, ◌∙◌}
use mathlib.Core.Logic.{◌⊎◌, inl, inr}
use mathlib.Core.Bool.{Bool, true, false, cond, ◌&&◌}
use Prim.Native.Nat.{ℕ, zero, suc, ◌+◌, ◌*◌, ◌≤◌, ◌<◌}
use native.Mathlib.Omega.{arith}
use native.Mathlib.Nat.{add-suc}
use borrow.Author.Tests.{ltb-true}
use lib.Dec.{leb, ltb, eqb}
use lib.ListN.{length, get_or}
use Rattle.rules.specs.Tasks.{Task, span, standing, written, place_of, Shape, wait_written}
use Rattle.rules.specs.Positions.{moved, starts}
use Rattle.rules.specs.Jobs.{overrun, Stand, Ready, Waiting, Done, Stopped, Job, finished, stop, reported, begun, owner_runs, owner_late, owned_by, turn, open_jobs}
use Rattle.rules.specs.Observer.{Phase, in_step, in_wait, over, broken, Watch, opening, demand, breaks, after_end, step_ends, wait_ends, heard_in, heard, slot_in, slot_passes, watched, open_observer}
use Rattle.rules.proofs.Play.Keep.{off-suc, off-le, Keeps, Level, Lane, lane, lane_next, told, Follows, starts-at, starts-not, slotted, waited_now, after-report, after-slot, not_late, no_code, no-fault, inside-span, Sized, SizedJob, sized, sized-report, sized-begun}
use Rattle.rules.proofs.Lists.{clash-bool, and_parts}

-- ── the observer's notes and the player's job ───────────────────────────────

-- where the player's job isn't stopped, the notes say the same of it; v is the slots that its wait has lasted
abbrev pub Match : Watch → Stand → ℕ → ℕ → ℕ → Type 0
Match w Ready k g v = (w.phase ≡ in_step) × (w.step ≡ k) × (w.got ≡ g)
Match w Waiting k g v = (w.phase ≡ in_wait) × (w.step ≡ k) × (w.waited ≡ v)
Match w Done k g v = w.phase ≡ over
Match w (Stopped c) k g v = Unit {0}

abbrev pub MatchJob : Watch → Job → ℕ → Type 0
MatchJob w j v = Match w j.stand j.step j.given v

-- what stays in a slot
slot-phase : (w : Watch) (b : Bool) → (slot_passes b w).phase ≡ w.phase
unfolding slot_passes slot_in
slot-phase w b = go w.phase b
  where
    go : (f : Phase) (b : Bool) → (slot_in f b w).phase ≡ w.phase
    go in_step true = refl
    go in_step false = refl
    go in_wait b = refl
    go over b = refl
    go broken b = refl

slot-keeps : (w : Watch) (b : Bool) → ((slot_passes b w).keeps ≡ w.keeps) × ((slot_passes b w).quiet ≡ w.quiet)
unfolding slot_passes slot_in
slot-keeps w b = go w.phase b
  where
    go : (f : Phase) (b : Bool) → ((slot_in f b w).keeps ≡ w.keeps) × ((slot_in f b w).quiet ≡ w.quiet)
    go in_step true = (refl, refl)
    go in_step false = (refl, refl)
    go in_wait b = (refl, refl)
    go over b = (refl, refl)
    go broken b = (refl, refl)

-- what keeps after a report kept before
heard-keeps : (τ : Task) (ran : Bool) (r : ℕ) (w : Watch) → (heard τ ran r w).keeps ≡ true → w.keeps ≡ true
unfolding heard heard_in demand breaks after_end step_ends wait_ends
heard-keeps τ ran r w e = go w.phase ran r e
  where
    go : (f : Phase) (ran : Bool) (r : ℕ) → (heard_in τ f ran r w).keeps ≡ true → w.keeps ≡ true
    go in_step true zero e = (and_parts w.keeps _ e).0
    go in_step true (suc zero) e = (and_parts w.keeps _ e).0
    go in_step true (suc (suc r)) e = clash-bool e
    go in_step false zero e = e
    go in_step false (suc r) e = clash-bool e
    go in_wait ran zero e = (and_parts w.keeps _ e).0
    go in_wait ran (suc zero) e = clash-bool e
    go in_wait ran (suc (suc zero)) e = (and_parts w.keeps _ e).0
    go in_wait ran (suc (suc (suc r))) e = clash-bool e
    go over ran zero e = e
    go over ran (suc r) e = e
    go broken ran r e = e

heard-at : (τ : Task) (ran : Bool) (r : ℕ) (w : Watch) (f : Phase) → w.phase ≡ f → heard τ ran r w ≡ heard_in τ f ran r w
unfolding heard
heard-at τ ran r w f e = ap (λ g. heard_in τ g ran r w) e

slot_at : (b : Bool) (w : Watch) (f : Phase) → w.phase ≡ f → slot_passes b w ≡ slot_in f b w
unfolding slot_passes
slot_at b w f e = ap (λ g. slot_in g b w) e

heard-over : (τ : Task) (ran : Bool) (r : ℕ) (w : Watch) → w.phase ≡ over → w.quiet ≡ false → ((heard τ ran r w).phase ≡ over) × ((heard τ ran r w).quiet ≡ false)
unfolding heard_in after_end
heard-over τ ran r w e q = rw (heard-at τ ran r w over e) (go r)
  where
    go : (r : ℕ) → ((heard_in τ over ran r w).phase ≡ over) × ((heard_in τ over ran r w).quiet ≡ false)
    go zero = (e, q)
    go (suc r) = (refl, refl)

module _ (τ : Task) where
  -- a slot
  match-slot : (w : Watch) (own : Bool) (p : ℕ) (st : Stand) (k g v : ℕ) → Match w st k g v
      → MatchJob (slot_passes (own && owner_runs st p (record { step = k; given = g; stand = st })) w)
      (owned_by (own && owner_runs st p (record { step = k; given = g; stand = st })) (own && owner_late st p (record { step = k; given = g; stand = st })) (record { step = k; given = g; stand = st }))
      (waited_now (owned_by (own && owner_runs st p (record { step = k; given = g; stand = st })) (own && owner_late st p (record { step = k; given = g; stand = st })) (record { step = k; given = g; stand = st })).stand v)
  unfolding slot_in owner_runs owner_late owned_by waited_now stop
  match-slot w own p Ready k g v M = rw (slot_at _ w in_step M.0) (go (own && eqb (k + k) p) (own && ltb (k + k) p))
    where
      go : (a b : Bool) → MatchJob (slot_in in_step a w) (owned_by a b (record { step = k; given = g; stand = Ready })) (waited_now (owned_by a b (record { step = k; given = g; stand = Ready })).stand v)
      go true b = (M.0, M.1, ap suc M.2)
      go false true = tt
      go false false = M
  match-slot w true p Waiting k g v M = rw (slot_at _ w in_wait M.0) (go (ltb (suc (k + k)) p))
    where
      go : (b : Bool) → MatchJob (slot_in in_wait false w) (owned_by false b (record { step = k; given = g; stand = Waiting })) (waited_now (owned_by false b (record { step = k; given = g; stand = Waiting })).stand v)
      go true = tt
      go false = (M.0, M.1, ap suc M.2)
  match-slot w false p Waiting k g v M = rw (slot_at _ w in_wait M.0) (M.0, M.1, ap suc M.2)
  match-slot w true p Done k g v M = rw (slot_at _ w over M) M
  match-slot w false p Done k g v M = rw (slot_at _ w over M) M
  match-slot w true p (Stopped c) k g v M = tt
  match-slot w false p (Stopped c) k g v M = tt

  -- a report; at a ready job v is 0
  match-report : (w : Watch) (ran : Bool) (r : ℕ) (st : Stand) (k g v : ℕ) → Match w st k g (waited_now st v)
      → MatchJob (heard τ ran r w) (reported τ st ran (record { step = k; given = g; stand = st }) r) (waited_now st v)
  unfolding open_observer open_jobs waited_now
  match-report w true zero Ready k g v M = rw (heard-at τ true 0 w in_step M.0) (go (eqb g (written τ k)))
    where
      go : (b : Bool) → MatchJob (demand (ltb w.got (written τ w.step)) w) (cond b (stop overrun) (record { step = k; given = g; stand = Ready })) 0
      go true = tt
      go false = M
  match-report w true (suc zero) Ready k g v M = rw (heard-at τ true 1 w in_step M.0, M.1) (go (ltb (suc (k + k)) (length τ.pattern)))
    where
      go : (b : Bool) → MatchJob (record { phase = cond b in_wait over; step = k; got = 0; waited = 0; keeps = w.keeps && leb w.got (written τ k); quiet = w.quiet }) (cond b (record { step = k; given = 0; stand = Waiting }) finished) 0
      go true = (refl, refl, refl)
      go false = refl
  match-report w true (suc (suc r)) Ready k g v M = tt
  match-report w false zero Ready k g v M = rw (heard-at τ false 0 w in_step M.0) M
  match-report w false (suc r) Ready k g v M = tt
  match-report w ran zero Waiting k g v M = rw (heard-at τ ran 0 w in_wait M.0) M
  match-report w ran (suc zero) Waiting k g v M = tt
  match-report w ran (suc (suc zero)) Waiting k g v M = rw (heard-at τ ran 2 w in_wait M.0) (refl, ap suc M.1, refl)
  match-report w ran (suc (suc (suc r))) Waiting k g v M = tt
  match-report w ran zero Done k g v M = rw (heard-at τ ran 0 w over M) M
  match-report w ran (suc r) Done k g v M = tt
  match-report w ran r (Stopped c) k g v M = tt

  -- what the notes hold of the reports, as the player's job has it
  keeps-report : (w : Watch) (ran : Bool) (r : ℕ) (st : Stand) (k g v : ℕ) → Match w st k g v → (heard τ ran r w).keeps ≡ true
      → Keeps τ st ran k g v r ⊎ (((heard τ ran r w).phase ≡ over) × ((heard τ ran r w).quiet ≡ false))
  unfolding heard_in demand breaks after_end written wait_written
  keeps-report w true zero Ready k g v M e = inl (inr (refl, ltb-true g (get_or τ.pattern (k + k) 0) (rw (M.1, M.2) at (and_parts w.keeps (ltb w.got (get_or τ.pattern (w.step + w.step) 0)) (rw (heard-at τ true zero w in_step M.0) at e)).1)))
  keeps-report w true (suc zero) Ready k g v M e = inl (inl refl)
  keeps-report w true (suc (suc r)) Ready k g v M e = clash-bool (rw (heard-at τ true (suc (suc r)) w in_step M.0) at e)
  keeps-report w false zero Ready k g v M e = inl refl
  keeps-report w false (suc r) Ready k g v M e = clash-bool (rw (heard-at τ false (suc r) w in_step M.0) at e)
  keeps-report w ran zero Waiting k g v M e = inl (inr (refl, ltb-true v (get_or τ.pattern (suc (k + k)) 0) (rw (M.1, M.2) at (and_parts w.keeps (ltb w.waited (get_or τ.pattern (suc (w.step + w.step)) 0)) (rw (heard-at τ ran zero w in_wait M.0) at e)).1)))
  keeps-report w ran (suc zero) Waiting k g v M e = clash-bool (rw (heard-at τ ran (suc zero) w in_wait M.0) at e)
  keeps-report w ran (suc (suc zero)) Waiting k g v M e = inl (inl refl)
  keeps-report w ran (suc (suc (suc r))) Waiting k g v M e = clash-bool (rw (heard-at τ ran (suc (suc (suc r))) w in_wait M.0) at e)
  keeps-report w ran zero Done k g v M e = inl refl
  keeps-report w ran (suc r) Done k g v M e = inr (rw (heard-at τ ran (suc r) w over M) (refl, refl))
  keeps-report w ran r (Stopped c) k g v M e = inl tt

-- ── one task over any number of ticks ───────────────────────────────────────

-- the notes and the job agree, and a job whose reports keep within its pattern is not behind the plan's progress q
pub record Agreed (τ : Task) (w : Watch) (j : Job) (q v : ℕ) : Type 0 where
  pub notes : MatchJob w j v
  pub kept : w.keeps ≡ true → Level τ q j.stand j.step j.given v ⊎ ((w.phase ≡ over) × (w.quiet ≡ false))

module _ (τ : Task) (shape : Shape τ.pattern) where
  -- a slot, and the report on it
  agreed-step : (w : Watch) (own : Bool) (p : ℕ) (b : Job) (v r : ℕ) → Agreed τ w b p v
      → Agreed τ (heard τ (own && owner_runs b.stand (place_of τ.pattern p) b) r (slot_passes (own && owner_runs b.stand (place_of τ.pattern p) b) w))
      (reported τ (slotted τ p own b).stand (own && owner_runs b.stand (place_of τ.pattern p) b) (slotted τ p own b) r)
      (moved (standing τ p) own p) (waited_now (slotted τ p own b).stand v)
  unfolding slotted
  agreed-step w own p b v r H = record { notes = match-report τ w' ran r j'.stand j'.step j'.given v A; kept = λ e. go e (H.kept (sym (slot-keeps w ran).0 ∙ heard-keeps τ ran r w' e)) }
    where
      ran : Bool
      ran = own && owner_runs b.stand (place_of τ.pattern p) b

      w' : Watch
      w' = slot_passes ran w

      j' : Job
      j' = slotted τ p own b

      A : MatchJob w' j' (waited_now j'.stand v)
      A = match-slot τ w own (place_of τ.pattern p) b.stand b.step b.given v H.notes

      go : (heard τ ran r w').keeps ≡ true → Level τ p b.stand b.step b.given v ⊎ ((w.phase ≡ over) × (w.quiet ≡ false))
          → Level τ (moved (standing τ p) own p) (reported τ j'.stand ran j' r).stand (reported τ j'.stand ran j' r).step (reported τ j'.stand ran j' r).given (waited_now j'.stand v)
          ⊎ (((heard τ ran r w').phase ≡ over) × ((heard τ ran r w').quiet ≡ false))
      go e (inr o) = inr (heard-over τ ran r w' (slot-phase w ran ∙ o.0) ((slot-keeps w ran).1 ∙ o.1))
      go e (inl L) = told' (keeps-report τ w' ran r j'.stand j'.step j'.given (waited_now j'.stand v) A e)
        where
          told' : Keeps τ j'.stand ran j'.step j'.given (waited_now j'.stand v) r ⊎ (((heard τ ran r w').phase ≡ over) × ((heard τ ran r w').quiet ≡ false))
              → Level τ (moved (standing τ p) own p) (reported τ j'.stand ran j' r).stand (reported τ j'.stand ran j' r).step (reported τ j'.stand ran j' r).given (waited_now j'.stand v)
              ⊎ (((heard τ ran r w').phase ≡ over) × ((heard τ ran r w').quiet ≡ false))
          told' (inl K) = inl (after-report τ shape (moved (standing τ p) own p) j'.stand ran j'.step j'.given (waited_now j'.stand v) r (after-slot τ shape p own b.stand b.step b.given v L) K)
          told' (inr o) = inr o

  agreed-first : (v : ℕ) → Agreed τ opening (record { step = 0; given = 0; stand = Ready }) 0 v
  unfolding opening written
  agreed-first v = record { notes = (refl, refl, refl); kept = λ e. inl (let o = shape.odd in let z = shape.positive 0 (omega arith) in (omega arith, omega arith, z)) }

module _ (τ : Task) (shape : Shape τ.pattern) (own : ℕ → Bool) (p rep : ℕ → ℕ) (F : Follows τ own p) where
  unfoldable pub lane_at : ℕ → Lane
  lane_at t = lane τ own p rep t

  -- whether the task gets slot t, and the job to which the tick of slot t gives it or not
  unfoldable pub gets : ℕ → Bool
  gets t = (lane_at (suc t)).ran

  job_at : ℕ → Job
  job_at t = begun τ t (told τ (lane_at t) (rep t))

  plan_end : ℕ → ℕ
  plan_end t = moved (standing τ (p t)) (own t) (p t)

  unfoldable pub seen : ℕ → ℕ → Watch
  seen k n = watched τ rep gets (k * τ.period) n

  -- the tick of slot t, and the report on it
  one-tick : (t : ℕ) (w : Watch) → Agreed τ w (job_at t) (p t) (lane_at t).waited
      → Agreed τ (heard τ (gets t) (rep (suc t)) (slot_passes (gets t) w)) (told τ (lane_at (suc t)) (rep (suc t))) (plan_end t) (lane_at (suc t)).waited
  unfolding lane_at gets job_at plan_end lane lane_next told turn slotted
  one-tick t w H = agreed-step τ shape w (own t) (p t) (begun τ t (told τ (lane τ own p rep t) (rep t))) (lane τ own p rep t).waited (rep (suc t)) H

  begun_first : (t : ℕ) (j : Job) → starts t τ ≡ true → begun τ t j ≡ record { step = 0; given = 0; stand = Ready }
  unfolding begun
  begun_first t j e = rw e refl

  begun-not : (t : ℕ) (j : Job) → starts t τ ≡ false → begun τ t j ≡ j
  unfolding begun
  begun-not t j e = rw e refl

  -- from the report at the tick of slot t, which starts no job, to its slot
  on-tick : (t : ℕ) (w : Watch) → starts (suc t) τ ≡ false → Agreed τ w (told τ (lane_at (suc t)) (rep (suc t))) (plan_end t) (lane_at (suc t)).waited
      → Agreed τ w (job_at (suc t)) (p (suc t)) (lane_at (suc t)).waited
  unfolding job_at plan_end
  on-tick t w e H = rw (begun-not (suc t) (told τ (lane_at (suc t)) (rep (suc t))) e, F.goes t e) H

  at_tick : (k n : ℕ) → n < τ.period → Agreed τ (seen k n) (job_at (k * τ.period + n)) (p (k * τ.period + n)) (lane_at (k * τ.period + n)).waited
  unfolding seen watched job_at
  at_tick k zero l =
      let e = starts-at τ k l in
      rw (begun_first (k * τ.period + 0) (told τ (lane_at (k * τ.period + 0)) (rep (k * τ.period + 0))) e, F.begins (k * τ.period + 0) e) (agreed-first τ shape (lane_at (k * τ.period + 0)).waited)
  at_tick k (suc n) l = rw (add-suc (k * τ.period) n) (on-tick (k * τ.period + n) _ (starts-not τ k n l) (one-tick (k * τ.period + n) _ (at_tick k n (omega arith))))

  -- once the report on slot k T + n is taken
  at-report : (k n : ℕ) → n < τ.period → Agreed τ (seen k (suc n)) (told τ (lane_at (suc (k * τ.period + n))) (rep (suc (k * τ.period + n)))) (plan_end (k * τ.period + n)) (lane_at (suc (k * τ.period + n))).waited
  unfolding seen watched
  at-report k n l = one-tick (k * τ.period + n) _ (at_tick k n l)

  -- a job that is level with a plan at its end is over
  level-over : (w : Watch) (q : ℕ) (st : Stand) (k g v : ℕ) → span τ ≤ q → Match w st k g v → Level τ q st k g v → w.phase ≡ over
  unfolding wait_written span
  level-over w q Ready k g v h M L = let i = inside-span τ shape q k g L.0 L.1 L.2 in let z : ⊥ = omega arith in absurd z
  level-over w q Waiting k g v h M L =
      let a = L.0 in let b = L.1 in let c = L.2 in
      let u = off-suc τ.pattern (suc (k + k)) (omega arith) in let o = off-le τ.pattern (suc (suc (k + k))) in
      let z : ⊥ = omega arith in absurd z
  level-over w q Done k g v h M L = M
  level-over w q (Stopped c) k g v h M L = absurd L

  pub seen-finishes : (k n : ℕ) → suc n ≡ τ.deadline → τ.deadline ≤ τ.period → (seen k (suc n)).keeps ≡ true → (seen k (suc n)).phase ≡ over
  unfolding plan_end
  seen-finishes k n e l keeps = go (A.kept keeps)
    where
      t : ℕ
      t = k * τ.period + n

      a : Job
      a = told τ (lane_at (suc t)) (rep (suc t))

      A : Agreed τ (seen k (suc n)) a (plan_end t) (lane_at (suc t)).waited
      A = at-report k n (omega arith)

      go : Level τ (plan_end t) a.stand a.step a.given (lane_at (suc t)).waited ⊎ (((seen k (suc n)).phase ≡ over) × ((seen k (suc n)).quiet ≡ false)) → (seen k (suc n)).phase ≡ over
      go (inl L) = level-over (seen k (suc n)) (plan_end t) a.stand a.step a.given (lane_at (suc t)).waited (F.due k t (omega arith)) A.notes L
      go (inr o) = o.0

  -- who gets a slot is ready
  runs-ready : (own : Bool) (st : Stand) (b : ℕ) (j : Job) → (own && owner_runs st b j) ≡ true → st ≡ Ready
  unfolding owner_runs
  runs-ready own Ready b j e = refl
  runs-ready true Waiting b j e = clash-bool e
  runs-ready false Waiting b j e = clash-bool e
  runs-ready true Done b j e = clash-bool e
  runs-ready false Done b j e = clash-bool e
  runs-ready true (Stopped c) b j e = clash-bool e
  runs-ready false (Stopped c) b j e = clash-bool e

  gets-ready : (t : ℕ) → gets t ≡ true → (job_at t).stand ≡ Ready
  unfolding gets lane_at lane lane_next turn job_at told
  gets-ready t e = runs-ready (own t) _ _ _ e

  ready-match : (w : Watch) (st : Stand) (k g v : ℕ) → st ≡ Ready → Match w st k g v → Sized τ st false k g → (w.phase ≡ in_step) × (w.got < written τ w.step)
  unfolding written
  ready-match w Ready k g v e M S = (M.0, rw (M.1, M.2) (S.2 refl))
  ready-match w Waiting k g v e M S = let z : ◌≡◌ {A = ℕ} 0 1 = cc in let y : ⊥ = omega arith in absurd y
  ready-match w Done k g v e M S = let z : ◌≡◌ {A = ℕ} 0 1 = cc in let y : ⊥ = omega arith in absurd y
  ready-match w (Stopped c) k g v e M S = let z : ◌≡◌ {A = ℕ} 0 1 = cc in let y : ⊥ = omega arith in absurd y

  sized-at : (t : ℕ) → SizedJob τ false (job_at t)
  unfolding job_at told lane_at
  sized-at t =
      let l : Lane = lane τ own p rep t in
      sized-begun τ shape t (reported τ l.job.stand l.ran l.job (rep t)) (sized-report τ shape l.job.stand l.ran l.job.step l.job.given (rep t) (sized τ shape own p rep t))

  -- a job that gets a slot is in a step, of which less than is written was given
  pub seen-gets : (k n : ℕ) → n < τ.period → gets (k * τ.period + n) ≡ true → ((seen k n).phase ≡ in_step) × ((seen k n).got < written τ (seen k n).step)
  seen-gets k n l e = ready-match (seen k n) _ _ _ _ (gets-ready (k * τ.period + n) e) (at_tick k n l).notes (sized-at (k * τ.period + n))

  unfoldable pub fault_at : ℕ → ℕ
  fault_at t = (turn τ t (p t) (own t) (lane_at t).ran (lane_at t).job (rep t)).fault

  -- a job whose reports keep within its pattern, and are 0 after its end, is given no fault
  pub seen-blameless : (k n : ℕ) → n < τ.period → (seen k (suc n)).keeps ≡ true → (seen k (suc n)).quiet ≡ true → fault_at (suc (k * τ.period + n)) ≡ 0
  unfolding fault_at turn begun told plan_end written
  seen-blameless k n l keeps quiet = go (A.kept keeps) (starts (suc t) τ) refl
    where
      t : ℕ
      t = k * τ.period + n

      a : Job
      a = told τ (lane_at (suc t)) (rep (suc t))

      A : Agreed τ (seen k (suc n)) a (plan_end t) (lane_at (suc t)).waited
      A = at-report k n l

      go : Level τ (plan_end t) a.stand a.step a.given (lane_at (suc t)).waited ⊎ (((seen k (suc n)).phase ≡ over) × ((seen k (suc n)).quiet ≡ false))
          → (b : Bool) → starts (suc t) τ ≡ b → (turn τ (suc t) (p (suc t)) (own (suc t)) (lane_at (suc t)).ran (lane_at (suc t)).job (rep (suc t))).fault ≡ 0
      go (inr o) b e = clash-bool (sym o.1 ∙ quiet)
      go (inl L) false e = rw e (no-fault τ shape (p (suc t)) (own (suc t)) (lane_at (suc t)).job.stand a.stand a.step a.given (lane_at (suc t)).waited (rw (F.goes t e) L))
      go (inl L) true e = rw (
        e,
        no_code τ shape (lane_at (suc t)).job.stand a.stand (plan_end t) a.step a.given (lane_at (suc t)).waited L,
        not_late τ shape (p (suc t)) (own (suc t)) Ready 0 0 0 (rw (F.begins (suc t) e) (first-level)),
      ) refl
        where
          first-level : Level τ 0 Ready 0 0 0
          first-level = let o = shape.odd in let z = shape.positive 0 (omega arith) in (omega arith, omega arith, z)

  -- nor at the first tick, if nothing is reported
  pub first-blameless : 0 < τ.period → rep 0 ≡ 0 → fault_at 0 ≡ 0
  unfolding fault_at lane_at lane open_jobs written
  first-blameless h e =
      let n : 0 * τ.period + 0 ≡ 0 = omega arith in
      let b : starts 0 τ ≡ true = rw n at (starts-at τ 0 h) in
      let o = shape.odd in let z = shape.positive 0 (omega arith) in
      let L : Level τ 0 Ready 0 0 0 = (omega arith, omega arith, z) in
      rw (e, b, not_late τ shape (p 0) (own 0) Ready 0 0 0 (rw (F.begins 0 b) L)) refl

-- two lanes whose reports agree below t agree at t
pub lane-agree : (τ : Task) (own : ℕ → Bool) (p a b : ℕ → ℕ) (t : ℕ) → ((u : ℕ) → u < t → a u ≡ b u) → lane τ own p a t ≡ lane τ own p b t
unfolding lane
lane-agree τ own p a b zero e = refl
lane-agree τ own p a b (suc t) e = ap₂ (λ l r. lane_next τ t (p t) (own t) l r) (lane-agree τ own p a b t (λ u h. e u (omega arith))) (e t (omega arith))
