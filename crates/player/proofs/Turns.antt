-- Laws of one task's turn: room for one step or slot more, and a late task has no other fault.
use mathlib.Core.Path.{◌≡◌, refl, sym, ap, subst, ◌∙◌}
use mathlib.Core.Logic.{◌⊎◌, inl, inr}
use mathlib.Core.Bool.{Bool, true, false, cond}
use Prim.Native.Nat.{ℕ, zero, suc, ◌+◌, ◌≤◌, ◌<◌}
use native.Mathlib.Omega.{arith}
use lib.Dec.{T, leb, ltb, eqb}
use lib.ListN.{length, get_or}
use mir.Syntax.{w8}
use mir.Val.{Fits}
use borrow.Author.Tests.{eqb-false, leb-true, ltb-true}
use Rattle.rules.specs.Tasks as tasks
use Rattle.rules.specs.Tasks.{written, place_of}
use Rattle.rules.specs.Positions.{starts}
use Rattle.rules.specs.Jobs as model
use Rattle.rules.specs.Jobs.{overrun, finished, stop, step_done, reported, begun, owner_runs, owner_late, code, new_fault, turn}
use Rattle.rules.specs.States.{job_form_in, job_form}
use Rattle.rules.specs.Lists.{is_zero}
use Rattle.rules.proofs.Laws.{T_true, true-T, T_and, le-or-lt}
use Rattle.rules.proofs.Lists.{clash-bool}
use Rattle.tasks.specs.declared.Task.{Task}
use Rattle.tasks.specs.Views.{task_of}
use Rattle.tasks.proofs.OneTask.{pattern-short, entry_read, entry-beyond}
use Rattle.player.specs.declared.Stand.TheVariants.{Waiting}
use Rattle.player.specs.declared.Job.{Job}
use Rattle.player.specs.Views.{stand_of, job_of}

-- ── room for one slot more, and one step more ───────────────────────────────

-- a ready job that is not the last runner has been given fewer than 255 slots
abbrev Room : model.Stand → ℕ → Type 0
Room model.Ready g = g < 255
Room model.Waiting g = Unit {0}
Room model.Done g = Unit {0}
Room (model.Stopped c) g = Unit {0}

abbrev RoomIn : model.Job → Type 0
RoomIn j = Room j.stand j.given

module _ (τ : tasks.Task) (small : (k : ℕ) → written τ k ≤ 255) where
  room-done : (j : model.Job) → RoomIn (step_done τ j)
  unfolding step_done finished
  room-done j = go (ltb (suc (j.step + j.step)) (length τ.pattern))
    where
      go : (t : Bool) → RoomIn (cond t (record { step = j.step; given = 0; stand = model.Waiting }) finished)
      go true = tt
      go false = tt

  room-report : (k : model.Stand) (ran : Bool) (s g r : ℕ) → T (job_form_in τ k ran (record { step = s; given = g; stand = k })) → RoomIn (reported τ k ran (record { step = s; given = g; stand = k }) r)
  unfolding reported stop job_form_in
  room-report model.Ready true s g zero h = go (eqb g (written τ s)) refl
    where
      go : (t : Bool) → eqb g (written τ s) ≡ t → RoomIn (cond t (stop overrun) (record { step = s; given = g; stand = model.Ready }))
      go true e = tt
      go false e =
          let l = leb-true g (written τ s) (T_true (leb g (written τ s)) (T_and (ltb (s + s) (length τ.pattern)) (leb g (written τ s)) h).1) in
          let n = eqb-false g (written τ s) e in
          let m = small s in
          omega arith
  room-report model.Ready true s g (suc zero) h = room-done (record { step = s; given = g; stand = model.Ready })
  room-report model.Ready true s g (suc (suc r)) h = tt
  room-report model.Ready false s g zero h =
      let l = ltb-true g (written τ s) (T_true (ltb g (written τ s)) (T_and (ltb (s + s) (length τ.pattern)) (ltb g (written τ s)) h).1) in
      let m = small s in
      omega arith
  room-report model.Ready false s g (suc r) h = tt
  room-report model.Waiting ran s g zero h = tt
  room-report model.Waiting ran s g (suc zero) h = tt
  room-report model.Waiting ran s g (suc (suc zero)) h = omega arith
  room-report model.Waiting ran s g (suc (suc (suc r))) h = tt
  room-report model.Done ran s g zero h = tt
  room-report model.Done ran s g (suc r) h = tt
  room-report (model.Stopped c) ran s g r h = tt

room-begun : (τ : tasks.Task) (t : ℕ) (j : model.Job) → RoomIn j → RoomIn (begun τ t j)
unfolding begun
room-begun τ t j h = go (starts t τ)
  where
    go : (b : Bool) → RoomIn (cond b (record { step = 0; given = 0; stand = model.Ready }) j)
    go true = omega arith
    go false = h

room-runs : (k : model.Stand) (place g : ℕ) (j : model.Job) → owner_runs k place j ≡ true → Room k g → g < 255
unfolding owner_runs
room-runs model.Ready place g j e h = h
room-runs model.Waiting place g j e h = clash-bool e
room-runs model.Done place g j e h = clash-bool e
room-runs (model.Stopped c) place g j e h = clash-bool e

written_small : (t : Task) → ((i : ℕ) → Fits w8 (get_or t.pattern i 0)) → (k : ℕ) → written (task_of t) k ≤ 255
unfolding written
written_small t fits k = go (le-or-lt (length (task_of t).pattern) (k + k))
  where
    go : (length (task_of t).pattern ≤ k + k) ⊎ (k + k < length (task_of t).pattern) → get_or (task_of t).pattern (k + k) 0 ≤ 255
    go (inl h) = let e = entry-beyond t (k + k) h in omega arith
    go (inr h) = let e = entry_read t (k + k) h in let f = fits (k + k) in omega arith

-- a waiting job has a step behind it
pub wait-room : (t : Task) (ran : Bool) (j : Job) → T (job_form (task_of t) ran (job_of j)) → j.stand ≡ Waiting → j.step < 255
unfolding job_form job_form_in job_of stand_of
wait-room t ran j h e = go (T_and (ltb (suc (suc (j.step + j.step))) (length (task_of t).pattern)) (is_zero j.given) (subst (λ k. T (job_form_in (task_of t) (stand_of k) ran (job_of j))) e h)).0
  where
    go : T (ltb (suc (suc (j.step + j.step))) (length (task_of t).pattern)) → j.step < 255
    go l = let m = ltb-true (suc (suc (j.step + j.step))) (length (task_of t).pattern) (T_true (ltb (suc (suc (j.step + j.step))) (length (task_of t).pattern)) l) in let s = pattern-short t in omega arith

-- the slot's owner, after the report and the new job, has been given fewer than 255 slots
pub run_room : (t : Task) (slot place report : ℕ) (ran runs : Bool) (j a b : Job) → ((i : ℕ) → Fits w8 (get_or t.pattern i 0)) → T (job_form (task_of t) ran (job_of j))
    → job_of a ≡ reported (task_of t) (stand_of j.stand) ran (job_of j) report → job_of b ≡ begun (task_of t) slot (job_of a)
    → runs ≡ owner_runs (stand_of b.stand) place (job_of b) → runs ≡ true → b.given < 255
unfolding job_of job_form
run_room t slot place report ran runs j a b fits h e f g y =
    let r = room-report (task_of t) (written_small t fits) (stand_of j.stand) ran j.step j.given report h in
    let s = room-begun (task_of t) slot (job_of a) (subst RoomIn (sym e) r) in
    room-runs (stand_of b.stand) place b.given (job_of b) (sym g ∙ y) (subst RoomIn (sym f) s)

-- ── late, and no other fault ────────────────────────────────────────────────

-- a job that is late was not stopped
calm : (k s : model.Stand) (place : ℕ) (j : model.Job) → owner_late s place j ≡ true → new_fault k s ≡ 0
unfolding owner_late new_fault code
calm (model.Stopped c) s place j e = refl
calm model.Ready model.Ready place j e = refl
calm model.Ready model.Waiting place j e = refl
calm model.Ready model.Done place j e = clash-bool e
calm model.Ready (model.Stopped c) place j e = clash-bool e
calm model.Waiting model.Ready place j e = refl
calm model.Waiting model.Waiting place j e = refl
calm model.Waiting model.Done place j e = clash-bool e
calm model.Waiting (model.Stopped c) place j e = clash-bool e
calm model.Done model.Ready place j e = refl
calm model.Done model.Waiting place j e = refl
calm model.Done model.Done place j e = clash-bool e
calm model.Done (model.Stopped c) place j e = clash-bool e

-- one that starts anew is not late
calm_begun : (τ : tasks.Task) (t place : ℕ) (k : model.Stand) (a : model.Job) → (T (starts t τ) → place ≡ 0) → owner_late (begun τ t a).stand place (begun τ t a) ≡ true → new_fault k a.stand ≡ 0
unfolding begun owner_late
calm_begun τ t place k a anew e = go (starts t τ) refl e
  where
    go : (b : Bool) → starts t τ ≡ b → owner_late (cond b (record { step = 0; given = 0; stand = model.Ready }) a).stand place (cond b (record { step = 0; given = 0; stand = model.Ready }) a) ≡ true → new_fault k a.stand ≡ 0
    go true s e = let z : place ≡ 0 = anew (true-T (starts t τ) s) in clash-bool (rw z at e)
    go false s e = calm k a.stand place a e

module _ (τ : tasks.Task) (slot planned report : ℕ) (owner ran : Bool) (j a b : Job) (place : ℕ) (is_late : Bool)
    (ea : job_of a ≡ reported τ (stand_of j.stand) ran (job_of j) report) (eb : job_of b ≡ begun τ slot (job_of a)) (ep : place ≡ place_of τ.pattern planned)
    (el : is_late ≡ owner_late (stand_of b.stand) place (job_of b)) (anew : T (starts slot τ) → place_of τ.pattern planned ≡ 0) where
  abbrev A : model.Job
  A = reported τ (stand_of j.stand) ran (job_of j) report

  abbrev B : model.Job
  B = begun τ slot A

  late-is : is_late ≡ true → owner_late B.stand (place_of τ.pattern planned) B ≡ true
  unfolding job_of
  late-is y = sym (sym y ∙ el ∙ ap (λ (x : model.Job). owner_late x.stand place x) (eb ∙ ap (begun τ slot) ea) ∙ ap (λ p. owner_late B.stand p B) ep)

  pub late_fault : owner ≡ true → is_late ≡ true → 2 ≡ (turn τ slot planned owner ran (job_of j) report).fault
  unfolding job_of turn
  late_fault o y = rw (o, late-is y, calm_begun τ slot (place_of τ.pattern planned) (stand_of j.stand) A anew (late-is y))
