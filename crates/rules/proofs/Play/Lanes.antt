-- One task of a run of ticks.
use mathlib.Core.Path.{◌≡◌, refl, sym, ap, ap₂, ◌∙◌}
use mathlib.Core.Bool.{Bool, true, false, cond, ◌&&◌}
use mathlib.Core.List.{List}
use Prim.Native.Nat.{ℕ, zero, suc, ◌+◌, ◌*◌, ◌≤◌, ◌<◌, ◌%◌}
use native.Mathlib.Omega.{arith}
use native.Mathlib.Nat.{mod-mod_of_dvd, suc-mod, zero-mod}
use borrow.Author.Tests.{eqb-true, eq-eqb, ne_eqb, lt-ltb}
use lib.Dec.{ltb, eqb}
use lib.ListN.{length, get_or, length-replicate, get_or-replicate}
use Rattle.rules.specs.Tasks.{Fit, Task, span, standing, no_task}
use Rattle.rules.specs.Hyper.{hyper}
use Rattle.rules.specs.Positions.{moved, passed, starts, idle, next}
use Rattle.rules.specs.Choices.{Schedule}
use Rattle.rules.specs.Endless.{repeated, ending, progress_of}
use Rattle.rules.specs.Jobs.{Job, finished, turn, begun}
use Rattle.rules.specs.Player.{State, fresh, turn_of, runner_of, tick}
use Rattle.rules.proofs.Laws.{is_done-span}
use Rattle.rules.proofs.Set.Multiple.{hyper-dvd, hyper-pos}
use Rattle.rules.proofs.Run.Reach.{ended_at, next-at, next-length}
use Rattle.rules.proofs.Run.Forever.{ending-is, progress-zero, progress-suc, schedule-endless}
use Rattle.rules.proofs.Play.Keep.{Lane, lane, lane_next, Follows}
use Rattle.rules.proofs.Lists.{tabulate-at}

-- ── runs ───────────────────────────────────────────────────────────

-- the state after t ticks from a fresh start, with the table lent unchanged and the reports of each tick
unfoldable pub states : List Task → List ℕ → (ℕ → List ℕ) → ℕ → State
states s table reps zero = fresh s
states s table reps (suc t) = (tick s table (states s table reps t) (reps t)).state

-- what the table and its own reports make of task j + 1
unfoldable pub lane_of : List Task → List ℕ → (ℕ → List ℕ) → ℕ → ℕ → Lane
lane_of s table reps j t = lane (get_or s j no_task) (λ u. eqb (repeated table u) j) (λ u. progress_of s (repeated table) u j) (λ u. get_or (reps u) j 0) t

-- ── the plan ────────────────────────────────────────────────────────────────

module _ (s : List Task) (cs : List ℕ) (fit : Fit s) (S : Schedule s cs) (j : ℕ) (h : j < length s) where
  pub some-slot : 0 < hyper s
  some-slot = hyper-pos s (λ j h. let d = fit.due j h in let f = fit.fits j h in omega arith)

  pub follows : Follows (get_or s j no_task) (λ u. eqb (repeated cs u) j) (λ u. progress_of s (repeated cs) u j)
  unfolding passed
  follows = record { begins = begins'; goes = goes'; due = due' }
    where
      begins' : (t : ℕ) → starts t (get_or s j no_task) ≡ true → progress_of s (repeated cs) t j ≡ 0
      begins' zero e = progress-zero s (repeated cs) j h
      begins' (suc t) e = progress-suc s (repeated cs) j h t ∙ rw e refl

      goes' : (t : ℕ) → starts (suc t) (get_or s j no_task) ≡ false → progress_of s (repeated cs) (suc t) j ≡ moved (standing (get_or s j no_task) (progress_of s (repeated cs) t j)) (eqb (repeated cs t) j) (progress_of s (repeated cs) t j)
      goes' t e = progress-suc s (repeated cs) j h t ∙ rw e (ending-is s (repeated cs) j h t)

      due' : (k t : ℕ) → suc t ≡ k * (get_or s j no_task).period + (get_or s j no_task).deadline → span (get_or s j no_task) ≤ moved (standing (get_or s j no_task) (progress_of s (repeated cs) t j)) (eqb (repeated cs t) j) (progress_of s (repeated cs) t j)
      due' k t e = rw (ending-is s (repeated cs) j h t) at (is_done-span (get_or s j no_task) (ending s (repeated cs) t j) ((schedule-endless s cs fit (hyper-dvd s) some-slot S).on_time j h k t e))

-- ── each task goes by the table and its own reports ─────────────────────────

turn-starts : (τ : Task) (t u p : ℕ) (own ran : Bool) (k : Job) (r : ℕ) → starts t τ ≡ starts u τ → turn τ t p own ran k r ≡ turn τ u p own ran k r
unfolding turn begun
turn-starts τ t u p own ran k r e = rw e refl

pub turn-runs : (τ : Task) (t p : ℕ) (own ran : Bool) (k : Job) (r : ℕ) → own ≡ false → (turn τ t p own ran k r).runs ≡ false
unfolding turn
turn-runs τ t p own ran k r e = rw e refl

-- state and lane agree on task j + 1
pub record Same (s : List Task) (table : List ℕ) (st : State) (t : ℕ) (j : ℕ) (l : Lane) : Type 0 where
  pub job : get_or st.jobs j finished ≡ l.job
  pub ran : eqb st.last j ≡ l.ran
  pub plan : get_or st.planned j 0 ≡ progress_of s (repeated table) t j

module _ (s : List Task) (cs : List ℕ) (fit : Fit s) (small : length s ≤ idle) (S : Schedule s cs) (reps : ℕ → List ℕ) where
  pub slot_is : (t : ℕ) → (states s cs reps t).slot ≡ t % hyper s
  unfolding states tick fresh
  slot_is zero = sym (zero-mod (hyper s))
  slot_is (suc t) = ap (λ n. suc n % hyper s) (slot_is t) ∙ sym (suc-mod t (hyper s))

  pub entry-is : (t : ℕ) → get_or cs (states s cs reps t).slot idle ≡ repeated cs t
  unfolding repeated
  entry-is t = rw (slot_is t, S.long) refl

  pub planned-length : (t : ℕ) → length (states s cs reps t).planned ≡ length s
  unfolding states tick fresh
  planned-length zero = length-replicate (length s) 0
  planned-length (suc t) = next-length s (record { slot = (states s cs reps t).slot; progress = (states s cs reps t).planned }) (get_or cs (states s cs reps t).slot idle) (planned-length t)

  pub starts-slot : (t j : ℕ) → j < length s → starts (states s cs reps t).slot (get_or s j no_task) ≡ starts t (get_or s j no_task)
  unfolding starts
  starts-slot t j h = ap (λ n. eqb (n % (get_or s j no_task).period) 0) (slot_is t) ∙ ap (λ n. eqb n 0) (mod-mod_of_dvd (get_or s j no_task).period t (hyper-dvd s j h))

  starts-suc : (t j : ℕ) → j < length s → starts (suc (states s cs reps t).slot) (get_or s j no_task) ≡ starts (suc t) (get_or s j no_task)
  unfolding starts
  starts-suc t j h =
      let P : ℕ = (get_or s j no_task).period in
      ap (λ n. eqb (suc n % P) 0) (slot_is t) ∙ ap (λ n. eqb n 0) (suc-mod (t % hyper s) P ∙ ap (λ n. suc n % P) (mod-mod_of_dvd P t (hyper-dvd s j h)) ∙ sym (suc-mod t P))

  same-zero : (j : ℕ) → j < length s → Same s cs (states s cs reps 0) 0 j (lane_of s cs reps j 0)
  unfolding states fresh lane_of lane
  same-zero j h = record {
    job = get_or-replicate (length s) j finished finished h;
    ran = ne_eqb idle j (λ e. omega arith);
    plan = get_or-replicate (length s) j 0 0 h ∙ sym (progress-zero s (repeated cs) j h);
  }

  module _ (t j : ℕ) (h : j < length s) (ih : Same s cs (states s cs reps t) t j (lane_of s cs reps j t)) where
    turn_is : turn_of s cs (states s cs reps t) (reps t) j
        ≡ turn (get_or s j no_task) t (progress_of s (repeated cs) t j) (eqb (repeated cs t) j) (lane_of s cs reps j t).ran (lane_of s cs reps j t).job (get_or (reps t) j 0)
    unfolding turn_of
    turn_is = rw (ih.plan, entry-is t, ih.ran, ih.job) (turn-starts (get_or s j no_task) _ t _ _ _ _ _ (starts-slot t j h))

    own_runs : (e : ℕ) → e ≡ repeated cs t → eqb (runner_of s cs (states s cs reps t) (reps t) e) j ≡ (turn_of s cs (states s cs reps t) (reps t) j).runs
    unfolding runner_of
    own_runs e q = go (eqb e j) refl
      where
        idle-not : eqb idle j ≡ false
        idle-not = ne_eqb idle j (λ z. omega arith)

        mine : (b : Bool) → eqb (cond b j idle) j ≡ b
        mine true = eq-eqb j j refl
        mine false = idle-not

        other : eqb e j ≡ false → (b : Bool) → eqb (cond b e idle) j ≡ false
        other n true = n
        other n false = idle-not

        go : (b : Bool) → eqb e j ≡ b → eqb (cond (ltb e (length s) && (turn_of s cs (states s cs reps t) (reps t) e).runs) e idle) j ≡ (turn_of s cs (states s cs reps t) (reps t) j).runs
        go true w = rw (eqb-true e j w, lt-ltb j (length s) h) (mine (turn_of s cs (states s cs reps t) (reps t) j).runs)
        go false w = other w (ltb e (length s) && (turn_of s cs (states s cs reps t) (reps t) e).runs) ∙ sym (ap (λ u. u.runs) turn_is ∙ turn-runs (get_or s j no_task) t _ _ _ _ _ (rw q at w))

    same-suc : Same s cs (states s cs reps (suc t)) (suc t) j (lane_of s cs reps j (suc t))
    unfolding states tick lane_of lane lane_next
    same-suc = record {
      job = tabulate-at (λ i. (turn_of s cs (states s cs reps t) (reps t) i).job) 0 (length s) j finished h ∙ ap (λ n. (turn_of s cs (states s cs reps t) (reps t) n).job) (omega arith) ∙ ap (λ u. u.job) turn_is;
      ran = own_runs (get_or cs (states s cs reps t).slot idle) (entry-is t) ∙ ap (λ u. u.runs) turn_is;
      plan = plan-suc;
    }
      where
        plan-suc : get_or (next s (record { slot = (states s cs reps t).slot; progress = (states s cs reps t).planned }) (get_or cs (states s cs reps t).slot idle)).progress j 0 ≡ progress_of s (repeated cs) (suc t) j
        plan-suc =
            next-at s (record { slot = (states s cs reps t).slot; progress = (states s cs reps t).planned }) (get_or cs (states s cs reps t).slot idle) j (planned-length t) h
            ∙ ap₂ (λ b p. cond b 0 p) (starts-suc t j h) (ended_at s (states s cs reps t).planned (get_or cs (states s cs reps t).slot idle) j (planned-length t) h
            ∙ ap₂ (λ c p. passed c j (get_or s j no_task) p) (entry-is t) ih.plan ∙ sym (ending-is s (repeated cs) j h t))
            ∙ sym (progress-suc s (repeated cs) j h t)

  pub same : (t j : ℕ) → j < length s → Same s cs (states s cs reps t) t j (lane_of s cs reps j t)
  same zero j h = same-zero j h
  same (suc t) j h = same-suc t j h (same t j h)

-- ── its faults ───────────────────────────────────────────────────────────

-- the fault that the tick of slot t gives task j + 1
unfoldable pub fault_of : List Task → List ℕ → (ℕ → List ℕ) → ℕ → ℕ → ℕ
fault_of s cs reps t j = get_or (tick s cs (states s cs reps t) (reps t)).faults j 0

pub fault-is : (s : List Task) (cs : List ℕ) (fit : Fit s) (small : length s ≤ idle) (S : Schedule s cs) (reps : ℕ → List ℕ) (t j : ℕ) → j < length s
    → fault_of s cs reps t j ≡ (turn (get_or s j no_task) t (progress_of s (repeated cs) t j) (eqb (repeated cs t) j) (lane_of s cs reps j t).ran (lane_of s cs reps j t).job (get_or (reps t) j 0)).fault
unfolding fault_of tick
fault-is s cs fit small S reps t j h = tabulate-at (λ i. (turn_of s cs (states s cs reps t) (reps t) i).fault) 0 (length s) j 0 h
    ∙ ap (λ n. (turn_of s cs (states s cs reps t) (reps t) n).fault) (omega arith) ∙ ap (λ u. u.fault) (turn_is s cs fit small S reps t j h (same s cs fit small S reps t j h))
