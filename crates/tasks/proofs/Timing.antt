-- Laws of a timed task: where progress stands, entry by entry, and what its length says of laxity.
use mathlib.Core.Path.{◌≡◌, refl, sym, ap, ◌∙◌}
use mathlib.Core.Bool.{Bool, true, false, not, cond, ◌&&◌, ◌||◌, and-true, and-false}
use Prim.Native.Nat.{ℕ, suc, ◌+◌, ◌%◌, ◌≤◌, ◌<◌}
use native.Mathlib.Nat.{mod-zero, mod-eq_of_lt}
use native.Mathlib.Numerals.{add-one}
use native.Mathlib.Omega.{arith}
use borrow.Author.Tests.{eqb-true, eqb-false, le-leb, lt-leb}
use lib.IntN.{ℤ, pos}
use lib.Signed.{le_z}
use mir.Syntax.{w16, w32}
use mir.Val.{Fits, SFits, to_z, of_z}
use mir.Facts.{to_z-of_z}
use lib.Dec.{leb, eqb}
use lib.ListN.{length, take}
use Rattle.rules.specs.Tasks.{Task, is_done, standing, sum, span}
use Rattle.rules.specs.Positions.{moved, in_time, laxity}
use Rattle.tasks.specs.declared.timed.Timed.{Timed}
use Rattle.tasks.specs.Timed.{timed_task}
use Rattle.tasks.specs.declared.Task as code
use Rattle.tasks.specs.declared.Standing as stands
use Rattle.tasks.specs.declared.Standing.TheVariants.{Ready, Waiting, Done}
use Rattle.tasks.specs.Views.{task_of, standing_of}
use Rattle.tasks.specs.Slots.{onward, well_at, well_after}
use Rattle.tasks.proofs.Slotwise.{starts-full, pass-over, pass-amid}
use Rattle.tasks.proofs.OneTask.{undone-below, done-from, undone-till, in-time-done, in-time-left, pattern-short, pattern-take}

-- ── the time since release ──────────────────────────────────────────────────

pub first-period : (t n : ℕ) → t < n → t + 1 ≡ suc (t % n)
first-period t n h = add-one t ∙ ap suc (sym (mod-eq_of_lt h))

pub no-period : (t n : ℕ) → n ≡ 0 → t ≡ t % n
no-period t n e = rw e (sym (mod-zero t))

pub ruleset mods = (first-period, no-period)

pub ruleset no_period = (no-period)

-- ── in time ─────────────────────────────────────────────────────────────────

pub whole-is : (t : Timed) → t.length ≡ span (timed_task t)
unfolding timed_task span
whole-is t = t.whole

module _ (t : Timed) (since p : ℕ) where
  pub timed-done : t.length ≤ p → leb t.length p ≡ in_time since (timed_task t) p
  timed-done h = le-leb t.length p h ∙ in-time-done (timed_task t) t.length p (whole-is t) since h

  pub timed-left : p < t.length → (z : ℤ) → SFits w32 z → z ≡ laxity (timed_task t) since p → le_z (pos 0) (to_z w32 (of_z w32 z)) ≡ in_time since (timed_task t) p
  timed-left h z f e = ap (le_z (pos 0)) (to_z-of_z {w = w32} f ∙ e) ∙ in-time-left (timed_task t) t.length p (whole-is t) since h

pub ruleset in_times = (timed-done, timed-left)

-- ── the task of a struct ────────────────────────────────────────────────────

module _ (t : code.Task) (n : ℕ) (seven : length t.pattern ≡ 7) (many : n ≡ length (task_of t).pattern) where
  pub entries-few : n ≤ 7
  entries-few = let k = pattern-short t in omega arith

  pub entries-sum : (l : ℕ) → l ≡ span (task_of t) → l ≡ sum (take n t.pattern)
  unfolding span
  entries-sum l e = e ∙ ap sum (pattern-take t n seven many)

-- ── the end of a slot ───────────────────────────────────────────────────────

module _ (t : Timed) (since p : ℕ) (r : Bool) (again : r ≡ eqb since (timed_task t).period) where
  -- its job goes on
  pub well-amid : r ≡ false → (w : Bool) → w ≡ in_time since (timed_task t) p → w ≡ well_at since (timed_task t) p
  unfolding well_at
  well-amid h w e = rw (← again, h, ← e) (sym (and-true w))

  -- its job starts again, and was not done
  pub well-undone : r ≡ true → p < t.length → leb t.length p ≡ well_at since (timed_task t) p
  unfolding well_at
  well-undone h l =
      rw (← again, h, undone-till (timed_task t) t.length p (whole-is t) l) (lt-leb t.length p l ∙ sym (and-false (in_time since (timed_task t) p)))

  -- it was done
  pub well-again : r ≡ true → t.length ≤ p → (w : Bool) → w ≡ in_time 0 (timed_task t) 0 → w ≡ well_at since (timed_task t) p
  unfolding well_at
  well-again h l w e = rw (← again, h, done-from (timed_task t) t.length p (whole-is t) l, ← in-time-done (timed_task t) t.length p (whole-is t) since l) e

pub ruleset wells = (well-amid, well-undone, well-again)

-- at the end of a slot of any period, 0 too
module _ (t : ℕ) (τ : Task) (p : ℕ) where
  abbrev w : Bool
  w = in_time (suc (t % τ.period)) τ p

  timely : w ≡ in_time (t % τ.period + 1) τ p
  timely = rw add-one

  pub well-after : well_at (suc (t % τ.period)) τ p ≡ well_after t τ p
  unfolding well_at
  well-after = go (eqb (suc (t % τ.period)) τ.period) refl
    where
      go : (b : Bool) → eqb (suc (t % τ.period)) τ.period ≡ b → w && (not b || (is_done (standing τ p) && in_time 0 τ 0)) ≡ well_after t τ p
      go true e =
          let k = eqb-true _ _ e in
          (pass-over t τ p p (t % τ.period) w refl refl timely (w && (is_done (standing τ p) && in_time 0 τ 0)) (omega arith) refl).0
      go false e =
          let k = eqb-false _ _ e in
          and-true w ∙ (pass-amid t τ p p (t % τ.period) w refl refl timely (λ z. k (omega arith))).0

-- the progress in the next slot
pub onward-is : (t : ℕ) (τ : Task) (p : ℕ) → cond (eqb (suc (t % τ.period)) τ.period) 0 p ≡ onward t τ p
unfolding onward
onward-is t τ p = rw (starts-full t τ) refl

-- ── progress that rises ─────────────────────────────────────────────────────

module _ (t : Timed) (p : ℕ) (k : stands.Standing) (e : standing_of k ≡ standing (timed_task t) p) where
  undone-fits : is_done (standing (timed_task t) p) ≡ false → Fits w16 (p + 1)
  undone-fits d = let b = undone-below (timed_task t) p d in let l = whole-is t in let s = t.small in omega arith

  pub ready-fits : k ≡ Ready → Fits w16 (p + 1)
  unfolding standing_of is_done
  ready-fits h = undone-fits (rw (← e, h) refl)

  pub waiting-fits : k ≡ Waiting → Fits w16 (p + 1)
  unfolding standing_of is_done
  waiting-fits h = undone-fits (rw (← e, h) refl)

  module _ (c : Bool) where
    pub ready-moves : k ≡ Ready → c ≡ true → p + 1 ≡ moved (standing (timed_task t) p) c p
    unfolding standing_of moved
    ready-moves h u = rw (← e, h, u) (add-one p)

    pub ready-stays : k ≡ Ready → c ≡ false → p ≡ moved (standing (timed_task t) p) c p
    unfolding standing_of moved
    ready-stays h u = rw (← e, h, u) refl

    pub waiting-moves : k ≡ Waiting → p + 1 ≡ moved (standing (timed_task t) p) c p
    unfolding standing_of moved
    waiting-moves h = rw (← e, h) (add-one p)

    pub done-stays : k ≡ Done → p ≡ moved (standing (timed_task t) p) c p
    unfolding standing_of moved
    done-stays h = rw (← e, h) refl

pub ruleset moves = (ready-fits, waiting-fits, ready-moves, ready-stays, waiting-moves, done-stays)

pub ruleset passes = (well-after, onward-is)
