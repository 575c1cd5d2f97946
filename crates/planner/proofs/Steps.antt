-- A step of the search in the code's terms, one law for each branch.
use mathlib.Core.Path.{◌≡◌, refl, sym, ◌∙◌}
use mathlib.Core.Logic.{◌⊎◌, inl, inr}
use mathlib.Core.Bool.{false}
use mathlib.Core.List.{List}
use Prim.Native.Nat.{ℕ, suc, ◌+◌, ◌≤◌, ◌<◌}
use native.Mathlib.Omega.{arith}
use native.Mathlib.Nat.{mul-le-mul_right}
use borrow.Author.Tests.{eq-eqb, ne_eqb, lt-ltb, le-ltb}
use lib.Dec.{eqb}
use Rattle.rules.specs.Tasks as model
use Rattle.rules.specs.Hyper.{hyper}
use Rattle.rules.specs.Positions.{idle}
use Rattle.std.specs.Prelude.{Option, Some, None, min}
use Rattle.planner.specs.declared.Answer.{Answer}
use Rattle.planner.specs.declared.Word.TheVariants.{Schedule, OutOfRoom}
use Rattle.planner.specs.declared.search.Choice.{Choice}
use Rattle.planner.specs.declared.search.Choice.TheVariants.{Task, Idle}
use Rattle.planner.specs.declared.search.Search.{Search}
use Rattle.planner.specs.declared.rows.Rows.{Rows}
use Rattle.planner.specs.Rows.{row_tasks}
use Rattle.planner.specs.Machine as machine
use Rattle.planner.specs.Machine.{Machine, following, giving, step_of, Tries, Took, once, tries}
use Rattle.planner.specs.Views.{number_of, machine_of, end_of, Gives, shut, Stepping, Trying, Recording, Fits}
use Rattle.rules.proofs.Laws.{le-or-lt}
use Rattle.planner.proofs.Searching.{lt_of}

-- ── the choice behind ───────────────────────────────────────────────────────

pub behind-idle : (n c : ℕ) → c ≡ 255 → 256 ≡ following n c
unfolding following idle
behind-idle n c e = rw e (go (le-or-lt n 256))
  where
    go : (n ≤ 256) ⊎ (256 < n) → 256 ≡ following n 255
    go (inl h) = rw (le-ltb 256 n h)
    go (inr h) = rw (lt-ltb 256 n h)

pub behind-last : (n c : ℕ) → c < 255 → n ≤ c + 1 → 255 ≡ following n c
unfolding following idle
behind-last n c l h = rw (le-ltb (suc c) n (omega arith), lt-ltb c 255 (omega arith))

pub behind-task : (n c : ℕ) → c + 1 < n → c + 1 ≡ following n c
unfolding following idle
behind-task n c h = rw (lt-ltb (suc c) n (omega arith)) (omega arith)

-- a task's number is below idle's
pub task-behind : (n c : ℕ) → c < 255 → c + 1 < n → min (c + 1) 255 ≡ following n c
task-behind n c l h = let z : min (c + 1) 255 ≡ c + 1 = omega arith in z ∙ behind-task n c h

pub ruleset behind_laws = (behind-idle, behind-last, task-behind)

-- ── one step ────────────────────────────────────────────────────────────────

pub number-few : (c : Choice) → number_of c ≤ 255
number-few (Task c) = omega arith
number-few Idle = omega arith

module _ (rows : Rows) (h room : ℕ) (at : Search) (t a : List ℕ) (fits : Fits rows h room at t a) where
  abbrev s : List model.Task
  s = row_tasks rows

  pub may-try : (choice : Choice) → (at.slot ≡ h → ⊥) → at.choice ≡ Some choice → Trying rows at choice t a
  may-try choice m e =
      let u = lt_of at.slot h fits.slots m in let f = fits.few in let l = fits.long in let r = fits.records in let o = fits.holds in
      record { slots = omega arith; few = omega arith; tries = e; choices = fits.choices choice e; records = omega (arith, mul-le-mul_right (suc rows.count) r) }

  pub may-record : (at.recorded ≡ room → ⊥) → Recording rows at t a
  may-record m =
      let k = fits.records in
      let u : suc at.recorded ≤ room = lt_of at.recorded room k m in let b = fits.slots in let l = fits.long in let o = fits.holds in
      record { slots = omega arith; more = omega (arith, mul-le-mul_right (suc rows.count) u) }

  pub list-whole : at.slot ≡ h → Stepping s room (machine_of rows.count at t a) rows.count at (Some (record { word = Schedule; dead = at.recorded })) t a
  unfolding step_of machine_of Gives end_of giving
  list-whole e = record {
    reached = giving machine.found (machine_of rows.count at t a);
    took = once {m = machine_of rows.count at t a} {n = machine_of rows.count at t a} {t = machine.found} (rw (eq-eqb at.slot (hyper s) (e ∙ fits.period)));
    given = record { word_is = refl; counted = refl; table_is = refl; area_is = refl };
  }

  module _ (below : at.slot ≡ h → ⊥) where
    short : eqb at.slot (hyper s) ≡ false
    short = ne_eqb at.slot (hyper s) (λ e. below (e ∙ sym fits.period))

    pub tried : (q : Search) (t' : List ℕ) (choice : Choice) → at.choice ≡ Some choice → Tries s (machine_of rows.count at t a) (machine_of rows.count q t' a)
        → Stepping s room (machine_of rows.count at t a) rows.count q None t' a
    unfolding machine_of Gives idle giving
    tried q t' choice c e = record {
      reached = giving machine.going (machine_of rows.count q t' a);
      took = tries short (rw c (number-few choice)) e;
      given = refl;
    }

    module _ (none : at.choice ≡ None) where
      pub room-full : at.recorded ≡ room → Stepping s room (machine_of rows.count at t a) rows.count at (Some (record { word = OutOfRoom; dead = at.recorded })) t a
      unfolding step_of machine_of Gives end_of idle giving
      room-full e = let w = short in record {
        reached = giving machine.no_room (machine_of rows.count at t a);
        took = once {m = machine_of rows.count at t a} {n = machine_of rows.count at t a} {t = machine.no_room} (rw (w, none, eq-eqb at.recorded room e));
        given = record { word_is = refl; counted = refl; table_is = refl; area_is = refl };
      }

      pub shuts : (q : Search) (r : Option Answer) (t' a' : List ℕ) → (at.recorded ≡ room → ⊥) → Gives rows.count q r t' a' (shut s (machine_of rows.count at t a))
          → Stepping s room (machine_of rows.count at t a) rows.count q r t' a'
      unfolding step_of machine_of shut idle giving
      shuts q r t' a' m e = let w = short in record {
        reached = shut s (machine_of rows.count at t a);
        took = once {m = machine_of rows.count at t a} (rw (w, none, ne_eqb at.recorded room m));
        given = e;
      }

pub ruleset step_laws = (may-try, may-record, list-whole, tried, room-full, shuts)
