-- Players that condition 3 refutes.
use mathlib.Core.Path.{◌≡◌, refl, sym, ap, ◌∙◌}
use mathlib.Core.Logic.{◌⊎◌, inl, inr}
use mathlib.Core.Bool.{Bool, true, false, cond}
use mathlib.Core.List.{List}
use Prim.Native.Nat.{ℕ, zero, suc, ◌+◌, ◌*◌, ◌≤◌, ◌<◌}
use native.Mathlib.Omega.{arith}
use borrow.Author.Tests.{ne_eqb, eqb-true, le-ltb}
use lib.Dec.{ltb, eqb}
use lib.ListN.{length, get_or, replicate, length-replicate, get_or-replicate}
use Rattle.rules.specs.Lists.{tabulate}
use Rattle.rules.specs.Tasks.{Task, no_task, written, open_tasks}
use Rattle.rules.specs.Hyper.{hyper, lcm, gcd, gcd_in, open_hyper}
use Rattle.rules.specs.Positions.{idle, open_positions}
use Rattle.rules.specs.Choices.{live_from, Schedule}
use Rattle.rules.specs.Jobs.{open_jobs}
use Rattle.rules.specs.Player.{fresh, tick, open_player}
use Rattle.rules.specs.Observer.{Phase, in_step, over, opening, heard_in, heard, slot_in, slot_passes, watched, open_observer}
use Rattle.rules.specs.Condition3.{report_on, gets_slot, job_seen, entry, OneEach, AnyPlayer, state_at, out_at, Obeys, open_condition3}
use Rattle.rules.specs.Impostors.{idler, untouched, while_first, first_jobs_only, blind, generous, hasty, nothing, single, parted, long, both, open_impostors}

-- ── the players ─────────────────────────────────────────────────────────────

-- ── a job that gets no slot before its deadline refutes condition 3 ─────────

untold : (τ : Task) (rep : ℕ → ℕ) (gets : ℕ → Bool) (a n : ℕ) → ((m : ℕ) → m < n → gets (a + m) ≡ false) → ((m : ℕ) → m < n → rep (suc (a + m)) ≡ 0) → watched τ rep gets a n ≡ opening
unfolding watched heard heard_in slot_passes slot_in opening
untold τ rep gets a zero unserved r = refl
untold τ rep gets a (suc n) unserved r = rw (untold τ rep gets a n (λ m h. unserved m (omega arith)) (λ m h. r m (omega arith)), unserved n (omega arith), r n (omega arith)) refl

nothing-each : (s : List Task) → OneEach s (nothing s)
unfolding OneEach nothing
nothing-each s t = length-replicate (length s) 0

nothing-on : (s : List Task) (j t : ℕ) → j < length s → report_on (nothing s) j t ≡ 0
unfolding report_on nothing
nothing-on s j t h = get_or-replicate (length s) j 0 0 h

-- whatever the player, the set and the table: if some job gets no slot before its deadline though nothing is reported, it does not obey
pub starves : (s : List Task) (table : List ℕ) (P : AnyPlayer) (j k : ℕ) → j < length s
    → ((n : ℕ) → n < (get_or s j no_task).deadline → gets_slot (out_at P (nothing s)) j (k * (get_or s j no_task).period + n) ≡ false)
    → ¬ Obeys s table P
unfolding job_seen opening
starves s table P j k h unserved O =
    let w : job_seen s (nothing s) (out_at P (nothing s)) j k (get_or s j no_task).deadline ≡ opening =
    untold (get_or s j no_task) (report_on (nothing s) j) (gets_slot (out_at P (nothing s)) j) (k * (get_or s j no_task).period) (get_or s j no_task).deadline unserved
    (λ m l. nothing-on s j (suc (k * (get_or s j no_task).period + m)) h) in
    let e = (O.condition (nothing s) (nothing-each s)).finishes j h k (ap (λ x. x.keeps) w) in
    let f : ◌≡◌ {A = Phase} in_step over = sym (ap (λ x. x.phase) w) ∙ e in
    let z : ◌≡◌ {A = ℕ} 0 1 = cc in omega arith

-- ── the three ───────────────────────────────────────────────────────────────

-- for every set of some task and every table
pub idler-refuted : (s : List Task) (table : List ℕ) → 0 < length s → length s ≤ idle → ¬ Obeys s table (idler s)
unfolding gets_slot out_at
idler-refuted s table h small = starves s table (idler s) 0 0 h (λ n l. ne_eqb idle 0 (λ e. omega arith))

time-is : (s : List Task) (table : List ℕ) (reports : ℕ → List ℕ) (t : ℕ) → (state_at (first_jobs_only s table) reports t).0 ≡ t
unfolding state_at
time-is s table reports zero = refl
time-is s table reports (suc t) = ap suc (time-is s table reports t)

-- for every set of some task and every table: the second job of the first task gets nothing
pub first_jobs_only-refuted : (s : List Task) (table : List ℕ) → 0 < length s → length s ≤ idle → ¬ Obeys s table (first_jobs_only s table)
unfolding gets_slot out_at while_first
first_jobs_only-refuted s table h small = starves s table (first_jobs_only s table) 0 1 h (λ n l. rw (time-is s table (nothing s) (1 * (get_or s 0 no_task).period + n)) (go n (tick s table (state_at (first_jobs_only s table) (nothing s) (1 * (get_or s 0 no_task).period + n)).1 (nothing s (1 * (get_or s 0 no_task).period + n))).runner))
  where
    idle-not : eqb idle 0 ≡ false
    idle-not = ne_eqb idle 0 (λ e. omega arith)

    pick : (b : Bool) (r : ℕ) → eqb r 0 ≡ false → eqb (cond b r idle) 0 ≡ false
    pick true r e = e
    pick false r e = idle-not

    go : (n r : ℕ) → eqb (cond (ltb (1 * (get_or s 0 no_task).period + n) (get_or s r no_task).period) r idle) 0 ≡ false
    go n zero = rw (le-ltb (1 * (get_or s 0 no_task).period + n) (get_or s 0 no_task).period (omega arith)) idle-not
    go n (suc r) = pick (ltb (1 * (get_or s 0 no_task).period + n) (get_or s (suc r) no_task).period) (suc r) (ne_eqb (suc r) 0 (λ e. omega arith))

stays : (s : List Task) (table : List ℕ) (reports : ℕ → List ℕ) (t : ℕ) → state_at (untouched s table) reports t ≡ fresh s
unfolding state_at
stays s table reports zero = refl
stays s table reports (suc t) = stays s table reports t

-- for every set of two tasks or more and every table: where nothing is reported every slot goes to one task, or to none
pub untouched-refuted : (s : List Task) (table : List ℕ) → 1 < length s → ¬ Obeys s table (untouched s table)
unfolding gets_slot out_at nothing
untouched-refuted s table h = go (eqb runs 0) refl
  where
    runs : ℕ
    runs = (tick s table (fresh s) (replicate (length s) 0)).runner

    never : (j : ℕ) → eqb runs j ≡ false → (t : ℕ) → eqb (tick s table (state_at (untouched s table) (nothing s) t) (replicate (length s) 0)).runner j ≡ false
    never j e t = rw (stays s table (nothing s) t) e

    go : (b : Bool) → eqb runs 0 ≡ b → ¬ Obeys s table (untouched s table)
    go true e = starves s table (untouched s table) 1 0 h (λ n l. never 1 (let z = eqb-true runs 0 e in ne_eqb runs 1 (λ y. omega arith)) (0 * (get_or s 1 no_task).period + n))
    go false e = starves s table (untouched s table) 0 0 (omega arith) (λ n l. never 0 e (0 * (get_or s 0 no_task).period + n))

pub parted-schedule : Schedule single parted
unfolding single parted open_hyper open_tasks open_positions live_from
parted-schedule = record { live = record { at_start = tt; after = tt }; long = refl }

one-task : 0 < length single
unfolding single
one-task = omega arith

within-period : 2 < (get_or single 0 no_task).period
unfolding single
within-period = omega arith

-- where nothing is reported it gives the first step, of one slot, a second one
blind-gets : gets_slot (out_at (blind single parted) (nothing single)) 0 (0 * (get_or single 0 no_task).period + 2) ≡ true
unfolding open_condition3 open_impostors open_hyper
blind-gets = refl

blind-second : ((job_seen single (nothing single) (out_at (blind single parted) (nothing single)) 0 0 2).got ≡ 1) × ((job_seen single (nothing single) (out_at (blind single parted) (nothing single)) 0 0 2).step ≡ 0)
unfolding open_condition3 open_observer open_impostors open_hyper idle
blind-second = (refl, refl)

first_step : written (get_or single 0 no_task) 0 ≡ 1
unfolding written single
first_step = refl

pub blind-refuted : ¬ Obeys single parted (blind single parted)
blind-refuted O =
    let l = (O.condition (nothing single) (nothing-each single)).not_more 0 one-task 0 2 within-period blind-gets in
    let m = rw (blind-second.1, blind-second.0, first_step) at l in
    omega arith

-- it gives the wait's slot to the task that waits
generous-runs : (out_at (generous single parted) (nothing single) 1).runner ≡ 0
unfolding open_impostors out_at state_at open_player open_jobs tabulate open_tasks open_hyper open_positions
generous-runs = refl

idle-entry : entry single parted 1 ≡ 255
unfolding entry single parted hyper lcm gcd gcd_in
idle-entry = refl

pub generous-refuted : ¬ Obeys single parted (generous single parted)
unfolding idle
generous-refuted O = go ((O.condition (nothing single) (nothing-each single)).own_slots 1)
  where
    go : ((out_at (generous single parted) (nothing single) 1).runner ≡ 255) ⊎ (((out_at (generous single parted) (nothing single) 1).runner < length single) × ((out_at (generous single parted) (nothing single) 1).runner ≡ entry single parted 1)) → ⊥
    go (inl e) = let z : ◌≡◌ {A = ℕ} 0 255 = sym generous-runs ∙ e in omega arith
    go (inr e) = let z : ◌≡◌ {A = ℕ} 0 255 = sym generous-runs ∙ e.1 ∙ idle-entry in omega arith

pub both-schedule : Schedule long both
unfolding long both open_hyper open_tasks open_positions live_from
both-schedule = record { live = record { at_start = tt; after = tt }; long = refl }

-- one report of 0 for the one slot it got, then of 0 again: within the pattern, and not over
hasty-leaves : ((job_seen long (nothing long) (out_at (hasty long both) (nothing long)) 0 0 (get_or long 0 no_task).deadline).keeps ≡ true)
    × ((job_seen long (nothing long) (out_at (hasty long both) (nothing long)) 0 0 (get_or long 0 no_task).deadline).phase ≡ in_step)
unfolding open_condition3 open_observer open_tasks open_impostors open_player open_jobs tabulate open_hyper open_positions
hasty-leaves = (refl, refl)

some-task : 0 < length long
unfolding long
some-task = omega arith

pub hasty-refuted : ¬ Obeys long both (hasty long both)
hasty-refuted O =
    let e = (O.condition (nothing long) (nothing-each long)).finishes 0 some-task 0 hasty-leaves.0 in
    let f : ◌≡◌ {A = Phase} in_step over = sym hasty-leaves.1 ∙ e in
    let z : ◌≡◌ {A = ℕ} 0 1 = cc in omega arith
