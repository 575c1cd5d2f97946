-- The search repeated to its end: what the loop keeps, what each step needs, and what the last one gives.
use mathlib.Core.Path.{◌≡◌, refl, sym, ap, ◌∙◌}
use mathlib.Core.Logic.{◌⊎◌, inl, inr}
use mathlib.Core.Bool.{true, false}
use mathlib.Core.List.{List}
use Prim.Native.Nat.{ℕ, ◌≤◌, ◌<◌}
use native.Mathlib.Omega.{arith}
use borrow.Author.Tests.{le-ltb}
use Rattle.std.specs.Prelude.{Some, None}
use lib.Dec.{eqb}
use lib.ListN.{length, replicate}
use Rattle.rules.specs.Tasks as model
use Rattle.rules.specs.Tasks.{Fit}
use Rattle.rules.specs.Hyper.{hyper}
use Rattle.rules.specs.Positions.{idle}
use Rattle.rules.proofs.Laws.{true-T}
use Rattle.rules.proofs.Lists.{clash-bool}
use Rattle.rules.proofs.Plan.Ends.{left}
use Rattle.planner.specs.declared.Word.{Word}
use Rattle.planner.specs.declared.Word.TheVariants.{Schedule, Infeasible, OutOfRoom}
use Rattle.planner.specs.declared.Answer.{Answer}
use Rattle.planner.specs.declared.search.Choice as choices
use Rattle.planner.specs.declared.search.Choice.TheVariants.{Task}
use Rattle.planner.specs.declared.search.Search.{Search}
use Rattle.planner.specs.declared.rows.Rows.{Rows}
use Rattle.planner.specs.Rows.{row_tasks}
use Rattle.planner.specs.Machine as machine
use Rattle.planner.specs.Machine.{Machine, is_going, giving, leads_on, pushed, passed_over, step_of, Tries, adds, passes, spent, Took, once, tries, Reaches, ends, steps, opened}
use Rattle.planner.specs.Views.{number_of, number_in, machine_of, Gives, Ends, Stepping, Fits, Opening, end_of, Ran}
use Rattle.planner.proofs.Places.{rows-length, take-replicate}
use Rattle.planner.proofs.Searching.{Setting, Choice, Searching, opened-searching, step-searching, step_falls}
use Rattle.planner.proofs.Steps.{number-few}
use Rattle.planner.proofs.Bounds.{room-holds, area-length}

over : (w : Word) → is_going (end_of w) ≡ false
unfolding is_going end_of
over Schedule = refl
over Infeasible = refl
over OutOfRoom = refl

-- ── choices tried are steps ─────────────────────────────────────────────────

module _ (s : List model.Task) (K : ℕ) where
  add_step : (m : Machine) → eqb m.slot (hyper s) ≡ false → m.choice ≤ idle → leads_on s m ≡ true → step_of s K m ≡ giving machine.going (pushed s m)
  unfolding step_of
  add_step m b k e = rw (b, le-ltb idle m.choice k, e)

  pass_step : (m : Machine) → eqb m.slot (hyper s) ≡ false → m.choice ≤ idle → leads_on s m ≡ false → step_of s K m ≡ giving machine.going (passed_over s m)
  unfolding step_of
  pass_step m b k e = rw (b, le-ltb idle m.choice k, e)

module _ (s : List model.Task) (K : ℕ) (table area : List ℕ) (S : Setting s K table area) where
  abbrev left_of : Machine → ℕ
  left_of m = left K (hyper s) m.recorded m.slot m.choice

  -- what a step of the code keeps: the search goes on soundly, with less left, and its ends are those of the search before it
  record Kept (m n : Machine) : Type 0 where
    pub good : Searching s K table area n
    pub less : left_of n ≤ left_of m
    pub back : (e : machine.Status) (o : Machine) → Reaches s K n e o → Reaches s K m e o

  one : (m n : Machine) → step_of s K m ≡ giving machine.going n → Searching s K table area m → Kept m n
  one m n e G = let f = step_falls s K table area S m n e G in record { good = step-searching s K table area S m n e G; less = omega arith; back = λ w o r. steps e r }

  both : (m n o : Machine) → Kept m n → Kept n o → Kept m o
  both m n o a b = let x = a.less in let y = b.less in record { good = b.good; less = omega arith; back = λ w z r. a.back w z (b.back w z r) }

  trials : (m n : Machine) → Tries s m n → eqb m.slot (hyper s) ≡ false → Searching s K table area m → Kept m n
  unfolding passed_over
  trials m n (adds k e) b G = one m (pushed s m) (add_step s K m b k e) G
  trials m n (passes k e r) b G =
      let u = one m (passed_over s m) (pass_step s K m b k e) G in
      both m (passed_over s m) n u (trials (passed_over s m) n r b u.good)
  trials m n (spent k) b G = record { good = G; less = omega arith; back = λ w o r. r }

  -- where a choice is left to try, something is done
  some-trials : (m n : Machine) → Tries s m n → m.choice ≤ idle → eqb m.slot (hyper s) ≡ false → Searching s K table area m → left_of n < left_of m
  unfolding passed_over
  some-trials m n (adds k e) c b G = step_falls s K table area S m (pushed s m) (add_step s K m b k e) G
  some-trials m n (passes k e r) c b G =
      let f = step_falls s K table area S m (passed_over s m) (pass_step s K m b k e) G in
      let u = one m (passed_over s m) (pass_step s K m b k e) G in
      let v = (trials (passed_over s m) n r b u.good).less in
      omega arith
  some-trials m n (spent k) c b G = let z : ⊥ = omega arith in absurd z

  going_on : (m n : Machine) → Took s K m machine.going n → Searching s K table area m → Kept m n × (left_of n < left_of m)
  going_on m n (once e) G = (one m n e G, step_falls s K table area S m n e G)
  going_on m n (tries b k r) G = (trials m n r b G, some-trials m n r k b G)

-- ── the loop ────────────────────────────────────────────────────────────────

module _ (rows : Rows) (h K : ℕ) (t₀ a₀ : List ℕ) where
  abbrev s : List model.Task
  s = row_tasks rows

  -- what is reached from the search as it stands is reached from its start
  pub record Underway (t a : List ℕ) (at : Search) : Type 0 where
    pub opening : Opening rows h K t₀ a₀
    pub table : length t ≡ length t₀
    pub area : length a ≡ length a₀
    pub good : Searching s K t₀ a₀ (machine_of rows.count at t a)
    pub back : (e : machine.Status) (o : Machine) → Reaches s K (machine_of rows.count at t a) e o → Reaches s K (opened s t₀ a₀) e o

  setting : Opening rows h K t₀ a₀ → Setting s K t₀ a₀
  setting O =
      let l = rows-length rows in let f = rows.few in let p = O.period in let w = O.long in let x = O.some in
      record { fit = O.fit; some-task = omega arith; few = omega arith; begun = true-T _ O.begun; wide = omega arith; room_is = O.room_is }

  begun-is : machine_of rows.count (record { slot = 0; progress = replicate 8 0; choice = Some (Task 0); recorded = 0 }) t₀ a₀ ≡ opened s t₀ a₀
  unfolding machine_of opened
  begun-is = ap {B = Machine} (λ p. record { slot = 0; progress = p; choice = 0; recorded = 0; table = t₀; area = a₀ }) (take-replicate rows.count 8 0 rows.few ∙ rw (rows-length rows))

  pub underway-start : Opening rows h K t₀ a₀ → Underway t₀ a₀ (record { slot = 0; progress = replicate 8 0; choice = Some (Task 0); recorded = 0 })
  underway-start O =
      let b = begun-is in
      record { opening = O; table = refl; area = refl; good = rw b (opened-searching s K t₀ a₀ (setting O)); back = λ e o r. rw b at r }

  module _ (t a : List ℕ) (at : Search) (U : Underway t a at) where
    pub step_fits : Fits rows h K at t a
    unfolding machine_of Choice idle
    step_fits =
        let O = U.opening in
        let p = O.period in
        let w = O.long in
        let z = U.table in
        let l = rows-length rows in
        let b = U.good.below in
        record {
          period = p;
          few = O.few;
          slots = omega arith;
          long = omega arith;
          choices = λ c e. tried c (rw (l, e) at U.good.choices);
          records = U.good.roomy;
          holds = rw (U.area, O.room_is) (rw l at (room-holds s a₀));
        }
      where
        tried : (c : choices.Choice) → (number_of c < rows.count) ⊎ ((number_of c ≡ 255) ⊎ (number_of c ≡ 256)) → (number_of c < rows.count) ⊎ (number_of c ≡ 255)
        tried c (inl h) = inl h
        tried c (inr (inl e)) = inr e
        tried c (inr (inr e)) = let k = number-few c in let z : ⊥ = omega arith in absurd z

    module _ (t' a' : List ℕ) where
      went : (on : Search) → Stepping s K (machine_of rows.count at t a) rows.count on None t' a' → Took s K (machine_of rows.count at t a) machine.going (machine_of rows.count on t' a')
      unfolding Gives giving
      went on did = rw did.given at did.took

      pub underway-step : (on : Search) → Stepping s K (machine_of rows.count at t a) rows.count on None t' a' → Underway t' a' on
      unfolding machine_of
      underway-step on did =
          let S = setting U.opening in
          let m = machine_of rows.count on t' a' in
          let k = (going_on s K t₀ a₀ S (machine_of rows.count at t a) m (went on did) U.good).0 in
          record {
            opening = U.opening;
            table = k.good.size;
            area = area-length s K t₀ a₀ S m k.good;
            good = k.good;
            back = λ w o r. U.back w o (k.back w o r);
          }

      pub step_less : (on : Search) → Stepping s K (machine_of rows.count at t a) rows.count on None t' a'
          → left K h on.recorded on.slot (number_in on.choice) < left K h at.recorded at.slot (number_in at.choice)
      unfolding machine_of
      step_less on did = rw U.opening.period (going_on s K t₀ a₀ (setting U.opening) (machine_of rows.count at t a) (machine_of rows.count on t' a') (went on did) U.good).1

      -- a step that does not go on ends the run
      pub stops : (on : Search) (w : Answer) → Stepping s K (machine_of rows.count at t a) rows.count on (Some w) t' a' → Ran s K (opened s t₀ a₀) (end_of w.word) w.dead t' a'
      unfolding Gives is_going
      stops on w did =
          let g : Ends w t' a' did.reached = did.given in
          record {
            last = did.reached.machine;
            reaches = U.back (end_of w.word) did.reached.machine (stop (rw g.word_is at did.took) (over w.word));
            counted = g.counted;
            table_is = g.table_is;
            area_is = g.area_is;
          }
        where
          stop : {m o : Machine} {v : machine.Status} → Took s K m v o → is_going v ≡ false → Reaches s K m v o
          stop (once r) i = ends r i
          stop (tries b c r) i = clash-bool (sym i)
