-- What a slot does to a task in the code's terms, and what the look ahead keeps, from the last task down.
use mathlib.Core.Path.{◌≡◌, refl, sym, ◌∙◌}
use mathlib.Core.Logic.{◌⊎◌, inl, inr}
use mathlib.Core.Bool.{Bool, true, false, not, cond}
use mathlib.Core.List.{List, map}
use Rattle.std.specs.Prelude.{Option}
use Prim.Native.Nat.{ℕ, zero, suc, ◌+◌, ◌-◌, ◌*◌, ◌%◌, ◌≤◌, ◌<◌}
use native.Mathlib.Numerals.{add-one}
use native.Mathlib.Omega.{arith}
use borrow.Author.Tests.{eq-eqb, ne_eqb, not-true, not-false}
use lib.Dec.{eqb}
use mir.Syntax.{w16}
use mir.Val.{Fits, bool_byte}
use lib.ListN.{length-map, length, get_or, take, drop, set, length-set, length-drop, drop_of_length-le}
use lib.Seq.{map-set, drop-cons, length-take-le, get_or-take, get_or-set_same, get_or-set_other, ext_get_or}
use Rattle.rules.specs.Tasks.{Task, no_task, span, standing, done, is_ready, is_done}
use Rattle.rules.specs.Positions.{idle, moved, passed, ended, in_time}
use Rattle.rules.proofs.Laws.{le-or-lt, done_at}
use Rattle.rules.proofs.Run.Reach.{ended-length, ended_at}
use Rattle.tasks.specs.declared.Standing as code
use Rattle.tasks.specs.declared.Standing.TheVariants.{Ready, Waiting, Done}
use Rattle.tasks.specs.Views.{standing_of}
use Rattle.tasks.proofs.OneTask.{undone-below}
use Rattle.tasks.proofs.Slotwise.{starts-full}
use Rattle.tasks.specs.declared.timed.Timed.{Timed}
use Rattle.planner.specs.declared.rows.Rows.{Rows}
use Rattle.planner.specs.Rows.{task_at, row_tasks}
use Rattle.planner.specs.Marks.{mark}
use Rattle.tasks.specs.Slots.{onward, well_at, well_after}
use Rattle.tasks.specs.Timed.{timed_task}
use Rattle.tasks.proofs.Timing.{well-after, whole-is}
use Rattle.planner.specs.Ahead.{stayed, gone, claim, claimed, one_more, urgent_in, IsWay, Ahead}
use Rattle.planner.proofs.Marks.{mark-byte}
use Rattle.planner.proofs.Places.{rows-length, row_at, row_is}

-- ── one task ────────────────────────────────────────────────────────────────

-- progress that is not done is small
module _ (τ : Timed) (p : ℕ) (k : code.Standing) (stands : standing_of k ≡ standing (timed_task τ) p) where
  below : is_done (standing (timed_task τ) p) ≡ false → Fits w16 (p + 1)
  unfolding span timed_task
  below e = let s = τ.small in let w = τ.whole in let u = undone-below (timed_task τ) p e in omega arith

  pub below-ready : k ≡ Ready → Fits w16 (p + 1)
  unfolding is_done standing_of
  below-ready h = below (rw (← stands, h))

  pub below_waiting : k ≡ Waiting → Fits w16 (p + 1)
  unfolding is_done standing_of
  below_waiting h = below (rw (← stands, h))

module _ (t : ℕ) (τ : Task) (p since : ℕ) (k : code.Standing) (stands : standing_of k ≡ standing τ p) (e : since ≡ suc (t % τ.period)) where
  well-at : (q : ℕ) → well_at since τ q ≡ well_after t τ q
  well-at q = rw e (well-after t τ q)

  onward-at : (q : ℕ) → cond (eqb since τ.period) 0 q ≡ onward t τ q
  unfolding onward
  onward-at q = rw (e, starts-full t τ)

  pub way-ready : k ≡ Ready → (well : Bool) → well ≡ well_at since τ p → (stay : ℕ) → stay ≡ cond (eqb since τ.period) 0 p
      → (go : ℕ) → go ≡ cond (well_at since τ (p + 1)) (suc (cond (eqb since τ.period) 0 (p + 1))) 0 → IsWay t τ p false well stay go
  unfolding stayed moved gone is_ready standing_of
  way-ready h well w stay f go g = record {
    rising = rw (← stands, h, eq-eqb p p refl);
    ending = rw (← stands, h) (w ∙ well-at p);
    staying = rw (← stands, h) (f ∙ onward-at p);
    going = rw (← stands, h, ← add-one p) (g ∙ rw (well-at (p + 1), onward-at (p + 1)));
  }

  pub way-waiting : k ≡ Waiting → (well : Bool) → well ≡ well_at since τ (p + 1) → (stay : ℕ) → stay ≡ cond (eqb since τ.period) 0 (p + 1) → IsWay t τ p true well stay 0
  unfolding stayed moved gone is_ready standing_of
  way-waiting h well w stay f = record {
    rising = rw (← stands, h, ne_eqb p (suc p) (λ z. omega arith));
    ending = rw (← stands, h, ← add-one p) (w ∙ well-at (p + 1));
    staying = rw (← stands, h, ← add-one p) (f ∙ onward-at (p + 1));
    going = rw (← stands, h);
  }

  pub way-done : k ≡ Done → (well : Bool) → well ≡ well_at since τ p → (stay : ℕ) → stay ≡ cond (eqb since τ.period) 0 p → IsWay t τ p false well stay 0
  unfolding stayed moved gone is_ready standing_of
  way-done h well w stay f = record {
    rising = rw (← stands, h, eq-eqb p p refl);
    ending = rw (← stands, h) (w ∙ well-at p);
    staying = rw (← stands, h) (f ∙ onward-at p);
    going = rw (← stands, h);
  }

-- once done it ends a slot as at its length
pub done-ends : (e : ℕ) (τ : Timed) (p : ℕ) (k : code.Standing) → standing_of k ≡ standing (timed_task τ) p → k ≡ Done → (w : Bool) → w ≡ well_at e (timed_task τ) τ.length → w ≡ well_at e (timed_task τ) p
unfolding well_at in_time is_done standing_of
done-ends e τ p k stands h w f =
    let d : standing (timed_task τ) τ.length ≡ done = done_at (timed_task τ) τ.length (let l = whole-is τ in omega arith) in
    f ∙ rw (d, ← stands, h)

pub ruleset way_laws = (below-ready, below_waiting)

-- ── the look ahead ──────────────────────────────────────────────────────────

-- the bit of a task
bit_is : (b : Bool) → ◌≡◌ {A = ℕ} (cond (not b) 1 0) (cond b 0 1)
bit_is true = refl
bit_is false = refl

-- one more task that does not end the slot well unchosen
claim-late : (late first i : ℕ) → first ≤ 255 → urgent_in (suc late) i ≡ claim (urgent_in late first) false i
unfolding urgent_in claim
claim-late zero first i h = refl
claim-late (suc zero) first i h = rw (ne_eqb first 256 (λ z. omega arith))
claim-late (suc (suc late)) first i h =
    let a = ne_eqb (suc (suc (suc late))) 0 (λ z. let y : ⊥ = omega arith in y) in
    let b = ne_eqb (suc (suc (suc late))) 1 (λ z. let y : ⊥ = omega arith in y) in
    let c = ne_eqb (suc (suc late)) 0 (λ z. let y : ⊥ = omega arith in y) in
    let d = ne_eqb (suc (suc late)) 1 (λ z. let y : ⊥ = omega arith in y) in
    rw (a, b, c, d)

bit_put : (m : ℕ) (b : Bool) → m * 2 + bool_byte b ≡ cond b 1 0 + 2 * m
bit_put m true = omega arith
bit_put m false = omega arith

module _ (rows : Rows) (progress : List ℕ) (slot : ℕ) where
  abbrev set-of : List Task
  set-of = row_tasks rows

  abbrev now_of : List ℕ
  now_of = take rows.count progress

  -- the tasks from place i on are looked at
  pub record Looked (i waits late first : ℕ) (stay : List ℕ) (go : List (Option ℕ)) : Type 0 where
    pub few : i ≤ rows.count
    pub eights : length rows.tasks ≡ 8
    pub eight : length progress ≡ 8
    pub long : length stay ≡ 8
    pub long' : length go ≡ 8
    pub small : waits ≤ 255
    pub rising : waits ≡ mark (drop i now_of) (drop i (ended set-of now_of idle))
    pub counted : late + i ≤ rows.count
    pub byte : first ≤ 255
    pub claims : urgent_in late first ≡ claimed slot i (drop i set-of) (drop i now_of)
    pub kept : (j : ℕ) → j < i → get_or stay j 0 ≡ get_or progress j 0
    pub staying : (j : ℕ) → i ≤ j → j < rows.count → get_or stay j 0 ≡ onward slot (get_or set-of j no_task) (stayed (get_or set-of j no_task) (get_or now_of j 0))
    pub going : (j : ℕ) → i ≤ j → j < rows.count → get_or (map one_more go) j 0 ≡ gone slot (get_or set-of j no_task) (get_or now_of j 0)

  pub looked-start : (go : List (Option ℕ)) → length rows.tasks ≡ 8 → length progress ≡ 8 → length go ≡ 8 → Looked rows.count 0 0 0 progress go
  unfolding mark claimed urgent_in
  looked-start go r e g =
      let few = rows.few in
      let l : length now_of ≡ rows.count = length-take-le rows.count progress (omega arith) in
      let m = rows-length rows in
      record {
        few = omega arith;
        eights = r;
        eight = e;
        long = e;
        long' = g;
        small = omega arith;
        rising = rw (drop_of_length-le now_of {i = rows.count} (omega arith));
        counted = omega arith;
        byte = omega arith;
        claims = rw (drop_of_length-le set-of {i = rows.count} (omega arith));
        kept = λ j h. refl;
        staying = λ j h k. let z : ⊥ = omega arith in absurd z;
        going = λ j h k. let z : ⊥ = omega arith in absurd z;
      }

  module _ (k : ℕ) (h : k < rows.count) (eight : length progress ≡ 8) where
    abbrev here : Task
    here = task_at rows.tasks k

    abbrev at-start : ℕ
    at-start = get_or progress k 0

    all-now : length now_of ≡ rows.count
    all-now = let f = rows.few in length-take-le rows.count progress (omega arith)

    same : length now_of ≡ length set-of
    same = all-now ∙ sym (rows-length rows)

    inside : k < length set-of
    inside = rw (rows-length rows) h

    now-at : get_or now_of k 0 ≡ at-start
    now-at = get_or-take rows.count progress k 0 h

    stayed-at : get_or (ended set-of now_of idle) k 0 ≡ stayed here at-start
    unfolding passed idle stayed
    stayed-at =
        let f = rows.few in
        let e : eqb 255 k ≡ false = ne_eqb 255 k (λ z. omega arith) in
        ended_at set-of now_of idle k same inside ∙ rw (row_at rows k h, now-at, e)

    mark-at : mark (drop k now_of) (drop k (ended set-of now_of idle))
        ≡ cond (eqb at-start (stayed here at-start)) 0 1 + 2 * mark (drop (suc k) now_of) (drop (suc k) (ended set-of now_of idle))
    unfolding mark
    mark-at =
        let a = all-now in
        let b = ended-length set-of now_of idle same ∙ rows-length rows in
        rw (drop-cons now_of k 0 (omega arith), drop-cons (ended set-of now_of idle) k 0 (omega arith), now-at, stayed-at)

    claimed-at : claimed slot k (drop k set-of) (drop k now_of)
        ≡ claim (claimed slot (suc k) (drop (suc k) set-of) (drop (suc k) now_of)) (well_after slot here (stayed here at-start)) k
    unfolding claimed
    claimed-at = let a = all-now in rw (drop-cons set-of k no_task inside, drop-cons now_of k 0 (omega arith), row_at rows k h, now-at)

  -- an entry of a list that is written downwards
  written : (f : ℕ → ℕ) (l : List ℕ) (k v : ℕ) → k < length l → v ≡ f k → ((j : ℕ) → suc k ≤ j → j < rows.count → get_or l j 0 ≡ f j)
      → (j : ℕ) → k ≤ j → j < rows.count → get_or (set l k v) j 0 ≡ f j
  written f l k v h e rest j a b = go (le-or-lt (suc k) j)
    where
      go : (suc k ≤ j) ⊎ (j < suc k) → get_or (set l k v) j 0 ≡ f j
      go (inl c) = get_or-set_other l k j v 0 (λ z. omega arith) ∙ rest j c b
      go (inr c) = let z : j ≡ k = omega arith in rw z (get_or-set_same l k v 0 h ∙ e)

  step : (k waits late first : ℕ) (stay : List ℕ) (go : List (Option ℕ)) (rises well : Bool) (st : ℕ) (g : Option ℕ) (w u f : ℕ) → Looked (suc k) waits late first stay go
      → IsWay slot (task_at rows.tasks k) (get_or progress k 0) rises well st (one_more g) → w ≡ cond rises 1 0 + 2 * waits
      → (u + k ≤ rows.count) × (f ≤ 255) × (urgent_in u f ≡ claim (urgent_in late first) well k) → Looked k w u f (set stay k st) (set go k g)
  step k waits late first stay go rises well st g w u f v way x y =
      let few = v.few in
      let long = v.long in
      let long' = v.long' in
      let most = rows.few in
      let h : k < rows.count = omega arith in
      let l = all-now k h v.eight in
      let q = now-at k h v.eight in
      let r = row_at rows k h in
      let m : w ≡ mark (drop k now_of) (drop k (ended set-of now_of idle)) =
      x ∙ rw (way.rising, bit_is, v.rising) (sym (mark-at k h v.eight)) in
      record {
        few = omega arith;
        eights = v.eights;
        eight = v.eight;
        long = length-set stay k st ∙ v.long;
        long' = length-set go k g ∙ v.long';
        small = let n = mark-byte (drop k now_of) (drop k (ended set-of now_of idle)) (omega (arith, length-drop k now_of)) in omega arith;
        rising = m;
        counted = y.0;
        byte = y.1;
        claims = y.2 ∙ rw (way.ending, v.claims) (sym (claimed-at k h v.eight));
        kept = λ j a. get_or-set_other stay k j st 0 (λ z. omega arith) ∙ v.kept j (omega arith);
        staying = written (λ j. onward slot (get_or set-of j no_task) (stayed (get_or set-of j no_task) (get_or now_of j 0))) stay k st (omega arith) (rw (r, q) way.staying) v.staying;
        going = rw (map-set one_more go k g) (written (λ j. gone slot (get_or set-of j no_task) (get_or now_of j 0)) (map one_more go) k (one_more g) (omega (arith, length-map go one_more)) (rw (r, q) way.going) v.going);
      }

  module _ (i waits late first : ℕ) (stay : List ℕ) (go : List (Option ℕ)) (v : Looked i waits late first stay go) (h : 0 < i)
      (r : Timed) (rises well : Bool) (st : ℕ) (g : Option ℕ) (way : IsWay slot (timed_task (get_or rows.tasks (i - 1) r)) (get_or stay (i - 1) 0) rises well st (one_more g)) where
    stepped : (u f : ℕ) → (u + (i - 1) ≤ rows.count) × (f ≤ 255) × (urgent_in u f ≡ claim (urgent_in late first) well (i - 1))
        → Looked (i - 1) (waits * 2 + bool_byte rises) u f (set stay (i - 1) st) (set go (i - 1) g)
    stepped u f y =
        let z : i ≡ suc (i - 1) = omega arith in
        let few = v.few in
        let m = rows.few in
        let l = v.eights in
        step (i - 1) waits late first stay go rises well st g (waits * 2 + bool_byte rises) u f (rw z at v) (rw (row_is rows.tasks (i - 1) r (omega arith), v.kept (i - 1) (omega arith)) at way) (bit_put waits rises) y

    pub looked-late : not well ≡ true → Looked (i - 1) (waits * 2 + bool_byte rises) (late + 1) (i - 1) (set stay (i - 1) st) (set go (i - 1) g)
    looked-late e =
        let few = v.few in let m = rows.few in let k = v.counted in
        stepped (late + 1) (i - 1) (omega arith, omega arith, rw (not-true well e, add-one late) (claim-late late first (i - 1) v.byte))

    pub looked-well : not well ≡ false → Looked (i - 1) (waits * 2 + bool_byte rises) late first (set stay (i - 1) st) (set go (i - 1) g)
    unfolding claim
    looked-well e = let k = v.counted in stepped late first (omega arith, v.byte, rw (not-false well e))

  -- the progress of the tasks from place i on is saved
  pub record Saved (i : ℕ) (was : List ℕ) : Type 0 where
    pub whole : length was ≡ 8
    pub same : (j : ℕ) → i ≤ j → j < rows.count → get_or was j 0 ≡ get_or progress j 0

  pub saved-start : (was : List ℕ) → length was ≡ 8 → Saved rows.count was
  saved-start was e = record { whole = e; same = λ j h k. let z : ⊥ = omega arith in absurd z }

  pub saved-step : (i waits late first : ℕ) (stay : List ℕ) (go : List (Option ℕ)) (was : List ℕ) → Looked i waits late first stay go → 0 < i → Saved i was → Saved (i - 1) (set was (i - 1) (get_or stay (i - 1) 0))
  saved-step i waits late first stay go was v h s =
      let few = v.few in
      let most = rows.few in
      let e = s.whole in
      record {
        whole = length-set was (i - 1) (get_or stay (i - 1) 0) ∙ e;
        same = written (λ j. get_or progress j 0) was (i - 1) (get_or stay (i - 1) 0) (omega arith) (v.kept (i - 1) (omega arith)) (λ j a b. s.same j (omega arith) b);
      }

  pub saved_end : (i : ℕ) (was : List ℕ) → length progress ≡ 8 → Saved i was → i ≤ 0 → take rows.count was ≡ now_of
  saved_end i was e s h =
      let few = rows.few in
      let d = s.whole in
      let a = length-take-le rows.count was (omega arith) in
      let b = length-take-le rows.count progress (omega arith) in
      ext_get_or 0 (take rows.count was) now_of (a ∙ sym b)
      (λ j k. get_or-take rows.count was j 0 (omega arith) ∙ s.same j (omega arith) (omega arith) ∙ sym (get_or-take rows.count progress j 0 (omega arith)))

  pub looked-end : (i waits late first : ℕ) (stay : List ℕ) (go : List (Option ℕ)) (u : ℕ) → Looked i waits late first stay go → i ≤ 0 → u ≡ urgent_in late first
      → Ahead set-of slot now_of waits u stay (map one_more go)
  looked-end i waits late first stay go u v h e =
      let z : i ≡ 0 = omega arith in
      let m = rows-length rows in
      record {
        rising = v.rising ∙ rw z;
        claims = e ∙ v.claims ∙ rw z;
        staying = λ j k. v.staying j (omega arith) (omega arith);
        going = λ j k. v.going j (omega arith) (omega arith);
      }

-- ── the tasks that have to be chosen ────────────────────────────────────────

pub urgent-none : (late first : ℕ) → late ≡ 0 → 256 ≡ urgent_in late first
unfolding urgent_in
urgent-none late first e = rw e

pub urgent-one : (late first : ℕ) → late ≡ 1 → first ≡ urgent_in late first
unfolding urgent_in
urgent-one late first e = rw e

pub urgent-more : (late first : ℕ) → (late ≡ 0 → ⊥) → (late ≡ 1 → ⊥) → 257 ≡ urgent_in late first
unfolding urgent_in
urgent-more late first e f = rw (ne_eqb late 0 e, ne_eqb late 1 f)

pub ruleset urgent_laws = (urgent-none, urgent-one, urgent-more)
