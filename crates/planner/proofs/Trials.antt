-- The choices of a slot, tried one behind the other from one look ahead.
use mathlib.Core.Path.{◌≡◌, refl, sym, ◌∙◌}
use mathlib.Core.Logic.{◌⊎◌, inl, inr}
use mathlib.Core.Bool.{Bool, true, false, not, ◌&&◌, and-false}
use mathlib.Core.List.{List, ◌∷◌}
use Prim.Native.Nat.{ℕ, zero, suc, ◌+◌, ◌-◌, ◌^◌, ◌≤◌, ◌<◌}
use native.Mathlib.Numerals.{add-one}
use native.Mathlib.Omega.{arith}
use borrow.Author.Tests.{eq-eqb, ne_eqb, eqb-true, eqb-false}
use lib.Dec.{eqb}
use lib.ListN.{length, get_or, take, set}
use lib.Seq.{length-take-le}
use Rattle.rules.specs.Tasks as model
use Rattle.rules.specs.Tasks.{no_task}
use Rattle.rules.specs.Positions.{idle, ended, next, legal}
use Rattle.rules.proofs.Lists.{and_parts}
use Rattle.std.specs.Prelude.{Option, Some, None}
use Rattle.planner.specs.declared.search.Choice.{Choice}
use Rattle.planner.specs.declared.search.Choice.TheVariants.{Task}
use Rattle.planner.specs.declared.search.Search.{Search}
use Rattle.planner.specs.declared.rows.Rows.{Rows}
use Rattle.planner.specs.Rows.{row_tasks}
use Rattle.planner.specs.Marks.{mark}
use Rattle.planner.specs.Area.{among}
use Rattle.planner.specs.Ahead.{Ahead, leads_by, leads_task, gone, First, hit, none, led_to}
use Rattle.planner.specs.Machine.{Machine, following, here, leads_on, pushed, passed_over, Tries, adds, passes, spent}
use Rattle.planner.specs.Views.{number_of, machine_of, Trying}
use Rattle.planner.proofs.Marks.{mark-byte}
use Rattle.planner.proofs.Steps.{behind-idle, behind-last, behind-task}
use Rattle.planner.proofs.Places.{rows-length}
use Rattle.planner.proofs.Firsts.{leads-some}
use Rattle.planner.proofs.Judgement.{legal-task, legal-idle, next-task, next-idle, mark-task, gone-ready}

-- the machine with another choice to try
abbrev trying : Machine → ℕ → Machine
trying m c = record { slot = m.slot; progress = m.progress; choice = c; recorded = m.recorded; table = m.table; area = m.area }

-- ── choices passed over ─────────────────────────────────────────────────────

module _ (s : List model.Task) (few : length s ≤ 8) (m o : Machine) where
  pass : (d e : ℕ) → d ≤ 255 → leads_on s (trying m d) ≡ false → e ≡ following (length s) d → Tries s (trying m e) o → Tries s (trying m d) o
  unfolding passed_over idle
  pass d e l f g t = passes l f (rw g at t)

  -- the tasks from d up to c
  pass-tasks : (k d c : ℕ) → d + k ≡ c → c < length s → ((e : ℕ) → d ≤ e → e < c → leads_on s (trying m e) ≡ false) → Tries s (trying m c) o → Tries s (trying m d) o
  pass-tasks zero d c e h f t = let z : c ≡ d = omega arith in rw z at t
  pass-tasks (suc k) d c e h f t =
      pass d (d + 1) (omega arith) (f d (omega arith) (omega arith)) (behind-task (length s) d (omega arith))
      (rw (add-one d) (pass-tasks k (suc d) c (omega arith) h (λ a i j. f a (omega arith) j) t))

  -- all tasks from d on
  pass_all : (d : ℕ) → d < length s → ((e : ℕ) → d ≤ e → e < length s → leads_on s (trying m e) ≡ false) → Tries s (trying m 255) o → Tries s (trying m d) o
  pass_all d h f t =
      let c = length s - 1 in
      pass-tasks (c - d) d c (omega arith) (omega arith) (λ e i j. f e i (omega arith)) (pass c 255 (omega arith) (f c (omega arith) (omega arith)) (behind-last (length s) c (omega arith) (omega arith)) t)

-- ── from one look ahead ─────────────────────────────────────────────────────

module _ (s : List model.Task) (n : ℕ) (count : length s ≡ n) (few : length s ≤ 8) (m : Machine) (long : length m.progress ≡ length s) (waits urgent : ℕ) (stay going : List ℕ)
    (eight : length stay ≡ 8) (A : Ahead s m.slot m.progress waits urgent stay going) where
  abbrev test : ℕ → Bool
  test = leads_task n urgent (suc m.slot) m.recorded going stay m.area

  some : (c : ℕ) → c < length s → leads_by urgent (get_or going c 0) c ≡ true → gone m.slot (get_or s c no_task) (get_or m.progress c 0) ≡ 0 → ⊥
  some c h e z = let a = leads-some urgent (get_or going c 0) c _ refl e in omega (arith, A.going c h)

  reached : (c : ℕ) → c < length s → leads_by urgent (get_or going c 0) c ≡ true → take n (set stay c (get_or going c 0 - 1)) ≡ (next s (here m) c).progress
  unfolding here
  reached c h e = rw (← count, A.going c h) (next-task s (here m) long few stay c eight A.staying h (some c h e))

  leads-is : (c : ℕ) → c < length s → leads_on s (trying m c) ≡ test c
  unfolding leads_on leads_task here
  leads-is c h = go (leads_by urgent (get_or going c 0) c) refl
    where
      judged : legal s (here m) c ≡ leads_by urgent (get_or going c 0) c
      judged = rw (A.claims, A.going c h) (legal-task s (here m) long few c h)

      go : (b : Bool) → leads_by urgent (get_or going c 0) c ≡ b
          → legal s (here m) c && not (among (suc (length s)) m.area (suc m.slot ∷ (next s (here m) c).progress) m.recorded)
          ≡ leads_by urgent (get_or going c 0) c && not (among (suc n) m.area (suc m.slot ∷ take n (set stay c (get_or going c 0 - 1))) m.recorded)
      go true e = let r = reached c h e in rw (judged, e, r, count)
      go false e = rw (judged, e)

  idle-is : leads_on s (trying m 255) ≡ eqb urgent 256 && not (among (suc n) m.area (suc m.slot ∷ take n stay) m.recorded)
  unfolding leads_on here idle
  idle-is = rw (legal-idle s (here m) long few, A.claims, ← next-idle s (here m) long few stay eight A.staying, count)

  -- the mark of a task that leads
  mark-is : (c : ℕ) → c < length s → leads_by urgent (get_or going c 0) c ≡ true → mark m.progress (ended s m.progress c) ≡ waits + 2 ^ c
  unfolding here
  mark-is c h e = mark-task s (here m) long few c h (gone-ready m.slot (get_or s c no_task) (get_or m.progress c 0) (some c h e)) ∙ rw A.rising

  -- ── the first choice that leads on ────────────────────────────────────────

  -- the machine that a task leads to
  pub add-task : (c : ℕ) → First (leads_task n urgent (suc m.slot) m.recorded going stay m.area) n m.choice (Some c)
      → Tries s m (record { slot = suc m.slot; progress = take n (led_to (Some c) going stay); choice = 0; recorded = m.recorded; table = set m.table m.slot (waits + 2 ^ c); area = m.area })
  unfolding leads_task pushed here idle led_to
  add-task c (hit from i e f) =
      let j : c < length s = rw count i in
      let l = (and_parts (leads_by urgent (get_or going c 0) c) _ e).0 in
      let r = reached c j l in
      let k = mark-is c j l in
      pass-tasks s few m _ (c - m.choice) m.choice c (omega arith) j (λ d a o. leads-is d (omega arith) ∙ f d a o)
      (rw (r, ← k) (adds {m = trying m c} (omega arith) (leads-is c j ∙ e)))

  -- idle, once no task leads on
  module _ (F : First (leads_task n urgent (suc m.slot) m.recorded going stay m.area) n m.choice None) (choices : (m.choice < n) ⊎ (m.choice ≡ 255)) where
    to-idle : (o : Machine) → Tries s (trying m 255) o → Tries s m o
    to-idle o t = go F choices
      where
        go : First (leads_task n urgent (suc m.slot) m.recorded going stay m.area) n m.choice None → (m.choice < n) ⊎ (m.choice ≡ 255) → Tries s m o
        go (none f) (inl l) = pass_all s few m o m.choice (omega arith) (λ d a b. leads-is d b ∙ f d a (omega arith)) t
        go f (inr e) = rw (← e) at t

    pub add-idle : urgent ≡ 256 → among (suc n) m.area (suc m.slot ∷ take n stay) m.recorded ≡ false
        → Tries s m (record { slot = suc m.slot; progress = take n stay; choice = 0; recorded = m.recorded; table = set m.table m.slot waits; area = m.area })
    unfolding pushed here idle
    add-idle e f =
        to-idle _ (rw (A.rising, ← count, next-idle s (here m) long few stay eight A.staying) (adds {m = trying m 255} (omega arith) (idle-is ∙ rw (eq-eqb urgent 256 e, f))))

    all-tried : leads_on s (trying m 255) ≡ false → Tries s m (trying m 256)
    unfolding idle
    all-tried e = to-idle _ (pass s few m _ 255 256 (omega arith) e (behind-idle (length s) 255 refl) (spent {m = trying m 256} (omega arith)))

    pub idle-seen : among (suc n) m.area (suc m.slot ∷ take n stay) m.recorded ≡ true → Tries s m (trying m 256)
    idle-seen f = all-tried (idle-is ∙ rw f (and-false (eqb urgent 256)))

    pub idle-not : (urgent ≡ 256 → ⊥) → Tries s m (trying m 256)
    idle-not e = all-tried (idle-is ∙ rw (ne_eqb urgent 256 e))

-- ── in the code's terms ─────────────────────────────────────────────────────

module _ (rows : Rows) (at : Search) (choice : Choice) (table area : List ℕ) (R : Trying rows at choice table area) (waits urgent : ℕ) (stay going : List ℕ)
    (A : Ahead (row_tasks rows) at.slot (take rows.count at.progress) waits urgent stay going) (r : Option ℕ)
    (F : First (leads_task rows.count urgent (at.slot + 1) at.recorded going stay area) rows.count (number_of choice) r) (whole : 8 ≡ length at.progress) (eight : 8 ≡ length stay)
    (on : List ℕ) (led : on ≡ led_to r going stay) where
  abbrev start : Machine
  start = record { slot = at.slot; progress = take rows.count at.progress; choice = number_of choice; recorded = at.recorded; table = table; area = area }

  count : length (row_tasks rows) ≡ rows.count
  count = rows-length rows

  few : length (row_tasks rows) ≤ 8
  few = rw (rows-length rows) rows.few

  long : length (take rows.count at.progress) ≡ length (row_tasks rows)
  long = let f = rows.few in length-take-le rows.count at.progress (omega arith) ∙ sym (rows-length rows)

  first-is : (k : Option ℕ) → r ≡ k → First (leads_task rows.count urgent (suc at.slot) at.recorded going stay area) rows.count (number_of choice) k
  first-is k e = rw (e, add-one at.slot) at F

  module _ (c : ℕ) (some : r ≡ Some c) where
    pub task-few : c < 8
    task-few = go (first-is (Some c) some)
      where
        go : First (leads_task rows.count urgent (suc at.slot) at.recorded going stay area) rows.count (number_of choice) (Some c) → c < 8
        go (hit a b e f) = let k = rows.few in omega arith

    pub mark-fits : (b : ℕ) → b ≡ 2 ^ c → waits + b < 256
    unfolding leads_task
    mark-fits b q = go (first-is (Some c) some)
      where
        go : First (leads_task rows.count urgent (suc at.slot) at.recorded going stay area) rows.count (number_of choice) (Some c) → waits + b < 256
        go (hit a j e f) =
            let i : c < length (row_tasks rows) = rw (rows-length rows) j in
            let l = (and_parts (leads_by urgent (get_or going c 0) c) _ e).0 in
            rw (q, ← mark-is (row_tasks rows) rows.count count few start long waits urgent stay going (sym eight) A c i l)
            (mark-byte (take rows.count at.progress) _ (omega (arith, few, long)))

    pub adds-task : (b mark : ℕ) → b ≡ 2 ^ c → mark ≡ waits + b
        → Tries (row_tasks rows) (machine_of rows.count at table area) (machine_of rows.count (record { slot = at.slot + 1; progress = on; choice = Some (Task 0); recorded = at.recorded }) (set table at.slot mark) area)
    unfolding machine_of
    adds-task b mark q e = rw (R.tries, add-one at.slot, led, some, e, q) (add-task (row_tasks rows) rows.count count few start long waits urgent stay going (sym eight) A c (first-is (Some c) some))

  module _ (no : r ≡ None) where
    on-is : on ≡ stay
    unfolding led_to
    on-is = led ∙ rw no

    seen-is : (q b : Bool) → q ≡ among (rows.count + 1) area ((at.slot + 1) ∷ take rows.count on) at.recorded → q ≡ b → among (suc rows.count) area (suc at.slot ∷ take rows.count stay) at.recorded ≡ b
    seen-is q b e g = rw (add-one rows.count, add-one at.slot, on-is) at (sym e) ∙ g

    pub adds-idle : (q : Bool) (mark : ℕ) (free : Bool) → free ≡ eqb urgent 256 → free ≡ true → q ≡ among (rows.count + 1) area ((at.slot + 1) ∷ take rows.count on) at.recorded → q ≡ false → mark ≡ waits
        → Tries (row_tasks rows) (machine_of rows.count at table area) (machine_of rows.count (record { slot = at.slot + 1; progress = on; choice = Some (Task 0); recorded = at.recorded }) (set table at.slot mark) area)
    unfolding machine_of
    adds-idle q mark free u w e g i =
        rw (R.tries, add-one at.slot, on-is, i) (add-idle (row_tasks rows) rows.count count few start long waits urgent stay going (sym eight) A (first-is None no) R.choices (eqb-true urgent 256 (sym u ∙ w)) (seen-is q false e g))

    pub spent_seen : (was : List ℕ) → take rows.count was ≡ take rows.count at.progress → (q : Bool) → q ≡ among (rows.count + 1) area ((at.slot + 1) ∷ take rows.count on) at.recorded → q ≡ true
        → Tries (row_tasks rows) (machine_of rows.count at table area) (machine_of rows.count (record { slot = at.slot; progress = was; choice = None; recorded = at.recorded }) table area)
    unfolding machine_of
    spent_seen was same q e g = rw (R.tries, same) (idle-seen (row_tasks rows) rows.count count few start long waits urgent stay going (sym eight) A (first-is None no) R.choices (seen-is q true e g))

    pub spent-urgent : (was : List ℕ) → take rows.count was ≡ take rows.count at.progress → (free : Bool) → free ≡ eqb urgent 256 → free ≡ false
        → Tries (row_tasks rows) (machine_of rows.count at table area) (machine_of rows.count (record { slot = at.slot; progress = was; choice = None; recorded = at.recorded }) table area)
    unfolding machine_of
    spent-urgent was same free u w = rw (R.tries, same) (idle-not (row_tasks rows) rows.count count few start long waits urgent stay going (sym eight) A (first-is None no) R.choices (eqb-false urgent 256 (sym u ∙ w)))
