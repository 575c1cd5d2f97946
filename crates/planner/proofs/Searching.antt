-- The search machine keeps the search's invariant, and comes nearer its end with each step.
use mathlib.Core.Path.{◌≡◌, refl, sym, ap, ◌∙◌}
use mathlib.Core.Logic.{◌⊎◌, inl, inr, ◌≢◌}
use mathlib.Core.Bool.{Bool, true, false, cond}
use mathlib.Core.List.{List, [], ◌∷◌, ◌++◌}
use Prim.Native.Nat.{ℕ, zero, suc, ◌+◌, ◌-◌, ◌*◌, ◌≤◌, ◌<◌}
use native.Mathlib.Omega.{arith}
use native.Mathlib.Numerals.{add-one}
use borrow.Author.Tests.{ltb-true, ltb-false, eqb-true, eqb-false, not-true, not-false}
use lib.Dec.{T, ltb, eqb}
use lib.ListN.{length, get_or, take, drop, length-append, length-set, get_or-replicate}
use lib.Seq.{take_at, get_or_at, get_or-take, take-take, take-suc-set, drop-set-lt}
use Rattle.rules.specs.Lists.{In, is_zero}
use Rattle.rules.specs.Tasks.{Fit, Task, span, no_task}
use Rattle.rules.specs.Hyper.{hyper}
use Rattle.rules.specs.Positions.{Position, idle, ended, next, legal, start, live_position}
use Rattle.rules.specs.Choices.{run, live_from}
use Rattle.rules.specs.Planner.{records, room}
use Rattle.rules.proofs.Lists.{clash-01}
use Rattle.rules.proofs.Laws.{T_and, T_true, true-T, le-or-lt}
use Rattle.rules.proofs.Run.Reach.{start-length, run_length}
use Rattle.rules.proofs.Set.Widths.{run_fits}
use Rattle.rules.proofs.Plan.Decide.{outside}
use Rattle.rules.proofs.Plan.Trail.{Inv, begin, push, skip, back, run-append, live-append, reach-slot}
use Rattle.rules.proofs.Plan.Ends.{inv-same, last-In, In-last, last-Distinct, left, left-push, left_back}
use Rattle.planner.specs.Marks.{mark, marks}
use Rattle.planner.specs.Area.{among}
use Rattle.planner.specs.Machine.{Machine, Status, going, found, failed, no_room, Stepped, following, here, leads_on, pushed, passed_over, noted, last_mark, earlier, last_choice, backed, emptied, giving, step_of, opened}
use Rattle.planner.proofs.Marks.{legal-allowed, back_is, chosen_is, marks-length, marks-last}
use Rattle.planner.proofs.Records.{among_in, among-out, records-length, records-put}

-- what the search asks of the set and of what is lent to it
pub record Setting (s : List Task) (K : ℕ) (table area : List ℕ) : Type 0 where
  pub fit : Fit s
  pub some-task : 0 < length s
  pub few : length s ≤ 8
  pub begun : T (live_position s (start s))
  pub wide : hyper s ≤ length table
  pub room_is : K ≡ room s area

-- a choice to try: a task, or idle, or none left
unfoldable pub Choice : List Task → ℕ → Type 0
Choice s c = (c < length s) ⊎ ((c ≡ idle) ⊎ (c ≡ suc idle))

-- the machine's numbers and buffers are those of a trail and of records that stand in the search's invariant
pub record Searching (s : List Task) (K : ℕ) (table area : List ℕ) (m : Machine) : Type 0 where
  pub trail : List ℕ
  pub kept : List Position
  pub inv : Inv s trail m.choice kept
  pub long : length trail ≡ m.slot
  pub below : m.slot ≤ hyper s
  pub at : m.progress ≡ (run s (start s) trail).progress
  pub marked : take m.slot m.table ≡ marks s (start s) trail
  pub beyond : drop (hyper s) m.table ≡ drop (hyper s) table
  pub size : length m.table ≡ length table
  pub many : length kept ≡ m.recorded
  pub roomy : m.recorded ≤ K
  pub area_is : m.area ≡ records kept ++ drop (m.recorded * suc (length s)) area
  pub choices : Choice s m.choice
  -- no choice is tried behind a whole list
  pub fresh : m.slot ≡ hyper s → m.choice ≡ 0

pub lt_of : (a b : ℕ) → a ≤ b → a ≢ b → a < b
lt_of a b l n = go (le-or-lt b a)
  where
    go : (b ≤ a) ⊎ (a < b) → a < b
    go (inl k) = absurd (n (omega arith))
    go (inr k) = k

run-one : (s : List Task) (v : List ℕ) (c : ℕ) → run s (start s) (v ++ c ∷ []) ≡ next s (run s (start s) v) c
unfolding run
run-one s v c = run-append s (start s) v (c ∷ [])

-- ── the next choice ─────────────────────────────────────────────────────────

-- the choices of a slot
unfoldable pub Chosen : List Task → ℕ → Type 0
Chosen s c = (c < length s) ⊎ (c ≡ idle)

pub chosen-choice : (s : List Task) (c : ℕ) → Choice s c → c ≤ idle → Chosen s c
unfolding Choice Chosen
chosen-choice s c (inl h) l = inl h
chosen-choice s c (inr (inl e)) l = inr e
chosen-choice s c (inr (inr e)) l = let z : ⊥ = omega arith in absurd z

-- a legal choice is one
pub legal-chosen : (s : List Task) → length s ≤ idle → (x : Position) (c : ℕ) → T (legal s x c) → Chosen s c
unfolding Chosen
legal-chosen s small x c t = go (le-or-lt (length s) c) (le-or-lt c idle) (le-or-lt idle c)
  where
    never : c ≢ idle → length s ≤ c → (c < length s) ⊎ (c ≡ idle)
    never n h = absurd (rw (outside s small x c h n) at t)

    go : (length s ≤ c) ⊎ (c < length s) → (c ≤ idle) ⊎ (idle < c) → (idle ≤ c) ⊎ (c < idle) → (c < length s) ⊎ (c ≡ idle)
    go (inr h) k l = inl h
    go (inl h) (inr k) l = never (λ e. omega arith) h
    go (inl h) (inl k) (inr l) = never (λ e. omega arith) h
    go (inl h) (inl k) (inl l) = inr (omega arith)

module _ (s : List Task) (small : length s ≤ idle) where
  -- no number between the tasks and idle is legal
  skips : (v : List ℕ) (R : List Position) (k d : ℕ) → d + k ≡ idle → length s ≤ d → Inv s v d R → Inv s v idle R
  skips v R zero d e l I = let q : d ≡ idle = omega arith in rw q at I
  skips v R (suc k) d e l I = skips v R k (suc d) (omega arith) (omega arith) (skip s v d R I (λ t. absurd (rw (outside s small (run s (start s) v) d l (λ q. omega arith)) at t)))

  -- what following gives: the next number, or idle behind the last task
  pub data Follows (c : ℕ) : ℕ → Type 0 where
    task : suc c < length s → Follows c (suc c)
    last : suc c ≡ length s → Follows c idle
    over : c ≡ idle → Follows c (suc idle)

  pub follows : (c : ℕ) → Chosen s c → Follows c (following (length s) c)
  unfolding Chosen following
  follows c h = go (ltb (suc c) (length s)) refl (ltb c idle) refl h
    where
      go : (a : Bool) → ltb (suc c) (length s) ≡ a → (b : Bool) → ltb c idle ≡ b → (c < length s) ⊎ (c ≡ idle) → Follows c (cond a (suc c) (cond b idle (suc idle)))
      go true p b q h = task (ltb-true (suc c) (length s) p)
      go false p true q (inl h) = let a = ltb-false (suc c) (length s) p in last (omega arith)
      go false p true q (inr e) = let a = ltb-true c idle q in let z : ⊥ = omega arith in absurd z
      go false p false q (inl h) = let a = ltb-false c idle q in let z : ⊥ = omega arith in absurd z
      go false p false q (inr e) = over e

  follows-choice : (c d : ℕ) → Follows c d → Choice s d
  unfolding Choice
  follows-choice c d (task h) = inl h
  follows-choice c d (last e) = inr (inl refl)
  follows-choice c d (over e) = inr (inr refl)

  follows-up : (c d : ℕ) → Follows c d → c < d
  follows-up c d (task h) = omega arith
  follows-up c d (last e) = omega arith
  follows-up c d (over e) = omega arith

  follows-inv : (v : List ℕ) (R : List Position) (c d : ℕ) → Follows c d → Inv s v (suc c) R → Inv s v d R
  follows-inv v R c d (task h) I = I
  follows-inv v R c d (last e) I = skips v R (idle - suc c) (suc c) (omega arith) (omega arith) I
  follows-inv v R c d (over e) I = rw (ap suc e) at I

-- ── what a step does ────────────────────────────────────────────────────────

pub data Step (s : List Task) (K : ℕ) (m : Machine) : Status → Machine → Type 0 where
  at_end : m.slot ≡ hyper s → Step s K m found m
  full : m.slot ≢ hyper s → idle < m.choice → m.recorded ≡ K → Step s K m no_room m
  spent : m.slot ≢ hyper s → idle < m.choice → m.recorded ≢ K → m.slot ≡ 0 → Step s K m failed (emptied s m)
  goes_back : m.slot ≢ hyper s → idle < m.choice → m.recorded ≢ K → m.slot ≢ 0 → Step s K m going (backed s m)
  goes_on : m.slot ≢ hyper s → m.choice ≤ idle → leads_on s m ≡ true → Step s K m going (pushed s m)
  passes : m.slot ≢ hyper s → m.choice ≤ idle → leads_on s m ≡ false → Step s K m going (passed_over s m)

step_is : (s : List Task) (K : ℕ) (m : Machine) → Step s K m (step_of s K m).status (step_of s K m).machine
unfolding step_of giving is_zero
step_is s K m = one (eqb m.slot (hyper s)) refl
  where
    Is : Stepped → Type 0
    Is q = Step s K m q.status q.machine

    on : m.slot ≢ hyper s → m.choice ≤ idle → (b : Bool) → leads_on s m ≡ b → Is (giving going (cond b (pushed s m) (passed_over s m)))
    on h k true e = goes_on h k e
    on h k false e = passes h k e

    four : m.slot ≢ hyper s → idle < m.choice → m.recorded ≢ K → (b : Bool) → eqb m.slot 0 ≡ b → Is (cond b (giving failed (emptied s m)) (giving going (backed s m)))
    four h k l true e = spent h k l (eqb-true m.slot 0 e)
    four h k l false e = goes_back h k l (eqb-false m.slot 0 e)

    three : m.slot ≢ hyper s → idle < m.choice → (b : Bool) → eqb m.recorded K ≡ b → Is (cond b (giving no_room m) (cond (eqb m.slot 0) (giving failed (emptied s m)) (giving going (backed s m))))
    three h k true e = full h k (eqb-true m.recorded K e)
    three h k false e = four h k (eqb-false m.recorded K e) (eqb m.slot 0) refl

    two : m.slot ≢ hyper s → (b : Bool) → ltb idle m.choice ≡ b
        → Is (cond b (cond (eqb m.recorded K) (giving no_room m) (cond (eqb m.slot 0) (giving failed (emptied s m)) (giving going (backed s m)))) (giving going (cond (leads_on s m) (pushed s m) (passed_over s m))))
    two h true e = three h (ltb-true idle m.choice e) (eqb m.recorded K) refl
    two h false e = on h (ltb-false idle m.choice e) (leads_on s m) refl

    one : (b : Bool) → eqb m.slot (hyper s) ≡ b
        → Is (cond b (giving found m) (cond (ltb idle m.choice) (cond (eqb m.recorded K) (giving no_room m) (cond (eqb m.slot 0) (giving failed (emptied s m)) (giving going (backed s m)))) (giving going (cond (leads_on s m) (pushed s m) (passed_over s m)))))
    one true e = at_end (eqb-true m.slot (hyper s) e)
    one false e = two (eqb-false m.slot (hyper s) e) (ltb idle m.choice) refl

pub step-of : (s : List Task) (K : ℕ) (m n : Machine) (t : Status) → step_of s K m ≡ giving t n → Step s K m t n
unfolding giving
step-of s K m n t e = rw e at (step_is s K m)

-- ── the trail ───────────────────────────────────────────────────────────────

-- a record put behind the others
behind-others : (s : List Task) (v : List ℕ) (c : ℕ) (x : Position) (R : List Position) → Inv s v c (x ∷ R) → Inv s v c (R ++ x ∷ [])
behind-others s v c x R I = inv-same s v c (x ∷ R) (R ++ x ∷ []) (λ y i. last-In x y R i) (λ y i. In-last x y R i) (last-Distinct x R I.distinct.0 I.distinct.1) I

-- a list that is not empty has a last element
pub snoc : (v : List ℕ) (k : ℕ) → length v ≡ suc k → (u : List ℕ) × (d : ℕ) × (v ≡ u ++ d ∷ []) × (length u ≡ k)
snoc [] k e = let z : ⊥ = omega arith in absurd z
snoc (c ∷ []) zero e = ([], c, refl, refl)
snoc (c ∷ []) (suc k) e = let z : ⊥ = omega arith in absurd z
snoc (c ∷ d ∷ v) zero e = let z : ⊥ = omega arith in absurd z
snoc (c ∷ d ∷ v) (suc k) e = let r = snoc (d ∷ v) k (omega arith) in (c ∷ r.0, r.1, ap {B = List ℕ} (λ l. c ∷ l) r.2, (let q = r.3 in omega arith))

-- the positions that lists of choices lead to
module _ (s : List Task) where
  pub run_long : (v : List ℕ) → length (run s (start s) v).progress ≡ length s
  run_long v = run_length s (start s) v (start-length s)

  pub run-within : (v : List ℕ) (j : ℕ) → j < length s → get_or (run s (start s) v).progress j 0 ≤ span (get_or s j no_task)
  unfolding start
  run-within v = run_fits s (start s) v (start-length s) (λ j h. rw (get_or-replicate {A = ℕ} (length s) j 0 0 h) (omega arith))

  pub kept-long : (v : List ℕ) (c : ℕ) (R : List Position) → Inv s v c R → (y : Position) → In y R → length y.progress ≡ length s
  kept-long v c R I y h = let r = I.reached y h in rw r.2 at (run_long r.0)

-- ── one step ────────────────────────────────────────────────────────────────

module _ (s : List Task) (K : ℕ) (table area : List ℕ) (S : Setting s K table area) where
  pub small : length s ≤ idle
  unfolding idle
  small = let f = S.few in omega arith

  module _ (m : Machine) (G : Searching s K table area m) where
    -- the position under trial
    abbrev pub there : Position
    there = run s (start s) G.trail

    there-slot : there.slot ≡ m.slot
    there-slot = reach-slot s G.trail ∙ G.long

    here-is : here m ≡ there
    unfolding here
    here-is = let a = there-slot in let b = G.at in λ i. record { slot = sym a i; progress = b i }

    pub records-fill : length (records G.kept) ≡ m.recorded * suc (length s)
    records-fill = records-length (length s) G.kept (kept-long s G.trail m.choice G.kept G.inv) ∙ rw (G.many, add-one)

    -- the next position, as the area is searched for it
    next-slot : (next s (here m) m.choice).slot ≡ suc m.slot
    unfolding next here
    next-slot = refl

    seen-is : (b : Bool) → among (suc (length s)) m.area (suc m.slot ∷ (next s (here m) m.choice).progress) m.recorded ≡ b
        → among (length s + 1) m.area ((next s there m.choice).slot ∷ (next s there m.choice).progress) (length G.kept) ≡ b
    seen-is b e = rw (← here-is, next-slot, G.many, add-one) e

    leads-legal : leads_on s m ≡ true → T (legal s there m.choice)
    unfolding leads_on
    leads-legal e = rw here-is at (T_and (legal s (here m) m.choice) _ (true-T _ e)).0

    leads-new : leads_on s m ≡ true → ¬ In (next s there m.choice) G.kept
    unfolding leads_on
    leads-new e = among-out (length s) (next s there m.choice) G.kept (drop (m.recorded * suc (length s)) area) m.area G.area_is (kept-long s G.trail m.choice G.kept G.inv)
        (seen-is false (not-true _ (T_true _ (T_and (legal s (here m) m.choice) _ (true-T _ e)).1)))

    -- a choice passed over isn't legal, or leads to a record
    leads-old : leads_on s m ≡ false → T (legal s there m.choice) → In (next s there m.choice) G.kept
    unfolding leads_on
    leads-old e t =
        let q : legal s (here m) m.choice ≡ true = rw here-is (T_true _ t) in
        among_in (length s) (next s there m.choice) G.kept (drop (m.recorded * suc (length s)) area) m.area G.area_is (kept-long s G.trail m.choice G.kept G.inv)
        (seen-is true (not-false _ (rw q at e)))

    pushed-searching : m.slot ≢ hyper s → leads_on s m ≡ true → Searching s K table area (pushed s m)
    unfolding pushed Choice
    pushed-searching h e =
        let b = G.below in let w = S.wide in let z = G.size in let l = G.long in
        let u : m.slot < hyper s = lt_of m.slot (hyper s) b h in
        record {
          trail = G.trail ++ m.choice ∷ [];
          kept = G.kept;
          inv = push s G.trail m.choice G.kept G.inv (leads-legal e) (leads-new e);
          long = (let a = length-append G.trail (m.choice ∷ []) in omega arith);
          below = u;
          at = ap (λ x. (next s x m.choice).progress) here-is ∙ ap (λ x. x.progress) (sym (run-one s G.trail m.choice));
          marked = take-suc-set m.table m.slot (mark m.progress (ended s m.progress m.choice)) (omega arith)
              ∙ rw (G.marked, G.at) (sym (marks-last s (start s) G.trail m.choice));
          beyond = drop-set-lt (hyper s) m.table m.slot (mark m.progress (ended s m.progress m.choice)) u ∙ G.beyond;
          size = length-set m.table m.slot (mark m.progress (ended s m.progress m.choice)) ∙ G.size;
          many = G.many;
          roomy = G.roomy;
          area_is = G.area_is;
          choices = inl S.some-task;
          fresh = λ q. refl;
        }

    passed-searching : m.slot ≢ hyper s → m.choice ≤ idle → leads_on s m ≡ false → Searching s K table area (passed_over s m)
    unfolding passed_over
    passed-searching h k e =
        let f = follows s small m.choice (chosen-choice s m.choice G.choices k) in
        record {
          trail = G.trail;
          kept = G.kept;
          inv = follows-inv s small G.trail G.kept m.choice (following (length s) m.choice) f (skip s G.trail m.choice G.kept G.inv (leads-old e));
          long = G.long;
          below = G.below;
          at = G.at;
          marked = G.marked;
          beyond = G.beyond;
          size = G.size;
          many = G.many;
          roomy = G.roomy;
          area_is = G.area_is;
          choices = follows-choice s small m.choice (following (length s) m.choice) f;
          fresh = λ q. absurd (h q);
        }

    -- the area with one record more
    pub noted-is : noted s m ≡ records (G.kept ++ there ∷ []) ++ drop (suc m.recorded * suc (length s)) area
    unfolding noted
    noted-is =
        let k = G.many in
        let one : length G.kept * (length s + 1) ≡ m.recorded * suc (length s) = rw (k, add-one (length s)) in
        let two : (length G.kept + 1) * (length s + 1) ≡ suc m.recorded * suc (length s) = rw (k, add-one m.recorded, add-one (length s)) in
        rw two at (records-put (length s) there G.kept area m.area (noted s m) (kept-long s G.trail m.choice G.kept G.inv) (rw one G.area_is) (rw (one, two, there-slot, ← G.at) refl))

    -- the last choice d, behind u, is taken back
    module _ (k : ℕ) (slot_is : m.slot ≡ suc k) (u : List ℕ) (d : ℕ) (split : G.trail ≡ u ++ d ∷ []) (short : length u ≡ k) where
      abbrev before : Position
      before = run s (start s) u

      abbrev its-mark : ℕ
      its-mark = mark before.progress (ended s before.progress d)

      last-legal : T (legal s before d)
      unfolding live_from
      last-legal = (T_and (legal s before d) _ (live-append s (start s) u (d ∷ []) (rw split at G.inv.live)).1).0

      there-next : there ≡ next s before d
      there-next = ap (λ v. run s (start s) v) split ∙ run-one s u d

      before-slot : before.slot ≡ k
      before-slot = reach-slot s u ∙ short

      marks-short : length (marks s (start s) u) ≡ k
      marks-short = marks-length s (start s) u ∙ short

      marked-last : take (suc k) m.table ≡ marks s (start s) u ++ its-mark ∷ []
      marked-last = (rw (← slot_is) G.marked) ∙ ap (λ v. marks s (start s) v) split ∙ marks-last s (start s) u d

      marked-before : take k m.table ≡ marks s (start s) u
      marked-before = sym (take-take k (suc k) m.table (omega arith)) ∙ ap (λ l. take k l) marked-last ∙ take_at (marks s (start s) u) (its-mark ∷ []) k marks-short

      last_mark-is : last_mark m ≡ its-mark
      unfolding last_mark
      last_mark-is =
          let z : m.slot - 1 ≡ k = omega arith in
          rw z (sym (get_or-take (suc k) m.table k 0 (omega arith)) ∙ ap (λ l. get_or l k 0) marked-last ∙ get_or_at (marks s (start s) u) its-mark [] 0 k marks-short)

      earlier-is : earlier s m ≡ before.progress
      unfolding earlier
      earlier-is =
          let a : m.slot ≡ suc before.slot = (let b = before-slot in omega arith) in
          let b : m.progress ≡ (next s before d).progress = G.at ∙ ap (λ x. x.progress) there-next in
          rw (last_mark-is, a, b) (back_is s before (run_long s u) (run-within s u) d last-legal)

      last_choice-is : last_choice s m ≡ d
      unfolding last_choice
      last_choice-is = rw (earlier-is, last_mark-is) (chosen_is s before.progress d (run_long s u) S.few (legal-allowed s before d last-legal))

      back_at : m.slot ≢ hyper s → idle < m.choice → m.recorded ≢ K → Searching s K table area (backed s m)
      unfolding backed
      back_at h t n =
          let b = G.below in let l = G.long in let r = G.roomy in let c = G.many in
          let a = length-append G.kept (there ∷ []) in
          let v = lt_of m.slot (hyper s) b h in
          let w = lt_of m.recorded K r n in
          let z : m.slot - 1 ≡ k = omega arith in
          let f = follows s small d (legal-chosen s small before d last-legal) in
          let g = ap length split in
          let I = back s small u d m.choice G.kept (rw split at G.inv) t (omega arith) in
          let J : Inv s u (suc d) (G.kept ++ there ∷ []) = rw split (behind-others s u (suc d) (run s (start s) (u ++ d ∷ [])) G.kept I) in
          record {
            trail = u;
            kept = G.kept ++ there ∷ [];
            inv = rw last_choice-is (follows-inv s small u (G.kept ++ there ∷ []) d (following (length s) d) f J);
            long = omega arith;
            below = omega arith;
            at = earlier-is;
            marked = rw z marked-before;
            beyond = G.beyond;
            size = G.size;
            many = omega arith;
            roomy = w;
            area_is = noted-is;
            choices = rw last_choice-is (follows-choice s small d (following (length s) d) f);
            fresh = λ q. let x : ⊥ = omega arith in absurd x;
          }

    backed-searching : m.slot ≢ hyper s → idle < m.choice → m.recorded ≢ K → m.slot ≢ 0 → Searching s K table area (backed s m)
    backed-searching h t n z =
        let p : 0 < m.slot = lt_of 0 m.slot (omega arith) (λ e. z (sym e)) in
        let l = G.long in
        let r = snoc G.trail (m.slot - 1) (omega arith) in
        back_at (m.slot - 1) (omega arith) r.0 r.1 r.2 r.3 h t n

  -- ── the start, and each step ──────────────────────────────────────────────

  pub opened-searching : Searching s K table area (opened s table area)
  unfolding opened Choice run start marks records
  opened-searching = record {
    trail = [];
    kept = [];
    inv = begin s;
    long = refl;
    below = omega arith;
    at = refl;
    marked = refl;
    beyond = refl;
    size = refl;
    many = refl;
    roomy = omega arith;
    area_is = (let z : 0 * suc (length s) ≡ 0 = omega arith in rw z);
    choices = inl S.some-task;
    fresh = λ q. refl;
  }

  step_keeps : (m n : Machine) (t : Status) → Step s K m t n → t ≡ going → Searching s K table area m → Searching s K table area n
  step_keeps m n t (at_end a) e G = clash-01 (cc)
  step_keeps m n t (full a b c) e G = clash-01 (cc)
  step_keeps m n t (spent a b c d) e G = clash-01 (cc)
  step_keeps m n t (goes_back a b c d) e G = backed-searching m G a b c d
  step_keeps m n t (goes_on a b c) e G = pushed-searching m G a c
  step_keeps m n t (passes a b c) e G = passed-searching m G a b c

  pub step-searching : (m n : Machine) → step_of s K m ≡ giving going n → Searching s K table area m → Searching s K table area n
  step-searching m n e G = step_keeps m n going (step-of s K m n going e) refl G

  -- ── the measure ───────────────────────────────────────────────────────────

  abbrev remains : Machine → ℕ
  remains m = left K (hyper s) m.recorded m.slot m.choice

  left-on : (H r n c d : ℕ) → c < 256 → c < d → left K H r n d < left K H r n c
  unfolding left
  left-on H r n c d h k = omega arith

  left-fewer : (H r n k c d : ℕ) → r < K → n ≡ suc k → n ≤ H → left K H (suc r) k d < left K H r n c
  left-fewer H r n k c d h e l = rw e (left_back K H r k c d h (omega arith))

  falls : (m n : Machine) (t : Status) → Step s K m t n → t ≡ going → Searching s K table area m → remains n < remains m
  unfolding idle backed pushed passed_over
  falls m n t (at_end a) e G = clash-01 (cc)
  falls m n t (full a b c) e G = clash-01 (cc)
  falls m n t (spent a b c d) e G = clash-01 (cc)
  falls m n t (goes_back a b c d) e G =
      let p = lt_of 0 m.slot (omega arith) (λ q. d (sym q)) in
      let l = G.below in
      left-fewer (hyper s) m.recorded m.slot (m.slot - 1) m.choice (following (length s) (last_choice s m)) (lt_of m.recorded K G.roomy c) (omega arith) l
  falls m n t (goes_on a b c) e G = left-push K (hyper s) m.recorded m.slot m.choice (lt_of m.slot (hyper s) G.below a) (omega arith)
  falls m n t (passes a b c) e G =
      left-on (hyper s) m.recorded m.slot m.choice (following (length s) m.choice) (omega arith)
      (follows-up s small m.choice (following (length s) m.choice) (follows s small m.choice (chosen-choice s m.choice G.choices b)))

  pub step_falls : (m n : Machine) → step_of s K m ≡ giving going n → Searching s K table area m → left K (hyper s) n.recorded n.slot n.choice < left K (hyper s) m.recorded m.slot m.choice
  step_falls m n e G = falls m n going (step-of s K m n going e) refl G
