-- Where the search ends, its reply is the one that the rules ask for.
use mathlib.Core.Path.{◌≡◌, refl, sym, ap, ◌∙◌}
use mathlib.Core.Logic.{◌≢◌}
use mathlib.Core.Bool.{Bool, true, false, cond}
use mathlib.Core.List.{List, [], ◌∷◌, ◌++◌}
use Prim.Native.Nat.{ℕ, zero, suc, ◌*◌, ◌≤◌, ◌<◌}
use native.Mathlib.Omega.{arith}
use borrow.Author.Tests.{ltb-false}
use lib.Dec.{ltb}
use lib.ListN.{length, take, drop, replicate, length-append}
use Rattle.rules.specs.Lists.{In}
use Rattle.rules.specs.Tasks.{Task}
use Rattle.rules.specs.Hyper.{hyper}
use Rattle.rules.specs.Positions.{Position, idle, start, live_position}
use Rattle.rules.specs.Choices.{run, Schedule, Counted}
use Rattle.rules.specs.Records.{or_else, SetRecord, Arrays, set_in, record_refusal}
use Rattle.rules.specs.Planner.{records, room, Precede, Word, schedule, infeasible, out_of_room, Planned, plan_refusal, answered, PlanReply, plans}
use Rattle.rules.specs.Planner as model
use Rattle.rules.proofs.Laws.{true-T}
use Rattle.rules.proofs.Lists.{clash, clash-bool}
use Rattle.rules.proofs.Run.Reach.{start-length}
use Rattle.rules.proofs.Plan.Trail.{Inv, back}
use Rattle.rules.proofs.Plan.Unique.{pigeon}
use Rattle.rules.proofs.Plan.Answer.{dead_of, dead_of-precede}
use Rattle.rules.proofs.Plan.Ends.{recorded, found_first, found-precede, failed-none, failed-precede, recorded_few, last-In, In-last, last-Distinct}
use Rattle.rules.proofs.Set.Tidy.{counts, set-fit, set-length}
use Rattle.planner.specs.Marks.{marks, spelled, Listed}
use Rattle.planner.specs.Machine.{Machine, Status, going, found, failed, no_room, is_going, emptied, Reaches, ends, steps, opened}
use Rattle.planner.proofs.Marks.{spelled_is}
use Rattle.planner.proofs.Searching.{Setting, Searching, Step, at_end, full, spent, goes_back, goes_on, passes, step-of, lt_of, snoc, small, noted-is, opened-searching, step-searching}

-- ── the reply of an end ─────────────────────────────────────────────────────

unfoldable pub word_at : Status → Word
word_at going = out_of_room
word_at found = schedule
word_at failed = infeasible
word_at no_room = out_of_room

-- the first H bytes of the table: the choices that its marks spell, or idle
unfoldable pub front_at : List Task → Status → Machine → List ℕ
front_at s going n = replicate (hyper s) 255
front_at s found n = spelled s (start s) (take (hyper s) n.table)
front_at s failed n = replicate (hyper s) 255
front_at s no_room n = replicate (hyper s) 255

unfoldable is_found : Status → Bool
is_found going = false
is_found found = true
is_found failed = false
is_found no_room = false

module _ (s : List Task) (K : ℕ) (table area : List ℕ) (S : Setting s K table area) where
  -- ── at an end ─────────────────────────────────────────────────────────────

  module _ (m : Machine) (G : Searching s K table area m) where
    -- what is recorded is counted
    kept-counted : (x : Position) → In x G.kept → Counted s x
    kept-counted = recorded s S.fit S.begun G.trail m.choice G.kept G.inv

    pub found-end : m.slot ≡ hyper s
        → Planned s table area (record { word = schedule; count = m.recorded; table = spelled s (start s) (take (hyper s) m.table) ++ drop (hyper s) table; area = m.area })
    found-end h =
        let I : Inv s G.trail 0 G.kept = rw (G.fresh h) at G.inv in
        let l : length G.trail ≡ hyper s = G.long ∙ h in
        let q : take (hyper s) m.table ≡ marks s (start s) G.trail = rw (← h) G.marked in
        let e : spelled s (start s) (take (hyper s) m.table) ≡ G.trail = ap (λ b. spelled s (start s) b) q ∙ spelled_is s (start s) G.trail (start-length s) S.few G.inv.live in
        let b = G.roomy in let k = G.many in let r = S.room_is in
        record {
          dead = G.kept;
          precede = found-precede s S.fit S.begun G.trail G.kept I l;
          front = spelled s (start s) (take (hyper s) m.table);
          verdict = rw (← k, e) (model.found {f = G.trail} (omega arith) (found_first s S.fit S.begun G.trail G.kept I l));
          table_is = refl;
          kept = G.kept;
          kept_distinct = G.inv.distinct;
          kept_only = kept-counted;
          kept_many = k;
          area_is = G.area_is;
        }

    -- the start has no choice left
    module _ (tried : idle < m.choice) (h : m.slot ≡ 0) (n : m.slot ≢ hyper s) where
      no-trail : G.trail ≡ []
      no-trail = none G.trail (G.long ∙ h)
        where
          none : (v : List ℕ) → length v ≡ 0 → v ≡ []
          none [] e = refl
          none (c ∷ v) e = let z : ⊥ = omega arith in absurd z

      some-slot : 0 < hyper s
      some-slot = lt_of 0 (hyper s) (omega arith) (λ e. n (h ∙ e))

      from_start : Inv s [] m.choice G.kept
      from_start = rw no-trail at G.inv

      start_first : Precede s (start s ∷ G.kept)
      start_first = failed-precede s S.fit S.begun (small s K table area S) m.choice G.kept from_start tried some-slot

      start-last : Precede s (G.kept ++ start s ∷ [])
      start-last = let P = start_first in record {
        distinct = last-Distinct (start s) G.kept P.distinct.0 P.distinct.1;
        only = λ x i. P.only x (last-In (start s) x G.kept i);
        all = λ x C. In-last (start s) x G.kept (P.all x C);
      }

      none-exists : (cs : List ℕ) → ¬ Schedule s cs
      none-exists = failed-none s S.fit S.begun (small s K table area S) m.choice G.kept from_start tried some-slot

    pub failed-end : m.slot ≢ hyper s → idle < m.choice → m.recorded ≢ K → m.slot ≡ 0
        → Planned s table area (record { word = infeasible; count = (emptied s m).recorded; table = replicate (hyper s) 255 ++ drop (hyper s) table; area = (emptied s m).area })
    unfolding idle emptied run
    failed-end n tried f h =
        let P = start-last tried h n in
        let a = length-append G.kept (start s ∷ []) in
        let k = G.many in let r = S.room_is in
        let b = lt_of m.recorded K G.roomy f in
        let e : length (G.kept ++ start s ∷ []) ≡ suc m.recorded = omega arith in
        record {
          dead = G.kept ++ start s ∷ [];
          precede = P;
          front = replicate (hyper s) 255;
          verdict = rw e (model.failed (omega arith) (none-exists tried h n));
          table_is = refl;
          kept = G.kept ++ start s ∷ [];
          kept_distinct = P.distinct;
          kept_only = P.only;
          kept_many = e;
          area_is = rw (no-trail tried h n) at (noted-is s K table area S m G);
        }

    -- the position under trial would be one record more than there is room for
    one_more : m.slot ≢ hyper s → idle < m.choice → (ds : List Position) → Precede s ds → m.recorded < length ds
    one_more n tried ds P = go m.slot refl
      where
        go : (k : ℕ) → m.slot ≡ k → m.recorded < length ds
        go zero h =
            let Q = start_first tried h n in
            let a = pigeon (start s ∷ G.kept) ds Q.distinct (λ x i. P.all x (Q.only x i)) in
            let k = G.many in
            omega arith
        go (suc k) h =
            let r = snoc G.trail k (G.long ∙ h) in
            let l = G.long in let g = ap length r.2 in
            let b = lt_of m.slot (hyper s) G.below n in
            let I = back s (small s K table area S) r.0 r.1 m.choice G.kept (rw r.2 at G.inv) tried (omega arith) in
            let a = recorded_few s S.fit S.begun r.0 (suc r.1) (run s (start s) (r.0 ++ r.1 ∷ []) ∷ G.kept) ds I P in
            let c = G.many in
            omega arith

    pub full-end : m.slot ≢ hyper s → idle < m.choice → m.recorded ≡ K
        → Planned s table area (record { word = out_of_room; count = m.recorded; table = replicate (hyper s) 255 ++ drop (hyper s) table; area = m.area })
    unfolding idle
    full-end n tried f =
        let P = dead_of-precede s S.fit (small s K table area S) in
        let o = one_more n tried (dead_of s) P in
        let e : m.recorded ≡ room s area = f ∙ S.room_is in
        record {
          dead = dead_of s;
          precede = P;
          front = replicate (hyper s) 255;
          verdict = rw e (model.no_room (rw e at o));
          table_is = refl;
          kept = G.kept;
          kept_distinct = G.inv.distinct;
          kept_only = kept-counted;
          kept_many = G.many;
          area_is = G.area_is;
        }

  -- ── along a run of steps ──────────────────────────────────────────────────

  -- the last machine that went on, and its last step
  pub record Last (t : Status) (n : Machine) : Type 0 where
    pub from : Machine
    pub good : Searching s K table area from
    pub step : Step s K from t n
    pub over : is_going t ≡ false

  pub last_of : (m : Machine) (t : Status) (n : Machine) → Reaches s K m t n → Searching s K table area m → Last t n
  last_of m t n (ends e o) G = record { from = m; good = G; step = step-of s K m n t e; over = o }
  last_of m t n (steps {n = k} e r) G = last_of k t n r (step-searching s K table area S m k e G)

  -- beyond the hyper-period the table is as it was lent
  end-beyond : (m n : Machine) (t : Status) → Step s K m t n → is_going t ≡ false → Searching s K table area m → (drop (hyper s) n.table ≡ drop (hyper s) table) × (length n.table ≡ length table)
  unfolding is_going emptied
  end-beyond m n t (at_end a) o G = (G.beyond, G.size)
  end-beyond m n t (full a b c) o G = (G.beyond, G.size)
  end-beyond m n t (spent a b c d) o G = (G.beyond, G.size)
  end-beyond m n t (goes_back a b c d) o G = clash-bool (sym o)
  end-beyond m n t (goes_on a b c) o G = clash-bool (sym o)
  end-beyond m n t (passes a b c) o G = clash-bool (sym o)

  end-planned : (m n : Machine) (t : Status) → Step s K m t n → is_going t ≡ false → Searching s K table area m
      → Planned s table area (record { word = word_at t; count = n.recorded; table = front_at s t n ++ drop (hyper s) table; area = n.area })
  unfolding is_going word_at front_at
  end-planned m n t (at_end a) o G = found-end m G a
  end-planned m n t (full a b c) o G = full-end m G a b c
  end-planned m n t (spent a b c d) o G = failed-end m G a b c d
  end-planned m n t (goes_back a b c d) o G = clash-bool (sym o)
  end-planned m n t (goes_on a b c) o G = clash-bool (sym o)
  end-planned m n t (passes a b c) o G = clash-bool (sym o)

  -- a list that was found is live, and the table holds its marks
  end-listed : (m n : Machine) (t : Status) → Step s K m t n → is_found t ≡ true → Searching s K table area m → Listed s (hyper s) n.table
  unfolding is_found
  end-listed m n t (at_end a) o G = record { choices = G.trail; many = G.long ∙ a; marked = rw (← a) G.marked; live = G.inv.live }
  end-listed m n t (full a b c) o G = clash-bool o
  end-listed m n t (spent a b c d) o G = clash-bool o
  end-listed m n t (goes_back a b c d) o G = clash-bool o
  end-listed m n t (goes_on a b c) o G = clash-bool o
  end-listed m n t (passes a b c) o G = clash-bool o

  pub reaches-listed : (n : Machine) → Reaches s K (opened s table area) found n → Listed s (hyper s) n.table
  unfolding is_found
  reaches-listed n r = let L = last_of (opened s table area) found n r (opened-searching s K table area S) in end-listed L.from n found L.step refl L.good

  pub reaches-beyond : (t : Status) (n : Machine) → Reaches s K (opened s table area) t n → drop (hyper s) n.table ≡ drop (hyper s) table
  reaches-beyond t n r = let L = last_of (opened s table area) t n r (opened-searching s K table area S) in (end-beyond L.from n t L.step L.over L.good).0

  pub reaches-size : (t : Status) (n : Machine) → Reaches s K (opened s table area) t n → length n.table ≡ length table
  reaches-size t n r = let L = last_of (opened s table area) t n r (opened-searching s K table area S) in (end-beyond L.from n t L.step L.over L.good).1

  pub reaches-planned : (t : Status) (n : Machine) → Reaches s K (opened s table area) t n → (table' : List ℕ) → table' ≡ front_at s t n ++ drop (hyper s) n.table
      → Planned s table area (record { word = word_at t; count = n.recorded; table = table'; area = n.area })
  reaches-planned t n r table' e =
      let L = last_of (opened s table area) t n r (opened-searching s K table area S) in
      rw (e, reaches-beyond t n r) (end-planned L.from n t L.step L.over L.good)

-- where the start isn't live nothing is searched
pub start-dead : (s : List Task) (table area : List ℕ) → live_position s (start s) ≡ false
    → Planned s table area (record { word = infeasible; count = 0; table = replicate (hyper s) 255 ++ drop (hyper s) table; area = area })
unfolding idle records
start-dead s table area e = record {
  dead = [];
  precede = record { distinct = tt; only = λ x h. absurd h; all = λ x C. rw e at C.by_live.at_start };
  front = replicate (hyper s) 255;
  verdict = model.failed (omega arith) (λ cs F. rw e at F.live.at_start);
  table_is = refl;
  kept = [];
  kept_distinct = tt;
  kept_only = λ x h. absurd h;
  kept_many = refl;
  area_is = (let z : 0 * suc (length s) ≡ 0 = omega arith in rw z);
}

-- ── over a set handed over as a record ──────────────────────────────────────

module _ (r : SetRecord) (A : Arrays r) (table area : List ℕ) (ok : plan_refusal r table ≡ 0) where
  pub plan-admits : (record_refusal r ≡ 0) × (hyper (set_in r) ≤ length table)
  unfolding plan_refusal or_else
  plan-admits = one (record_refusal r) refl ok
    where
      two : record_refusal r ≡ 0 → (b : Bool) → ltb (length table) (hyper (set_in r)) ≡ b → ◌≡◌ {A = ℕ} (cond b 7 0) 0 → (record_refusal r ≡ 0) × (hyper (set_in r) ≤ length table)
      two p true q e = clash 6 e
      two p false q e = (p, ltb-false (length table) (hyper (set_in r)) q)

      one : (n : ℕ) → record_refusal r ≡ n → or_else n (cond (ltb (length table) (hyper (set_in r))) 7 0) ≡ 0 → (record_refusal r ≡ 0) × (hyper (set_in r) ≤ length table)
      one zero p e = two p (ltb (length table) (hyper (set_in r))) refl e
      one (suc n) p e = clash n e

  pub plan-setting : live_position (set_in r) (start (set_in r)) ≡ true → Setting (set_in r) (room (set_in r) area) table area
  plan-setting e =
      let p = plan-admits.0 in
      let c = counts r p in
      let l = set-length r A p in
      let low = c.low in
      let high = c.high in
      record { fit = set-fit r A p; some-task = omega arith; few = omega arith; begun = true-T _ e; wide = plan-admits.1; room_is = refl }

  pub plan-meets : live_position (set_in r) (start (set_in r)) ≡ true → (t : Status) (n : Machine) → Reaches (set_in r) (room (set_in r) area) (opened (set_in r) table area) t n
      → (table' : List ℕ) → table' ≡ front_at (set_in r) t n ++ drop (hyper (set_in r)) n.table → PlanReply r table area (answered (word_at t) n.recorded) table' n.area
  plan-meets e t n w table' q =
      plans {q = record { word = word_at t; count = n.recorded; table = table'; area = n.area }} ok (reaches-planned (set_in r) (room (set_in r) area) table area (plan-setting e) t n w table' q)

  module _ (e : live_position (set_in r) (start (set_in r)) ≡ true) (n : Machine) (table' : List ℕ) where
    pub plan-found : Reaches (set_in r) (room (set_in r) area) (opened (set_in r) table area) found n
        → table' ≡ spelled (set_in r) (start (set_in r)) (take (hyper (set_in r)) n.table) ++ drop (hyper (set_in r)) n.table → PlanReply r table area (answered schedule n.recorded) table' n.area
    unfolding word_at front_at
    plan-found w q = plan-meets e found n w table' q

    pub plan-failed : Reaches (set_in r) (room (set_in r) area) (opened (set_in r) table area) failed n
        → table' ≡ replicate (hyper (set_in r)) 255 ++ drop (hyper (set_in r)) n.table → PlanReply r table area (answered infeasible n.recorded) table' n.area
    unfolding word_at front_at
    plan-failed w q = plan-meets e failed n w table' q

    pub plan-full : Reaches (set_in r) (room (set_in r) area) (opened (set_in r) table area) no_room n
        → table' ≡ replicate (hyper (set_in r)) 255 ++ drop (hyper (set_in r)) n.table → PlanReply r table area (answered out_of_room n.recorded) table' n.area
    unfolding word_at front_at
    plan-full w q = plan-meets e no_room n w table' q

  pub plan-dead : live_position (set_in r) (start (set_in r)) ≡ false → (table' : List ℕ) → table' ≡ replicate (hyper (set_in r)) 255 ++ drop (hyper (set_in r)) table
      → PlanReply r table area (answered infeasible 0) table' area
  plan-dead e table' q = plans {q = record { word = infeasible; count = 0; table = table'; area = area }} ok (rw q (start-dead (set_in r) table area e))
