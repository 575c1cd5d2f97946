-- What the program needs of the planner's reply: it is no refusal, its slots can be shown, and the table's bytes at the start do not matter.
use mathlib.Core.Path.{◌≡◌, refl, sym, ap, ◌∙◌}
use mathlib.Core.Logic.{◌⊎◌, inl, inr}
use mathlib.Core.Bool.{Bool, true, false}
use mathlib.Core.List.{List, [], ◌∷◌, ◌++◌}
use Prim.Native.Nat.{ℕ, zero, suc, ◌≤◌, ◌<◌}
use native.Mathlib.Omega.{arith}
use borrow.Author.Tests.{eqb-true, eqb-false, le-ltb}
use lib.Dec.{T, eqb}
use lib.ListN.{length, get_or, take, drop, length-append, length-replicate, get_or-append}
use lib.Seq.{take_at}
use Rattle.rules.specs.Tasks.{Task}
use Rattle.rules.specs.Hyper.{hyper}
use Rattle.rules.specs.Positions.{Position, idle, legal, next, start}
use Rattle.rules.specs.Choices.{live_from, First}
use Rattle.rules.specs.Records.{or_else, SetRecord, Arrays, set_in, record_refusal}
use Rattle.rules.specs.Planner.{Word, schedule, Verdict, no_room, found, failed, Reply, Planned, plan_refusal, Answer, answered, PlanReply, refuses, plans}
use Rattle.rules.proofs.Lists.{clash, clash-bool}
use Rattle.rules.proofs.Laws.{T_true, T_and, le-or-lt}
use Rattle.rules.proofs.Set.Tidy.{counts, set-length, set-small}
use Rattle.rules.proofs.Set.Widths.{hyper-small}
use Rattle.rules.proofs.Plan.Decide.{outside}
use Rattle.rules.proofs.Plan.Unique.{planned-unique}
use Rattle.report.specs.Put.{Choice}
use Rattle.report.specs.Reports.{Tellable}

-- ── the choices of a schedule ───────────────────────────────────────────────

module _ (s : List Task) (small : length s ≤ idle) where
  legal-choice : (x : Position) (c : ℕ) → legal s x c ≡ true → (c ≡ idle) ⊎ (c < length s)
  legal-choice x c e = go (eqb c idle) refl (le-or-lt (length s) c)
    where
      go : (b : Bool) → eqb c idle ≡ b → (length s ≤ c) ⊎ (c < length s) → (c ≡ idle) ⊎ (c < length s)
      go true q h = inl (eqb-true c idle q)
      go false q (inl h) = clash-bool (sym (outside s small x c h (eqb-false c idle q)) ∙ e)
      go false q (inr h) = inr h

  live-choice : (cs : List ℕ) (x : Position) → T (live_from s x cs) → (k : ℕ) → k < length cs → (get_or cs k 0 ≡ idle) ⊎ (get_or cs k 0 < length s)
  unfolding live_from
  live-choice [] x l k h = absurd (omega arith)
  live-choice (c ∷ cs) x l zero h = legal-choice x c (T_true (legal s x c) (T_and (legal s x c) _ l).0)
  live-choice (c ∷ cs) x l (suc k) h = live-choice cs (next s x c) (T_and (legal s x c) _ l).1 k (omega arith)

-- ── the first H bytes of the table ──────────────────────────────────────────

front_long : (s : List Task) (K B : ℕ) {w : Word} {n : ℕ} {f : List ℕ} → Verdict s K B w n f → length f ≡ hyper s
front_long s K B (no_room h) = length-replicate (hyper s) idle
front_long s K B (found h F) = F.schedule.long
front_long s K B (failed h F) = length-replicate (hyper s) idle

front-taken : (s : List Task) (table area : List ℕ) (q : Reply) (P : Planned s table area q) → take (hyper s) q.table ≡ P.front
front-taken s table area q P = rw P.table_is (take_at P.front (drop (hyper s) table) (hyper s) (front_long s _ _ P.verdict))

-- the same reply over another table
moved : (s : List Task) (a b area : List ℕ) (q : Reply) (P : Planned s a area q) → Planned s b area (record { word = q.word; count = q.count; table = P.front ++ drop (hyper s) b; area = q.area })
moved s a b area q P = record {
  dead = P.dead;
  precede = P.precede;
  front = P.front;
  verdict = P.verdict;
  table_is = refl;
  kept = P.kept;
  kept_distinct = P.kept_distinct;
  kept_only = P.kept_only;
  kept_many = P.kept_many;
  area_is = P.area_is;
}

pub moved-reply : (r : SetRecord) (a b area : List ℕ) → plan_refusal r b ≡ 0 → {w : Word} {n : ℕ} {t x : List ℕ} → PlanReply r a area (answered w n) t x → (u : List ℕ) × PlanReply r b area (answered w n) u x
moved-reply r a b area ok (plans {q = q} e P) =
    (P.front ++ drop (hyper (set_in r)) b, plans {q = record { word = q.word; count = q.count; table = P.front ++ drop (hyper (set_in r)) b; area = q.area }} ok (moved (set_in r) a b area q P))

-- replies to one set over two tables: the same word and count, and the same first H bytes
pub record SameText (h : ℕ) (w v : Word) (m n : ℕ) (t u : List ℕ) : Type 0 where
  pub word : w ≡ v
  pub count : m ≡ n
  pub slots : take h t ≡ take h u

pub same_text : (r : SetRecord) (a b area : List ℕ) {w v : Word} {m n : ℕ} {t u x y : List ℕ} → PlanReply r a area (answered w m) t x → PlanReply r b area (answered v n) u y
    → SameText (hyper (set_in r)) w v m n t u
same_text r a b area (plans {q = p} e P) (plans {q = q} f Q) =
    let G = planned-unique (set_in r) b area _ q (moved (set_in r) a b area p P) Q in
    record {
      word = G.word;
      count = G.count;
      slots = front-taken (set_in r) a area p P
          ∙ sym (take_at P.front (drop (hyper (set_in r)) b) (hyper (set_in r)) (front_long (set_in r) _ _ P.verdict))
          ∙ ap (take (hyper (set_in r))) G.table;
    }

-- ── an admitted set and a table long enough ─────────────────────────────────

module _ (r : SetRecord) (A : Arrays r) (ok : record_refusal r ≡ 0) (table area : List ℕ) (long : 4096 ≤ length table) where
  pub not-refused : plan_refusal r table ≡ 0
  unfolding plan_refusal or_else
  not-refused = let h = hyper-small r ok in rw (ok, le-ltb (length table) (hyper (set_in r)) (omega arith)) refl

  pub answers : {a : Answer} {t u : List ℕ} → PlanReply r table area a t u → (w : Word) × (n : ℕ) × (a ≡ answered w n)
  answers (refuses {n = n} e) = clash n (sym e ∙ not-refused)
  answers (plans {q = q} e P) = (q.word, q.count, refl)

  found_first : (K B : ℕ) {w : Word} {n : ℕ} {f : List ℕ} → Verdict (set_in r) K B w n f → w ≡ schedule → First (set_in r) f
  found_first K B (no_room h) e = clash-bool (cc)
  found_first K B (found h F) e = F
  found_first K B (failed h F) e = clash-bool (cc)

  pub tellable : {a : Answer} {t u : List ℕ} → PlanReply r table area a t u → Tellable (hyper (set_in r)) a t
  unfolding idle
  tellable (refuses {n = n} e) = clash n (sym e ∙ not-refused)
  tellable (plans {q = q} e P) =
      let few = hyper-small r ok in
      let f = front_long (set_in r) _ _ P.verdict in
      record {
        few = few;
        slots = (let a = length-append P.front (drop (hyper (set_in r)) table) in let t = ap length P.table_is in omega arith);
        choices = λ n s k h. choice (cc) k (omega arith);
      }
    where
      choice : q.word ≡ schedule → (k : ℕ) → k < length P.front → Choice (get_or q.table k 0)
      choice w k h = rw (P.table_is, get_or-append P.front (drop (hyper (set_in r)) table) 0 k h)
          (small (live-choice (set_in r) (set-small r A ok) P.front (start (set_in r)) (found_first _ _ P.verdict w).schedule.live.after k h))
        where
          small : (get_or P.front k 0 ≡ idle) ⊎ (get_or P.front k 0 < length (set_in r)) → Choice (get_or P.front k 0)
          small (inl e) = inl e
          small (inr h) = let e = set-length r A ok in let m = (counts r ok).high in inr (omega arith)
