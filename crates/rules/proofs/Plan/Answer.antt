-- The relation can be met for every fitting set.
use mathlib.Core.Path.{◌≡◌, refl, sym, ap, ap₂, ◌∙◌}
use mathlib.Core.Logic.{◌⊎◌, inl, inr}
use mathlib.Core.Bool.{Bool, true, false, cond, ◌&&◌, ◌||◌}
use mathlib.Core.List.{List, [], ◌∷◌, ◌++◌}
use mathlib.Core.Option.{Option, none, some}
use Prim.Native.Nat.{ℕ, zero, suc, ◌*◌, ◌-◌, ◌≤◌}
use native.Mathlib.Omega.{arith}
use borrow.Author.Tests.{ltb-true, ltb-false}
use lib.Dec.{T, ltb, eqb, eqb→eq, eqb_refl}
use lib.ListN.{length, take, drop, replicate, length-take}
use Rattle.rules.specs.Lists.{In, Distinct, same_list}
use Rattle.rules.specs.Tasks.{Fit, Task}
use Rattle.rules.specs.Hyper.{hyper}
use Rattle.rules.specs.Positions.{Position, idle, start, live_position}
use Rattle.rules.specs.Choices.{run, Schedule, First, Counted}
use Rattle.rules.specs.Planner.{records, room, Precede, Word, schedule, infeasible, out_of_room, Verdict, no_room, found, failed, Reply, Planned}
use Rattle.rules.proofs.Laws.{and_T, T_and, T-or, or-T, T_true, true-T}
use Rattle.rules.proofs.Run.Reach.{run-slot, start-length, run-live}
use Rattle.rules.proofs.Plan.Search.{first, passed_over}
use Rattle.rules.proofs.Plan.Decide.{FirstFrom, Passed, first-none, first_some, passed-sound, passed-complete}

-- ── distinct positions ──────────────────────────────────────────────────────

pub same_list-eq : (xs ys : List ℕ) → T (same_list xs ys) → xs ≡ ys
unfolding same_list
same_list-eq [] [] t = refl
same_list-eq [] (y ∷ ys) t = absurd t
same_list-eq (x ∷ xs) [] t = absurd t
same_list-eq (x ∷ xs) (y ∷ ys) t = ap₂ {C = List ℕ} (λ a l. a ∷ l) (eqb→eq x y (T_and (eqb x y) _ t).0) (same_list-eq xs ys (T_and (eqb x y) _ t).1)

pub same_list-refl : (xs : List ℕ) → T (same_list xs xs)
unfolding same_list
same_list-refl [] = tt
same_list-refl (x ∷ xs) = and_T (eqb x x) _ (eqb_refl x) (same_list-refl xs)

unfoldable pub same : Position → Position → Bool
same x y = eqb x.slot y.slot && same_list x.progress y.progress

pub same-eq : (x y : Position) → T (same x y) → x ≡ y
unfolding same
same-eq x y t =
    let p : x.slot ≡ y.slot = eqb→eq x.slot y.slot (T_and (eqb x.slot y.slot) _ t).0 in
    let q : x.progress ≡ y.progress = same_list-eq x.progress y.progress (T_and (eqb x.slot y.slot) _ t).1 in
    λ i. record { slot = p i; progress = q i }

pub same_refl : (x : Position) → T (same x x)
unfolding same
same_refl x = and_T (eqb x.slot x.slot) _ (eqb_refl x.slot) (same_list-refl x.progress)

unfoldable pub member : Position → List Position → Bool
member x [] = false
member x (y ∷ ys) = same x y || member x ys

pub member-In : (x : Position) (ys : List Position) → T (member x ys) → In x ys
unfolding member
member-In x [] t = t
member-In x (y ∷ ys) t = go (T-or (same x y) _ t) (member-In x ys)
  where
    go : T (same x y) ⊎ T (member x ys) → (T (member x ys) → In x ys) → In x (y ∷ ys)
    go (inl h) ih = inl (same-eq x y h)
    go (inr h) ih = inr (ih h)

pub In-member : (x : Position) (ys : List Position) → In x ys → T (member x ys)
unfolding member
In-member x [] h = h
In-member x (y ∷ ys) (inl e) = or-T (same x y) _ (inl (rw e (same_refl y)))
In-member x (y ∷ ys) (inr h) = or-T (same x y) _ (inr (In-member x ys h))

-- each once
unfoldable pub once : List Position → List Position
once [] = []
once (x ∷ xs) = cond (member x xs) (once xs) (x ∷ once xs)

pub once-In : (y : Position) (xs : List Position) → In y (once xs) → In y xs
unfolding once
once-In y [] h = h
once-In y (x ∷ xs) h = go (member x xs) refl (once-In y xs) h
  where
    go : (b : Bool) → member x xs ≡ b → (In y (once xs) → In y xs) → In y (cond b (once xs) (x ∷ once xs)) → In y (x ∷ xs)
    go true e ih k = inr (ih k)
    go false e ih (inl k) = inl k
    go false e ih (inr k) = inr (ih k)

pub In-once : (y : Position) (xs : List Position) → In y xs → In y (once xs)
unfolding once
In-once y [] h = h
In-once y (x ∷ xs) h = go (member x xs) refl (In-once y xs) h
  where
    go : (b : Bool) → member x xs ≡ b → (In y xs → In y (once xs)) → In y (x ∷ xs) → In y (cond b (once xs) (x ∷ once xs))
    go true e ih (inl k) = ih (rw k (member-In x xs (true-T _ e)))
    go true e ih (inr k) = ih k
    go false e ih (inl k) = inl k
    go false e ih (inr k) = inr (ih k)

pub once-Distinct : (xs : List Position) → Distinct (once xs)
unfolding once
once-Distinct [] = tt
once-Distinct (x ∷ xs) = go (member x xs) refl (once-Distinct xs)
  where
    go : (b : Bool) → member x xs ≡ b → Distinct (once xs) → Distinct (cond b (once xs) (x ∷ once xs))
    go true e d = d
    go false e d = ((λ h. let m : member x xs ≡ true = T_true _ (In-member x xs (once-In x xs h)) in let z : ◌≡◌ {A = ℕ} 0 1 = cc in omega arith), d)

pub take-In : {A : Type 0} (n : ℕ) (y : A) (xs : List A) → In y (take n xs) → In y xs
take-In zero y xs h = absurd h
take-In (suc n) y [] h = h
take-In (suc n) y (x ∷ xs) (inl e) = inl e
take-In (suc n) y (x ∷ xs) (inr h) = inr (take-In n y xs h)

pub take-Distinct : {A : Type 0} (n : ℕ) (xs : List A) → Distinct xs → Distinct (take n xs)
take-Distinct zero xs d = tt
take-Distinct (suc n) [] d = tt
take-Distinct (suc n) (x ∷ xs) d = ((λ h. d.0 (take-In n x xs h)), take-Distinct n xs d.1)

-- ── what the search gives is what the rules name ────────────────────────────

module _ (s : List Task) (fit : Fit s) (small : length s ≤ idle) (begun : T (live_position s (start s))) where
  first-from : (f : List ℕ) → First s f → FirstFrom s (hyper s) (start s) f
  first-from f F = record {
    to = record { live = F.schedule.live.after; long = F.schedule.long };
    least = λ g q. F.least g (record { live = record { at_start = begun; after = q.live }; long = q.long });
  }

  from_first : (f : List ℕ) → FirstFrom s (hyper s) (start s) f → First s f
  from_first f F = record {
    schedule = record { live = record { at_start = begun; after = F.to.live }; long = F.to.long };
    least = λ g q. F.least g (record { live = q.live.after; long = q.long });
  }

  reached-slot : (v : List ℕ) → (run s (start s) v).slot ≡ length v
  unfolding start
  reached-slot v = let h = run-slot s (start s) v in omega arith

  counted-passed : (x : Position) → Counted s x → Passed s (hyper s) (start s) x
  counted-passed x C =
      let v : List ℕ = C.by in
      let a : x.slot ≡ length v = ap (λ y. y.slot) (sym C.reached) ∙ reached-slot v in
      let b = C.dead.below in
      record {
        by = v;
        live = C.by_live.after;
        reached = C.reached;
        left = hyper s - suc (length v);
        long = omega arith;
        blocked = λ g q. C.dead.blocked g q.live (let l = q.long in omega arith);
        early = λ f F. C.early f (from_first f F);
      }

  passed_counted : (x : Position) → Passed s (hyper s) (start s) x → Counted s x
  passed_counted x P =
      let a : x.slot ≡ length P.by = ap (λ y. y.slot) (sym P.reached) ∙ reached-slot P.by in
      let l = P.long in
      record {
        dead = record {
          below = omega arith;
          live = rw P.reached at (run-live s fit begun (start s) P.by (start-length s) begun P.live);
          blocked = λ cs t e. P.blocked cs (record { live = t; long = omega arith });
        };
        by = P.by;
        by_live = record { at_start = begun; after = P.live };
        reached = P.reached;
        early = λ f F. P.early f (first-from f F);
      }

-- the dead positions that precede the reply, and the first schedule
unfoldable pub dead_of : List Task → List Position
dead_of s = elim (live_position s (start s)) [ true ↦ once (passed_over s (hyper s) (start s)) | false ↦ [] ]

unfoldable pub first_of : List Task → Option (List ℕ)
first_of s = elim (live_position s (start s)) [ true ↦ first s (hyper s) (start s) | false ↦ none ]

module _ (s : List Task) (fit : Fit s) (small : length s ≤ idle) where
  pub dead_of-precede : Precede s (dead_of s)
  unfolding dead_of
  dead_of-precede = go (live_position s (start s)) refl
    where
      yes' : T (live_position s (start s)) → Precede s (once (passed_over s (hyper s) (start s)))
      yes' b = record {
        distinct = once-Distinct (passed_over s (hyper s) (start s));
        only = λ x h. passed_counted s fit small b x (passed-sound s small (hyper s) (start s) x (once-In x (passed_over s (hyper s) (start s)) h));
        all = λ x C. In-once x (passed_over s (hyper s) (start s)) (passed-complete s small (hyper s) (start s) x (counted-passed s fit small b x C));
      }

      no' : live_position s (start s) ≡ false → Precede s []
      no' e = record { distinct = tt; only = λ x h. absurd h; all = λ x C. rw e at C.by_live.at_start }

      go : (b : Bool) → live_position s (start s) ≡ b → Precede s (elim (live_position s (start s)) [ true ↦ once (passed_over s (hyper s) (start s)) | false ↦ [] ])
      go true e = rw e (yes' (true-T _ e))
      go false e = rw e (no' e)

  first_of-cases : (b : Bool) → live_position s (start s) ≡ b → (o : Option (List ℕ)) → first_of s ≡ o → ((f : List ℕ) × (o ≡ some f) × First s f) ⊎ ((o ≡ none) × ((cs : List ℕ) → ¬ Schedule s cs))
  unfolding first_of
  first_of-cases false e o q = inr (sym q ∙ rw (e, first_of) refl, λ cs S. rw e at S.live.at_start)
  first_of-cases true e none q =
      let n : first s (hyper s) (start s) ≡ none = rw (e, first_of) at q in
      inr (refl, λ cs S. first-none s small (hyper s) (start s) n cs (record { live = S.live.after; long = S.long }))
  first_of-cases true e (some f) q =
      let n : first s (hyper s) (start s) ≡ some f = rw (e, first_of) at q in
      inl (f, refl, from_first s fit small (true-T _ e) f (first_some s small (hyper s) (start s) f n))

-- word, count and the first H bytes of the table
pub record Judged : Type 0 where
  pub word : Word
  pub count : ℕ
  pub front : List ℕ

unfoldable pub judged_by : List Task → ℕ → ℕ → Option (List ℕ) → Bool → Judged
judged_by s K B o true = record { word = out_of_room; count = K; front = replicate (hyper s) idle }
judged_by s K B none false = record { word = infeasible; count = B; front = replicate (hyper s) idle }
judged_by s K B (some f) false = record { word = schedule; count = B; front = f }

unfoldable pub judged : List Task → ℕ → Judged
judged s K = judged_by s K (length (dead_of s)) (first_of s) (ltb K (length (dead_of s)))

module _ (s : List Task) (fit : Fit s) (small : length s ≤ idle) (K : ℕ) where
  judged-verdict : Verdict s K (length (dead_of s)) (judged s K).word (judged s K).count (judged s K).front
  unfolding judged judged_by
  judged-verdict = go (ltb K (length (dead_of s))) refl (first_of s) (first_of-cases s fit small (live_position s (start s)) refl (first_of s) refl)
    where
      go : (b : Bool) → ltb K (length (dead_of s)) ≡ b → (o : Option (List ℕ)) → ((f : List ℕ) × (o ≡ some f) × First s f) ⊎ ((o ≡ none) × ((cs : List ℕ) → ¬ Schedule s cs))
          → Verdict s K (length (dead_of s)) (judged_by s K (length (dead_of s)) o b).word (judged_by s K (length (dead_of s)) o b).count (judged_by s K (length (dead_of s)) o b).front
      go true e o c = no_room (ltb-true K (length (dead_of s)) e)
      go false e none (inl c) = let q = c.1 in let z : ◌≡◌ {A = ℕ} 0 1 = cc in let y : ⊥ = omega arith in absurd y
      go false e none (inr c) = failed (ltb-false K (length (dead_of s)) e) c.1
      go false e (some f) (inl c) = let q : f ≡ c.0 = cc in found {f = f} (ltb-false K (length (dead_of s)) e) (rw q c.2)
      go false e (some f) (inr c) = let q = c.0 in let z : ◌≡◌ {A = ℕ} 0 1 = cc in let y : ⊥ = omega arith in absurd y

  count-within : (judged s K).count ≤ length (dead_of s)
  count-within = go judged-verdict
    where
      go : {w : Word} {n : ℕ} {f : List ℕ} → Verdict s K (length (dead_of s)) w n f → n ≤ length (dead_of s)
      go (no_room h) = omega arith
      go (found h F) = omega arith
      go (failed h F) = omega arith

-- the rules' own reply
unfoldable pub answer : List Task → List ℕ → List ℕ → Reply
answer s table area = record {
  word = (judged s (room s area)).word;
  count = (judged s (room s area)).count;
  table = (judged s (room s area)).front ++ drop (hyper s) table;
  area = records (take (judged s (room s area)).count (dead_of s)) ++ drop ((judged s (room s area)).count * suc (length s)) area;
}

pub answer-planned : (s : List Task) → Fit s → length s ≤ idle → (table area : List ℕ) → Planned s table area (answer s table area)
unfolding answer
answer-planned s fit small table area =
    let K : ℕ = room s area in
    let P : Precede s (dead_of s) = dead_of-precede s fit small in
    record {
      dead = dead_of s;
      precede = P;
      front = (judged s K).front;
      verdict = judged-verdict s fit small K;
      table_is = refl;
      kept = take (judged s K).count (dead_of s);
      kept_distinct = take-Distinct (judged s K).count (dead_of s) P.distinct;
      kept_only = λ x h. P.only x (take-In (judged s K).count x (dead_of s) h);
      kept_many = (let c = count-within s fit small K in length-take (judged s K).count (dead_of s) ∙ omega arith);
      area_is = refl;
    }

-- all of the above, for proofs that compute
unfoldable pub open_answer : Type 0
unfolding same member once dead_of first_of judged_by judged answer
open_answer = Unit {0}
