-- What the invariant gives where a search ends, and its measure.
use mathlib.Core.Path.{◌≡◌, refl, sym, ap, ◌∙◌, subst}
use mathlib.Core.Logic.{◌⊎◌, inl, inr}
use mathlib.Core.List.{List, [], ◌∷◌, ◌++◌, append-nil, append_assoc}
use Prim.Native.Nat.{ℕ, suc, ◌+◌, ◌*◌, ◌-◌, ◌≤◌, ◌<◌}
use native.Mathlib.Omega.{arith}
use lib.Dec.{T}
use lib.ListN.{length}
use lib.Seq.{take_all}
use Rattle.rules.specs.Lists.{In, Distinct}
use Rattle.rules.specs.Tasks.{Fit, Task}
use Rattle.rules.specs.Hyper.{hyper}
use Rattle.rules.specs.Positions.{Position, start, live_position, idle}
use Rattle.rules.specs.Choices.{run, live_from, Schedule, First, Counted}
use Rattle.rules.specs.Planner.{Precede, records}
use Rattle.rules.proofs.Laws.{le-or-lt}
use Rattle.rules.proofs.Run.Reach.{run-live, start-length}
use Rattle.rules.proofs.Plan.Decide.{In-left, In-right, In-append}
use Rattle.rules.proofs.Plan.Unique.{pigeon}
use Rattle.rules.proofs.Plan.Trail.{ahead, ahead_more, ahead-nil, nil-ahead, ahead-cons, cons-ahead, Inv, reach-slot, here, here-stuck, here-new, on-done}

-- what comes before u comes before every list that doesn't
past : (w u f : List ℕ) → length w ≤ length f → ahead w u → ¬ ahead f u → ahead w f
past [] u f l a n = absurd (nil-ahead u a)
past (a ∷ w) [] f l h n = absurd (ahead-nil (a ∷ w) h)
past (a ∷ w) (b ∷ u) [] l h n = let z : ⊥ = omega arith in absurd z
past (a ∷ w) (b ∷ u) (e ∷ f) l h n = go (ahead-cons a b w u h) (le-or-lt b e) (le-or-lt e b) (past w u f (omega arith))
  where
    go : (a < b) ⊎ ((a ≡ b) × ahead w u) → (b ≤ e) ⊎ (e < b) → (e ≤ b) ⊎ (b < e) → (ahead w u → ¬ ahead f u → ahead w f) → ahead (a ∷ w) (e ∷ f)
    go p (inr k) q ih = absurd (n (cons-ahead e b f u (inl k)))
    go (inl p) (inl k) q ih = cons-ahead a e w f (inl (omega arith))
    go (inr p) (inl k) (inr q) ih = let z = p.0 in cons-ahead a e w f (inl (omega arith))
    go (inr p) (inl k) (inl q) ih = let z = p.0 in cons-ahead a e w f (inr (omega arith, ih p.1 (λ r. n (cons-ahead e b f u (inr (omega arith, r))))))

module _ (s : List Task) (fit : Fit s) (begun : T (live_position s (start s))) where
  -- at any time, what is recorded is counted
  pub recorded : (v : List ℕ) (c : ℕ) (R : List Position) → Inv s v c R → (x : Position) → In x R → Counted s x
  unfolding ahead
  recorded v c R I x h =
      let r = I.reached x h in
      let a : x.slot ≡ length r.0 = ap (λ y. y.slot) (sym r.2) ∙ reach-slot s r.0 in
      let b = r.4 in
      record {
        dead = record {
          below = omega arith;
          live = rw r.2 at (run-live s fit begun (start s) r.0 (start-length s) begun r.1);
          blocked = I.stuck x h;
        };
        by = r.0;
        by_live = record { at_start = begun; after = r.1 };
        reached = r.2;
        early = λ f F. let l = F.schedule.long in past r.0 (v ++ c ∷ []) f (omega arith) r.3 (I.none f F.schedule.live.after l);
      }

  -- a trail of H choices is the first schedule, and what is counted is recorded
  pub found_first : (v : List ℕ) (R : List Position) → Inv s v 0 R → length v ≡ hyper s → First s v
  unfolding ahead
  found_first v R I l = record {
    schedule = record { live = record { at_start = begun; after = I.live }; long = l };
    least = λ g S b. let k = S.long in I.none g S.live.after k (ahead_more g v (0 ∷ []) (rw (take_all (length g) v (omega arith)) b));
  }

  pub found-precede : (v : List ℕ) (R : List Position) → Inv s v 0 R → length v ≡ hyper s → Precede s R
  unfolding ahead
  found-precede v R I l = record {
    distinct = I.distinct;
    only = recorded v 0 R I;
    all = λ x C.
        let a : x.slot ≡ length C.by = ap (λ y. y.slot) (sym C.reached) ∙ reach-slot s C.by in
        let b = C.dead.below in
        rw C.reached at (I.done C.by C.by_live.after (omega arith) (ahead_more C.by v (0 ∷ []) (C.early v (found_first v R I l))));
  }

  -- with every choice tried at the start there is none, and all that is counted is recorded, with the start
  module _ (small : length s ≤ idle) (c : ℕ) (R : List Position) (I : Inv s [] c R) (tried : idle < c) (some-slot : 0 < hyper s) where
    pub failed-none : (cs : List ℕ) → ¬ Schedule s cs
    unfolding here run
    failed-none cs S = let l = S.long in let z = reach-slot s [] in here-stuck s small [] c R I tried some-slot cs S.live.after (omega arith)

    pub failed-precede : Precede s (start s ∷ R)
    unfolding here run live_from
    failed-precede = record {
      distinct = (here-new s small [] c R I tried some-slot, I.distinct);
      only = only';
      all = λ x C.
          let a : x.slot ≡ length C.by = ap (λ y. y.slot) (sym C.reached) ∙ reach-slot s C.by in
          let b = C.dead.below in
          subst (λ (y : Position). In y (start s ∷ R)) C.reached (on-done s small [] c R I tried some-slot C.by C.by_live.after (omega arith));
    }
      where
        only' : (x : Position) → In x (start s ∷ R) → Counted s x
        only' x (inr h) = recorded [] c R I x h
        only' x (inl e) = rw e (record {
          dead = record { below = (let z = reach-slot s [] in omega arith); live = begun; blocked = here-stuck s small [] c R I tried some-slot };
          by = [];
          by_live = record { at_start = begun; after = tt };
          reached = refl;
          early = λ f F. absurd (failed-none f F.schedule);
        })

  -- where one more is recorded than there is room, more are counted
  pub recorded_few : (v : List ℕ) (c : ℕ) (R ds : List Position) → Inv s v c R → Precede s ds → length R ≤ length ds
  recorded_few v c R ds I P = pigeon R ds I.distinct (λ x h. P.all x (recorded v c R I x h))

-- ── the search ends ─────────────────────────────────────────────────────────

-- room K, r records, a trail of n choices of at most H, the choice c to try
unfoldable pub left : ℕ → ℕ → ℕ → ℕ → ℕ → ℕ
left K H r n c = (K - r) * (H * 257 + 257) + (H - n) * 257 + (256 - c)

pub left-push : (K H r n c : ℕ) → n < H → c < 256 → left K H r (suc n) 0 < left K H r n c
unfolding left
left-push K H r n c h k = let e : H - n ≡ suc (H - suc n) = omega arith in rw e (omega arith)

pub left-skip : (K H r n c : ℕ) → c < 256 → left K H r n (suc c) < left K H r n c
unfolding left
left-skip K H r n c k = omega arith

pub left_back : (K H r n c d : ℕ) → r < K → n < H → left K H (suc r) n d < left K H r (suc n) c
unfolding left
left_back K H r n c d h k =
    let e : K - r ≡ suc (K - suc r) = omega arith in
    let a : (H - n) * 257 ≤ H * 257 = native.Mathlib.Nat.mul-le-mul_right 257 (omega arith) in
    rw e (omega arith)

-- ── the order of the records is free ────────────────────────────────────────

pub inv-same : (s : List Task) (v : List ℕ) (c : ℕ) (R Q : List Position) → ((x : Position) → In x Q → In x R) → ((x : Position) → In x R → In x Q) → Distinct Q → Inv s v c R → Inv s v c Q
inv-same s v c R Q from to d I = record {
  live = I.live;
  distinct = d;
  reached = λ x h. I.reached x (from x h);
  stuck = λ x h. I.stuck x (from x h);
  closed = λ x h g t l. to _ (I.closed x (from x h) g t l);
  done = λ w t l a. to _ (I.done w t l a);
  none = I.none;
  trail = λ n l h. I.trail n l (from _ h);
}

-- a record is put behind the others
pub last-In : (x y : Position) (R : List Position) → In y (R ++ x ∷ []) → In y (x ∷ R)
last-In x y R h = go (In-append y R (x ∷ []) h)
  where
    go : In y R ⊎ In y (x ∷ []) → In y (x ∷ R)
    go (inl k) = inr k
    go (inr (inl e)) = inl e
    go (inr (inr k)) = absurd k

pub In-last : (x y : Position) (R : List Position) → In y (x ∷ R) → In y (R ++ x ∷ [])
In-last x y R (inl e) = In-right y R (x ∷ []) (inl e)
In-last x y R (inr h) = In-left y R (x ∷ []) h

pub last-Distinct : (x : Position) (R : List Position) → ¬ In x R → Distinct R → Distinct (R ++ x ∷ [])
last-Distinct x [] n d = ((λ h. h), tt)
last-Distinct x (y ∷ R) n d = (other, last-Distinct x R (λ h. n (inr h)) d.1)
  where
    go : In y (x ∷ R) → ⊥
    go (inl e) = n (inl (sym e))
    go (inr h) = d.0 h

    other : ¬ In y (R ++ x ∷ [])
    other h = go (last-In x y R h)

pub records-last : (x : Position) (R : List Position) → records (R ++ x ∷ []) ≡ records R ++ (x.slot ∷ x.progress)
unfolding records
records-last x [] = ap {B = List ℕ} (λ l. x.slot ∷ l) (append-nil x.progress)
records-last x (y ∷ R) = ap {B = List ℕ} (λ l. y.slot ∷ y.progress ++ l) (records-last x R) ∙ ap {B = List ℕ} (λ l. y.slot ∷ l) (sym (append_assoc y.progress (records R) (x.slot ∷ x.progress)))
