-- The invariant of a search with a trail of choices and a list of recorded dead positions.
use mathlib.Core.Path.{◌≡◌, refl, sym, ap, ap₂, ◌∙◌, subst}
use mathlib.Core.Logic.{◌⊎◌, inl, inr}
use mathlib.Core.Bool.{true}
use mathlib.Core.List.{List, [], ◌∷◌, ◌++◌, append_assoc, append-nil}
use Prim.Native.Nat.{ℕ, suc, ◌+◌, ◌≤◌, ◌<◌}
use native.Mathlib.Omega.{arith}
use lib.Dec.{T}
use lib.ListN.{length, take, length-append}
use lib.Seq.{take-append-le, take_all, take-length, length-take-le}
use Rattle.rules.specs.Lists.{In, Distinct}
use Rattle.rules.specs.Tasks.{Task}
use Rattle.rules.specs.Hyper.{hyper}
use Rattle.rules.specs.Positions.{Position, next, legal, start, idle}
use Rattle.rules.specs.Choices.{run, live_from, before}
use Rattle.rules.proofs.Laws.{and_T, T_and, le-or-lt}
use Rattle.rules.proofs.Run.Reach.{run-slot}
use Rattle.rules.proofs.Plan.Decide.{before-cons, cons-before, outside}

-- w comes before u's beginning of the same length
unfoldable pub ahead : List ℕ → List ℕ → Type 0
ahead w u = T (before w (take (length w) u))

pub ahead-nil : (w : List ℕ) → ¬ ahead w []
unfolding ahead before
ahead-nil [] t = t
ahead-nil (c ∷ w) t = t

pub nil-ahead : (u : List ℕ) → ¬ ahead [] u
unfolding ahead before
nil-ahead u t = t

pub ahead-cons : (c d : ℕ) (w u : List ℕ) → ahead (c ∷ w) (d ∷ u) → (c < d) ⊎ ((c ≡ d) × ahead w u)
unfolding ahead
ahead-cons c d w u t = before-cons c d w (take (length w) u) t

pub cons-ahead : (c d : ℕ) (w u : List ℕ) → (c < d) ⊎ ((c ≡ d) × ahead w u) → ahead (c ∷ w) (d ∷ u)
unfolding ahead
cons-ahead c d w u h = cons-before c d w (take (length w) u) h

-- more behind u changes nothing
pub ahead_more : (w u z : List ℕ) → ahead w u → ahead w (u ++ z)
ahead_more w [] z t = absurd (ahead-nil w t)
ahead_more [] (d ∷ u) z t = absurd (nil-ahead (d ∷ u) t)
ahead_more (c ∷ w) (d ∷ u) z t = go (ahead-cons c d w u t) (ahead_more w u z)
  where
    go : (c < d) ⊎ ((c ≡ d) × ahead w u) → (ahead w u → ahead w (u ++ z)) → ahead (c ∷ w) (d ∷ (u ++ z))
    go (inl h) ih = cons-ahead c d w (u ++ z) (inl h)
    go (inr h) ih = cons-ahead c d w (u ++ z) (inr (h.0, ih h.1))

-- a trial's first choice behind u is 0: nothing new comes before it
pub ahead-push : (w u : List ℕ) → ahead w (u ++ 0 ∷ []) → ahead w u
ahead-push [] u t = absurd (nil-ahead (u ++ 0 ∷ []) t)
ahead-push (c ∷ w) [] t = go (ahead-cons c 0 w [] t)
  where
    go : (c < 0) ⊎ ((c ≡ 0) × ahead w []) → ahead (c ∷ w) []
    go (inl h) = let z : ⊥ = omega arith in absurd z
    go (inr h) = absurd (ahead-nil w h.1)
ahead-push (c ∷ w) (d ∷ u) t = go (ahead-cons c d w (u ++ 0 ∷ []) t) (ahead-push w u)
  where
    go : (c < d) ⊎ ((c ≡ d) × ahead w (u ++ 0 ∷ [])) → (ahead w (u ++ 0 ∷ []) → ahead w u) → ahead (c ∷ w) (d ∷ u)
    go (inl h) ih = cons-ahead c d w u (inl h)
    go (inr h) ih = cons-ahead c d w u (inr (h.0, ih h.1))

-- the next choice: what comes before it anew are the lists that go on from the last
ahead-next : (w v : List ℕ) (c : ℕ) → ahead w (v ++ suc c ∷ []) → ahead w (v ++ c ∷ []) ⊎ ((w' : List ℕ) × (w ≡ v ++ c ∷ w'))
ahead-next [] v c t = absurd (nil-ahead (v ++ suc c ∷ []) t)
ahead-next (e ∷ w) [] c t = go (ahead-cons e (suc c) w [] t) (le-or-lt c e)
  where
    go : (e < suc c) ⊎ ((e ≡ suc c) × ahead w []) → (c ≤ e) ⊎ (e < c) → ahead (e ∷ w) (c ∷ []) ⊎ ((w' : List ℕ) × (◌≡◌ {A = List ℕ} (e ∷ w) (c ∷ w')))
    go (inr h) k = absurd (ahead-nil w h.1)
    go (inl h) (inr k) = inl (cons-ahead e c w [] (inl k))
    go (inl h) (inl k) = let q : e ≡ c = omega arith in inr (w, ap {B = List ℕ} (λ a. a ∷ w) q)
ahead-next (e ∷ w) (d ∷ v) c t = go (ahead-cons e d w (v ++ suc c ∷ []) t) (ahead-next w v c)
  where
    Goal : Type 0
    Goal = ahead (e ∷ w) (d ∷ (v ++ c ∷ [])) ⊎ ((w' : List ℕ) × (◌≡◌ {A = List ℕ} (e ∷ w) (d ∷ (v ++ c ∷ w'))))

    sub : e ≡ d → ahead w (v ++ c ∷ []) ⊎ ((w' : List ℕ) × (w ≡ v ++ c ∷ w')) → Goal
    sub q (inl h) = inl (cons-ahead e d w (v ++ c ∷ []) (inr (q, h)))
    sub q (inr h) = inr (h.0, ap₂ {C = List ℕ} (λ a l. a ∷ l) q h.1)

    go : (e < d) ⊎ ((e ≡ d) × ahead w (v ++ suc c ∷ [])) → (ahead w (v ++ suc c ∷ []) → ahead w (v ++ c ∷ []) ⊎ ((w' : List ℕ) × (w ≡ v ++ c ∷ w'))) → Goal
    go (inl h) ih = inl (cons-ahead e d w (v ++ c ∷ []) (inl h))
    go (inr h) ih = sub h.0 (ih h.1)

ahead-up : (w v : List ℕ) (c d : ℕ) → c ≤ d → ahead w (v ++ c ∷ []) → ahead w (v ++ d ∷ [])
ahead-up [] v c d h t = absurd (nil-ahead (v ++ c ∷ []) t)
ahead-up (e ∷ w) [] c d h t = go (ahead-cons e c w [] t)
  where
    go : (e < c) ⊎ ((e ≡ c) × ahead w []) → ahead (e ∷ w) (d ∷ [])
    go (inl k) = cons-ahead e d w [] (inl (omega arith))
    go (inr k) = absurd (ahead-nil w k.1)
ahead-up (e ∷ w) (b ∷ v) c d h t = go (ahead-cons e b w (v ++ c ∷ []) t) (ahead-up w v c d h)
  where
    go : (e < b) ⊎ ((e ≡ b) × ahead w (v ++ c ∷ [])) → (ahead w (v ++ c ∷ []) → ahead w (v ++ d ∷ [])) → ahead (e ∷ w) (b ∷ (v ++ d ∷ []))
    go (inl k) ih = cons-ahead e b w (v ++ d ∷ []) (inl k)
    go (inr k) ih = cons-ahead e b w (v ++ d ∷ []) (inr (k.0, ih k.1))

-- a list that goes on from v by a choice below c comes before v then c
pub ahead-on : (v : List ℕ) (b c : ℕ) (w : List ℕ) → b < c → ahead (v ++ b ∷ w) (v ++ c ∷ [])
ahead-on [] b c w h = cons-ahead b c w [] (inl h)
ahead-on (d ∷ v) b c w h = cons-ahead d d (v ++ b ∷ w) (v ++ c ∷ []) (inr (refl, ahead-on v b c w h))

-- ── runs of joined lists ────────────────────────────────────────────────────

pub run-append : (s : List Task) (x : Position) (v w : List ℕ) → run s x (v ++ w) ≡ run s (run s x v) w
unfolding run
run-append s x [] w = refl
run-append s x (c ∷ v) w = run-append s (next s x c) v w

pub live-append : (s : List Task) (x : Position) (v w : List ℕ) → T (live_from s x (v ++ w)) → T (live_from s x v) × T (live_from s (run s x v) w)
unfolding run live_from
live-append s x [] w t = (tt, t)
live-append s x (c ∷ v) w t =
    let a = T_and (legal s x c) (live_from s (next s x c) (v ++ w)) t in
    let r = live-append s (next s x c) v w a.1 in
    (and_T (legal s x c) _ a.0 r.0, r.1)

pub append-live : (s : List Task) (x : Position) (v w : List ℕ) → T (live_from s x v) → T (live_from s (run s x v) w) → T (live_from s x (v ++ w))
unfolding run live_from
append-live s x [] w t u = u
append-live s x (c ∷ v) w t u = let a = T_and (legal s x c) (live_from s (next s x c) v) t in and_T (legal s x c) _ a.0 (append-live s (next s x c) v w a.1 u)

-- ── the invariant ───────────────────────────────────────────────────────────

-- v is the trail, c the choice to try behind it, R the records
pub record Inv (s : List Task) (v : List ℕ) (c : ℕ) (R : List Position) : Type 0 where
  pub live : T (live_from s (start s) v)
  pub distinct : Distinct R
  -- a record is reached by a live list that comes before the trial
  pub reached : (x : Position) → In x R → (w : List ℕ) × T (live_from s (start s) w) × (run s (start s) w ≡ x) × ahead w (v ++ c ∷ []) × (length w < hyper s)
  -- no live list leads from it to H, and where live lists lead from it is recorded
  pub stuck : (x : Position) → In x R → (g : List ℕ) → T (live_from s x g) → x.slot + length g ≡ hyper s → ⊥
  pub closed : (x : Position) → In x R → (g : List ℕ) → T (live_from s x g) → x.slot + length g < hyper s → In (run s x g) R
  -- every live list that comes before the trial leads to a record, and none is a schedule
  pub done : (w : List ℕ) → T (live_from s (start s) w) → length w < hyper s → ahead w (v ++ c ∷ []) → In (run s (start s) w) R
  pub none : (w : List ℕ) → T (live_from s (start s) w) → length w ≡ hyper s → ¬ ahead w (v ++ c ∷ [])
  -- the trail's own positions are not recorded
  pub trail : (n : ℕ) → n ≤ length v → ¬ In (run s (start s) (take n v)) R

module _ (s : List Task) where
  pub reach-slot : (w : List ℕ) → (run s (start s) w).slot ≡ length w
  unfolding start
  reach-slot w = let h = run-slot s (start s) w in omega arith

  next-slot : (x : Position) (c : ℕ) → (next s x c).slot ≡ suc x.slot
  unfolding next
  next-slot x c = refl

  pub begin : Inv s [] 0 []
  unfolding live_from
  begin = record {
    live = tt;
    distinct = tt;
    reached = λ x h. absurd h;
    stuck = λ x h. absurd h;
    closed = λ x h. absurd h;
    done = λ w t l a. ahead-nil w (ahead-push w [] a);
    none = λ w t l a. ahead-nil w (ahead-push w [] a);
    trail = λ n l h. h;
  }

  one-live : (x : Position) (c : ℕ) → T (legal s x c) → T (live_from s x (c ∷ []))
  unfolding live_from
  one-live x c t = and_T (legal s x c) true t tt

  run-one : (v : List ℕ) (c : ℕ) → run s (start s) (v ++ c ∷ []) ≡ next s (run s (start s) v) c
  unfolding run
  run-one v c = run-append s (start s) v (c ∷ [])

  tail-parts : (x : Position) (c : ℕ) (w : List ℕ) → T (live_from s x (c ∷ w)) → T (legal s x c) × T (live_from s (next s x c) w)
  unfolding live_from
  tail-parts x c w t = T_and (legal s x c) (live_from s (next s x c) w) t

  run-cons : (x : Position) (c : ℕ) (w : List ℕ) → run s x (c ∷ w) ≡ run s (next s x c) w
  unfolding run
  run-cons x c w = refl

  -- a choice that leads to a live position that isn't recorded is added to the trail
  pub push : (v : List ℕ) (c : ℕ) (R : List Position) → Inv s v c R → T (legal s (run s (start s) v) c) → ¬ In (next s (run s (start s) v) c) R → Inv s (v ++ c ∷ []) 0 R
  push v c R I t n = record {
    live = append-live s (start s) v (c ∷ []) I.live (one-live (run s (start s) v) c t);
    distinct = I.distinct;
    reached = λ x h. let r = I.reached x h in (r.0, r.1, r.2, ahead_more r.0 (v ++ c ∷ []) (0 ∷ []) r.3, r.4);
    stuck = I.stuck;
    closed = I.closed;
    done = λ w t l a. I.done w t l (ahead-push w (v ++ c ∷ []) a);
    none = λ w t l a. I.none w t l (ahead-push w (v ++ c ∷ []) a);
    trail = λ m l. go m (le-or-lt m (length v)) l;
  }
    where
      go : (m : ℕ) → (m ≤ length v) ⊎ (length v < m) → m ≤ length (v ++ c ∷ []) → ¬ In (run s (start s) (take m (v ++ c ∷ []))) R
      go m (inl h) l = rw (take-append-le m v (c ∷ []) h) (I.trail m h)
      go m (inr h) l = let e = length-append v (c ∷ []) in rw (take_all m (v ++ c ∷ []) (omega arith), run-one v c) n

  -- a choice that isn't legal, or leads to a record, is passed over
  pub skip : (v : List ℕ) (c : ℕ) (R : List Position) → Inv s v c R → (T (legal s (run s (start s) v) c) → In (next s (run s (start s) v) c) R) → Inv s v (suc c) R
  skip v c R I n = record {
    live = I.live;
    distinct = I.distinct;
    reached = λ x h. let r = I.reached x h in (r.0, r.1, r.2, ahead-up r.0 v c (suc c) (omega arith) r.3, r.4);
    stuck = I.stuck;
    closed = I.closed;
    done = λ w t l a. done' w t l (ahead-next w v c a);
    none = λ w t l a. none' w t l (ahead-next w v c a);
    trail = I.trail;
  }
    where
      parts : (w w' : List ℕ) → T (live_from s (start s) w) → w ≡ v ++ c ∷ w' → T (legal s (run s (start s) v) c) × T (live_from s (next s (run s (start s) v) c) w')
      parts w w' t e = tail-parts (run s (start s) v) c w' (live-append s (start s) v (c ∷ w') (rw e at t)).1

      run-parts : (w w' : List ℕ) → w ≡ v ++ c ∷ w' → run s (start s) w ≡ run s (next s (run s (start s) v) c) w'
      run-parts w w' e = ap (λ u. run s (start s) u) e ∙ run-append s (start s) v (c ∷ w') ∙ run-cons (run s (start s) v) c w'

      slot-parts : (w w' : List ℕ) → w ≡ v ++ c ∷ w' → (next s (run s (start s) v) c).slot + length w' ≡ length w
      slot-parts w w' e = let a = next-slot (run s (start s) v) c in let b = reach-slot v in let d = length-append v (c ∷ w') in let f = ap length e in omega arith

      done' : (w : List ℕ) → T (live_from s (start s) w) → length w < hyper s → ahead w (v ++ c ∷ []) ⊎ ((w' : List ℕ) × (w ≡ v ++ c ∷ w')) → In (run s (start s) w) R
      done' w t l (inl a) = I.done w t l a
      done' w t l (inr e) =
          let p = parts w e.0 t e.1 in let q = slot-parts w e.0 e.1 in
          rw (run-parts w e.0 e.1) (I.closed (next s (run s (start s) v) c) (n p.0) e.0 p.1 (omega arith))

      none' : (w : List ℕ) → T (live_from s (start s) w) → length w ≡ hyper s → ahead w (v ++ c ∷ []) ⊎ ((w' : List ℕ) × (w ≡ v ++ c ∷ w')) → ⊥
      none' w t l (inl a) = I.none w t l a
      none' w t l (inr e) = let p = parts w e.0 t e.1 in let q = slot-parts w e.0 e.1 in I.stuck (next s (run s (start s) v) c) (n p.0) e.0 p.1 (omega arith)

-- a list that comes before v, d, c comes before v, d + 1
ahead-back : (w v : List ℕ) (d c : ℕ) → ahead w ((v ++ d ∷ []) ++ c ∷ []) → ahead w (v ++ suc d ∷ [])
ahead-back [] v d c t = absurd (nil-ahead ((v ++ d ∷ []) ++ c ∷ []) t)
ahead-back (e ∷ w) [] d c t = go (ahead-cons e d w (c ∷ []) t)
  where
    go : (e < d) ⊎ ((e ≡ d) × ahead w (c ∷ [])) → ahead (e ∷ w) (suc d ∷ [])
    go (inl h) = cons-ahead e (suc d) w [] (inl (omega arith))
    go (inr h) = let q = h.0 in cons-ahead e (suc d) w [] (inl (omega arith))
ahead-back (e ∷ w) (b ∷ v) d c t = go (ahead-cons e b w ((v ++ d ∷ []) ++ c ∷ []) t) (ahead-back w v d c)
  where
    go : (e < b) ⊎ ((e ≡ b) × ahead w ((v ++ d ∷ []) ++ c ∷ [])) → (ahead w ((v ++ d ∷ []) ++ c ∷ []) → ahead w (v ++ suc d ∷ [])) → ahead (e ∷ w) (b ∷ (v ++ suc d ∷ []))
    go (inl k) ih = cons-ahead e b w (v ++ suc d ∷ []) (inl k)
    go (inr k) ih = cons-ahead e b w (v ++ suc d ∷ []) (inr (k.0, ih k.1))

module _ (s : List Task) (small : length s ≤ idle) where
  legal-small : (x : Position) (e c : ℕ) → idle < c → T (legal s x e) → e < c
  legal-small x e c h t = go (le-or-lt c e)
    where
      go : (c ≤ e) ⊎ (e < c) → e < c
      go (inr k) = k
      go (inl k) = absurd (rw (outside s small x e (omega arith) (λ z. omega arith)) at t)

  -- all choices tried behind v: where live lists go on from there
  module _ (v : List ℕ) (c : ℕ) (R : List Position) (I : Inv s v c R) (tried : idle < c) (short : length v < hyper s) where
    unfoldable pub here : Position
    here = run s (start s) v

    on-live : (e : ℕ) (g : List ℕ) → T (live_from s here (e ∷ g)) → T (live_from s (start s) (v ++ e ∷ []))
    unfolding here
    on-live e g t = append-live s (start s) v (e ∷ []) I.live (one-live s (run s (start s) v) e (tail-parts s (run s (start s) v) e g t).0)

    on-length : (e : ℕ) → length (v ++ e ∷ []) ≡ suc (length v)
    on-length e = let a = length-append v (e ∷ []) in omega arith

    on-small : (e : ℕ) (g : List ℕ) → T (live_from s here (e ∷ g)) → e < c
    on-small e g t = legal-small here e c tried (tail-parts s here e g t).0

    pub here-stuck : (g : List ℕ) → T (live_from s here g) → here.slot + length g ≡ hyper s → ⊥
    unfolding here
    here-stuck [] t q = let a = reach-slot s v in omega arith
    here-stuck (e ∷ g) t q = go (le-or-lt (hyper s) (suc (length v)))
      where
        go : (hyper s ≤ suc (length v)) ⊎ (suc (length v) < hyper s) → ⊥
        go (inl k) = let a = on-length e in I.none (v ++ e ∷ []) (on-live e g t) (omega arith) (ahead-on v e c [] (on-small e g t))
        go (inr k) =
            let a = on-length e in let b = reach-slot s v in let n = next-slot s (run s (start s) v) e in
            I.stuck (next s (run s (start s) v) e) (rw (run-one s v e) at (I.done (v ++ e ∷ []) (on-live e g t) (omega arith) (ahead-on v e c [] (on-small e g t)))) g (tail-parts s (run s (start s) v) e g t).1 (omega arith)

    here-closed : (g : List ℕ) → T (live_from s here g) → here.slot + length g < hyper s → In (run s here g) (here ∷ R)
    unfolding here run
    here-closed [] t q = inl refl
    here-closed (e ∷ g) t q =
        let a = on-length e in let b = reach-slot s v in let n = next-slot s (run s (start s) v) e in
        inr (I.closed (next s (run s (start s) v) e) (rw (run-one s v e) at (I.done (v ++ e ∷ []) (on-live e g t) (omega arith) (ahead-on v e c [] (on-small e g t)))) g (tail-parts s (run s (start s) v) e g t).1 (omega arith))

    pub here-new : ¬ In here R
    unfolding here
    here-new h = I.trail (length v) (omega arith) (rw (take-length v) h)

    all-stuck : (x : Position) → In x (here ∷ R) → (g : List ℕ) → T (live_from s x g) → x.slot + length g ≡ hyper s → ⊥
    all-stuck x (inl e) g t q = here-stuck g (rw e at t) (ap (λ y. y.slot + length g) (sym e) ∙ q)
    all-stuck x (inr h) g t q = I.stuck x h g t q

    all_closed : (x : Position) → In x (here ∷ R) → (g : List ℕ) → T (live_from s x g) → x.slot + length g < hyper s → In (run s x g) (here ∷ R)
    all_closed x (inl e) g t q = subst (λ (y : Position). In (run s y g) (here ∷ R)) (sym e) (here-closed g (rw e at t) (rw e at q))
    all_closed x (inr h) g t q = inr (I.closed x h g t q)

    -- a list that goes on from v leads to a record
    pub on-done : (w' : List ℕ) → T (live_from s (start s) (v ++ w')) → length (v ++ w') < hyper s → In (run s (start s) (v ++ w')) (here ∷ R)
    unfolding here
    on-done [] t l = inl (ap (λ u. run s (start s) u) (append-nil v))
    on-done (e ∷ w') t l = inr (I.done (v ++ e ∷ w') t l (ahead-on v e c w' (on-small e w' (live-append s (start s) v (e ∷ w') t).1)))

  -- at the end of the choices the trail's last position is dead: it is recorded, and the choice before it is taken back
  pub back : (v : List ℕ) (d c : ℕ) (R : List Position) → Inv s (v ++ d ∷ []) c R → idle < c → length (v ++ d ∷ []) < hyper s → Inv s v (suc d) (run s (start s) (v ++ d ∷ []) ∷ R)
  unfolding here
  back v d c R I tried short = record {
    live = (live-append s (start s) v (d ∷ []) I.live).0;
    distinct = (here-new (v ++ d ∷ []) c R I tried short, I.distinct);
    reached = reached';
    stuck = all-stuck (v ++ d ∷ []) c R I tried short;
    closed = all_closed (v ++ d ∷ []) c R I tried short;
    done = λ w t l a. done' w t l (ahead-next w v d a);
    none = λ w t l a. none' w t l (ahead-next w v d a);
    trail = trail';
  }
    where
      joined : (w' : List ℕ) → ◌≡◌ {A = List ℕ} (v ++ d ∷ w') ((v ++ d ∷ []) ++ w')
      joined w' = sym (append_assoc v (d ∷ []) w')

      reached' : (x : Position) → In x (run s (start s) (v ++ d ∷ []) ∷ R) → (w : List ℕ) × T (live_from s (start s) w) × (run s (start s) w ≡ x) × ahead w (v ++ suc d ∷ []) × (length w < hyper s)
      reached' x (inl e) = (v ++ d ∷ [], I.live, sym e, ahead-on v d (suc d) [] (omega arith), short)
      reached' x (inr h) = let r = I.reached x h in (r.0, r.1, r.2, ahead-back r.0 v d c r.3, r.4)

      done' : (w : List ℕ) → T (live_from s (start s) w) → length w < hyper s → ahead w (v ++ d ∷ []) ⊎ ((w' : List ℕ) × (w ≡ v ++ d ∷ w')) → In (run s (start s) w) (run s (start s) (v ++ d ∷ []) ∷ R)
      done' w t l (inl a) = inr (I.done w t l (ahead_more w (v ++ d ∷ []) (c ∷ []) a))
      done' w t l (inr e) =
          let q = e.1 ∙ joined e.0 in
          subst (λ (u : List ℕ). In (run s (start s) u) (run s (start s) (v ++ d ∷ []) ∷ R)) (sym q) (on-done (v ++ d ∷ []) c R I tried short e.0 (rw q at t) (rw q at l))

      none' : (w : List ℕ) → T (live_from s (start s) w) → length w ≡ hyper s → ahead w (v ++ d ∷ []) ⊎ ((w' : List ℕ) × (w ≡ v ++ d ∷ w')) → ⊥
      none' w t l (inl a) = I.none w t l (ahead_more w (v ++ d ∷ []) (c ∷ []) a)
      none' w t l (inr e) =
          let q = e.1 ∙ joined e.0 in
          let a = (live-append s (start s) (v ++ d ∷ []) e.0 (rw q at t)).1 in
          let m = length-append (v ++ d ∷ []) e.0 in let b = reach-slot s (v ++ d ∷ []) in let n = ap length q in
          here-stuck (v ++ d ∷ []) c R I tried short e.0 a (omega arith)

      trail' : (n : ℕ) → n ≤ length v → ¬ In (run s (start s) (take n v)) (run s (start s) (v ++ d ∷ []) ∷ R)
      trail' n h (inl e) =
          let a = reach-slot s (take n v) in let b = reach-slot s (v ++ d ∷ []) in let m = length-append v (d ∷ []) in let q = ap (λ y. y.slot) e in let k = length-take-le n v h in omega arith
      trail' n h (inr k) = let m = length-append v (d ∷ []) in I.trail n (omega arith) (rw (take-append-le n v (d ∷ []) h) k)
