-- If p is nowhere ahead of q at the same slot and a live list leads from p to H, one leads from q.
use mathlib.Core.Path.{◌≡◌, refl, sym, ap, ◌∙◌}
use mathlib.Core.Logic.{◌⊎◌, inl, inr}
use mathlib.Core.Bool.{Bool, true, false, not, cond, ◌||◌}
use mathlib.Core.List.{List, [], ◌∷◌}
use Prim.Native.Nat.{ℕ, suc, ◌≤◌, ◌<◌, ◌%◌}
use native.Mathlib.Omega.{arith}
use borrow.Author.Tests.{eqb-true, eqb-false, eq-eqb, ne_eqb}
use lib.Dec.{T, eqb}
use lib.ListN.{length, get_or}
use Rattle.rules.specs.Tasks.{Task, span, Standing, ready, waiting, done, standing, is_ready, is_done, no_task}
use Rattle.rules.specs.Positions.{Position, moved, idle, passed, ended, starts, next, in_time, ends_well, allowed, ends_live, legal, live_position}
use Rattle.rules.specs.Choices.{live_from, Dead}
use Rattle.rules.proofs.Laws.{and_T, T_and, or-T, T_true, true-T, le-or-lt, passed-rise, passed-fits, in_time-use, in_time-done, in_time-lax, is_done-span, span-is_done, every-at, every_of}
use Rattle.rules.proofs.Run.Reach.{ended_at, ended-length, next-at, next-length}
use Rattle.rules.proofs.Plan.Decide.{FirstFrom, tail-live, cons-live, cons-before}

-- x and y are of one slot, and no task of x is further on
pub record Behind (s : List Task) (x y : Position) : Type 0 where
  pub slots : x.slot ≡ y.slot
  pub long_x : length x.progress ≡ length s
  pub long_y : length y.progress ≡ length s
  pub none-on : (j : ℕ) → j < length s → get_or x.progress j 0 ≤ get_or y.progress j 0
  pub fits : (j : ℕ) → j < length s → get_or y.progress j 0 ≤ span (get_or s j no_task)

-- one task, one test: further on is no worse
in_time-mono : (e : ℕ) (τ : Task) (p r : ℕ) → p ≤ r → r ≤ span τ → T (in_time e τ p) → T (in_time e τ r)
in_time-mono e τ p r h k t = go (le-or-lt (span τ) r)
  where
    go : (span τ ≤ r) ⊎ (r < span τ) → T (in_time e τ r)
    go (inl l) = in_time-done e τ r l
    go (inr l) = let u = in_time-use e τ p (omega arith) t in in_time-lax e τ r k (omega arith)

ends-mono : (t : ℕ) (τ : Task) (p r : ℕ) → p ≤ r → r ≤ span τ → T (ends_well t τ p) → T (ends_well t τ r)
unfolding ends_well
ends-mono t τ p r h k e =
    let a = T_and (in_time (suc (t % τ.period)) τ p) _ e in
    and_T (in_time (suc (t % τ.period)) τ r) _ (in_time-mono (suc (t % τ.period)) τ p r h k a.0) (go (not (starts (suc t) τ)) a.1)
  where
    go : (b : Bool) → T (b || is_done (standing τ p)) → T (b || is_done (standing τ r))
    go true q = tt
    go false q = let d = is_done-span τ p q in span-is_done τ r (omega arith)

live-mono : (s : List Task) (x y : Position) → Behind s x y → T (live_position s x) → T (live_position s y)
unfolding live_position
live-mono s x y B t = every_of _ s y.progress (λ j h.
    in_time-mono (y.slot % (get_or s j no_task).period) (get_or s j no_task) (get_or x.progress j 0) (get_or y.progress j 0) (B.none-on j h) (B.fits j h)
    (rw B.slots at (every-at (λ τ p. in_time (x.slot % τ.period) τ p) s x.progress j B.long_x h t)))

-- a choice in x, and one in y, that keep y from falling behind
pub record Leads (s : List Task) (x y : Position) (c d : ℕ) : Type 0 where
  pub may : T (allowed s y.progress d)
  pub ahead : (j : ℕ) → j < length s → passed c j (get_or s j no_task) (get_or x.progress j 0) ≤ passed d j (get_or s j no_task) (get_or y.progress j 0)

next-slots : (s : List Task) (x y : Position) (c d : ℕ) → x.slot ≡ y.slot → (next s x c).slot ≡ (next s y d).slot
unfolding next
next-slots s x y c d e = ap suc e

module _ (s : List Task) (x y : Position) (c d : ℕ) (B : Behind s x y) (L : Leads s x y c d) where
  ended-on : (j : ℕ) → j < length s → get_or (ended s x.progress c) j 0 ≤ get_or (ended s y.progress d) j 0
  ended-on j h = rw (ended_at s x.progress c j B.long_x h, ended_at s y.progress d j B.long_y h) (L.ahead j h)

  ended-fits : (j : ℕ) → j < length s → get_or (ended s y.progress d) j 0 ≤ span (get_or s j no_task)
  ended-fits j h = rw (ended_at s y.progress d j B.long_y h) (passed-fits d j (get_or s j no_task) (get_or y.progress j 0) (B.fits j h))

  ends_on : T (ends_live s x c) → T (ends_live s y d)
  unfolding ends_live
  ends_on t = and_T (allowed s y.progress d) _ L.may (every_of (ends_well y.slot) s (ended s y.progress d) (λ j h.
      rw B.slots at (ends-mono x.slot (get_or s j no_task) (get_or (ended s x.progress c) j 0) (get_or (ended s y.progress d) j 0) (ended-on j h) (ended-fits j h)
      (every-at (ends_well x.slot) s (ended s x.progress c) j (ended-length s x.progress c B.long_x) h (T_and (allowed s x.progress c) _ t).1))))

  cond-mono : (b : Bool) (m n : ℕ) → m ≤ n → cond b 0 m ≤ cond b 0 n
  cond-mono true m n h = omega arith
  cond-mono false m n h = h

  cond-fits : (b : Bool) (m n : ℕ) → m ≤ n → cond b 0 m ≤ n
  cond-fits true m n h = omega arith
  cond-fits false m n h = h

  next-on : Behind s (next s x c) (next s y d)
  next-on = record {
    slots = next-slots s x y c d B.slots;
    long_x = next-length s x c B.long_x;
    long_y = next-length s y d B.long_y;
    none-on = λ j h. rw (next-at s x c j B.long_x h, next-at s y d j B.long_y h, B.slots) (cond-mono (starts (suc y.slot) (get_or s j no_task)) _ _ (ended-on j h));
    fits = λ j h. rw (next-at s y d j B.long_y h) (cond-fits (starts (suc y.slot) (get_or s j no_task)) _ _ (ended-fits j h));
  }

  legal-on : T (legal s x c) → T (legal s y d)
  unfolding legal
  legal-on t = let a = T_and (ends_live s x c) _ t in and_T (ends_live s y d) _ (ends_on a.0) (live-mono s (next s x c) (next s y d) next-on a.1)

-- ── to follow a list from further on ────────────────────────────────────────

passed-less : (c d j : ℕ) (τ : Task) (p r : ℕ) → p < r → passed c j τ p ≤ passed d j τ r
passed-less c d j τ p r h = let a = (passed-rise c j τ p).1 in let b = (passed-rise d j τ r).0 in omega arith

may-same : (s : List Task) (xs ys : List ℕ) (c : ℕ) → get_or ys c 0 ≡ get_or xs c 0 → T (allowed s xs c) → T (allowed s ys c)
unfolding allowed
may-same s xs ys c e t = rw e t

may-idle : (s : List Task) (ys : List ℕ) → T (allowed s ys idle)
unfolding allowed
may-idle s ys = or-T (eqb idle idle) _ (inl (true-T _ (eq-eqb idle idle refl)))

may-ready : (s : List Task) (ys : List ℕ) (i : ℕ) → T (is_ready (standing (get_or s i no_task) (get_or ys i 0))) → T (allowed s ys i)
unfolding allowed
may-ready s ys i t = or-T (eqb i idle) _ (inr t)

-- to be chosen is no worse
more : (c d j : ℕ) (τ : Task) (p : ℕ) → eqb c j ≡ false → passed c j τ p ≤ passed d j τ p
unfolding passed moved
more c d j τ p e = rw e (go (standing τ p) (eqb d j))
  where
    go : (k : Standing) (b : Bool) → moved k false p ≤ moved k b p
    go ready true = omega arith
    go ready false = omega arith
    go waiting b = omega arith
    go done b = omega arith

passed-mono : (c d j : ℕ) (τ : Task) (p r : ℕ) → eqb c j ≡ eqb d j → p ≤ r → passed c j τ p ≤ passed d j τ r
unfolding passed
passed-mono c d j τ p r e h = go (le-or-lt r p)
  where
    go : (r ≤ p) ⊎ (p < r) → passed c j τ p ≤ passed d j τ r
    go (inl l) = let w : p ≡ r = omega arith in rw (w, e) (omega arith)
    go (inr l) = passed-less c d j τ p r l

module _ (s : List Task) (small : length s ≤ idle) where
  -- the same choice where its task stands in y as in x, else idle
  pick : Position → Position → ℕ → ℕ
  pick x y c = cond (eqb (get_or y.progress c 0) (get_or x.progress c 0)) c idle

  idle-not : (j : ℕ) → j < length s → eqb idle j ≡ false
  idle-not j h = ne_eqb idle j (λ e. omega arith)

  leads : (x y : Position) (c : ℕ) → Behind s x y → T (allowed s x.progress c) → Leads s x y c (pick x y c)
  unfolding pick
  leads x y c B t = go (eqb (get_or y.progress c 0) (get_or x.progress c 0)) refl
    where
      rest : (j : ℕ) → j < length s → eqb (get_or y.progress c 0) (get_or x.progress c 0) ≡ false → (b : Bool) → eqb c j ≡ b
          → passed c j (get_or s j no_task) (get_or x.progress j 0) ≤ passed idle j (get_or s j no_task) (get_or y.progress j 0)
      rest j h n false e = passed-mono c idle j (get_or s j no_task) (get_or x.progress j 0) (get_or y.progress j 0) (e ∙ sym (idle-not j h)) (B.none-on j h)
      rest j h n true e =
          let w : c ≡ j = eqb-true c j e in
          let z = eqb-false (get_or y.progress c 0) (get_or x.progress c 0) n in
          let z' = rw w at z in
          let o = B.none-on j h in
          passed-less c idle j (get_or s j no_task) (get_or x.progress j 0) (get_or y.progress j 0) (lt o z')
        where
          lt : get_or x.progress j 0 ≤ get_or y.progress j 0 → (get_or y.progress j 0 ≡ get_or x.progress j 0 → ⊥) → get_or x.progress j 0 < get_or y.progress j 0
          lt o z = omega arith

      go : (b : Bool) → eqb (get_or y.progress c 0) (get_or x.progress c 0) ≡ b → Leads s x y c (cond b c idle)
      go true e = record {
        may = may-same s x.progress y.progress c (eqb-true (get_or y.progress c 0) (get_or x.progress c 0) e) t;
        ahead = λ j h. passed-mono c c j (get_or s j no_task) (get_or x.progress j 0) (get_or y.progress j 0) refl (B.none-on j h);
      }
      go false e = record { may = may-idle s y.progress; ahead = λ j h. rest j h e (eqb c j) refl }

  pub follow : (x y : Position) (cs : List ℕ) → Behind s x y → T (live_from s x cs) → (ds : List ℕ) × T (live_from s y ds) × (length ds ≡ length cs)
  unfolding live_from ends_live legal
  follow x y [] B t = ([], tt, refl)
  follow x y (c ∷ cs) B t =
      let a = T_and (legal s x c) (live_from s (next s x c) cs) t in
      let L = leads x y c B (T_and (allowed s x.progress c) _ (T_and (ends_live s x c) _ a.0).0).0 in
      let r = follow (next s x c) (next s y (pick x y c)) cs (next-on s x y c (pick x y c) B L) a.1 in
      (pick x y c ∷ r.0, and_T (legal s y (pick x y c)) _ (legal-on s x y c (pick x y c) B L a.0) r.1, ap suc r.2)

  -- Ticket 10: a dead position makes every live position of its slot dead if no task there is further on
  pub dead-behind : (x y : Position) → Behind s x y → T (live_position s x) → Dead s y → Dead s x
  dead-behind x y B l D = record {
    below = (let e = B.slots in let b = D.below in omega arith);
    live = l;
    blocked = λ cs t e. let r = follow x y cs B t in let q = B.slots in let n = r.2 in D.blocked r.0 r.1 (omega arith);
  }

  -- Ticket 9: the first list never idles beside a ready task
  pub first-busy : (k : ℕ) (x : Position) (f : List ℕ) (i : ℕ) → length x.progress ≡ length s → ((j : ℕ) → j < length s → get_or x.progress j 0 ≤ span (get_or s j no_task))
      → i < length s → T (is_ready (standing (get_or s i no_task) (get_or x.progress i 0))) → ¬ FirstFrom s (suc k) x (idle ∷ f)
  first-busy k x f i len fits h able F =
      let a = tail-live s k x idle f F.to in
      let r = follow (next s x idle) (next s x i) f (next-on s x x idle i B L) a.1.live in
      F.least (i ∷ r.0) (cons-live s k x i r.0 (T_true _ (legal-on s x x idle i B L (true-T _ a.0))) (record { live = r.1; long = r.2 ∙ a.1.long }))
      (cons-before i idle r.0 f (inl (omega arith)))
    where
      B : Behind s x x
      B = record { slots = refl; long_x = len; long_y = len; none-on = λ j h. omega arith; fits = fits }

      L : Leads s x x idle i
      L = record { may = may-ready s x.progress i able; ahead = λ j m. more idle i j (get_or s j no_task) (get_or x.progress j 0) (idle-not j m) }
