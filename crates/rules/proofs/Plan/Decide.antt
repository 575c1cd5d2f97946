-- The search decides the definitions.
use mathlib.Core.Path.{◌≡◌, refl, sym, ap, ◌∙◌}
use mathlib.Core.Logic.{◌⊎◌, inl, inr, ◌≢◌}
use mathlib.Core.Bool.{Bool, true, false, ◌&&◌}
use mathlib.Core.List.{List, [], ◌∷◌, ◌++◌}
use mathlib.Core.Option.{Option, none, some}
use Prim.Native.Nat.{ℕ, zero, suc, ◌+◌, ◌≤◌, ◌<◌}
use native.Mathlib.Omega.{arith}
use borrow.Author.Tests.{ltb-true, eqb-true, eqb-false, eq-eqb, ne_eqb, lt-ltb}
use lib.Dec.{T, ltb, eqb, eqb→eq}
use lib.ListN.{get_or-eq_default, length, take}
use Rattle.rules.specs.Lists.{In}
use Rattle.rules.specs.Tasks.{Task, standing, within, is_ready, no_task}
use Rattle.rules.specs.Positions.{Position, idle, allowed, next, ends_live, legal}
use Rattle.rules.specs.Choices.{run, live_from, before}
use Rattle.rules.proofs.Laws.{and_T, T_and, T-or, or-T, T_true, true-T, le-or-lt}
use Rattle.rules.proofs.Plan.Search.{up_from, first_among, attempt, first, is_none, up_to_first, behind, head_if, passed_over}

-- ── membership ──────────────────────────────────────────────────────────────

pub In-left : {A : Type 0} (y : A) (xs ys : List A) → In y xs → In y (xs ++ ys)
In-left y [] ys h = absurd h
In-left y (x ∷ xs) ys (inl e) = inl e
In-left y (x ∷ xs) ys (inr h) = inr (In-left y xs ys h)

pub In-right : {A : Type 0} (y : A) (xs ys : List A) → In y ys → In y (xs ++ ys)
In-right y [] ys h = h
In-right y (x ∷ xs) ys h = inr (In-right y xs ys h)

pub In-append : {A : Type 0} (y : A) (xs ys : List A) → In y (xs ++ ys) → In y xs ⊎ In y ys
In-append y [] ys h = inr h
In-append y (x ∷ xs) ys (inl e) = inl (inl e)
In-append y (x ∷ xs) ys (inr h) = go (In-append y xs ys h)
  where
    go : In y xs ⊎ In y ys → In y (x ∷ xs) ⊎ In y ys
    go (inl k) = inl (inr k)
    go (inr k) = inr k

-- ── the first of the choices ────────────────────────────────────────────────

module _ (F : ℕ → Option (List ℕ)) where
  -- f stands first: its head is the least choice at which F gives a list
  pub record Least (i : ℕ) (f : List ℕ) : Type 0 where
    pub head : ℕ
    pub tail : List ℕ
    pub whole : f ≡ head ∷ tail
    pub given : F head ≡ some tail
    pub none_below : (d : ℕ) → i ≤ d → d < head → F d ≡ none

  step-none : (c : ℕ) (cs : List ℕ) → F c ≡ none → first_among F (c ∷ cs) ≡ first_among F cs
  unfolding first_among
  step-none c cs e = rw (e, first_among)

  step-some : (c : ℕ) (cs : List ℕ) (l : List ℕ) → F c ≡ some l → first_among F (c ∷ cs) ≡ some (c ∷ l)
  unfolding first_among
  step-some c cs l e = rw (e, first_among)

  step-nil : first_among F [] ≡ none
  unfolding first_among
  step-nil = refl

  among-some : (i n : ℕ) (f : List ℕ) → ((d : ℕ) → i + n ≤ d → d ≢ idle → F d ≡ none) → i + n ≤ idle → first_among F (up_from i n) ≡ some f → Least i f
  unfolding up_from
  among-some i zero f out h e = go (F idle) refl
    where
      go : (o : Option (List ℕ)) → F idle ≡ o → Least i f
      go none q = let z : ◌≡◌ {A = ℕ} 0 1 = cc (step-none idle [] q, step-nil) in let y : ⊥ = omega arith in absurd y
      go (some l) q = record { head = idle; tail = l; whole = cc (step-some idle [] l q); given = q; none_below = λ d a b. out d (omega arith) (omega arith) }
  among-some i (suc n) f out h e = go (F i) refl (among-some (suc i) n f (λ d a. out d (omega arith)) (omega arith))
    where
      go : (o : Option (List ℕ)) → F i ≡ o → (first_among F (up_from (suc i) n) ≡ some f → Least (suc i) f) → Least i f
      go none q ih =
          let L = ih (cc (step-none i (up_from (suc i) n) q)) in
          record { head = L.head; tail = L.tail; whole = L.whole; given = L.given; none_below = λ d a b. below L.head L.none_below d a b (le-or-lt (suc i) d) }
        where
          below : (m : ℕ) → ((d : ℕ) → suc i ≤ d → d < m → F d ≡ none) → (d : ℕ) → i ≤ d → d < m → (suc i ≤ d) ⊎ (d < suc i) → F d ≡ none
          below m r d a b (inl k) = r d k b
          below m r d a b (inr k) = let w : d ≡ i = omega arith in rw w q
      go (some l) q ih = record { head = i; tail = l; whole = cc (step-some i (up_from (suc i) n) l q); given = q; none_below = λ d a b. let y : ⊥ = omega arith in absurd y }

  among_none : (i n : ℕ) → ((d : ℕ) → i + n ≤ d → d ≢ idle → F d ≡ none) → first_among F (up_from i n) ≡ none → (d : ℕ) → i ≤ d → F d ≡ none
  unfolding up_from
  among_none i zero out e d h = go (F idle) refl (eqb d idle) refl
    where
      go : (o : Option (List ℕ)) → F idle ≡ o → (b : Bool) → eqb d idle ≡ b → F d ≡ none
      go none q true w = rw (eqb-true d idle w) q
      go none q false w = out d (omega arith) (eqb-false d idle w)
      go (some l) q b w = let z : ◌≡◌ {A = ℕ} 0 1 = cc (step-some idle [] l q) in let y : ⊥ = omega arith in absurd y
  among_none i (suc n) out e d h = go (F i) refl (le-or-lt (suc i) d) (λ r. among_none (suc i) n (λ d a. out d (omega arith)) r d)
    where
      go : (o : Option (List ℕ)) → F i ≡ o → (suc i ≤ d) ⊎ (d < suc i) → (first_among F (up_from (suc i) n) ≡ none → suc i ≤ d → F d ≡ none) → F d ≡ none
      go none q (inl k) ih = ih (cc (step-none i (up_from (suc i) n) q)) k
      go none q (inr k) ih = let w : d ≡ i = omega arith in rw w q
      go (some l) q k ih = let z : ◌≡◌ {A = ℕ} 0 1 = cc (step-some i (up_from (suc i) n) l q) in let y : ⊥ = omega arith in absurd y

  module _ (G : ℕ → List Position) where
    up-nil : up_to_first F G [] ≡ []
    unfolding up_to_first
    up-nil = refl

    up_none : (c : ℕ) (cs : List ℕ) → F c ≡ none → up_to_first F G (c ∷ cs) ≡ G c ++ up_to_first F G cs
    unfolding up_to_first
    up_none c cs e = rw (e, up_to_first)

    up-some : (c : ℕ) (cs l : List ℕ) → F c ≡ some l → up_to_first F G (c ∷ cs) ≡ G c
    unfolding up_to_first
    up-some c cs l e = rw (e, up_to_first)

    -- y is given at a choice before which F gives nothing
    pub record Upto (i : ℕ) (y : Position) : Type 0 where
      pub at : ℕ
      pub after : i ≤ at
      pub there : In y (G at)
      pub none_below : (d : ℕ) → i ≤ d → d < at → F d ≡ none

    up-sound : (i n : ℕ) (y : Position) → ((d : ℕ) → i + n ≤ d → d ≢ idle → F d ≡ none) → i + n ≤ idle → In y (up_to_first F G (up_from i n)) → Upto i y
    unfolding up_from
    up-sound i zero y out h t = go (F idle) refl
      where
        fin : In y (G idle) → Upto i y
        fin k = record { at = idle; after = omega arith; there = k; none_below = λ d a b. out d (omega arith) (omega arith) }

        one : In y (G idle) ⊎ In y (up_to_first F G []) → Upto i y
        one (inl k) = fin k
        one (inr k) = absurd (rw up-nil at k)

        go : (o : Option (List ℕ)) → F idle ≡ o → Upto i y
        go none q = one (In-append y (G idle) (up_to_first F G []) (rw (up_none idle [] q) at t))
        go (some l) q = fin (rw (up-some idle [] l q) at t)
    up-sound i (suc n) y out h t = go (F i) refl (up-sound (suc i) n y (λ d a. out d (omega arith)) (omega arith))
      where
        fin : In y (G i) → Upto i y
        fin k = record { at = i; after = omega arith; there = k; none_below = λ d a b. let z : ⊥ = omega arith in absurd z }

        below : F i ≡ none → (m : ℕ) → ((d : ℕ) → suc i ≤ d → d < m → F d ≡ none) → (d : ℕ) → i ≤ d → d < m → (suc i ≤ d) ⊎ (d < suc i) → F d ≡ none
        below q m r d a b (inl k) = r d k b
        below q m r d a b (inr k) = let w : d ≡ i = omega arith in rw w q

        one : F i ≡ none → In y (G i) ⊎ In y (up_to_first F G (up_from (suc i) n)) → (In y (up_to_first F G (up_from (suc i) n)) → Upto (suc i) y) → Upto i y
        one q (inl k) ih = fin k
        one q (inr k) ih =
            let U = ih k in
            record { at = U.at; after = (let u = U.after in omega arith); there = U.there; none_below = λ d a b. below q U.at U.none_below d a b (le-or-lt (suc i) d) }

        go : (o : Option (List ℕ)) → F i ≡ o → (In y (up_to_first F G (up_from (suc i) n)) → Upto (suc i) y) → Upto i y
        go none q ih = one q (In-append y (G i) (up_to_first F G (up_from (suc i) n)) (rw (up_none i (up_from (suc i) n) q) at t)) ih
        go (some l) q ih = fin (rw (up-some i (up_from (suc i) n) l q) at t)

    up-complete : (i n : ℕ) (y : Position) → ((d : ℕ) → i + n ≤ d → d ≢ idle → G d ≡ []) → Upto i y → In y (up_to_first F G (up_from i n))
    unfolding up_from
    up-complete i zero y out U = go (F idle) refl (eqb U.at idle) refl
      where
        go : (o : Option (List ℕ)) → F idle ≡ o → (b : Bool) → eqb U.at idle ≡ b → In y (up_to_first F G (idle ∷ []))
        go o q false w = absurd (rw (out U.at (let u = U.after in omega arith) (eqb-false U.at idle w)) at U.there)
        go none q true w = rw (up_none idle [] q) (In-left y (G idle) (up_to_first F G []) (rw (eqb-true U.at idle w) at U.there))
        go (some l) q true w = rw (up-some idle [] l q) (rw (eqb-true U.at idle w) at U.there)
    up-complete i (suc n) y out U = go (F i) refl (le-or-lt (suc i) U.at)
        (λ k. up-complete (suc i) n y (λ d a. out d (omega arith)) (record { at = U.at; after = k; there = U.there; none_below = λ d a b. U.none_below d (omega arith) b }))
      where
        go : (o : Option (List ℕ)) → F i ≡ o → (suc i ≤ U.at) ⊎ (U.at < suc i) → (suc i ≤ U.at → In y (up_to_first F G (up_from (suc i) n))) → In y (up_to_first F G (i ∷ up_from (suc i) n))
        go none q (inl k) ih = rw (up_none i (up_from (suc i) n) q) (In-right y (G i) (up_to_first F G (up_from (suc i) n)) (ih k))
        go none q (inr k) ih = let u = U.after in let w : U.at ≡ i = omega arith in rw (up_none i (up_from (suc i) n) q) (In-left y (G i) (up_to_first F G (up_from (suc i) n)) (rw w at U.there))
        go (some l) q (inl k) ih = let e = U.none_below i (omega arith) k in let z : ◌≡◌ {A = ℕ} 0 1 = cc in let x : ⊥ = omega arith in absurd x
        go (some l) q (inr k) ih = let u = U.after in let w : U.at ≡ i = omega arith in rw (up-some i (up_from (suc i) n) l q) (rw w at U.there)

-- ── order ───────────────────────────────────────────────────────────────────

pub before-cons : (c d : ℕ) (cs ds : List ℕ) → T (before (c ∷ cs) (d ∷ ds)) → (c < d) ⊎ ((c ≡ d) × T (before cs ds))
unfolding before
before-cons c d cs ds t = go (T-or (ltb c d) _ t)
  where
    go : T (ltb c d) ⊎ T (eqb c d && before cs ds) → (c < d) ⊎ ((c ≡ d) × T (before cs ds))
    go (inl h) = inl (ltb-true c d (T_true _ h))
    go (inr h) = inr (eqb→eq c d (T_and (eqb c d) _ h).0, (T_and (eqb c d) _ h).1)

pub cons-before : (c d : ℕ) (cs ds : List ℕ) → (c < d) ⊎ ((c ≡ d) × T (before cs ds)) → T (before (c ∷ cs) (d ∷ ds))
unfolding before
cons-before c d cs ds (inl h) = or-T (ltb c d) _ (inl (true-T _ (lt-ltb c d h)))
cons-before c d cs ds (inr h) = or-T (ltb c d) _ (inr (and_T (eqb c d) _ (true-T _ (eq-eqb c d h.0)) h.1))

-- ── the first live list ─────────────────────────────────────────────────────

-- cs is a live list of k choices from x
pub record LiveTo (s : List Task) (k : ℕ) (x : Position) (cs : List ℕ) : Type 0 where
  pub live : T (live_from s x cs)
  pub long : length cs ≡ k

-- and no other comes before it
pub record FirstFrom (s : List Task) (k : ℕ) (x : Position) (f : List ℕ) : Type 0 where
  pub to : LiveTo s k x f
  pub least : (g : List ℕ) → LiveTo s k x g → ¬ T (before g f)

pub tail-live : (s : List Task) (k : ℕ) (x : Position) (c : ℕ) (cs : List ℕ) → LiveTo s (suc k) x (c ∷ cs) → (legal s x c ≡ true) × LiveTo s k (next s x c) cs
unfolding live_from
tail-live s k x c cs l = (T_true _ (T_and (legal s x c) _ l.live).0, record { live = (T_and (legal s x c) _ l.live).1; long = (let e = l.long in omega arith) })

pub cons-live : (s : List Task) (k : ℕ) (x : Position) (c : ℕ) (cs : List ℕ) → legal s x c ≡ true → LiveTo s k (next s x c) cs → LiveTo s (suc k) x (c ∷ cs)
unfolding live_from
cons-live s k x c cs e l = record { live = and_T (legal s x c) _ (true-T _ e) l.live; long = ap suc l.long }

module _ (s : List Task) (small : length s ≤ idle) where
  pub outside : (x : Position) (d : ℕ) → length s ≤ d → d ≢ idle → legal s x d ≡ false
  unfolding ends_live legal allowed no_task standing within is_ready
  outside x d l h = rw (ne_eqb d idle h, get_or-eq_default s no_task l) refl

  module _ (f : Position → Option (List ℕ)) (x : Position) (c : ℕ) where
    attempt-legal : legal s x c ≡ true → attempt s f x c ≡ f (next s x c)
    unfolding attempt
    attempt-legal e = rw (e, attempt)

    attempt-not : legal s x c ≡ false → attempt s f x c ≡ none
    unfolding attempt
    attempt-not e = rw (e, attempt)

    attempt-some : (l : List ℕ) → attempt s f x c ≡ some l → (legal s x c ≡ true) × (f (next s x c) ≡ some l)
    attempt-some l e = go (legal s x c) refl
      where
        go : (b : Bool) → legal s x c ≡ b → (legal s x c ≡ true) × (f (next s x c) ≡ some l)
        go true q = (q, sym (attempt-legal q) ∙ e)
        go false q = let z : ◌≡◌ {A = ℕ} 0 1 = cc (attempt-not q) in let y : ⊥ = omega arith in absurd y

  out : (f : Position → Option (List ℕ)) (x : Position) (d : ℕ) → 0 + length s ≤ d → d ≢ idle → attempt s f x d ≡ none
  out f x d l h = attempt-not f x d (outside x d (omega arith) h)

  first-suc : (k : ℕ) (x : Position) → first s (suc k) x ≡ first_among (attempt s (λ y. first s k y) x) (up_from 0 (length s))
  unfolding first
  first-suc k x = refl

  pub first-none : (k : ℕ) (x : Position) → first s k x ≡ none → (g : List ℕ) → LiveTo s k x g → ⊥
  unfolding first
  first-none zero x e g l = let z : ◌≡◌ {A = ℕ} 0 1 = cc in omega arith
  first-none (suc k) x e [] l = let q = l.long in omega arith
  first-none (suc k) x e (c ∷ g) l =
      let t = tail-live s k x c g l in
      let n : attempt s (λ y. first s k y) x c ≡ none = among_none (attempt s (λ y. first s k y) x) 0 (length s) (out (λ y. first s k y) x) e c (omega arith) in
      first-none k (next s x c) (sym (attempt-legal (λ y. first s k y) x c t.0) ∙ n) g t.1

  pub first_some : (k : ℕ) (x : Position) (f : List ℕ) → first s k x ≡ some f → FirstFrom s k x f
  unfolding first live_from before
  first_some zero x f e = let w : f ≡ [] = cc in rw w (record { to = record { live = tt; long = refl }; least = nil })
    where
      nil : (g : List ℕ) → LiveTo s 0 x g → ¬ T (before g [])
      nil [] l t = t
      nil (c ∷ g) l t = t
  first_some (suc k) x f e =
      let L = among-some (attempt s (λ y. first s k y) x) 0 (length s) f (out (λ y. first s k y) x) (omega arith) e in
      let A = attempt-some (λ y. first s k y) x L.head L.tail L.given in
      rw L.whole (make L.head L.tail A.0 L.none_below (first_some k (next s x L.head) L.tail A.1))
    where
      make : (c : ℕ) (l : List ℕ) → legal s x c ≡ true → ((d : ℕ) → 0 ≤ d → d < c → attempt s (λ y. first s k y) x d ≡ none) → FirstFrom s k (next s x c) l → FirstFrom s (suc k) x (c ∷ l)
      make c l e nb F = record { to = cons-live s k x c l e F.to; least = least' }
        where
          least' : (g : List ℕ) → LiveTo s (suc k) x g → ¬ T (before g (c ∷ l))
          least' [] q t = t
          least' (d ∷ g) q t = go (before-cons d c g l t)
            where
              T' : (legal s x d ≡ true) × LiveTo s k (next s x d) g
              T' = tail-live s k x d g q

              go : (d < c) ⊎ ((d ≡ c) × T (before g l)) → ⊥
              go (inl h) = first-none k (next s x d) (sym (attempt-legal (λ y. first s k y) x d T'.0) ∙ nb d (omega arith) h) g T'.1
              go (inr h) = F.least g (rw h.0 at T'.1) h.1

-- ── the dead positions passed over ──────────────────────────────────────────

-- y, from which no live list of the choices left leads on, is reached from x by a live list
-- that comes before the beginning of the first live list of k choices, if there is one
pub record Passed (s : List Task) (k : ℕ) (x y : Position) : Type 0 where
  pub by : List ℕ
  pub live : T (live_from s x by)
  pub reached : run s x by ≡ y
  pub left : ℕ
  pub long : length by + suc left ≡ k
  pub blocked : (g : List ℕ) → ¬ LiveTo s (suc left) y g
  pub early : (f : List ℕ) → FirstFrom s k x f → T (before by (take (length by) f))

In-head : (b : Bool) (y x : Position) (ys : List Position) → In y (head_if b x ys) → (T b × (y ≡ x)) ⊎ In y ys
unfolding head_if
In-head true y x ys (inl e) = inl (tt, e)
In-head true y x ys (inr h) = inr h
In-head false y x ys h = inr h

head-In : (b : Bool) (y x : Position) (ys : List Position) → (T b × (y ≡ x)) ⊎ In y ys → In y (head_if b x ys)
unfolding head_if
head-In true y x ys (inl e) = inl e.1
head-In true y x ys (inr h) = inr h
head-In false y x ys (inl e) = absurd e.0
head-In false y x ys (inr h) = h

is_none-none : (o : Option (List ℕ)) → T (is_none o) → o ≡ none
unfolding is_none
is_none-none none t = refl
is_none-none (some l) t = absurd t

none-is_none : (o : Option (List ℕ)) → o ≡ none → T (is_none o)
unfolding is_none
none-is_none o e = rw e tt

module _ (s : List Task) (small : length s ≤ idle) where
  module _ (g : Position → List Position) (x : Position) (c : ℕ) where
    behind-legal : legal s x c ≡ true → behind s g x c ≡ g (next s x c)
    unfolding behind
    behind-legal e = rw (e, behind)

    behind-not : legal s x c ≡ false → behind s g x c ≡ []
    unfolding behind
    behind-not e = rw (e, behind)

    behind-In : (y : Position) → In y (behind s g x c) → (legal s x c ≡ true) × In y (g (next s x c))
    behind-In y h = go (legal s x c) refl
      where
        go : (b : Bool) → legal s x c ≡ b → (legal s x c ≡ true) × In y (g (next s x c))
        go true q = (q, rw (behind-legal q) at h)
        go false q = absurd (rw (behind-not q) at h)

  -- none of the choices below c has a live list behind it
  none-live : (k : ℕ) (x : Position) (d : ℕ) (l : List ℕ) → attempt s (λ y. first s k y) x d ≡ none → ¬ LiveTo s (suc k) x (d ∷ l)
  none-live k x d l e q =
      let t = tail-live s k x d l q in
      first-none s small k (next s x d) (sym (attempt-legal s small (λ y. first s k y) x d t.0) ∙ e) l t.1

  -- the first list behind the least choice
  first-cons : (k : ℕ) (x : Position) (c : ℕ) (f : List ℕ) → legal s x c ≡ true → ((d : ℕ) → d < c → attempt s (λ y. first s k y) x d ≡ none) → FirstFrom s k (next s x c) f → FirstFrom s (suc k) x (c ∷ f)
  first-cons k x c f e nb F = record { to = cons-live s k x c f e F.to; least = least' }
    where
      least' : (g : List ℕ) → LiveTo s (suc k) x g → ¬ T (before g (c ∷ f))
      least' [] q t = let z = q.long in omega arith
      least' (d ∷ g) q t = go (before-cons d c g f t)
        where
          go : (d < c) ⊎ ((d ≡ c) × T (before g f)) → ⊥
          go (inl h) = none-live k x d g (nb d h) q
          go (inr h) = F.least g (rw h.0 at (tail-live s k x d g q).1) h.1

  first_tail : (k : ℕ) (x : Position) (c : ℕ) (f : List ℕ) → FirstFrom s (suc k) x (c ∷ f) → FirstFrom s k (next s x c) f
  first_tail k x c f F =
      let t = tail-live s k x c f F.to in
      record { to = t.1; least = λ g q b. F.least (c ∷ g) (cons-live s k x c g t.0 q) (cons-before c c g f (inr (refl, b))) }

  passed-cons : (k : ℕ) (x y : Position) (c : ℕ) → legal s x c ≡ true → ((d : ℕ) → d < c → attempt s (λ y. first s k y) x d ≡ none) → Passed s k (next s x c) y → Passed s (suc k) x y
  unfolding live_from run
  passed-cons k x y c e nb P = record {
    by = c ∷ P.by;
    live = and_T (legal s x c) _ (true-T _ e) P.live;
    reached = P.reached;
    left = P.left;
    long = (let l = P.long in omega arith);
    blocked = P.blocked;
    early = early';
  }
    where
      early' : (f : List ℕ) → FirstFrom s (suc k) x f → T (before (c ∷ P.by) (take (length (c ∷ P.by)) f))
      early' [] F = let z = F.to.long in let w : ⊥ = omega arith in absurd w
      early' (c0 ∷ f) F = go (le-or-lt c c0) (le-or-lt c0 c)
        where
          go : (c ≤ c0) ⊎ (c0 < c) → (c0 ≤ c) ⊎ (c < c0) → T (before (c ∷ P.by) (c0 ∷ take (length P.by) f))
          go (inl a) (inr h) = cons-before c c0 P.by (take (length P.by) f) (inl h)
          go (inr h) b = absurd (none-live k x c0 f (nb c0 h) F.to)
          go (inl a) (inl b) =
              let w : c0 ≡ c = omega arith in
              let F' : FirstFrom s k (next s x c) f = rw w at (first_tail k x c0 f F) in
              cons-before c c0 P.by (take (length P.by) f) (inr (sym w, P.early f F'))

  passed_here : (k : ℕ) (x y : Position) → first s (suc k) x ≡ none → y ≡ x → Passed s (suc k) x y
  unfolding live_from run
  passed_here k x y n e = rw e (record { by = []; live = tt; reached = refl; left = k; long = omega arith; blocked = first-none s small (suc k) x n; early = λ f F. absurd (first-none s small (suc k) x n f F.to) })

  pub passed-sound : (k : ℕ) (x y : Position) → In y (passed_over s k x) → Passed s k x y
  unfolding passed_over
  passed-sound zero x y h = absurd h
  passed-sound (suc k) x y h = go (In-head (is_none (first s (suc k) x)) y x _ h) (passed-sound k)
    where
      go : (T (is_none (first s (suc k) x)) × (y ≡ x)) ⊎ In y (up_to_first (attempt s (λ y. first s k y) x) (behind s (λ y. passed_over s k y) x) (up_from 0 (length s)))
          → ((x y : Position) → In y (passed_over s k x) → Passed s k x y) → Passed s (suc k) x y
      go (inl n) ih = passed_here k x y (is_none-none (first s (suc k) x) n.0) n.1
      go (inr u) ih =
          let U = up-sound (attempt s (λ y. first s k y) x) (behind s (λ y. passed_over s k y) x) 0 (length s) y (out s small (λ y. first s k y) x) (omega arith) u in
          let B = behind-In (λ y. passed_over s k y) x U.at y U.there in
          passed-cons k x y U.at B.0 (λ d l. U.none_below d (omega arith) l) (ih (next s x U.at) y B.1)

  -- the choices below one whose list comes early have no live list behind them
  none-early : (k : ℕ) (x : Position) (c : ℕ) (v : List ℕ) → ((f : List ℕ) → FirstFrom s (suc k) x f → T (before (c ∷ v) (take (suc (length v)) f)))
      → (d : ℕ) → d < c → attempt s (λ y. first s k y) x d ≡ none
  none-early k x c v early d h = go (first s (suc k) x) refl
    where
      go : (o : Option (List ℕ)) → first s (suc k) x ≡ o → attempt s (λ y. first s k y) x d ≡ none
      go none e = among_none (attempt s (λ y. first s k y) x) 0 (length s) (out s small (λ y. first s k y) x) (sym (first-suc s small k x) ∙ e) d (omega arith)
      go (some f) e = L' (among-some (attempt s (λ y. first s k y) x) 0 (length s) f (out s small (λ y. first s k y) x) (omega arith) (sym (first-suc s small k x) ∙ e))
        where
          L' : Least (attempt s (λ y. first s k y) x) 0 f → attempt s (λ y. first s k y) x d ≡ none
          L' L = L.none_below d (omega arith) (below (before-cons c L.head v (take (length v) L.tail) (rw L.whole at (early f (first_some s small (suc k) x f e)))))
            where
              below : (c < L.head) ⊎ ((c ≡ L.head) × T (before v (take (length v) L.tail))) → d < L.head
              below (inl a) = omega arith
              below (inr a) = let b = a.0 in omega arith

  blocked-none : (k : ℕ) (x : Position) → ((g : List ℕ) → ¬ LiveTo s k x g) → first s k x ≡ none
  blocked-none k x b = go (first s k x) refl
    where
      go : (o : Option (List ℕ)) → first s k x ≡ o → first s k x ≡ none
      go none e = e
      go (some f) e = absurd (b f (first_some s small k x f e).to)

  cons-legal : (x : Position) (c : ℕ) (v : List ℕ) → T (live_from s x (c ∷ v)) → legal s x c ≡ true
  unfolding live_from
  cons-legal x c v live = T_true _ (T_and (legal s x c) _ live).0

  passed-tail : (k : ℕ) (x y : Position) (c : ℕ) (v : List ℕ) (left : ℕ) → T (live_from s x (c ∷ v)) → run s x (c ∷ v) ≡ y → suc (length v) + suc left ≡ suc k → ((g : List ℕ) → ¬ LiveTo s (suc left) y g)
      → ((f : List ℕ) → FirstFrom s (suc k) x f → T (before (c ∷ v) (take (suc (length v)) f))) → Passed s k (next s x c) y
  unfolding live_from run
  passed-tail k x y c v left live reached long blocked early = record {
    by = v;
    live = (T_and (legal s x c) _ live).1;
    reached = reached;
    left = left;
    long = omega arith;
    blocked = blocked;
    early = λ f F. rest f (before-cons c c v (take (length v) f) (early (c ∷ f) (first-cons k x c f (cons-legal x c v live) (none-early k x c v early) F)));
  }
    where
      rest : (f : List ℕ) → (c < c) ⊎ ((c ≡ c) × T (before v (take (length v) f))) → T (before v (take (length v) f))
      rest f (inl h) = let z : ⊥ = omega arith in absurd z
      rest f (inr h) = h.1

  pub passed-complete : (k : ℕ) (x y : Position) → Passed s k x y → In y (passed_over s k x)
  unfolding passed_over run
  passed-complete zero x y P = let l = P.long in let z : ⊥ = omega arith in absurd z
  passed-complete (suc k) x y P = go P.by P.live P.reached P.left P.long P.blocked P.early (passed-complete k)
    where
      go : (v : List ℕ) → T (live_from s x v) → run s x v ≡ y → (left : ℕ) → length v + suc left ≡ suc k → ((g : List ℕ) → ¬ LiveTo s (suc left) y g)
          → ((f : List ℕ) → FirstFrom s (suc k) x f → T (before v (take (length v) f))) → ((x y : Position) → Passed s k x y → In y (passed_over s k x))
          → In y (head_if (is_none (first s (suc k) x)) x (up_to_first (attempt s (λ y. first s k y) x) (behind s (λ y. passed_over s k y) x) (up_from 0 (length s))))
      go [] live reached left long blocked early ih =
          let w : suc left ≡ suc k = omega arith in
          let b : (g : List ℕ) → ¬ LiveTo s (suc k) x g = rw (sym reached, w) at blocked in
          head-In (is_none (first s (suc k) x)) y x _ (inl (none-is_none _ (blocked-none (suc k) x b), sym reached))
      go (c ∷ v) live reached left long blocked early ih =
          let e = cons-legal x c v live in
          let there : In y (behind s (λ y. passed_over s k y) x c) = rw (behind-legal (λ y. passed_over s k y) x c e) (ih (next s x c) y (passed-tail k x y c v left live reached long blocked early)) in
          head-In (is_none (first s (suc k) x)) y x _ (inr (up-complete (attempt s (λ y. first s k y) x) (behind s (λ y. passed_over s k y) x) 0 (length s) y
          (λ d a b. behind-not (λ y. passed_over s k y) x d (outside s small x d (omega arith) b))
          (record { at = c; after = omega arith; there = there; none_below = λ d a b. none-early k x c v early d b })))
