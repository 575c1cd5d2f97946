-- Laws of the rules: what the proofs use of the definitions.
use mathlib.Core.Path.{◌≡◌, refl, ap, ◌∙◌}
use mathlib.Core.Logic.{◌⊎◌, inl, inr, ◌↔◌}
use mathlib.Core.Bool.{Bool, true, false, cond, ◌&&◌, ◌||◌}
use mathlib.Core.List.{List, [], ◌∷◌}
use Prim.Native.Nat.{ℕ, zero, suc, ◌+◌, ◌-◌, ◌≤◌, ◌<◌}
use native.Mathlib.Omega.{arith}
use borrow.Author.Tests.{ltb-false, leb-true, leb-false, lt-ltb, le-ltb}
use lib.Dec.{T, leb, ltb, eqb}
use lib.ListN.{length, get_or}
use lib.IntN.{ℤ, pos, negsuc, ◌-ℤ◌}
use lib.Signed.{non_neg, mag}
use Rattle.rules.specs.Tasks.{Task, sum, span, Standing, ready, waiting, done, within, standing, is_done, no_task}
use Rattle.rules.specs.Positions.{each, every, moved, passed, laxity, in_time}

-- ── tests ───────────────────────────────────────────────────────────────────

pub T_true : (b : Bool) → T b → b ≡ true
T_true true h = refl
T_true false h = absurd h

pub true-T : (b : Bool) → b ≡ true → T b
true-T true e = tt
true-T false e = let z : ◌≡◌ {A = Bool} false true = e in let q : ◌≡◌ {A = ℕ} 0 1 = cc in omega arith

pub and_T : (a b : Bool) → T a → T b → T (a && b)
and_T true b h k = k
and_T false b h k = h

pub T_and : (a b : Bool) → T (a && b) → T a × T b
T_and true b h = (tt, h)
T_and false b h = absurd h

pub T-or : (a b : Bool) → T (a || b) → T a ⊎ T b
T-or true b h = inl tt
T-or false b h = inr h

pub or-T : (a b : Bool) → T a ⊎ T b → T (a || b)
or-T true b h = tt
or-T false b (inl h) = absurd h
or-T false b (inr h) = h

-- ── le or lt, to decide by ──────────────────────────────────────────────────

pub le-or-lt : (a b : ℕ) → (a ≤ b) ⊎ (b < a)
le-or-lt a b = go (leb a b) refl
  where
    go : (t : Bool) → leb a b ≡ t → (a ≤ b) ⊎ (b < a)
    go true e = inl (leb-true a b e)
    go false e = inr (leb-false a b e)

-- ── the pattern ─────────────────────────────────────────────────────────────

-- done exactly from the sum on
pub within-done : (a b : Standing) (ns : List ℕ) (p : ℕ) → sum ns ≤ p → within a b ns p ≡ done
unfolding within sum
within-done a b [] p h = refl
within-done a b (n ∷ ns) p h = rw (le-ltb p n (omega arith)) (within-done b a ns (p - n) (omega arith))

pub within-short : (a b : Standing) (ns : List ℕ) (p : ℕ) → is_done a ≡ false → is_done b ≡ false → p < sum ns → is_done (within a b ns p) ≡ false
unfolding within sum
within-short a b [] p ea eb h = let z : ⊥ = omega arith in absurd z
within-short a b (n ∷ ns) p ea eb h = go (ltb p n) refl (within-short b a ns (p - n) eb ea)
  where
    go : (t : Bool) → ltb p n ≡ t → (p - n < sum ns → is_done (within b a ns (p - n)) ≡ false) → is_done (cond (ltb p n) a (within b a ns (p - n))) ≡ false
    go true e ih = rw e ea
    go false e ih = let k : n ≤ p = ltb-false p n e in rw e (ih (omega arith))

pub done_at : (τ : Task) (p : ℕ) → span τ ≤ p → standing τ p ≡ done
unfolding span standing
done_at τ p h = within-done ready waiting τ.pattern p h

pub undone : (τ : Task) (p : ℕ) → p < span τ → is_done (standing τ p) ≡ false
unfolding span standing is_done
undone τ p h = within-short ready waiting τ.pattern p refl refl h

-- ── one slot of one task ────────────────────────────────────────────────────

pub moved-rise : (k : Standing) (b : Bool) (p : ℕ) → (p ≤ moved k b p) × (moved k b p ≤ suc p)
unfolding moved
moved-rise ready true p = omega arith
moved-rise ready false p = omega arith
moved-rise waiting b p = omega arith
moved-rise done b p = omega arith

pub passed-rise : (c i : ℕ) (τ : Task) (p : ℕ) → (p ≤ passed c i τ p) × (passed c i τ p ≤ suc p)
unfolding passed
passed-rise c i τ p = moved-rise (standing τ p) (eqb c i) p

pub passed-fits : (c i : ℕ) (τ : Task) (p : ℕ) → p ≤ span τ → passed c i τ p ≤ span τ
unfolding passed moved
passed-fits c i τ p h = go (le-or-lt (span τ) p)
  where
    go : (span τ ≤ p) ⊎ (p < span τ) → passed c i τ p ≤ span τ
    go (inl k) = rw (done_at τ p k) h
    go (inr k) = let r : passed c i τ p ≤ suc p = (passed-rise c i τ p).1 in omega arith

-- ── laxity ──────────────────────────────────────────────────────────────────

sub-ge : (a b : ℕ) → b ≤ a → pos a -ℤ pos b ≡ pos (a - b)
sub-ge a zero h = ap pos (omega arith)
sub-ge a (suc b) h = rw (le-ltb a (suc b) h)

sub-lt : (a b : ℕ) → a < b → pos a -ℤ pos b ≡ negsuc (b - suc a)
sub-lt a zero h = let z : ⊥ = omega arith in absurd z
sub-lt a (suc b) h = rw (lt-ltb a (suc b) h)

neg-sub : (a b : ℕ) → non_neg (negsuc a -ℤ pos b) ≡ false
neg-sub a zero = rw (lt-ltb 0 (suc a) (omega arith))
neg-sub a (suc b) = refl

pub laxity-law : (τ : Task) (e p : ℕ) → p ≤ span τ → T (non_neg (laxity τ e p)) ↔ (e + span τ ≤ τ.deadline + p)
unfolding laxity
laxity-law τ e p h = rw (sub-ge (span τ) p h) (go (le-or-lt e τ.deadline))
  where
    go : (e ≤ τ.deadline) ⊎ (τ.deadline < e) → T (non_neg ((pos τ.deadline -ℤ pos e) -ℤ pos (span τ - p))) ↔ (e + span τ ≤ τ.deadline + p)
    go (inr k) = rw (sub-lt τ.deadline e k, neg-sub (e - suc τ.deadline) (span τ - p)) ((λ x. absurd x), (λ x. omega arith))
    go (inl k) = rw (sub-ge τ.deadline e k) (go2 (le-or-lt (span τ - p) (τ.deadline - e)))
      where
        go2 : (span τ - p ≤ τ.deadline - e) ⊎ (τ.deadline - e < span τ - p) → T (non_neg (pos (τ.deadline - e) -ℤ pos (span τ - p))) ↔ (e + span τ ≤ τ.deadline + p)
        go2 (inl j) = rw (sub-ge (τ.deadline - e) (span τ - p) j) ((λ _. omega arith), (λ _. tt))
        go2 (inr j) = rw (sub-lt (τ.deadline - e) (span τ - p) j) ((λ x. absurd x), (λ x. omega arith))

-- as the code takes it: the pattern left is a number
pub laxity-left : (τ : Task) (e p left : ℕ) → p + left ≡ span τ → laxity τ e p ≡ (pos τ.deadline -ℤ pos e) -ℤ pos left
unfolding laxity
laxity-left τ e p left h = let q : span τ - p ≡ left = omega arith in rw (sub-ge (span τ) p (omega arith), q) refl

-- a difference is no larger than its parts together
pub mag-sub : (a b : ℕ) → mag (pos a -ℤ pos b) ≤ a + b
mag-sub a b = go (le-or-lt b a)
  where
    go : (b ≤ a) ⊎ (a < b) → mag (pos a -ℤ pos b) ≤ a + b
    go (inl h) = rw (sub-ge a b h) (omega arith)
    go (inr h) = rw (sub-lt a b h) (omega arith)

pub mag_less : (z : ℤ) (c : ℕ) → mag (z -ℤ pos c) ≤ mag z + c
mag_less (pos a) c = mag-sub a c
mag_less (negsuc a) zero = rw (lt-ltb 0 (suc a) (omega arith)) (omega arith)
mag_less (negsuc a) (suc c) = omega arith

pub in_time-use : (e : ℕ) (τ : Task) (p : ℕ) → p < span τ → T (in_time e τ p) → e + span τ ≤ τ.deadline + p
unfolding in_time
in_time-use e τ p h t = (laxity-law τ e p (omega arith)).0 (rw (undone τ p h) at t)

pub in_time-done : (e : ℕ) (τ : Task) (p : ℕ) → span τ ≤ p → T (in_time e τ p)
unfolding in_time is_done
in_time-done e τ p h = rw (done_at τ p h) tt

pub in_time-lax : (e : ℕ) (τ : Task) (p : ℕ) → p ≤ span τ → e + span τ ≤ τ.deadline + p → T (in_time e τ p)
unfolding in_time
in_time-lax e τ p h k = or-T (is_done (standing τ p)) (non_neg (laxity τ e p)) (inr ((laxity-law τ e p h).1 k))

pub is_done-span : (τ : Task) (p : ℕ) → T (is_done (standing τ p)) → span τ ≤ p
is_done-span τ p h = go (le-or-lt (span τ) p)
  where
    go : (span τ ≤ p) ⊎ (p < span τ) → span τ ≤ p
    go (inl k) = k
    go (inr k) = absurd (rw (undone τ p k) at h)

pub span-is_done : (τ : Task) (p : ℕ) → span τ ≤ p → T (is_done (standing τ p))
unfolding is_done
span-is_done τ p h = rw (done_at τ p h) tt

-- ── every task ──────────────────────────────────────────────────────────────

pub each-length : (f : ℕ → Task → ℕ → ℕ) (i : ℕ) (s : List Task) (ps : List ℕ) → length ps ≡ length s → length (each f i s ps) ≡ length s
unfolding each
each-length f i [] ps e = refl
each-length f i (τ ∷ s) [] e = e
each-length f i (τ ∷ s) (p ∷ ps) e = ap suc (each-length f (suc i) s ps (omega arith))

pub each_at : (f : ℕ → Task → ℕ → ℕ) (i : ℕ) (s : List Task) (ps : List ℕ) (j : ℕ) → length ps ≡ length s → j < length s
    → get_or (each f i s ps) j 0 ≡ f (i + j) (get_or s j no_task) (get_or ps j 0)
unfolding each
each_at f i [] ps j e h = let z : ⊥ = omega arith in absurd z
each_at f i (τ ∷ s) [] j e h = let z : ⊥ = omega arith in absurd z
each_at f i (τ ∷ s) (p ∷ ps) zero e h = ap (λ n. f n τ p) (omega arith)
each_at f i (τ ∷ s) (p ∷ ps) (suc j) e h = each_at f (suc i) s ps j (omega arith) (omega arith) ∙ ap (λ n. f n (get_or s j no_task) (get_or ps j 0)) (omega arith)

pub every-at : (g : Task → ℕ → Bool) (s : List Task) (ps : List ℕ) (j : ℕ) → length ps ≡ length s → j < length s → T (every g s ps) → T (g (get_or s j no_task) (get_or ps j 0))
unfolding every
every-at g [] ps j e h t = let z : ⊥ = omega arith in absurd z
every-at g (τ ∷ s) [] j e h t = let z : ⊥ = omega arith in absurd z
every-at g (τ ∷ s) (p ∷ ps) zero e h t = (T_and (g τ p) (every g s ps) t).0
every-at g (τ ∷ s) (p ∷ ps) (suc j) e h t = every-at g s ps j (omega arith) (omega arith) (T_and (g τ p) (every g s ps) t).1

pub every_of : (g : Task → ℕ → Bool) (s : List Task) (ps : List ℕ) → ((j : ℕ) → j < length s → T (g (get_or s j no_task) (get_or ps j 0))) → T (every g s ps)
unfolding every
every_of g [] ps h = tt
every_of g (τ ∷ s) [] h = tt
every_of g (τ ∷ s) (p ∷ ps) h = and_T (g τ p) (every g s ps) (h 0 (omega arith)) (every_of g s ps (λ j k. h (suc j) (omega arith)))
