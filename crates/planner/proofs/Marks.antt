-- Marks: which numbers they are, how the progress before a slot and the choice come back from them, and what is spelled of a live list.
use mathlib.Core.Path.{◌≡◌, refl, sym, ap, ◌∙◌}
use mathlib.Core.Logic.{◌⊎◌, inl, inr}
use mathlib.Core.Bool.{Bool, true, false, cond, ◌&&◌, and-false}
use mathlib.Core.List.{List, [], ◌∷◌, ◌++◌}
use Prim.Native.Nat.{ℕ, zero, suc, ◌+◌, ◌-◌, ◌*◌, ◌≤◌, ◌<◌, ◌%◌, ◌/◌, ◌^◌}
use native.Mathlib.Nat.{pow-suc}
use native.Mathlib.Omega.{arith}
use borrow.Author.Tests.{eq-eqb, ne_eqb, eqb-true, eqb-false}
use lib.Dec.{T, eqb}
use lib.ListN.{length, get_or, get_or-replicate, get_or-eq_default}
use Rattle.rules.specs.Tasks.{Task, span, Standing, ready, waiting, done, within, standing, is_ready, is_done, no_task}
use Rattle.rules.specs.Positions.{Position, idle, each, every, allowed, moved, passed, ended, starts, restarted, next, in_time, ends_well, ends_live, legal, start}
use Rattle.rules.specs.Choices.{run, live_from}
use Rattle.rules.proofs.Lists.{clash}
use Rattle.rules.proofs.Laws.{T_true, T_and, T-or, le-or-lt, passed-rise, passed-fits, is_done-span, every-at}
use Rattle.rules.proofs.Run.Reach.{ended-length, ended_at, next-length, next-at}
use Rattle.planner.specs.Marks.{mark, lowered, raised, unstarted, chosen, marks, spelled}

-- ── a mark is a byte ────────────────────────────────────────────────────────

bit-small : (b : Bool) → cond b 0 1 ≤ 1
bit-small true = omega arith
bit-small false = omega arith

pow-some : (k : ℕ) → 0 < 2 ^ k
pow-some zero = omega arith
pow-some (suc k) = omega (arith, pow-suc 2 k, pow-some k)

mark-small : (ps qs : List ℕ) (k : ℕ) → length ps ≤ k → mark ps qs < 2 ^ k
unfolding mark
mark-small [] qs k h = pow-some k
mark-small (p ∷ ps) [] k h = pow-some k
mark-small (p ∷ ps) (q ∷ qs) zero h = let z : ⊥ = omega arith in absurd z
mark-small (p ∷ ps) (q ∷ qs) (suc k) h = omega (arith, pow-suc 2 k, bit-small (eqb p q), mark-small ps qs k (omega arith))

pub mark-byte : (ps qs : List ℕ) → length ps ≤ 8 → mark ps qs < 256
mark-byte ps qs h = mark-small ps qs 8 h

-- ── the lowest bit, and the others ──────────────────────────────────────────

low_bit : (b : Bool) (m : ℕ) → (cond b 0 1 + 2 * m) % 2 ≡ cond b 0 1
low_bit true m = omega arith
low_bit false m = omega arith

high_bits : (b : Bool) (m : ℕ) → (cond b 0 1 + 2 * m) / 2 ≡ m
high_bits true m = omega arith
high_bits false m = omega arith

-- ── what a legal choice is ──────────────────────────────────────────────────

module _ (s : List Task) (x : Position) (c : ℕ) (l : T (legal s x c)) where
  pub legal-allowed : T (allowed s x.progress c)
  unfolding legal ends_live
  legal-allowed = (T_and (allowed s x.progress c) _ (T_and (ends_live s x c) _ l).0).0

  legal-ends : T (every (ends_well x.slot) s (ended s x.progress c))
  unfolding legal ends_live
  legal-ends = (T_and (allowed s x.progress c) _ (T_and (ends_live s x c) _ l).0).1

-- ── the progress before a slot ──────────────────────────────────────────────

-- where each rose by 0 or 1
lowered-mark : (ps qs : List ℕ) → length ps ≡ length qs → ((j : ℕ) → j < length ps → (get_or ps j 0 ≤ get_or qs j 0) × (get_or qs j 0 ≤ suc (get_or ps j 0)))
    → lowered (mark ps qs) qs ≡ ps
unfolding lowered mark
lowered-mark [] [] e h = refl
lowered-mark [] (q ∷ qs) e h = clash (length qs) (sym e)
lowered-mark (p ∷ ps) [] e h = clash (length ps) e
lowered-mark (p ∷ ps) (q ∷ qs) e h =
    rw (low_bit (eqb p q) (mark ps qs), high_bits (eqb p q) (mark ps qs), lowered-mark ps qs (omega arith) (λ j k. h (suc j) (omega arith)), head (eqb p q) refl)
  where
    head : (b : Bool) → eqb p q ≡ b → q - cond b 0 1 ≡ p
    head true r = let z = eqb-true p q r in omega arith
    head false r = let n = eqb-false p q r in let a = h 0 (omega arith) in omega (arith, a.0, a.1, n)

pub raised-mark : (ps qs : List ℕ) → length ps ≡ length qs → ((j : ℕ) → j < length ps → (get_or ps j 0 ≤ get_or qs j 0) × (get_or qs j 0 ≤ suc (get_or ps j 0)))
    → raised (mark ps qs) ps ≡ qs
unfolding raised mark
raised-mark [] [] e h = refl
raised-mark [] (q ∷ qs) e h = clash (length qs) (sym e)
raised-mark (p ∷ ps) [] e h = clash (length ps) e
raised-mark (p ∷ ps) (q ∷ qs) e h =
    rw (low_bit (eqb p q) (mark ps qs), high_bits (eqb p q) (mark ps qs), raised-mark ps qs (omega arith) (λ j k. h (suc j) (omega arith)), head (eqb p q) refl)
  where
    head : (b : Bool) → eqb p q ≡ b → p + cond b 0 1 ≡ q
    head true r = let z = eqb-true p q r in omega arith
    head false r = let n = eqb-false p q r in let a = h 0 (omega arith) in omega (arith, a.0, a.1, n)

-- where each that starts was done
unstarted-restarted : (t i : ℕ) (s : List Task) (qs : List ℕ) → length qs ≡ length s
    → ((j : ℕ) → j < length s → starts t (get_or s j no_task) ≡ true → get_or qs j 0 ≡ span (get_or s j no_task))
    → each (unstarted t) i s (each (restarted t) i s qs) ≡ qs
unfolding each unstarted restarted
unstarted-restarted t i [] [] e h = refl
unstarted-restarted t i [] (q ∷ qs) e h = clash (length qs) e
unstarted-restarted t i (τ ∷ s) [] e h = clash (length s) (sym e)
unstarted-restarted t i (τ ∷ s) (q ∷ qs) e h =
    rw (unstarted-restarted t (suc i) s qs (omega arith) (λ j k. h (suc j) (omega arith)), head (starts t τ) refl)
  where
    head : (b : Bool) → starts t τ ≡ b → cond b (span τ) (cond b 0 q) ≡ q
    head true r = sym (h 0 (omega arith) r)
    head false r = refl

module _ (s : List Task) (x : Position) (long : length x.progress ≡ length s) where
  rises : (c j : ℕ) → j < length x.progress → (get_or x.progress j 0 ≤ get_or (ended s x.progress c) j 0) × (get_or (ended s x.progress c) j 0 ≤ suc (get_or x.progress j 0))
  rises c j h = rw (ended_at s x.progress c j long (omega arith)) (passed-rise c j (get_or s j no_task) (get_or x.progress j 0))

  pub raised-ended : (c : ℕ) → raised (mark x.progress (ended s x.progress c)) x.progress ≡ ended s x.progress c
  raised-ended c = raised-mark x.progress (ended s x.progress c) (sym (ended-length s x.progress c long ∙ sym long)) (rises c)

  was-done : ((j : ℕ) → j < length s → get_or x.progress j 0 ≤ span (get_or s j no_task)) → (c : ℕ) → T (legal s x c) → (j : ℕ) → j < length s
      → starts (suc x.slot) (get_or s j no_task) ≡ true → get_or (ended s x.progress c) j 0 ≡ span (get_or s j no_task)
  unfolding ends_well
  was-done fits c l j h e =
      let τ = get_or s j no_task in
      let q = get_or (ended s x.progress c) j 0 in
      let w = every-at (ends_well x.slot) s (ended s x.progress c) j (ended-length s x.progress c long) h (legal-ends s x c l) in
      let d : T (is_done (standing τ q)) = rw e at (T_and (in_time (suc (x.slot % τ.period)) τ q) _ w).1 in
      let a = is_done-span τ q d in
      let b = rw (← ended_at s x.progress c j long h) at (passed-fits c j τ (get_or x.progress j 0) (fits j h)) in
      omega arith

  pub back_is : ((j : ℕ) → j < length s → get_or x.progress j 0 ≤ span (get_or s j no_task)) → (c : ℕ) → T (legal s x c)
      → lowered (mark x.progress (ended s x.progress c)) (each (unstarted (suc x.slot)) 0 s (next s x c).progress) ≡ x.progress
  unfolding next
  back_is fits c l =
      let k = ended-length s x.progress c long in
      rw (unstarted-restarted (suc x.slot) 0 s (ended s x.progress c) k (was-done fits c l)) (lowered-mark x.progress (ended s x.progress c) (omega arith) (rises c))

-- ── the choice of a slot ────────────────────────────────────────────────────

-- of the ready tasks only the chosen one rises
rose-ready : (k : Standing) (b : Bool) (p : ℕ) → eqb (cond (eqb p (moved k b p)) 0 1) 1 && is_ready k ≡ b && is_ready k
unfolding moved is_ready
rose-ready ready true p = rw (ne_eqb p (suc p) (λ e. let z : ⊥ = omega arith in z))
rose-ready ready false p = rw (eq-eqb p p refl)
rose-ready waiting b p = and-false (eqb (cond (eqb p (suc p)) 0 1) 1) ∙ sym (and-false b)
rose-ready done b p = and-false (eqb (cond (eqb p p) 0 1) 1) ∙ sym (and-false b)

module _ (c : ℕ) where
  head-is : (i : ℕ) (τ : Task) (s : List Task) (p : ℕ) (ps : List ℕ)
      → chosen i (mark (p ∷ ps) (each (passed c) i (τ ∷ s) (p ∷ ps))) (τ ∷ s) (p ∷ ps)
      ≡ cond (eqb c i && is_ready (standing τ p)) i (chosen (suc i) (mark ps (each (passed c) (suc i) s ps)) s ps)
  unfolding chosen mark each passed
  head-is i τ s p ps =
      let b = eqb p (moved (standing τ p) (eqb c i) p) in
      let m = mark ps (each (passed c) (suc i) s ps) in
      rw (low_bit b m, high_bits b m, rose-ready (standing τ p) (eqb c i) p)

  -- the task with j before it
  chosen-task : (i j : ℕ) (s : List Task) (ps : List ℕ) → c ≡ i + j → length ps ≡ length s → j < length s → is_ready (standing (get_or s j no_task) (get_or ps j 0)) ≡ true
      → chosen i (mark ps (each (passed c) i s ps)) s ps ≡ c
  chosen-task i j [] ps e l h r = let z : ⊥ = omega arith in absurd z
  chosen-task i j (τ ∷ s) [] e l h r = clash (length s) (sym l)
  chosen-task i zero (τ ∷ s) (p ∷ ps) e l h r = let z : c ≡ i = omega arith in head-is i τ s p ps ∙ rw (eq-eqb c i z, r) (sym z)
  chosen-task i (suc j) (τ ∷ s) (p ∷ ps) e l h r =
      head-is i τ s p ps ∙ rw (ne_eqb c i (λ q. let z : ⊥ = omega arith in z)) (chosen-task (suc i) j s ps (omega arith) (omega arith) (omega arith) r)

  -- none of the tasks
  chosen_none : (i : ℕ) (s : List Task) (ps : List ℕ) → i + length s ≤ c → chosen i (mark ps (each (passed c) i s ps)) s ps ≡ idle
  unfolding chosen
  chosen_none i [] ps h = refl
  chosen_none i (τ ∷ s) [] h = refl
  chosen_none i (τ ∷ s) (p ∷ ps) h = head-is i τ s p ps ∙ rw (ne_eqb c i (λ q. let z : ⊥ = omega arith in z)) (chosen_none (suc i) s ps (omega arith))

-- a number beyond the tasks is not ready
beyond : (s : List Task) (c p : ℕ) → length s ≤ c → T (is_ready (standing (get_or s c no_task) p)) → ⊥
unfolding standing within is_ready no_task
beyond s c p h r = rw (get_or-eq_default s no_task h) at r

pub chosen_is : (s : List Task) (ps : List ℕ) (c : ℕ) → length ps ≡ length s → length s ≤ 8 → T (allowed s ps c) → chosen 0 (mark ps (ended s ps c)) s ps ≡ c
unfolding allowed ended idle
chosen_is s ps c l few a = go (T-or (eqb c 255) _ a) (le-or-lt (length s) c)
  where
    go : T (eqb c 255) ⊎ T (is_ready (standing (get_or s c no_task) (get_or ps c 0))) → (length s ≤ c) ⊎ (c < length s) → chosen 0 (mark ps (each (passed c) 0 s ps)) s ps ≡ c
    go (inl e) h = let z = eqb-true c 255 (T_true (eqb c 255) e) in chosen_none c 0 s ps (omega arith) ∙ sym z
    go (inr r) (inl h) = absurd (beyond s c (get_or ps c 0) h r)
    go (inr r) (inr h) = chosen-task c 0 c s ps (omega arith) l h (T_true _ r)

-- ── a list of choices ───────────────────────────────────────────────────────

pub marks-length : (s : List Task) (x : Position) (cs : List ℕ) → length (marks s x cs) ≡ length cs
unfolding marks
marks-length s x [] = refl
marks-length s x (c ∷ cs) = ap suc (marks-length s (next s x c) cs)

pub marks-last : (s : List Task) (x : Position) (cs : List ℕ) (c : ℕ)
    → marks s x (cs ++ c ∷ []) ≡ marks s x cs ++ mark (run s x cs).progress (ended s (run s x cs).progress c) ∷ []
unfolding marks run
marks-last s x [] c = refl
marks-last s x (d ∷ cs) c = ap {B = List ℕ} (λ l. mark x.progress (ended s x.progress d) ∷ l) (marks-last s (next s x d) cs c)

pub spelled_is : (s : List Task) (x : Position) (cs : List ℕ) → length x.progress ≡ length s → length s ≤ 8 → T (live_from s x cs) → spelled s x (marks s x cs) ≡ cs
unfolding spelled marks live_from
spelled_is s x [] l few t = refl
spelled_is s x (c ∷ cs) l few t =
    rw (chosen_is s x.progress c l few (legal-allowed s x c (T_and (legal s x c) _ t).0))
    (ap (λ ds. c ∷ ds) (spelled_is s (next s x c) cs (next-length s x c l) few (T_and (legal s x c) _ t).1))

-- ── progress stays within the patterns ──────────────────────────────────────

pub next_fits : (s : List Task) (x : Position) (c : ℕ) → length x.progress ≡ length s → ((j : ℕ) → j < length s → get_or x.progress j 0 ≤ span (get_or s j no_task))
    → (j : ℕ) → j < length s → get_or (next s x c).progress j 0 ≤ span (get_or s j no_task)
next_fits s x c l fits j h =
    rw (next-at s x c j l h, ended_at s x.progress c j l h) (go (starts (suc x.slot) (get_or s j no_task)) (passed-fits c j (get_or s j no_task) (get_or x.progress j 0) (fits j h)))
  where
    go : (b : Bool) {q : ℕ} → q ≤ span (get_or s j no_task) → cond b 0 q ≤ span (get_or s j no_task)
    go true k = omega arith
    go false k = k

pub run_fits : (s : List Task) (x : Position) (cs : List ℕ) → length x.progress ≡ length s → ((j : ℕ) → j < length s → get_or x.progress j 0 ≤ span (get_or s j no_task))
    → (j : ℕ) → j < length s → get_or (run s x cs).progress j 0 ≤ span (get_or s j no_task)
unfolding run
run_fits s x [] l fits = fits
run_fits s x (c ∷ cs) l fits = run_fits s (next s x c) cs (next-length s x c l) (next_fits s x c l fits)

pub start_fits : (s : List Task) (j : ℕ) → j < length s → get_or (start s).progress j 0 ≤ span (get_or s j no_task)
unfolding start
start_fits s j h = rw (get_or-replicate {A = ℕ} (length s) j 0 0 h) (omega arith)
