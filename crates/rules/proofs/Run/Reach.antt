-- Positions that live lists reach.
use mathlib.Core.Path.{◌≡◌, refl, ap, ap₂, ◌∙◌}
use mathlib.Core.Logic.{◌⊎◌, inl, inr}
use mathlib.Core.Bool.{Bool, true, false, cond, ◌&&◌}
use mathlib.Core.List.{List, [], ◌∷◌}
use Prim.Native.Nat.{ℕ, suc, ◌+◌, ◌≤◌, ◌<◌, ◌%◌}
use native.Mathlib.Omega.{arith}
use native.Mathlib.Nat.{mod-lt, mod-eq_of_lt, mod_self, suc-mod, zero-mod}
use borrow.Author.Tests.{eqb-true, eqb-false}
use lib.Dec.{T}
use lib.ListN.{length, get_or, replicate, length-replicate, get_or-replicate}
use Rattle.rules.specs.Tasks.{Fit, Task, span, no_task}
use Rattle.rules.specs.Positions.{Position, passed, ended, starts, restarted, next, in_time, live_position, ends_well, allowed, ends_live, legal, start}
use Rattle.rules.specs.Choices.{run, live_from}
use Rattle.rules.proofs.Laws.{T_and, T_true, true-T, le-or-lt, in_time-use, in_time-lax, each-length, each_at, every-at, every_of}

pub run-slot : (s : List Task) (x : Position) (v : List ℕ) → (run s x v).slot ≡ x.slot + length v
unfolding run next
run-slot s x [] = omega arith
run-slot s x (c ∷ v) = let h = run-slot s (next s x c) v in omega arith

pub ended-length : (s : List Task) (ps : List ℕ) (c : ℕ) → length ps ≡ length s → length (ended s ps c) ≡ length s
unfolding ended
ended-length s ps c e = each-length _ 0 s ps e

pub next-length : (s : List Task) (x : Position) (c : ℕ) → length x.progress ≡ length s → length (next s x c).progress ≡ length s
unfolding next
next-length s x c e = each-length _ 0 s _ (ended-length s x.progress c e)

pub start-length : (s : List Task) → length (start s).progress ≡ length s
unfolding start
start-length s = length-replicate (length s) 0

pub run_length : (s : List Task) (x : Position) (v : List ℕ) → length x.progress ≡ length s → length (run s x v).progress ≡ length s
unfolding run
run_length s x [] e = e
run_length s x (c ∷ v) e = run_length s (next s x c) v (next-length s x c e)

pub next-at : (s : List Task) (x : Position) (c j : ℕ) → length x.progress ≡ length s → j < length s
    → get_or (next s x c).progress j 0 ≡ cond (starts (suc x.slot) (get_or s j no_task)) 0 (get_or (ended s x.progress c) j 0)
unfolding next restarted
next-at s x c j e h = each_at (restarted (suc x.slot)) 0 s (ended s x.progress c) j (ended-length s x.progress c e) h

pub ended_at : (s : List Task) (ps : List ℕ) (c j : ℕ) → length ps ≡ length s → j < length s → get_or (ended s ps c) j 0 ≡ passed c j (get_or s j no_task) (get_or ps j 0)
unfolding ended
ended_at s ps c j e h = each_at (passed c) 0 s ps j e h ∙ ap (λ n. passed c n (get_or s j no_task) (get_or ps j 0)) (omega arith)

-- where the start is live, every pattern fits its deadline
pub start-span : (s : List Task) → T (live_position s (start s)) → (j : ℕ) → j < length s → span (get_or s j no_task) ≤ (get_or s j no_task).deadline
unfolding live_position start
start-span s t j h =
    let a = rw (get_or-replicate {A = ℕ} (length s) j 0 0 h, zero-mod (get_or s j no_task).period) at (every-at (λ τ p. in_time (0 % τ.period) τ p) s (replicate (length s) 0) j (length-replicate (length s) 0) h t) in
    go a (le-or-lt (span (get_or s j no_task)) 0)
  where
    go : T (in_time 0 (get_or s j no_task) 0) → (span (get_or s j no_task) ≤ 0) ⊎ (0 < span (get_or s j no_task)) → span (get_or s j no_task) ≤ (get_or s j no_task).deadline
    go a (inl k) = omega arith
    go a (inr k) = let u = in_time-use 0 (get_or s j no_task) 0 k a in omega arith

-- the time since release, one slot on
pub since-suc : (τ : Task) (t : ℕ) → 0 < τ.period → starts (suc t) τ ≡ false → suc t % τ.period ≡ suc (t % τ.period)
unfolding starts
since-suc τ t h e = go (le-or-lt τ.period (suc (t % τ.period)))
  where
    go : (τ.period ≤ suc (t % τ.period)) ⊎ (suc (t % τ.period) < τ.period) → suc t % τ.period ≡ suc (t % τ.period)
    go (inr l) = suc-mod t τ.period ∙ mod-eq_of_lt l
    go (inl l) =
        let m : t % τ.period < τ.period = mod-lt t h in
        let q : suc (t % τ.period) ≡ τ.period = omega arith in
        absurd (eqb-false (suc t % τ.period) 0 e (suc-mod t τ.period ∙ ap (λ n. n % τ.period) q ∙ mod_self τ.period))

starting : (τ : Task) (t : ℕ) → starts t τ ≡ true → t % τ.period ≡ 0
unfolding starts
starting τ t e = eqb-true (t % τ.period) 0 e

-- a list of choices whose slots all end live, whatever the positions after restarting are
unfoldable pub ends_live_from : List Task → Position → List ℕ → Bool
ends_live_from s x [] = true
ends_live_from s x (c ∷ cs) = ends_live s x c && ends_live_from s (next s x c) cs

module _ (s : List Task) (fit : Fit s) (begun : T (live_position s (start s))) where
  pub ends_next : (x : Position) (c : ℕ) → length x.progress ≡ length s → T (ends_live s x c) → T (live_position s (next s x c))
  unfolding live_position ends_live ends_well next
  ends_next x c e l = every_of _ s _ (λ j h. rw (next-at s x c j e h) (go j h (starts (suc x.slot) (get_or s j no_task)) refl))
    where
      go : (j : ℕ) → j < length s → (b : Bool) → starts (suc x.slot) (get_or s j no_task) ≡ b
          → T (in_time (suc x.slot % (get_or s j no_task).period) (get_or s j no_task) (cond b 0 (get_or (ended s x.progress c) j 0)))
      go j h true q =
          let z : suc x.slot % (get_or s j no_task).period ≡ 0 = starting (get_or s j no_task) (suc x.slot) q in
          let d = start-span s begun j h in
          rw z (in_time-lax 0 (get_or s j no_task) 0 (omega arith) (omega arith))
      go j h false q =
          let due = fit.due j h in
          let fits = fit.fits j h in
          rw (since-suc (get_or s j no_task) x.slot (omega arith) q)
          (T_and (in_time (suc (x.slot % (get_or s j no_task).period)) (get_or s j no_task) (get_or (ended s x.progress c) j 0)) _
          (every-at (ends_well x.slot) s (ended s x.progress c) j (ended-length s x.progress c e) h (T_and (allowed s x.progress c) _ l).1)).0

  -- from a live start, a slot that ends live leads to a live position
  pub legal-ends : (x : Position) (c : ℕ) → length x.progress ≡ length s → legal s x c ≡ ends_live s x c
  unfolding legal
  legal-ends x c e = go (ends_live s x c) refl
    where
      go : (b : Bool) → ends_live s x c ≡ b → (b && live_position s (next s x c)) ≡ b
      go true q = T_true _ (ends_next x c e (true-T _ q))
      go false q = refl

  -- so the live lists are those whose slots all end live
  pub live-ends : (x : Position) (cs : List ℕ) → length x.progress ≡ length s → live_from s x cs ≡ ends_live_from s x cs
  unfolding live_from ends_live_from
  live-ends x [] e = refl
  live-ends x (c ∷ cs) e = ap₂ (λ a b. a && b) (legal-ends x c e) (live-ends (next s x c) cs (next-length s x c e))

  pub next-live : (x : Position) (c : ℕ) → length x.progress ≡ length s → T (legal s x c) → T (live_position s (next s x c))
  unfolding legal
  next-live x c e l = (T_and (ends_live s x c) _ l).1

  pub run-live : (x : Position) (v : List ℕ) → length x.progress ≡ length s → T (live_position s x) → T (live_from s x v) → T (live_position s (run s x v))
  unfolding run live_from
  run-live x [] e p t = p
  run-live x (c ∷ v) e p t = run-live (next s x c) v (next-length s x c e) (next-live x c e (T_and (legal s x c) _ t).0) (T_and (legal s x c) _ t).1
