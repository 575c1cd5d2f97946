-- An endless schedule exists exactly if a schedule exists.
use mathlib.Core.Path.{◌≡◌, refl, sym, ap, ap₂, ◌∙◌}
use mathlib.Core.Logic.{◌⊎◌, inl, inr, ◌↔◌}
use mathlib.Core.Bool.{Bool, true, false, not, cond, ◌||◌}
use mathlib.Core.List.{List, [], ◌∷◌}
use Prim.Native.Nat.{ℕ, zero, suc, ◌+◌, ◌*◌, ◌-◌, ◌≤◌, ◌<◌, ◌%◌, ◌/◌, ◌∣◌}
use native.Mathlib.Omega.{arith}
use native.Mathlib.Nat.{mod-mod_of_dvd, mod-lt, mod-eq_of_lt, mod-eq-zero_of_dvd, div-add-mod', add-suc, mod_self, suc-mod}
use borrow.Author.Tests.{ne_eqb}
use lib.Dec.{T, eqb}
use lib.Arith.{digits_mod}
use lib.ListN.{get_or-eq_default, length, get_or, length-replicate, get_or-replicate}
use Rattle.rules.specs.Tasks.{Fit, Task, span, standing, within, is_ready, is_done, no_task}
use Rattle.rules.specs.Hyper.{hyper}
use Rattle.rules.specs.Positions.{Position, idle, allowed, passed, ended, starts, restarted, next, in_time, live_position, ends_well, ends_live, legal, start}
use Rattle.rules.specs.Choices.{live_from, Schedule}
use Rattle.rules.specs.Endless.{at, ending, Endless, progress_of, beginning, repeated}
use Rattle.rules.proofs.Laws.{and_T, T_and, T-or, or-T, le-or-lt, passed-rise, passed-fits, in_time-use, in_time-done, in_time-lax, is_done-span, span-is_done, each-length, each_at, every-at, every_of}
use Rattle.rules.proofs.Set.Multiple.{hyper-dvd, hyper-pos}
use Rattle.rules.proofs.Run.Reach.{ends_next}

-- ── one task of a run ───────────────────────────────────────────────────────

pub at_slot : (s : List Task) (c : ℕ → ℕ) (t : ℕ) → (at s c t).slot ≡ t
unfolding at next start
at_slot s c zero = refl
at_slot s c (suc t) = ap suc (at_slot s c t)

pub at_length : (s : List Task) (c : ℕ → ℕ) (t : ℕ) → length (at s c t).progress ≡ length s
unfolding at next start ended
at_length s c zero = length-replicate (length s) 0
at_length s c (suc t) = each-length _ 0 s _ (each-length _ 0 s _ (at_length s c t))

module _ (s : List Task) (c : ℕ → ℕ) (j : ℕ) (h : j < length s) where
  pub ending-is : (t : ℕ) → ending s c t j ≡ passed (c t) j (get_or s j no_task) (progress_of s c t j)
  unfolding ending ended progress_of
  ending-is t = each_at (passed (c t)) 0 s (at s c t).progress j (at_length s c t) h ∙ ap (λ n. passed (c t) n (get_or s j no_task) (progress_of s c t j)) (omega arith)

  pub progress-zero : progress_of s c 0 j ≡ 0
  unfolding progress_of at start
  progress-zero = get_or-replicate (length s) j 0 0 h

  pub progress-suc : (t : ℕ) → progress_of s c (suc t) j ≡ cond (starts (suc t) (get_or s j no_task)) 0 (ending s c t j)
  unfolding progress_of at next ending restarted ended
  progress-suc t = each_at (restarted (suc (at s c t).slot)) 0 s (ended s (at s c t).progress (c t)) j (each-length _ 0 s _ (at_length s c t)) h
      ∙ ap (λ n. cond (starts (suc n) (get_or s j no_task)) 0 (ending s c t j)) (at_slot s c t)

  cond-le : (b : Bool) (m n : ℕ) → m ≤ n → cond b 0 m ≤ n
  cond-le true m n k = omega arith
  cond-le false m n k = k

  pub progress-fits : (t : ℕ) → progress_of s c t j ≤ span (get_or s j no_task)
  progress-fits zero = rw progress-zero (omega arith)
  progress-fits (suc t) = rw (progress-suc t) (cond-le (starts (suc t) (get_or s j no_task)) (ending s c t j) (span (get_or s j no_task))
      (rw (ending-is t) (passed-fits (c t) j (get_or s j no_task) (progress_of s c t j) (progress-fits t))))

  ending-fits : (t : ℕ) → ending s c t j ≤ span (get_or s j no_task)
  ending-fits t = rw (ending-is t) (passed-fits (c t) j (get_or s j no_task) (progress_of s c t j) (progress-fits t))

  starts-not : (k e : ℕ) → suc e < (get_or s j no_task).period → starts (suc (k * (get_or s j no_task).period + e)) (get_or s j no_task) ≡ false
  unfolding starts
  starts-not k e l = let q : suc (k * (get_or s j no_task).period + e) % (get_or s j no_task).period ≡ suc e = ap (λ n. n % (get_or s j no_task).period) (sym (add-suc (k * (get_or s j no_task).period) e)) ∙ digits_mod k l in
      ne_eqb (suc (k * (get_or s j no_task).period + e) % (get_or s j no_task).period) 0 (λ z. omega arith)

  -- within a job progress rises, by at most 1 a slot
  rise_one : (k e : ℕ) → suc e < (get_or s j no_task).period →
      (ending s c (k * (get_or s j no_task).period + e) j ≤ ending s c (suc (k * (get_or s j no_task).period + e)) j)
      × (ending s c (suc (k * (get_or s j no_task).period + e)) j ≤ suc (ending s c (k * (get_or s j no_task).period + e) j))
  rise_one k e l = rw (ending-is (suc (k * (get_or s j no_task).period + e)), progress-suc (k * (get_or s j no_task).period + e), starts-not k e l) (passed-rise _ j _ _)

  rise : (k e d : ℕ) → e + d < (get_or s j no_task).period →
      (ending s c (k * (get_or s j no_task).period + e) j ≤ ending s c (k * (get_or s j no_task).period + (e + d)) j)
      × (ending s c (k * (get_or s j no_task).period + (e + d)) j ≤ ending s c (k * (get_or s j no_task).period + e) j + d)
  rise k e zero l = rw (native.Mathlib.Nat.add-zero e) (omega arith)
  rise k e (suc d) l =
      let ih = rise k e d (omega arith) in
      let one = rise_one k (e + d) (omega arith) in
      rw (add-suc e d, add-suc (k * (get_or s j no_task).period) (e + d)) (omega arith)

-- ── from an endless one to a schedule ───────────────────────────────────────

module _ (s : List Task) (c : ℕ → ℕ) (fit : Fit s) (E : Endless s c) where
  -- at the end of a slot at or past the deadline the job is done
  past : (j : ℕ) → j < length s → (k e : ℕ) → e < (get_or s j no_task).period → (get_or s j no_task).deadline ≤ suc e
      → span (get_or s j no_task) ≤ ending s c (k * (get_or s j no_task).period + e) j
  past j h k e l d =
      let due = fit.due j h in
      let D = (get_or s j no_task).deadline in
      let r = rise s c j h k (D - 1) (suc e - D) (omega arith) in
      let on = is_done-span (get_or s j no_task) (ending s c (k * (get_or s j no_task).period + (D - 1)) j) (E.on_time j h k (k * (get_or s j no_task).period + (D - 1)) (omega arith)) in
      let q : D - 1 + (suc e - D) ≡ e = omega arith in
      let r' = rw q at r.0 in
      omega arith

  -- before it the laxity is 0 or more
  early : (j : ℕ) → j < length s → (k e : ℕ) → suc e ≤ (get_or s j no_task).deadline
      → suc e + span (get_or s j no_task) ≤ (get_or s j no_task).deadline + ending s c (k * (get_or s j no_task).period + e) j
  early j h k e d =
      let fits = fit.fits j h in
      let D = (get_or s j no_task).deadline in
      let r = rise s c j h k e (D - suc e) (omega arith) in
      let q : e + (D - suc e) ≡ D - 1 = omega arith in
      let r' = rw q at r.1 in
      let on = is_done-span (get_or s j no_task) (ending s c (k * (get_or s j no_task).period + (D - 1)) j) (E.on_time j h k (k * (get_or s j no_task).period + (D - 1)) (omega arith)) in
      omega arith

  ends-in-time : (j : ℕ) → j < length s → (k e : ℕ) → e < (get_or s j no_task).period
      → T (in_time (suc e) (get_or s j no_task) (ending s c (k * (get_or s j no_task).period + e) j))
  ends-in-time j h k e l = go (le-or-lt (suc e) (get_or s j no_task).deadline)
    where
      go : (suc e ≤ (get_or s j no_task).deadline) ⊎ ((get_or s j no_task).deadline < suc e) → T (in_time (suc e) (get_or s j no_task) (ending s c (k * (get_or s j no_task).period + e) j))
      go (inl d) = in_time-lax (suc e) (get_or s j no_task) _ (ending-fits s c j h _) (early j h k e d)
      go (inr d) = in_time-done (suc e) (get_or s j no_task) _ (past j h k e l (omega arith))

  ends-well : (t j : ℕ) → j < length s → T (ends_well t (get_or s j no_task) (ending s c t j))
  unfolding ends_well
  ends-well t j h =
      let due = fit.due j h in
      let fits = fit.fits j h in
      let P : ℕ = (get_or s j no_task).period in
      let l : t % P < P = mod-lt t (omega arith) in
      let q : t / P * P + t % P ≡ t = div-add-mod' t P in
      let w = rw q at (ends-in-time j h (t / P) (t % P) l) in
      and_T (in_time (suc (t % P)) (get_or s j no_task) (ending s c t j)) _ w (go (starts (suc t) (get_or s j no_task)) refl)
    where
      go : (b : Bool) → starts (suc t) (get_or s j no_task) ≡ b → T (not b || is_done (standing (get_or s j no_task) (ending s c t j)))
      go false e = tt
      go true e =
          let due = fit.due j h in
          let fits = fit.fits j h in
          let P : ℕ = (get_or s j no_task).period in
          let l : t % P < P = mod-lt t (omega arith) in
          let q : t / P * P + t % P ≡ t = div-add-mod' t P in
          let k : P ≤ suc (t % P) = full (le-or-lt P (suc (t % P))) e in
          span-is_done (get_or s j no_task) _ (rw q at (past j h (t / P) (t % P) l (omega arith)))
        where
          full : ((get_or s j no_task).period ≤ suc (t % (get_or s j no_task).period)) ⊎ (suc (t % (get_or s j no_task).period) < (get_or s j no_task).period) → starts (suc t) (get_or s j no_task) ≡ true
              → (get_or s j no_task).period ≤ suc (t % (get_or s j no_task).period)
          full (inl k) e = k
          full (inr k) e =
              let P : ℕ = (get_or s j no_task).period in
              let q : t / P * P + t % P ≡ t = div-add-mod' t P in
              let f : starts (suc t) (get_or s j no_task) ≡ false = rw q at (starts-not s c j h (t / P) (t % P) k) in
              let z : ◌≡◌ {A = ℕ} 0 1 = cc in omega arith

beginning-length : (c : ℕ → ℕ) (t n : ℕ) → length (beginning c t n) ≡ n
unfolding beginning
beginning-length c t zero = refl
beginning-length c t (suc n) = ap suc (beginning-length c (suc t) n)

module _ (s : List Task) (c : ℕ → ℕ) (fit : Fit s) (E : Endless s c) where
  live-start : T (live_position s (start s))
  unfolding live_position start
  live-start = every_of _ s _ (λ j h. rw (get_or-replicate {A = ℕ} (length s) j 0 0 h) (in_time-lax (0 % (get_or s j no_task).period) (get_or s j no_task) 0 (omega arith) (bound j h)))
    where
      bound : (j : ℕ) → j < length s → 0 % (get_or s j no_task).period + span (get_or s j no_task) ≤ (get_or s j no_task).deadline + 0
      bound j h =
          let due = fit.due j h in
          let e = early s c fit E j h 0 0 due in
          let z : 0 * (get_or s j no_task).period + 0 ≡ 0 = omega arith in
          let e' = rw z at e in
          let one = rw (progress-zero s c j h) at (passed-rise (c 0) j (get_or s j no_task) (progress_of s c 0 j)).1 in
          let i = ending-is s c j h 0 in
          let i' = rw (progress-zero s c j h) at i in
          rw (native.Mathlib.Nat.zero-mod (get_or s j no_task).period) (omega arith)

  legal-at : (t : ℕ) → T (legal s (at s c t) (c t))
  unfolding ends_live legal ending
  legal-at t = and_T (ends_live s (at s c t) (c t)) _ ends (ends_next s fit live-start (at s c t) (c t) (at_length s c t) ends)
    where
      ends : T (ends_live s (at s c t) (c t))
      ends = and_T (allowed s (at s c t).progress (c t)) _ (E.choice t)
          (every_of (ends_well (at s c t).slot) s (ended s (at s c t).progress (c t)) (λ j h. rw (at_slot s c t) (ends-well s c fit E t j h)))

  live-beginning : (t n : ℕ) → T (live_from s (at s c t) (beginning c t n))
  unfolding live_from beginning at
  live-beginning t zero = tt
  live-beginning t (suc n) = and_T (legal s (at s c t) (c t)) _ (legal-at t) (live-beginning (suc t) n)

  pub endless-schedule : Schedule s (beginning c 0 (hyper s))
  unfolding at
  endless-schedule = record { live = record { at_start = live-start; after = live-beginning 0 (hyper s) }; long = beginning-length c 0 (hyper s) }

-- ── from a schedule to an endless one ───────────────────────────────────────

-- the position after t choices of c from x on
from : List Task → Position → (ℕ → ℕ) → ℕ → Position
from s x c zero = x
from s x c (suc t) = next s (from s x c t) (c t)

from-shift : (s : List Task) (x : Position) (c : ℕ → ℕ) (t : ℕ) → from s x c (suc t) ≡ from s (next s x (c 0)) (λ u. c (suc u)) t
unfolding from
from-shift s x c zero = refl
from-shift s x c (suc t) = ap (λ y. next s y (c (suc t))) (from-shift s x c t)

live-legal : (s : List Task) (x : Position) (cs : List ℕ) (d : ℕ) (j : ℕ) → T (live_from s x cs) → j < length cs → T (legal s (from s x (λ u. get_or cs u d) j) (get_or cs j d))
unfolding from live_from
live-legal s x [] d j t h = let z : ⊥ = omega arith in absurd z
live-legal s x (c ∷ cs) d zero t h = (T_and (legal s x c) _ t).0
live-legal s x (c ∷ cs) d (suc j) t h = rw (from-shift s x (λ u. get_or (c ∷ cs) u d) j) (live-legal s (next s x c) cs d j (T_and (legal s x c) _ t).1 (omega arith))

from_at : (s : List Task) (c : ℕ → ℕ) (t : ℕ) → from s (start s) c t ≡ at s c t
unfolding from at
from_at s c zero = refl
from_at s c (suc t) = ap (λ y. next s y (c t)) (from_at s c t)

same-allowed : (s : List Task) (x y : List ℕ) (c : ℕ) → ((j : ℕ) → j < length s → get_or x j 0 ≡ get_or y j 0) → T (allowed s y c) → T (allowed s x c)
unfolding allowed no_task standing within is_ready
same-allowed s x y c e t = go (T-or (eqb c idle) _ t) (le-or-lt (length s) c)
  where
    go : T (eqb c idle) ⊎ T (is_ready (standing (get_or s c no_task) (get_or y c 0))) → (length s ≤ c) ⊎ (c < length s) → T (allowed s x c)
    go (inl i) l = or-T (eqb c idle) _ (inl i)
    go (inr r) (inl l) = absurd (rw (get_or-eq_default s no_task l) at r)
    go (inr r) (inr l) = or-T (eqb c idle) _ (inr (rw (e c l) r))

module _ (s : List Task) (cs : List ℕ) (fit : Fit s) (divides : (j : ℕ) → j < length s → (get_or s j no_task).period ∣ hyper s) (some-slot : 0 < hyper s) (S : Schedule s cs) where
  unfoldable pub once : ℕ → ℕ
  once u = get_or cs u idle

  pub legal-once : (j : ℕ) → j < hyper s → T (legal s (at s once j) (once j))
  unfolding once
  legal-once j h = let l = S.long in rw (from_at s once j) at (live-legal s (start s) cs idle j S.live.after (omega arith))

  pub same-starts : (t j : ℕ) → j < length s → starts (suc (t % hyper s)) (get_or s j no_task) ≡ starts (suc t) (get_or s j no_task)
  unfolding starts
  same-starts t j h =
      let P : ℕ = (get_or s j no_task).period in
      let q : t % hyper s % P ≡ t % P = mod-mod_of_dvd P t (divides j h) in
      ap (λ n. eqb n 0) (suc-mod (t % hyper s) P ∙ ap (λ n. suc n % P) q ∙ sym (suc-mod t P))

  -- after H choices the position is the start again
  same-ending : (t j : ℕ) → j < length s → progress_of s (repeated cs) t j ≡ progress_of s once (t % hyper s) j → ending s (repeated cs) t j ≡ ending s once (t % hyper s) j
  unfolding repeated once
  same-ending t j h e = ending-is s (repeated cs) j h t ∙ ap₂ (λ c p. passed c j (get_or s j no_task) p) (ap (λ n. get_or cs (t % n) idle) S.long) e ∙ sym (ending-is s once j h (t % hyper s))

  begins : (t j : ℕ) → j < length s → suc (t % hyper s) ≡ hyper s → starts (suc (t % hyper s)) (get_or s j no_task) ≡ true
  unfolding starts
  begins t j h e = rw (e, mod-eq-zero_of_dvd (get_or s j no_task).period (divides j h)) refl

  pub wraps : (t j : ℕ) → j < length s → progress_of s (repeated cs) t j ≡ progress_of s once (t % hyper s) j
  wraps zero j h = progress-zero s (repeated cs) j h ∙ sym (rw (native.Mathlib.Nat.zero-mod (hyper s)) (progress-zero s once j h))
  wraps (suc t) j h = progress-suc s (repeated cs) j h t ∙ ap (λ p. cond (starts (suc t) (get_or s j no_task)) 0 p) (same-ending t j h (wraps t j h)) ∙ go (le-or-lt (hyper s) (suc (t % hyper s)))
    where
      go : (hyper s ≤ suc (t % hyper s)) ⊎ (suc (t % hyper s) < hyper s) → cond (starts (suc t) (get_or s j no_task)) 0 (ending s once (t % hyper s) j) ≡ progress_of s once (suc t % hyper s) j
      go (inr l) = rw (suc-mod t (hyper s), mod-eq_of_lt l, progress-suc s once j h (t % hyper s), same-starts t j h) refl
      go (inl l) =
          let m : t % hyper s < hyper s = mod-lt t some-slot in
          let full : suc (t % hyper s) ≡ hyper s = omega arith in
          let z : suc t % hyper s ≡ 0 = suc-mod t (hyper s) ∙ ap (λ n. n % hyper s) full ∙ mod_self (hyper s) in
          let b : starts (suc t) (get_or s j no_task) ≡ true = sym (same-starts t j h) ∙ begins t j h full in
          rw (b, z) (sym (progress-zero s once j h))

  choice-again : (t : ℕ) → T (allowed s (at s (repeated cs) t).progress (repeated cs t))
  unfolding ends_live legal repeated once progress_of
  choice-again t = same-allowed s (at s (repeated cs) t).progress (at s once (t % hyper s)).progress (repeated cs t) (wraps t)
      (rw S.long (T_and (allowed s (at s once (t % hyper s)).progress (once (t % hyper s))) _ (T_and (ends_live s (at s once (t % hyper s)) (once (t % hyper s))) _ (legal-once (t % hyper s) (mod-lt t some-slot))).0).0)

  ended-length : (u : ℕ) → length (ended s (at s once u).progress (once u)) ≡ length s
  unfolding ended
  ended-length u = each-length _ 0 s _ (at_length s once u)

  well : (u j : ℕ) → u < hyper s → j < length s → T (ends_well u (get_or s j no_task) (ending s once u j))
  unfolding ends_live legal ending
  well u j l h = rw (at_slot s once u) at (every-at (ends_well (at s once u).slot) s (ended s (at s once u).progress (once u)) j (ended-length u) h
      (T_and (allowed s (at s once u).progress (once u)) _ (T_and (ends_live s (at s once u) (once u)) _ (legal-once u l)).0).1)

  finished : (j : ℕ) → j < length s → (k t : ℕ) → suc t ≡ k * (get_or s j no_task).period + (get_or s j no_task).deadline
      → T (is_done (standing (get_or s j no_task) (ending s (repeated cs) t j)))
  unfolding ends_well
  finished j h k t e =
      let P : ℕ = (get_or s j no_task).period in
      let D : ℕ = (get_or s j no_task).deadline in
      let due = fit.due j h in
      let fits = fit.fits j h in
      let q : t ≡ k * P + (D - 1) = omega arith in
      let m : t % P ≡ D - 1 = ap (λ n. n % P) q ∙ digits_mod k (omega arith) in
      let m' : t % hyper s % P ≡ t % P = mod-mod_of_dvd P t (divides j h) in
      let w : T (in_time (suc (t % hyper s % P)) (get_or s j no_task) (ending s once (t % hyper s) j)) = (T_and (in_time (suc (t % hyper s % P)) (get_or s j no_task) (ending s once (t % hyper s) j)) _ (well (t % hyper s) j (mod-lt t some-slot) h)).0 in
      rw (same-ending t j h (wraps t j h)) (span-is_done (get_or s j no_task) _ (go w (le-or-lt (span (get_or s j no_task)) (ending s once (t % hyper s) j)) (m' ∙ m)))
    where
      go : T (in_time (suc (t % hyper s % (get_or s j no_task).period)) (get_or s j no_task) (ending s once (t % hyper s) j))
          → (span (get_or s j no_task) ≤ ending s once (t % hyper s) j) ⊎ (ending s once (t % hyper s) j < span (get_or s j no_task))
          → t % hyper s % (get_or s j no_task).period ≡ (get_or s j no_task).deadline - 1
          → span (get_or s j no_task) ≤ ending s once (t % hyper s) j
      go w (inl l) m = l
      go w (inr l) m = let due = fit.due j h in let u = in_time-use _ (get_or s j no_task) (ending s once (t % hyper s) j) l w in omega arith

  pub schedule-endless : Endless s (repeated cs)
  schedule-endless = record { choice = choice-again; on_time = finished }

-- An endless schedule that misses no deadline exists exactly if a schedule does.
pub endless-iff : (s : List Task) → Fit s → ((c : ℕ → ℕ) × Endless s c) ↔ ((cs : List ℕ) × Schedule s cs)
endless-iff s fit =
    let some-slot : 0 < hyper s = hyper-pos s (λ j h. let d = fit.due j h in let f = fit.fits j h in omega arith) in
    ((λ e. (beginning e.0 0 (hyper s), endless-schedule s e.0 fit e.1)), (λ e. (repeated e.0, schedule-endless s e.0 fit (hyper-dvd s) some-slot e.1)))
