-- A job that keeps within its pattern keeps up with the plan.
use mathlib.Core.Path.{◌≡◌, refl, sym, ap, ◌∙◌}
use mathlib.Core.Logic.{◌⊎◌, inl, inr}
use mathlib.Core.Bool.{Bool, true, false, cond, ◌&&◌}
use mathlib.Core.List.{List, [], ◌∷◌}
use Prim.Native.Nat.{ℕ, zero, suc, ◌+◌, ◌*◌, ◌-◌, ◌≤◌, ◌<◌, ◌%◌}
use native.Mathlib.Omega.{arith}
use native.Mathlib.Nat.{add-suc}
use lib.Arith.{digits_mod}
use borrow.Author.Tests.{ltb-true, ltb-false, eqb-true, eqb-false, eq-eqb, ne_eqb, le-ltb}
use lib.Dec.{ltb, eqb}
use lib.ListN.{length, get_or, take}
use Rattle.rules.specs.Tasks.{Task, sum, span, Standing, ready, waiting, done, within, standing, written, place_of, wait_written, Shape}
use Rattle.rules.specs.Positions.{moved, starts}
use Rattle.rules.specs.Jobs.{overrun, Stand, Ready, Waiting, Done, Stopped, Job, finished, stop, step_done, reported, begun, owner_runs, owner_late, owned_by, code, new_fault, turn}
use Rattle.rules.proofs.Laws.{moved-rise}

-- ── places in a pattern ─────────────────────────────────────────────────────

-- where place b begins
unfoldable pub off : List ℕ → ℕ → ℕ
off ns b = sum (take b ns)

pub off-suc : (ns : List ℕ) (b : ℕ) → b < length ns → off ns (suc b) ≡ off ns b + get_or ns b 0
unfolding off sum
off-suc [] b h = let z : ⊥ = omega arith in absurd z
off-suc (n ∷ ns) zero h = omega arith
off-suc (n ∷ ns) (suc b) h = let r = off-suc ns b (omega arith) in omega arith

pub off-le : (ns : List ℕ) (b : ℕ) → off ns b ≤ sum ns
unfolding off sum
off-le ns zero = omega arith
off-le [] (suc b) = omega arith
off-le (n ∷ ns) (suc b) = let r = off-le ns b in omega arith

off-mono : (ns : List ℕ) (b c : ℕ) → b ≤ c → off ns b ≤ off ns c
unfolding off sum
off-mono ns zero c h = omega arith
off-mono ns (suc b) zero h = let z : ⊥ = omega arith in absurd z
off-mono [] (suc b) (suc c) h = omega arith
off-mono (n ∷ ns) (suc b) (suc c) h = let r = off-mono ns b c (omega arith) in omega arith

-- the whole pattern is reached only at its last place's end
pub off-full : (ns : List ℕ) → ((b : ℕ) → b < length ns → 0 < get_or ns b 0) → (b : ℕ) → sum ns ≤ off ns b → length ns ≤ b
unfolding off sum
off-full [] pos b h = omega arith
off-full (n ∷ ns) pos zero h = let p = pos 0 (omega arith) in let z : ⊥ = omega arith in absurd z
off-full (n ∷ ns) pos (suc b) h = let r = off-full ns (λ c k. pos (suc c) (omega arith)) b (omega arith) in omega arith

place-le : (ns : List ℕ) (p c : ℕ) → p < off ns (suc c) → place_of ns p ≤ c
unfolding off sum place_of
place-le [] p c h = omega arith
place-le (n ∷ ns) p c h = go (ltb p n) refl c h (place-le ns (p - n))
  where
    go : (t : Bool) → ltb p n ≡ t → (c : ℕ) → p < off (n ∷ ns) (suc c) → ((d : ℕ) → p - n < off ns (suc d) → place_of ns (p - n) ≤ d) → cond t 0 (suc (place_of ns (p - n))) ≤ c
    go true e c h ih = omega arith
    go false e zero h ih = let k = ltb-false p n e in omega arith
    go false e (suc d) h ih = let k = ltb-false p n e in let r = ih d (omega arith) in omega arith

place_end : (ns : List ℕ) (p : ℕ) → p < sum ns → p < off ns (suc (place_of ns p))
unfolding off sum place_of
place_end [] p h = omega arith
place_end (n ∷ ns) p h = go (ltb p n) refl (place_end ns (p - n))
  where
    go : (t : Bool) → ltb p n ≡ t → (p - n < sum ns → p - n < off ns (suc (place_of ns (p - n)))) → p < sum (take (suc (cond t 0 (suc (place_of ns (p - n))))) (n ∷ ns))
    go true e ih = let k = ltb-true p n e in omega arith
    go false e ih = let k = ltb-false p n e in let r = ih (omega arith) in omega arith

-- an even place is no wait
unfoldable pub not_waiting : Standing → Type 0
not_waiting ready = Unit {0}
not_waiting waiting = ⊥
not_waiting done = Unit {0}

even-go : (n : ℕ) (ns : List ℕ) (p k : ℕ) (t : Bool) → ((k : ℕ) → place_of ns (p - n) ≡ suc (k + k) → not_waiting (within waiting ready ns (p - n)))
    → cond t 0 (suc (place_of ns (p - n))) ≡ k + k → not_waiting (cond t ready (within waiting ready ns (p - n)))
unfolding not_waiting
even-go n ns p k true ih h = tt
even-go n ns p zero false ih h = let z : ⊥ = omega arith in absurd z
even-go n ns p (suc k) false ih h = ih k (omega arith)

odd-go : (n : ℕ) (ns : List ℕ) (p k : ℕ) (t : Bool) → ((k : ℕ) → place_of ns (p - n) ≡ k + k → not_waiting (within ready waiting ns (p - n)))
    → cond t 0 (suc (place_of ns (p - n))) ≡ suc (k + k) → not_waiting (cond t waiting (within ready waiting ns (p - n)))
unfolding not_waiting
odd-go n ns p k true ih h = let z : ⊥ = omega arith in absurd z
odd-go n ns p k false ih h = ih k (omega arith)

mutual
  unfolding place_of within not_waiting

  even-not : (ns : List ℕ) (p k : ℕ) → place_of ns p ≡ k + k → not_waiting (within ready waiting ns p)
  even-not [] p k h = tt
  even-not (n ∷ ns) p k h = even-go n ns p k (ltb p n) (λ k e. odd-not ns (p - n) k e) h

  odd-not : (ns : List ℕ) (p k : ℕ) → place_of ns p ≡ suc (k + k) → not_waiting (within waiting ready ns p)
  odd-not [] p k h = tt
  odd-not (n ∷ ns) p k h = odd-go n ns p k (ltb p n) (λ k e. even-not ns (p - n) k e) h

-- ── reports that keep within the pattern ────────────────────────────────────

-- a job that stands so, in step k with g slots given, or waiting for w slots, is reported on by r within its pattern:
-- a step ends at the latest with its last slot, a wait lasts no longer than written, and nothing else is reported
abbrev pub Keeps : Task → Stand → Bool → ℕ → ℕ → ℕ → ℕ → Type 0
Keeps τ Ready true k g w r = (r ≡ 1) ⊎ ((r ≡ 0) × (g < written τ k))
Keeps τ Ready false k g w r = r ≡ 0
Keeps τ Waiting b k g w r = (r ≡ 2) ⊎ ((r ≡ 0) × (w < wait_written τ k))
Keeps τ Done b k g w r = r ≡ 0
Keeps τ (Stopped c) b k g w r = Unit {0}

-- ── the invariant ───────────────────────────────────────────────────────────

-- after the slot: q is the plan's progress at its end
abbrev pub Ahead : Task → ℕ → Stand → Bool → ℕ → ℕ → ℕ → Type 0
Ahead τ q Ready b k g w = (k + k < length τ.pattern) × (q ≤ off τ.pattern (k + k) + g) × (g ≤ written τ k) × (b ≡ false → g < written τ k) × (w ≡ 0)
Ahead τ q Waiting b k g w = (suc (suc (k + k)) < length τ.pattern) × (q ≤ off τ.pattern (suc (k + k)) + w) × (w ≤ wait_written τ k)
Ahead τ q Done b k g w = Unit {0}
Ahead τ q (Stopped c) b k g w = ⊥

-- after the report: p is the plan's progress at the start of the next slot
abbrev pub Level : Task → ℕ → Stand → ℕ → ℕ → ℕ → Type 0
Level τ p Ready k g w = (k + k < length τ.pattern) × (p ≤ off τ.pattern (k + k) + g) × (g < written τ k)
Level τ p Waiting k g w = (suc (suc (k + k)) < length τ.pattern) × (p ≤ off τ.pattern (suc (k + k)) + w) × (w < wait_written τ k)
Level τ p Done k g w = Unit {0}
Level τ p (Stopped c) k g w = ⊥

-- the slots that a wait has lasted
unfoldable pub waited_now : Stand → ℕ → ℕ
waited_now Ready w = 0
waited_now Waiting w = suc w
waited_now Done w = 0
waited_now (Stopped c) w = 0

-- the owner's part of a tick
unfoldable pub slotted : Task → ℕ → Bool → Job → Job
slotted τ p own j = owned_by (own && owner_runs j.stand (place_of τ.pattern p) j) (own && owner_late j.stand (place_of τ.pattern p) j) j

module _ (τ : Task) (shape : Shape τ.pattern) where
  -- the report
  level-done : (q k g : ℕ) → k + k < length τ.pattern → q ≤ off τ.pattern (k + k) + g → g ≤ written τ k
      → Level τ q (step_done τ (record { step = k; given = g; stand = Ready })).stand (step_done τ (record { step = k; given = g; stand = Ready })).step (step_done τ (record { step = k; given = g; stand = Ready })).given 0
  unfolding step_done finished written wait_written
  level-done q k g a b c = go (ltb (suc (k + k)) (length τ.pattern)) refl
    where
      go : (t : Bool) → ltb (suc (k + k)) (length τ.pattern) ≡ t →
          Level τ q (cond t (record { step = k; given = 0; stand = Waiting }) finished).stand (cond t (record { step = k; given = 0; stand = Waiting }) finished).step (cond t (record { step = k; given = 0; stand = Waiting }) finished).given 0
      go true e =
          let l = ltb-true (suc (k + k)) (length τ.pattern) e in
          let o = shape.odd in
          let u = off-suc τ.pattern (k + k) a in
          let p = shape.positive (suc (k + k)) l in
          (omega arith, omega arith, omega arith)
      go false e = tt

  next-step : (q k w : ℕ) → suc (suc (k + k)) < length τ.pattern → q ≤ off τ.pattern (suc (k + k)) + w → w ≤ wait_written τ k → Level τ q Ready (suc k) 0 w
  unfolding written wait_written
  next-step q k w a b c =
      let e : suc k + suc k ≡ suc (suc (k + k)) = omega arith in
      let u = off-suc τ.pattern (suc (k + k)) (omega arith) in
      let p = shape.positive (suc (suc (k + k))) a in
      rw e (a, omega arith, p)

  pub after-report : (q : ℕ) (st : Stand) (b : Bool) (k g w r : ℕ) → Ahead τ q st b k g w → Keeps τ st b k g w r
      → Level τ q (reported τ st b (record { step = k; given = g; stand = st }) r).stand (reported τ st b (record { step = k; given = g; stand = st }) r).step (reported τ st b (record { step = k; given = g; stand = st }) r).given w
  unfolding reported
  after-report q Ready true k g w r A (inl e) = rw e (rw A.4 (level-done q k g A.0 A.1 A.2))
  after-report q Ready true k g w r A (inr e) = let n : eqb g (written τ k) ≡ false = ne_eqb g (written τ k) (λ z. let h = e.1 in omega arith) in rw (e.0, n) (A.0, A.1, e.1)
  after-report q Ready false k g w r A e = rw e (A.0, A.1, A.3 refl)
  after-report q Waiting b k g w r A (inl e) = rw e (next-step q k w A.0 A.1 A.2)
  after-report q Waiting b k g w r A (inr e) = rw e.0 (A.0, A.1, e.1)
  after-report q Done b k g w r A e = rw e tt
  after-report q (Stopped c) b k g w r A e = absurd A

  -- the slot
  moved-stay : (k : Standing) (p : ℕ) → not_waiting k → moved k false p ≡ p
  unfolding moved not_waiting
  moved-stay ready p h = refl
  moved-stay waiting p h = absurd h
  moved-stay done p h = refl

  -- a plan whose place is before place c ends its slot at or before where c begins
  plan-before : (p c : ℕ) (b : Bool) → p < span τ → place_of τ.pattern p < c → moved (standing τ p) b p ≤ off τ.pattern c
  unfolding span
  plan-before p c b h l =
      let r = (moved-rise (standing τ p) b p).1 in
      let e = place_end τ.pattern p h in
      let m = off-mono τ.pattern (suc (place_of τ.pattern p)) c l in
      omega arith

  inside-step : (p k g : ℕ) → k + k < length τ.pattern → p ≤ off τ.pattern (k + k) + g → g < written τ k → p < off τ.pattern (suc (k + k))
  unfolding written
  inside-step p k g a b c = let u = off-suc τ.pattern (k + k) a in omega arith

  inside-place : (p k g : ℕ) → k + k < length τ.pattern → p ≤ off τ.pattern (k + k) + g → g < written τ k → place_of τ.pattern p ≤ k + k
  inside-place p k g a b c = place-le τ.pattern p (k + k) (inside-step p k g a b c)

  pub inside-span : (p k g : ℕ) → k + k < length τ.pattern → p ≤ off τ.pattern (k + k) + g → g < written τ k → p < span τ
  unfolding span
  inside-span p k g a b c = let h = inside-step p k g a b c in let o = off-le τ.pattern (suc (k + k)) in omega arith

  pub inside-wait : (p k w : ℕ) → suc (suc (k + k)) < length τ.pattern → p ≤ off τ.pattern (suc (k + k)) + w → w < wait_written τ k → place_of τ.pattern p ≤ suc (k + k)
  unfolding wait_written
  inside-wait p k w a b c = let u = off-suc τ.pattern (suc (k + k)) (omega arith) in place-le τ.pattern p (suc (k + k)) (omega arith)

  even-standing : (p k : ℕ) → place_of τ.pattern p ≡ k + k → not_waiting (standing τ p)
  unfolding standing
  even-standing p k e = even-not τ.pattern p k e

  abbrev pub AheadOf : ℕ → Job → Bool → ℕ → Type 0
  AheadOf q j b w = Ahead τ q j.stand b j.step j.given (waited_now j.stand w)

  pub after-slot : (p : ℕ) (own : Bool) (st : Stand) (k g w : ℕ) → Level τ p st k g w
      → AheadOf (moved (standing τ p) own p) (slotted τ p own (record { step = k; given = g; stand = st })) (own && owner_runs st (place_of τ.pattern p) (record { step = k; given = g; stand = st })) w
  unfolding slotted owned_by owner_runs owner_late waited_now stop
  after-slot p true Ready k g w L = go (eqb (k + k) b) refl (ltb (k + k) b) refl
    where
      b : ℕ
      b = place_of τ.pattern p

      go : (t : Bool) → eqb (k + k) b ≡ t → (u : Bool) → ltb (k + k) b ≡ u → AheadOf (moved (standing τ p) true p) (owned_by t u (record { step = k; given = g; stand = Ready })) t w
      go true e u f = let r = (moved-rise (standing τ p) true p).1 in (L.0, omega arith, L.2, (λ z. let y : ◌≡◌ {A = ℕ} 0 1 = cc in omega arith), refl)
      go false e true f = let l = ltb-true (k + k) b f in let h = inside-place p k g L.0 L.1 L.2 in omega arith
      go false e false f = (L.0, stay (eqb-false (k + k) b e), (let c = L.2 in omega arith), (λ z. L.2), refl)
        where
          stay : (k + k ≡ b → ⊥) → moved (standing τ p) true p ≤ off τ.pattern (k + k) + g
          stay n = let h = inside-place p k g L.0 L.1 L.2 in let m = plan-before p (k + k) true (inside-span p k g L.0 L.1 L.2) (omega arith) in omega arith
  after-slot p false Ready k g w L = (L.0, go (eqb (k + k) b) refl, (let c = L.2 in omega arith), (λ z. L.2), refl)
    where
      b : ℕ
      b = place_of τ.pattern p

      go : (t : Bool) → eqb (k + k) b ≡ t → moved (standing τ p) false p ≤ off τ.pattern (k + k) + g
      go true e = rw (moved-stay (standing τ p) p (even-standing p k (sym (eqb-true (k + k) b e)))) L.1
      go false e =
          let n = eqb-false (k + k) b e in
          let h = inside-place p k g L.0 L.1 L.2 in
          let m = plan-before p (k + k) false (inside-span p k g L.0 L.1 L.2) (omega arith) in omega arith
  after-slot p true Waiting k g w L = go (ltb (suc (k + k)) (place_of τ.pattern p)) refl
    where
      go : (u : Bool) → ltb (suc (k + k)) (place_of τ.pattern p) ≡ u → AheadOf (moved (standing τ p) true p) (owned_by false u (record { step = k; given = g; stand = Waiting })) false w
      go true f = let l = ltb-true (suc (k + k)) (place_of τ.pattern p) f in let h = inside-wait p k w L.0 L.1 L.2 in omega arith
      go false f = let r = (moved-rise (standing τ p) true p).1 in (L.0, omega arith, L.2)
  after-slot p false Waiting k g w L = let r = (moved-rise (standing τ p) false p).1 in (L.0, omega arith, L.2)
  after-slot p true Done k g w L = tt
  after-slot p false Done k g w L = tt
  after-slot p own (Stopped c) k g w L = absurd L

  pub not_late : (p : ℕ) (own : Bool) (st : Stand) (k g w : ℕ) → Level τ p st k g w → (own && owner_late st (place_of τ.pattern p) (record { step = k; given = g; stand = st })) ≡ false
  unfolding owner_late
  not_late p false st k g w L = refl
  not_late p true Ready k g w L = le-ltb (k + k) (place_of τ.pattern p) (inside-place p k g L.0 L.1 L.2)
  not_late p true Waiting k g w L = le-ltb (suc (k + k)) (place_of τ.pattern p) (inside-wait p k w L.0 L.1 L.2)
  not_late p true Done k g w L = refl
  not_late p true (Stopped c) k g w L = absurd L

  pub no_code : (st₀ st : Stand) (p k g w : ℕ) → Level τ p st k g w → new_fault st₀ st ≡ 0
  unfolding new_fault code
  no_code (Stopped c) st p k g w L = refl
  no_code Ready Ready p k g w L = refl
  no_code Ready Waiting p k g w L = refl
  no_code Ready Done p k g w L = refl
  no_code Ready (Stopped c) p k g w L = absurd L
  no_code Waiting Ready p k g w L = refl
  no_code Waiting Waiting p k g w L = refl
  no_code Waiting Done p k g w L = refl
  no_code Waiting (Stopped c) p k g w L = absurd L
  no_code Done Ready p k g w L = refl
  no_code Done Waiting p k g w L = refl
  no_code Done Done p k g w L = refl
  no_code Done (Stopped c) p k g w L = absurd L

  pub no-fault : (p : ℕ) (own : Bool) (st₀ st : Stand) (k g w : ℕ) → Level τ p st k g w
      → new_fault st₀ st + cond (own && owner_late st (place_of τ.pattern p) (record { step = k; given = g; stand = st })) 2 0 ≡ 0
  no-fault p own st₀ st k g w L = rw (not_late p own st k g w L, no_code st₀ st p k g w L) refl

-- ── one task over any number of ticks ───────────────────────────────────────

-- what the ticks make of one task: its job, whether it ran, and for how many slots it has waited
pub record Lane : Type 0 where
  pub job : Job
  pub ran : Bool
  pub waited : ℕ

unfoldable pub lane_next : Task → ℕ → ℕ → Bool → Lane → ℕ → Lane
lane_next τ t p own l r = record {
  job = (turn τ t p own l.ran l.job r).job;
  ran = (turn τ t p own l.ran l.job r).runs;
  waited = waited_now (turn τ t p own l.ran l.job r).job.stand l.waited;
}

-- after the ticks of slots 0 to t - 1; own and p are the table's and the plan's part, rep the task's reports
unfoldable pub lane : Task → (ℕ → Bool) → (ℕ → ℕ) → (ℕ → ℕ) → ℕ → Lane
lane τ own p rep zero = record { job = finished; ran = false; waited = 0 }
lane τ own p rep (suc t) = lane_next τ t (p t) (own t) (lane τ own p rep t) (rep t)

-- the job, with that report
unfoldable pub told : Task → Lane → ℕ → Job
told τ l r = reported τ l.job.stand l.ran l.job r

-- the plan of one task in a schedule
pub record Follows (τ : Task) (own : ℕ → Bool) (p : ℕ → ℕ) : Type 0 where
  pub begins : (t : ℕ) → starts t τ ≡ true → p t ≡ 0
  pub goes : (t : ℕ) → starts (suc t) τ ≡ false → p (suc t) ≡ moved (standing τ (p t)) (own t) (p t)
  pub due : (k t : ℕ) → suc t ≡ k * τ.period + τ.deadline → span τ ≤ moved (standing τ (p t)) (own t) (p t)

pub starts-at : (τ : Task) (k : ℕ) → 0 < τ.period → starts (k * τ.period + 0) τ ≡ true
unfolding starts
starts-at τ k h = eq-eqb ((k * τ.period + 0) % τ.period) 0 (digits_mod k h)

pub starts-not : (τ : Task) (k e : ℕ) → suc e < τ.period → starts (suc (k * τ.period + e)) τ ≡ false
unfolding starts
starts-not τ k e l =
    let m : suc (k * τ.period + e) % τ.period ≡ suc e = ap (λ n. n % τ.period) (sym (add-suc (k * τ.period) e)) ∙ digits_mod k l in
    ne_eqb (suc (k * τ.period + e) % τ.period) 0 (λ z. omega arith)

-- ── any reports ─────────────────────────────────────────────────────────────

-- No job gets more slots in a step than written, whatever is reported
abbrev pub Sized : Task → Stand → Bool → ℕ → ℕ → Type 0
Sized τ Ready b k g = (k + k < length τ.pattern) × (g ≤ written τ k) × (b ≡ false → g < written τ k)
Sized τ Waiting b k g = suc (suc (k + k)) < length τ.pattern
Sized τ Done b k g = Unit {0}
Sized τ (Stopped c) b k g = Unit {0}

abbrev pub SizedJob : Task → Bool → Job → Type 0
SizedJob τ b j = Sized τ j.stand b j.step j.given

module _ (τ : Task) (shape : Shape τ.pattern) where
  sized-done : (k : ℕ) (g : ℕ) → SizedJob τ false (step_done τ (record { step = k; given = g; stand = Ready }))
  unfolding step_done finished
  sized-done k g = go (ltb (suc (k + k)) (length τ.pattern)) refl
    where
      go : (t : Bool) → ltb (suc (k + k)) (length τ.pattern) ≡ t → SizedJob τ false (cond t (record { step = k; given = 0; stand = Waiting }) finished)
      go true e = let l = ltb-true (suc (k + k)) (length τ.pattern) e in let o = shape.odd in omega arith
      go false e = tt

  sized-next : (k : ℕ) → suc (suc (k + k)) < length τ.pattern → Sized τ Ready false (suc k) 0
  unfolding written
  sized-next k h = let e : suc k + suc k ≡ suc (suc (k + k)) = omega arith in let p = shape.positive (suc (suc (k + k))) h in rw e (h, omega arith, λ z. p)

  pub sized-report : (st : Stand) (b : Bool) (k g r : ℕ) → Sized τ st b k g → SizedJob τ false (reported τ st b (record { step = k; given = g; stand = st }) r)
  unfolding reported stop
  sized-report Ready true k g zero S = go (eqb g (written τ k)) refl
    where
      go : (t : Bool) → eqb g (written τ k) ≡ t → SizedJob τ false (cond t (stop overrun) (record { step = k; given = g; stand = Ready }))
      go true e = tt
      go false e = let n = eqb-false g (written τ k) e in let l = S.1 in (S.0, S.1, λ z. omega arith)
  sized-report Ready true k g (suc zero) S = sized-done k g
  sized-report Ready true k g (suc (suc r)) S = tt
  sized-report Ready false k g zero S = S
  sized-report Ready false k g (suc r) S = tt
  sized-report Waiting b k g zero S = S
  sized-report Waiting b k g (suc zero) S = tt
  sized-report Waiting b k g (suc (suc zero)) S = sized-next k S
  sized-report Waiting b k g (suc (suc (suc r))) S = tt
  sized-report Done b k g zero S = tt
  sized-report Done b k g (suc r) S = tt
  sized-report (Stopped c) b k g r S = tt

  pub sized-begun : (t : ℕ) (j : Job) → SizedJob τ false j → SizedJob τ false (begun τ t j)
  unfolding begun written
  sized-begun t j S = go (starts t τ)
    where
      go : (b : Bool) → SizedJob τ false (cond b (record { step = 0; given = 0; stand = Ready }) j)
      go true = let o = shape.odd in let z = shape.positive 0 (omega arith) in (omega arith, omega arith, λ y. z)
      go false = S

  pub sized-slot : (a u : Bool) (st : Stand) (k g p : ℕ) → Sized τ st false k g → SizedJob τ (a && owner_runs st p (record { step = k; given = g; stand = st })) (owned_by (a && owner_runs st p (record { step = k; given = g; stand = st })) u (record { step = k; given = g; stand = st }))
  unfolding owned_by owner_runs stop
  sized-slot a u Ready k g p S = go (a && eqb (k + k) p) u
    where
      go : (x u : Bool) → SizedJob τ x (owned_by x u (record { step = k; given = g; stand = Ready }))
      go true u = (S.0, S.2 refl, λ z. let y : ◌≡◌ {A = ℕ} 0 1 = cc in omega arith)
      go false true = tt
      go false false = S
  sized-slot true true Waiting k g p S = tt
  sized-slot true false Waiting k g p S = S
  sized-slot false true Waiting k g p S = tt
  sized-slot false false Waiting k g p S = S
  sized-slot true true Done k g p S = tt
  sized-slot true false Done k g p S = tt
  sized-slot false true Done k g p S = tt
  sized-slot false false Done k g p S = tt
  sized-slot true true (Stopped c) k g p S = tt
  sized-slot true false (Stopped c) k g p S = tt
  sized-slot false true (Stopped c) k g p S = tt
  sized-slot false false (Stopped c) k g p S = tt

  pub sized : (own : ℕ → Bool) (p rep : ℕ → ℕ) (t : ℕ) → SizedJob τ (lane τ own p rep t).ran (lane τ own p rep t).job
  unfolding lane lane_next turn finished
  sized own p rep zero = tt
  sized own p rep (suc t) =
      let l : Lane = lane τ own p rep t in
      let a : Job = reported τ l.job.stand l.ran l.job (rep t) in
      let b : Job = begun τ t a in
      let S = sized-begun t a (sized-report l.job.stand l.ran l.job.step l.job.given (rep t) (sized own p rep t)) in
      sized-slot (own t) (own t && owner_late b.stand (place_of τ.pattern (p t)) b) b.stand b.step b.given (place_of τ.pattern (p t)) S
