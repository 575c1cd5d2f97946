-- Choices judged from one look ahead: which are legal, the progress that they lead to, and their marks.
use mathlib.Core.Path.{◌≡◌, refl, sym, ap, ◌∙◌}
use mathlib.Core.Bool.{Bool, true, false, cond, not, ◌&&◌, ◌||◌, and-false}
use mathlib.Core.List.{List, [], ◌∷◌}
use Prim.Native.Nat.{ℕ, zero, suc, ◌+◌, ◌-◌, ◌≤◌, ◌<◌, ◌^◌}
use native.Mathlib.Nat.{pow-suc}
use native.Mathlib.Omega.{arith}
use borrow.Author.Tests.{eq-eqb, ne_eqb, eqb-true, eqb-false}
use lib.Dec.{eqb, eqb-suc-zero}
use lib.ListN.{length, get_or, take, set, length-set}
use lib.Seq.{ext_get_or, get_or-take, get_or-set_same, get_or-set_other, length-take-le}
use Rattle.rules.specs.Tasks.{Task, no_task, Standing, ready, waiting, done, standing, is_ready}
use Rattle.rules.specs.Positions.{Position, idle, each, every, allowed, moved, passed, ended, next, legal}
use Rattle.rules.proofs.Lists.{clash}
use Rattle.rules.proofs.Run.Reach.{ended_at, next-length, next-at}
use Rattle.tasks.proofs.Slotwise.{legal-well}
use Rattle.planner.specs.Marks.{mark}
use Rattle.tasks.specs.Slots.{onward, well_after}
use Rattle.planner.specs.Ahead.{stayed, gone, claim, claimed, leads_by}

-- ── tests ───────────────────────────────────────────────────────────────────

-- ── where no task is chosen ─────────────────────────────────────────────────

unfoldable stays : ℕ → Task → ℕ → ℕ
stays i τ p = stayed τ p

-- the chosen one is before these tasks, or behind them
each-behind : (c i : ℕ) (s : List Task) (ps : List ℕ) → c < i → each (passed c) i s ps ≡ each stays i s ps
unfolding each passed stays stayed
each-behind c i [] ps h = refl
each-behind c i (τ ∷ s) [] h = refl
each-behind c i (τ ∷ s) (p ∷ ps) h = rw (ne_eqb c i (λ e. let z : ⊥ = omega arith in z), each-behind c (suc i) s ps (omega arith))

each-before : (c i : ℕ) (s : List Task) (ps : List ℕ) → i + length s ≤ c → each (passed c) i s ps ≡ each stays i s ps
unfolding each passed stays stayed
each-before c i [] ps h = refl
each-before c i (τ ∷ s) [] h = refl
each-before c i (τ ∷ s) (p ∷ ps) h = rw (ne_eqb c i (λ e. let z : ⊥ = omega arith in z), each-before c (suc i) s ps (omega arith))

-- ── the task that has to be chosen ──────────────────────────────────────────

claim-least : (u : ℕ) (well : Bool) (i : ℕ) → i ≤ 256 → i ≤ u → i ≤ claim u well i
unfolding claim
claim-least u true i h k = k
claim-least u false i h k = go (eqb u 256)
  where
    go : (b : Bool) → i ≤ cond b i 257
    go true = omega arith
    go false = omega arith

claimed-least : (t i : ℕ) (s : List Task) (ps : List ℕ) → i + length s ≤ 256 → i ≤ claimed t i s ps
unfolding claimed
claimed-least t i [] ps h = omega arith
claimed-least t i (τ ∷ s) [] h = omega arith
claimed-least t i (τ ∷ s) (p ∷ ps) h =
    let k = claimed-least t (suc i) s ps (omega arith) in
    claim-least (claimed t (suc i) s ps) (well_after t τ (stayed τ p)) i (omega arith) (omega arith)

-- a number of more than one, or of a task, is not that of none
not_none : (b : Bool) (i : ℕ) → i < 256 → eqb (cond b i 257) 256 ≡ false
not_none true i h = ne_eqb i 256 (λ e. let z : ⊥ = omega arith in z)
not_none false i h = refl

-- one more task that is not chosen, where none is
claim-none : (u : ℕ) (well : Bool) (i : ℕ) → i < 256 → well && eqb u 256 ≡ eqb (claim u well i) 256
unfolding claim
claim-none u true i h = refl
claim-none u false i h = sym (not_none (eqb u 256) i h)

-- the chosen task before the others
claim-same : (u : ℕ) (well : Bool) (i c : ℕ) → c ≡ i → i < 256 → i < u → eqb u 256 ≡ eqb (claim u well i) 256 || eqb (claim u well i) c
unfolding claim
claim-same u true i c e h k = go (eqb u 256) (ne_eqb u c (λ q. let z : ⊥ = omega arith in z))
  where
    go : (b : Bool) → eqb u c ≡ false → b ≡ b || eqb u c
    go true r = refl
    go false r = sym r
claim-same u false i c e h k = go (eqb u 256)
  where
    go : (b : Bool) → b ≡ eqb (cond b i 257) 256 || eqb (cond b i 257) c
    go true = rw (not_none true i h) (sym (eq-eqb i c (omega arith)))
    go false = sym (ne_eqb 257 c (λ q. let z : ⊥ = omega arith in z))

-- a task that is not chosen, before one that is
claim-other : (u : ℕ) (well : Bool) (i c : ℕ) (w : Bool) → i < c → c < 256
    → well && (w && (eqb u 256 || eqb u c)) ≡ w && (eqb (claim u well i) 256 || eqb (claim u well i) c)
unfolding claim
claim-other u true i c w h k = refl
claim-other u false i c w h k = sym (ap (λ b. w && b) (go (eqb u 256)) ∙ and-false w)
  where
    go : (b : Bool) → eqb (cond b i 257) 256 || eqb (cond b i 257) c ≡ false
    go true = rw (not_none true i (omega arith)) (ne_eqb i c (λ q. let z : ⊥ = omega arith in z))
    go false = ne_eqb 257 c (λ q. let z : ⊥ = omega arith in z)

-- ── every task ends the slot well ───────────────────────────────────────────

-- where none is chosen
none-well : (t i : ℕ) (s : List Task) (ps : List ℕ) → i + length s ≤ 256 → every (well_after t) s (each stays i s ps) ≡ eqb (claimed t i s ps) 256
unfolding every each claimed stays
none-well t i [] ps h = refl
none-well t i (τ ∷ s) [] h = refl
none-well t i (τ ∷ s) (p ∷ ps) h =
    rw (none-well t (suc i) s ps (omega arith)) (claim-none (claimed t (suc i) s ps) (well_after t τ (stayed τ p)) i (omega arith))

-- the chosen task ends it well
abbrev chosen_well : ℕ → Task → ℕ → Bool
chosen_well t τ p = well_after t τ (moved (standing τ p) true p)

-- where the task with j before it is chosen
task-well : (t c i j : ℕ) (s : List Task) (ps : List ℕ) → c ≡ i + j → length ps ≡ length s → j < length s → i + length s ≤ 256
    → every (well_after t) s (each (passed c) i s ps)
    ≡ chosen_well t (get_or s j no_task) (get_or ps j 0) && (eqb (claimed t i s ps) 256 || eqb (claimed t i s ps) c)
unfolding every each claimed passed stayed
task-well t c i j [] ps e l h few = let z : ⊥ = omega arith in absurd z
task-well t c i j (τ ∷ s) [] e l h few = clash (length s) (sym l)
task-well t c i zero (τ ∷ s) (p ∷ ps) e l h few =
    let q : c ≡ i = omega arith in
    let k = claimed-least t (suc i) s ps (omega arith) in
    rw (eq-eqb c i q, each-behind c (suc i) s ps (omega arith), none-well t (suc i) s ps (omega arith))
    (ap (λ b. chosen_well t τ p && b) (claim-same (claimed t (suc i) s ps) (well_after t τ (stayed τ p)) i c q (omega arith) (omega arith)))
task-well t c i (suc j) (τ ∷ s) (p ∷ ps) e l h few =
    rw (ne_eqb c i (λ q. let z : ⊥ = omega arith in z), task-well t c (suc i) j s ps (omega arith) (omega arith) (omega arith) (omega arith))
    (claim-other (claimed t (suc i) s ps) (well_after t τ (stayed τ p)) i c (chosen_well t (get_or s j no_task) (get_or ps j 0)) (omega arith) (omega arith))

-- ── one task, chosen ────────────────────────────────────────────────────────

-- it is ready and ends the slot well exactly where its number is not 0
go-some : (k : Standing) (f : ℕ → Bool) (g : ℕ → ℕ) (p : ℕ) (b : Bool)
    → is_ready k && (f (moved k true p) && b) ≡ not (eqb (cond (is_ready k && f (suc p)) (suc (g (suc p))) 0) 0) && b
unfolding is_ready moved
go-some ready f g p b = go (f (suc p))
  where
    go : (w : Bool) → w && b ≡ not (eqb (cond w (suc (g (suc p))) 0) 0) && b
    go true = rw (eqb-suc-zero (g (suc p)))
    go false = refl
go-some waiting f g p b = refl
go-some done f g p b = refl

-- one less is its progress in the next slot
go-less : (k : Standing) (w : Bool) (g : ℕ → ℕ) (p : ℕ) → (cond (is_ready k && w) (suc (g (suc p))) 0 ≡ 0 → ⊥) → cond (is_ready k && w) (suc (g (suc p))) 0 - 1 ≡ g (moved k true p)
unfolding is_ready moved
go-less ready true g p n = omega arith
go-less ready false g p n = absurd (n refl)
go-less waiting w g p n = absurd (n refl)
go-less done w g p n = absurd (n refl)

go-ready : (b w : Bool) (n : ℕ) → (cond (b && w) n 0 ≡ 0 → ⊥) → b ≡ true
go-ready true w n h = refl
go-ready false w n h = absurd (h refl)

-- only a ready task may go
pub gone-ready : (t : ℕ) (τ : Task) (p : ℕ) → (gone t τ p ≡ 0 → ⊥) → is_ready (standing τ p) ≡ true
unfolding gone
gone-ready t τ p h = go-ready (is_ready (standing τ p)) (well_after t τ (suc p)) (suc (onward t τ (suc p))) h

gone-less : (t : ℕ) (τ : Task) (p : ℕ) → (gone t τ p ≡ 0 → ⊥) → gone t τ p - 1 ≡ onward t τ (moved (standing τ p) true p)
unfolding gone
gone-less t τ p h = go-less (standing τ p) (well_after t τ (suc p)) (onward t τ) p h

-- ── a mark with the chosen task's bit ───────────────────────────────────────

rise-bit : (k : Standing) (p : ℕ) → is_ready k ≡ true → cond (eqb p (moved k true p)) 0 1 ≡ suc (cond (eqb p (moved k false p)) 0 1)
unfolding is_ready moved
rise-bit ready p r = rw (ne_eqb p (suc p) (λ e. let z : ⊥ = omega arith in z), eq-eqb p p refl)
rise-bit waiting p r = let z : ◌≡◌ {A = ℕ} 0 1 = cc in clash 0 (sym z)
rise-bit done p r = let z : ◌≡◌ {A = ℕ} 0 1 = cc in clash 0 (sym z)

mark-more : (c i j : ℕ) (s : List Task) (ps : List ℕ) → c ≡ i + j → length ps ≡ length s → j < length s → is_ready (standing (get_or s j no_task) (get_or ps j 0)) ≡ true
    → mark ps (each (passed c) i s ps) ≡ mark ps (each stays i s ps) + 2 ^ j
unfolding mark each passed stays stayed
mark-more c i j [] ps e l h r = let z : ⊥ = omega arith in absurd z
mark-more c i j (τ ∷ s) [] e l h r = clash (length s) (sym l)
mark-more c i zero (τ ∷ s) (p ∷ ps) e l h r =
    let q : c ≡ i = omega arith in
    rw (eq-eqb c i q, each-behind c (suc i) s ps (omega arith), rise-bit (standing τ p) p r) (omega arith)
mark-more c i (suc j) (τ ∷ s) (p ∷ ps) e l h r =
    rw (ne_eqb c i (λ q. let z : ⊥ = omega arith in z), mark-more c (suc i) j s ps (omega arith) (omega arith) (omega arith) r)
    (omega (arith, pow-suc 2 j))

-- ── a position's choices ────────────────────────────────────────────────────

module _ (s : List Task) (x : Position) (long : length x.progress ≡ length s) (few : length s ≤ 8) where
  -- a task is legal where it may go and no other one has to
  pub legal-task : (c : ℕ) → c < length s → legal s x c ≡ leads_by (claimed x.slot 0 s x.progress) (gone x.slot (get_or s c no_task) (get_or x.progress c 0)) c
  unfolding allowed idle ended leads_by gone
  legal-task c h =
      legal-well s x c
      ∙ rw (ne_eqb c 255 (λ e. let z : ⊥ = omega arith in z), task-well x.slot c 0 c s x.progress (omega arith) long h (omega arith))
      (go-some (standing (get_or s c no_task) (get_or x.progress c 0)) (well_after x.slot (get_or s c no_task)) (onward x.slot (get_or s c no_task)) (get_or x.progress c 0)
      (eqb (claimed x.slot 0 s x.progress) 256 || eqb (claimed x.slot 0 s x.progress) c))

  -- idle is legal where no task has to be chosen
  pub legal-idle : legal s x idle ≡ eqb (claimed x.slot 0 s x.progress) 256
  unfolding allowed idle ended
  legal-idle = legal-well s x 255 ∙ rw (each-before 255 0 s x.progress (omega arith)) (none-well x.slot 0 s x.progress (omega arith))

  -- a ready task adds its bit to the mark of the tasks that rise unchosen
  pub mark-task : (c : ℕ) → c < length s → is_ready (standing (get_or s c no_task) (get_or x.progress c 0)) ≡ true
      → mark x.progress (ended s x.progress c) ≡ mark x.progress (ended s x.progress idle) + 2 ^ c
  unfolding ended idle
  mark-task c h r = mark-more c 0 c s x.progress (omega arith) long h r ∙ rw (each-before 255 0 s x.progress (omega arith))

  -- the progress of one task in the next slot
  next-other : (c j : ℕ) → j < length s → (c ≡ j → ⊥) → get_or (next s x c).progress j 0 ≡ onward x.slot (get_or s j no_task) (stayed (get_or s j no_task) (get_or x.progress j 0))
  unfolding passed onward stayed
  next-other c j h n = next-at s x c j long h ∙ rw (ended_at s x.progress c j long h, ne_eqb c j n)

  next-same : (c : ℕ) → c < length s
      → get_or (next s x c).progress c 0 ≡ onward x.slot (get_or s c no_task) (moved (standing (get_or s c no_task) (get_or x.progress c 0)) true (get_or x.progress c 0))
  unfolding passed onward
  next-same c h = next-at s x c c long h ∙ rw (ended_at s x.progress c c long h, eq-eqb c c refl)

  -- the first numbers of eight are the progress in the next slot where each is
  first-are : (c : ℕ) (l : List ℕ) → length l ≡ 8 → ((j : ℕ) → j < length s → get_or l j 0 ≡ get_or (next s x c).progress j 0) → take (length s) l ≡ (next s x c).progress
  first-are c l k h =
      let a = length-take-le (length s) l (omega arith) in
      ext_get_or 0 (take (length s) l) (next s x c).progress (a ∙ sym (next-length s x c long)) (λ j b. get_or-take (length s) l j 0 (omega arith) ∙ h j (omega arith))

  -- what stays, with the chosen task's progress in its place
  pub next-task : (stay : List ℕ) (c : ℕ) → length stay ≡ 8
      → ((j : ℕ) → j < length s → get_or stay j 0 ≡ onward x.slot (get_or s j no_task) (stayed (get_or s j no_task) (get_or x.progress j 0)))
      → c < length s → (gone x.slot (get_or s c no_task) (get_or x.progress c 0) ≡ 0 → ⊥)
      → take (length s) (set stay c (gone x.slot (get_or s c no_task) (get_or x.progress c 0) - 1)) ≡ (next s x c).progress
  next-task stay c eight staying h n = first-are c _ (length-set stay c _ ∙ eight) (λ j k. go j k (eqb c j) refl)
    where
      go : (j : ℕ) → j < length s → (b : Bool) → eqb c j ≡ b
          → get_or (set stay c (gone x.slot (get_or s c no_task) (get_or x.progress c 0) - 1)) j 0 ≡ get_or (next s x c).progress j 0
      go j k true e =
          rw (← eqb-true c j e) (get_or-set_same stay c _ 0 (omega arith) ∙ gone-less x.slot (get_or s c no_task) (get_or x.progress c 0) n ∙ sym (next-same c h))
      go j k false e =
          let d = eqb-false c j e in
          get_or-set_other stay c j _ 0 (λ q. d (sym q)) ∙ staying j k ∙ sym (next-other c j k d)

  -- what stays, where none is chosen
  pub next-idle : (stay : List ℕ) → length stay ≡ 8
      → ((j : ℕ) → j < length s → get_or stay j 0 ≡ onward x.slot (get_or s j no_task) (stayed (get_or s j no_task) (get_or x.progress j 0)))
      → take (length s) stay ≡ (next s x idle).progress
  unfolding idle
  next-idle stay eight staying = first-are 255 stay eight (λ j k. staying j k ∙ sym (next-other 255 j k (λ e. let z : ⊥ = omega arith in z)))
