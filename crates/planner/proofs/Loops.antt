-- What the loops over marks keep.
use mathlib.Core.Path.{◌≡◌, refl, sym, ap, ◌∙◌}
use mathlib.Core.Logic.{◌⊎◌, inl, inr}
use mathlib.Core.Bool.{Bool, true, false, cond, ◌&&◌, and-false}
use mathlib.Core.List.{List, [], ◌∷◌, ◌++◌, append-nil, map}
use Prim.Native.Nat.{ℕ, zero, suc, ◌+◌, ◌-◌, ◌≤◌, ◌<◌, ◌%◌, ◌/◌}
use native.Mathlib.Nat.{sub-zero}
use native.Mathlib.Numerals.{add-one}
use native.Mathlib.Omega.{arith}
use borrow.Author.Tests.{eq-eqb, ne_eqb}
use lib.Dec.{T, eqb}
use lib.ListN.{length, get_or, take, drop, set, replicate, drop_of_length-le, length-set, take-append-drop}
use lib.Seq.{drop-cons, length-take-le, get_or-take, get_or-set_same, get_or-set_other, take-suc-set, drop-set-lt, append_snoc, ext_get_or}
use Rattle.rules.specs.Tasks as model
use Rattle.rules.specs.Tasks.{span, standing, is_ready, no_task}
use Rattle.rules.specs.Positions.{Position, idle, each, ended, starts, restarted, next, legal, start}
use Rattle.rules.specs.Choices.{live_from}
use Rattle.rules.proofs.Laws.{T_and, le-or-lt, each_at, each-length}
use Rattle.tasks.specs.declared.Standing.{Standing}
use Rattle.tasks.specs.declared.Standing.TheVariants.{Ready, Waiting, Done}
use Rattle.tasks.specs.Views.{standing_of}
use Rattle.tasks.proofs.Slotwise.{starts-full}
use Rattle.tasks.specs.declared.timed.Timed.{Timed}
use Rattle.tasks.specs.Timed.{timed_task}
use Rattle.tasks.proofs.Timing.{whole-is}
use Rattle.planner.specs.declared.rows.Rows.{Rows}
use Rattle.planner.specs.Rows.{task_at, row_tasks, Modest}
use Rattle.planner.specs.Marks.{mark, lowered, raised, unstarted, chosen, marks, spelled, Listed}
use Rattle.planner.proofs.Places.{row_small, rows-length, row_at, used-many, used_is, take-replicate}
use Rattle.planner.proofs.Marks.{legal-allowed, chosen_is, raised-ended, next_fits, start_fits}

-- ── a number for each task ──────────────────────────────────────────────────

module _ (f : ℕ → model.Task → ℕ → ℕ) (rows : Rows) (ps : List ℕ) where
  -- the numbers before place i are those of the tasks
  pub record Filled (i : ℕ) (out : List ℕ) : Type 0 where
    pub few : i ≤ rows.count
    pub long : length ps ≡ 8
    pub eight : length out ≡ 8
    pub done : (j : ℕ) → j < i → get_or out j 0 ≡ f j (task_at rows.tasks j) (get_or ps j 0)

  pub filled-start : (out : List ℕ) → length ps ≡ 8 → length out ≡ 8 → Filled 0 out
  filled-start out l e = record { few = omega arith; long = l; eight = e; done = λ j h. let z : ⊥ = omega arith in absurd z }

  filled-step : (i q : ℕ) (out : List ℕ) → Filled i out → i < rows.count → q ≡ f i (task_at rows.tasks i) (get_or ps i 0) → Filled (i + 1) (set out i q)
  filled-step i q out v h e = record { few = omega arith; long = v.long; eight = length-set out i q ∙ v.eight; done = λ j k. go j (le-or-lt i j) k }
    where
      go : (j : ℕ) → (i ≤ j) ⊎ (j < i) → j < i + 1 → get_or (set out i q) j 0 ≡ f j (task_at rows.tasks j) (get_or ps j 0)
      go j (inl l) k =
          let z : j ≡ i = omega arith in
          let a = v.eight in
          let b = rows.few in
          rw z (get_or-set_same out i q 0 (omega arith) ∙ e)
      go j (inr l) k = get_or-set_other out i j q 0 (λ z. let y : ⊥ = omega arith in y) ∙ v.done j l

  filled-end : (i : ℕ) (out : List ℕ) → Filled i out → rows.count ≤ i → take rows.count out ≡ each f 0 (row_tasks rows) (take rows.count ps)
  filled-end i out v h =
      let a = v.few in
      let m = rows.few in
      let e = v.eight in
      let l = v.long in
      let s = row_tasks rows in
      let r = rows-length rows in
      let b = length-take-le rows.count out (omega arith) in
      let d : length (take rows.count ps) ≡ length s = length-take-le rows.count ps (omega arith) ∙ sym r in
      ext_get_or 0 (take rows.count out) (each f 0 s (take rows.count ps)) (b ∙ sym (each-length f 0 s (take rows.count ps) d ∙ r))
      (λ j k. get_or-take rows.count out j 0 (omega arith) ∙ v.done j (omega arith) ∙ sym (each_at f 0 s (take rows.count ps) j d (omega arith) ∙ at j (omega arith)))
    where
      at : (j : ℕ) → j < rows.count → f (0 + j) (get_or (row_tasks rows) j no_task) (get_or (take rows.count ps) j 0) ≡ f j (task_at rows.tasks j) (get_or ps j 0)
      at j k = rw (row_at rows j k, get_or-take rows.count ps j 0 k) (ap (λ i. f i (task_at rows.tasks j) (get_or ps j 0)) (omega arith))

-- the numbers from place i on are as they were
unfoldable pub Kept : ℕ → List ℕ → List ℕ → Type 0
Kept i ps out = (j : ℕ) → i ≤ j → get_or out j 0 ≡ get_or ps j 0

pub kept-start : (ps : List ℕ) → Kept 0 ps ps
unfolding Kept
kept-start ps j h = refl

pub kept_step : (i q : ℕ) (ps out : List ℕ) → Kept i ps out → Kept (i + 1) ps (set out i q)
unfolding Kept
kept_step i q ps out v j h = get_or-set_other out i j q 0 (λ z. let y : ⊥ = omega arith in y) ∙ v j (omega arith)

kept_at : (i : ℕ) (ps out : List ℕ) → Kept i ps out → get_or out i 0 ≡ get_or ps i 0
unfolding Kept
kept_at i ps out v = v i (omega arith)

pub kept-modest : (n i : ℕ) (ps out : List ℕ) → Kept i ps out → Modest n ps → i < n → get_or out i 0 ≤ 4096
unfolding Modest
kept-modest n i ps out v m h = rw (kept_at i ps out v) (m i h)

-- ── a bit for each task ─────────────────────────────────────────────────────

-- the mark from place i on
unfoldable pub halved : ℕ → ℕ → ℕ
halved b zero = b
halved b (suc i) = halved b i / 2

pub halved-next : (b bits i : ℕ) → bits ≡ halved b i → bits / 2 ≡ halved b (i + 1)
unfolding halved
halved-next b bits i e = rw (add-one, e)

-- a task that starts again was done
module _ (τ : Timed) (slot p q r : ℕ) (e : q ≡ slot) (f : r ≡ q % (timed_task τ).period) where
  pub end-done : r ≡ 0 → τ.length ≡ cond (starts slot (timed_task τ)) (span (timed_task τ)) p
  unfolding starts
  end-done z = whole-is τ ∙ rw (eq-eqb (slot % (timed_task τ).period) 0 (sym (rw e at f) ∙ z))

  pub end-same : (r ≡ 0 → ⊥) → p ≡ cond (starts slot (timed_task τ)) (span (timed_task τ)) p
  unfolding starts
  end-same n = rw (ne_eqb (slot % (timed_task τ).period) 0 (λ z. n (f ∙ rw e z)))

pub ruleset end_laws = (end-done, end-same)

-- the progress before a slot, of one task
unfoldable pub back : ℕ → ℕ → ℕ → model.Task → ℕ → ℕ
back slot b i τ p = unstarted slot i τ p - halved b i % 2

back_at : (slot b i : ℕ) (τ : model.Task) (p q r bits : ℕ) → bits ≡ halved b i → q ≡ cond (starts slot τ) (span τ) p → r ≡ q - bits % 2 → r ≡ back slot b i τ p
unfolding back unstarted
back_at slot b i τ p q r bits e f g = g ∙ rw (e, f)

lowered-each : (slot b i : ℕ) (s : List model.Task) (ps : List ℕ) → lowered (halved b i) (each (unstarted slot) i s ps) ≡ each (back slot b) i s ps
unfolding lowered each back halved
lowered-each slot b i [] ps = refl
lowered-each slot b i (τ ∷ s) [] = refl
lowered-each slot b i (τ ∷ s) (p ∷ ps) = ap {B = List ℕ} (λ l. (unstarted slot i τ p - halved b i % 2) ∷ l) (lowered-each slot b (suc i) s ps)

lowered-all : (slot b : ℕ) (s : List model.Task) (ps : List ℕ) → each (back slot b) 0 s ps ≡ lowered b (each (unstarted slot) 0 s ps)
unfolding halved
lowered-all slot b s ps = sym (lowered-each slot b 0 s ps)

module _ (slot b : ℕ) (rows : Rows) (ps : List ℕ) where
  pub back_step : (i bits : ℕ) (out : List ℕ) → Filled (back slot b) rows ps i out → Kept i ps out → bits ≡ halved b i → (used : List Timed) → map timed_task used ≡ row_tasks rows → i < length used
      → (τ : Timed) → τ ≡ get_or used i τ → (q : ℕ) → q ≡ cond (starts slot (timed_task τ)) (span (timed_task τ)) (get_or out i 0)
      → Filled (back slot b) rows ps (i + 1) (set out i (q - bits % 2))
  back_step i bits out v k e used are h τ is q f =
      let m = used-many rows used are in
      filled-step (back slot b) rows ps i (q - bits % 2) out v (omega arith) (back_at slot b i (task_at rows.tasks i) (get_or ps i 0) q (q - bits % 2) bits e (rw (used_is rows used are i τ h is, kept_at i ps out k) at f) refl)

  pub back_end : (i : ℕ) (out : List ℕ) → Filled (back slot b) rows ps i out → rows.count ≤ i → take rows.count out ≡ lowered b (each (unstarted slot) 0 (row_tasks rows) (take rows.count ps))
  back_end i out v h = filled-end (back slot b) rows ps i out v h ∙ lowered-all slot b (row_tasks rows) (take rows.count ps)

-- the progress after a slot, of one task
unfoldable pub forth : ℕ → ℕ → ℕ → model.Task → ℕ → ℕ
forth slot b i τ p = restarted (suc slot) i τ (p + halved b i % 2)

forth-at : (slot b i : ℕ) (τ : model.Task) (p q since r bits : ℕ) → bits ≡ halved b i → q ≡ p + bits % 2 → since ≡ suc (slot % τ.period) → r ≡ cond (eqb since τ.period) 0 q
    → r ≡ forth slot b i τ p
unfolding forth restarted
forth-at slot b i τ p q since r bits e f g k = k ∙ rw (g, ← starts-full slot τ, f, e)

raised-each : (slot b i : ℕ) (s : List model.Task) (ps : List ℕ) → each (forth slot b) i s ps ≡ each (restarted (suc slot)) i s (raised (halved b i) ps)
unfolding raised each forth halved
raised-each slot b i [] ps = refl
raised-each slot b i (τ ∷ s) [] = refl
raised-each slot b i (τ ∷ s) (p ∷ ps) = ap {B = List ℕ} (λ l. restarted (suc slot) i τ (p + halved b i % 2) ∷ l) (raised-each slot b (suc i) s ps)

raised_all : (slot b : ℕ) (s : List model.Task) (ps : List ℕ) → each (forth slot b) 0 s ps ≡ each (restarted (suc slot)) 0 s (raised b ps)
unfolding halved
raised_all slot b s ps = raised-each slot b 0 s ps

module _ (slot b : ℕ) (rows : Rows) (ps : List ℕ) where
  pub forth-step : (i bits : ℕ) (out : List ℕ) → Filled (forth slot b) rows ps i out → Kept i ps out → bits ≡ halved b i → (used : List Timed) → map timed_task used ≡ row_tasks rows → i < length used
      → (τ : Timed) → τ ≡ get_or used i τ → (since r : ℕ) → since ≡ suc (slot % (timed_task τ).period) → r ≡ cond (eqb since (timed_task τ).period) 0 (get_or out i 0 + bits % 2)
      → Filled (forth slot b) rows ps (i + 1) (set out i r)
  forth-step i bits out v k e used are h τ is since r g w =
      let m = used-many rows used are in
      filled-step (forth slot b) rows ps i r out v (omega arith)
      (forth-at slot b i (task_at rows.tasks i) (get_or ps i 0) (get_or out i 0 + bits % 2) since r bits e (rw (kept_at i ps out k)) (rw (used_is rows used are i τ h is) at g) (rw (used_is rows used are i τ h is) at w))

  pub forth-end : (i : ℕ) (out : List ℕ) → Filled (forth slot b) rows ps i out → rows.count ≤ i → take rows.count out ≡ each (restarted (suc slot)) 0 (row_tasks rows) (raised b (take rows.count ps))
  forth-end i out v h = filled-end (forth slot b) rows ps i out v h ∙ raised_all slot b (row_tasks rows) (take rows.count ps)

-- ── the ready task whose bit is set ─────────────────────────────────────────

not_ready : (k : Standing) → (k ≡ Ready → ⊥) → is_ready (standing_of k) ≡ false
unfolding standing_of is_ready
not_ready Ready h = absurd (h refl)
not_ready Waiting h = refl
not_ready Done h = refl

module _ (b p : ℕ) (τ : model.Task) (k : Standing) (stands : standing_of k ≡ standing τ p) where
  pub rose-ready : b % 2 ≡ 1 → k ≡ Ready → true ≡ eqb (b % 2) 1 && is_ready (standing τ p)
  unfolding standing_of is_ready
  rose-ready e h = rw (e, ← stands, h)

  pub rose-other : (k ≡ Ready → ⊥) → false ≡ eqb (b % 2) 1 && is_ready (standing τ p)
  rose-other h = rw (← stands, not_ready k h) (sym (and-false (eqb (b % 2) 1)))

pub rose-not : (b : ℕ) (r : Bool) → (b % 2 ≡ 1 → ⊥) → false ≡ eqb (b % 2) 1 && r
rose-not b r n = rw (ne_eqb (b % 2) 1 n)

pub ruleset rose_laws = (rose-ready, rose-other, rose-not)

module _ (b : ℕ) (rows : Rows) (p : List ℕ) where
  abbrev tasks : List model.Task
  tasks = row_tasks rows

  -- the tasks before place i did not rise from being ready
  pub record Looked (i bits : ℕ) : Type 0 where
    pub eight : length p ≡ 8
    pub rest : chosen 0 b tasks (take rows.count p) ≡ chosen i bits (drop i tasks) (drop i (take rows.count p))

  looked-next : (i bits : ℕ) → length p ≡ 8 → i < rows.count
      → chosen i bits (drop i tasks) (drop i (take rows.count p))
      ≡ cond (eqb (bits % 2) 1 && is_ready (standing (task_at rows.tasks i) (get_or p i 0))) i (chosen (suc i) (bits / 2) (drop (suc i) tasks) (drop (suc i) (take rows.count p)))
  unfolding chosen
  looked-next i bits e h =
      let m = rows.few in
      let k = length-take-le rows.count p (omega arith) in
      let l = rows-length rows in
      rw (drop-cons tasks i no_task (omega arith), drop-cons (take rows.count p) i 0 (omega arith), row_at rows i h, get_or-take rows.count p i 0 h)

  pub looked-start : length p ≡ 8 → Looked 0 b
  looked-start e = record { eight = e; rest = refl }

  module _ (i bits : ℕ) (r : Bool) (v : Looked i bits) (used : List Timed) (are : map timed_task used ≡ row_tasks rows) (h : i < length used) (τ : Timed) (is : τ ≡ get_or used i τ)
      (e : r ≡ eqb (bits % 2) 1 && is_ready (standing (timed_task τ) (get_or p i 0))) where
    below : i < rows.count
    below = let m = used-many rows used are in omega arith

    rises : r ≡ eqb (bits % 2) 1 && is_ready (standing (task_at rows.tasks i) (get_or p i 0))
    rises = rw (used_is rows used are i τ h is) at e

    pub looked-step : r ≡ false → Looked (i + 1) (bits / 2)
    looked-step f = record { eight = v.eight; rest = v.rest ∙ looked-next i bits v.eight below ∙ rw (← rises, f, add-one) }

    pub looked-found : r ≡ true → i ≡ chosen 0 b tasks (take rows.count p)
    looked-found f = sym (v.rest ∙ looked-next i bits v.eight below ∙ rw (← rises, f))

  pub looked-end : (i bits : ℕ) → Looked i bits → rows.count ≤ i → 255 ≡ chosen 0 b tasks (take rows.count p)
  unfolding chosen idle
  looked-end i bits v h = sym (v.rest ∙ rw (drop_of_length-le tasks {i = i} (omega (arith, rows-length rows))))

-- ── marks into choices ──────────────────────────────────────────────────────

module _ (rows : Rows) (h : ℕ) (given : List ℕ) where
  abbrev held : List model.Task
  held = row_tasks rows

  abbrev all : List ℕ
  all = spelled held (start held) (take h given)

  -- the marks before place slot are choices, and x is where they lead
  pub record Spelling (slot : ℕ) (table progress : List ℕ) : Type 0 where
    pub few : slot ≤ h
    pub fits : h ≤ length given
    pub long : length table ≡ length given
    pub eight : length progress ≡ 8
    pub x : Position
    pub now : x.slot ≡ slot
    pub is : take rows.count progress ≡ x.progress
    pub within : (j : ℕ) → j < length held → get_or x.progress j 0 ≤ span (get_or held j no_task)
    pub choices : List ℕ
    pub many : length choices ≡ h - slot
    pub marked : take (h - slot) (drop slot table) ≡ marks held x choices
    pub live : T (live_from held x choices)
    pub rest : all ≡ take slot table ++ spelled held x (take (h - slot) (drop slot table))
    pub kept : drop h table ≡ drop h given

  start_is : take rows.count (replicate 8 0) ≡ (start held).progress
  unfolding start
  start_is = take-replicate rows.count 8 0 rows.few ∙ ap (λ k. replicate k 0) (sym (rows-length rows))

  pub spelling-start : h ≤ length given → Listed held h given → Spelling 0 given (replicate 8 0)
  unfolding start
  spelling-start f v = record {
    few = omega arith;
    fits = f;
    long = refl;
    eight = refl;
    x = start held;
    now = refl;
    is = start_is;
    within = start_fits held;
    choices = v.choices;
    many = rw sub-zero v.many;
    marked = rw sub-zero v.marked;
    live = v.live;
    rest = rw sub-zero;
    kept = refl;
  }

  pub spelling-modest : (slot : ℕ) (table progress : List ℕ) → Spelling slot table progress → Modest rows.count progress
  unfolding Modest
  spelling-modest slot table progress v j k =
      let a = row_small rows.tasks j in
      let b = rw (row_at rows j k) at (v.within j (rw (rows-length rows) k)) in
      let e = sym (get_or-take rows.count progress j 0 k) ∙ ap (λ ps. get_or ps j 0) v.is in
      omega arith

  -- the choice of the slot is the list's next one, and the progress after it is that of the next position
  module _ (slot : ℕ) (table progress : List ℕ) (v : Spelling slot table progress) (s : slot < h) (k : ℕ)
      (found : k ≡ chosen 0 (get_or table slot 0) held (take rows.count progress)) (after : List ℕ) (eight' : length after ≡ 8)
      (along : take rows.count after ≡ each (restarted (suc slot)) 0 held (raised (get_or table slot 0) (take rows.count progress))) where
    abbrev x : Position
    x = v.x

    long : length x.progress ≡ length held
    long = sym (ap length v.is) ∙ length-take-le rows.count progress (let a = v.eight in let b = rows.few in omega arith) ∙ sym (rows-length rows)

    front : take (h - slot) (drop slot table) ≡ get_or table slot 0 ∷ take (h - suc slot) (drop (suc slot) table)
    front =
        let z : h - slot ≡ suc (h - suc slot) = omega arith in
        rw (z, drop-cons table slot 0 (let a = v.fits in let b = v.long in omega arith))

    turned : (c : ℕ) (cs : List ℕ) → length (c ∷ cs) ≡ h - slot → get_or table slot 0 ≡ mark x.progress (ended held x.progress c)
        → take (h - suc slot) (drop (suc slot) table) ≡ marks held (next held x c) cs → T (live_from held x (c ∷ cs)) → Spelling (slot + 1) (set table slot k) after
    unfolding next live_from spelled
    turned c cs m b t a =
        let ok = T_and (legal held x c) _ a in
        let few8 : length held ≤ 8 = omega (arith, rows-length rows, rows.few) in
        let g : chosen 0 (get_or table slot 0) held x.progress ≡ c = rw b (chosen_is held x.progress c long few8 (legal-allowed held x c ok.0)) in
        let kc : k ≡ c = found ∙ rw v.is g in
        let fits = v.fits in
        let lon = v.long in
        let inside : slot < length table = omega arith in
        record {
          few = omega arith;
          fits = v.fits;
          long = length-set table slot k ∙ v.long;
          eight = eight';
          x = next held x c;
          now = ap suc v.now ∙ sym (add-one slot);
          is = along ∙ rw (v.is, b, raised-ended held x long c) (ap (λ t. each (restarted (suc t)) 0 held (ended held x.progress c)) (sym v.now));
          within = next_fits held x c long v.within;
          choices = cs;
          many = omega arith;
          marked = rw (add-one slot, drop-set-lt (suc slot) table slot k (omega arith)) t;
          live = ok.1;
          rest =
              v.rest
              ∙ rw (front, g, add-one slot, take-suc-set table slot k inside, drop-set-lt (suc slot) table slot k (omega arith), kc)
              (sym (append_snoc (take slot table) c (spelled held (next held x c) (take (h - suc slot) (drop (suc slot) table)))));
          kept = drop-set-lt h table slot k s ∙ v.kept;
        }

    pub spelling-step : Spelling (slot + 1) (set table slot k) after
    unfolding marks
    spelling-step = go v.choices v.many v.marked v.live
      where
        go : (cs : List ℕ) → length cs ≡ h - slot → take (h - slot) (drop slot table) ≡ marks held x cs → T (live_from held x cs) → Spelling (slot + 1) (set table slot k) after
        go [] m e a = let z : ⊥ = omega arith in absurd z
        go (c ∷ cs) m e a =
            let f = sym front ∙ e in
            turned c cs m (cc) (cc) a

  pub spelling-end : (slot : ℕ) (table progress : List ℕ) → Spelling slot table progress → h ≤ slot → table ≡ all ++ drop h given
  unfolding spelled
  spelling-end slot table progress v l =
      let a = v.few in
      let z : slot ≡ h = omega arith in
      let y : h - h ≡ 0 = omega arith in
      sym (rw (v.rest, z, y, append-nil, ← v.kept) (take-append-drop h table))
