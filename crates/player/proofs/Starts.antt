-- Laws of a start: the set tidied, the fresh state, and a table followed from the start.
use mathlib.Core.Path.{◌≡◌, refl, sym, ap, ◌∙◌}
use mathlib.Core.Bool.{Bool, true, false, ◌&&◌}
use mathlib.Core.List.{List, ◌++◌, map}
use Prim.Native.Nat.{ℕ, zero, suc, ◌+◌, ◌-◌, ◌≤◌, ◌<◌}
use native.Mathlib.Numerals.{add-one}
use native.Mathlib.Omega.{arith}
use lib.Dec.{T}
use lib.ListN.{length, get_or, take, drop, set, replicate, length-append, length-map, length-replicate, get_or-replicate, drop_of_length-le}
use lib.Seq.{drop-cons, length-take-le, get_or-take, ext_get_or}
use borrow.Author.Tests.{eq-eqb, ne_eqb}
use Rattle.std.proofs.lemmas.List.{drop-replicate, map-append, get_or-map}
use Rattle.std.specs.Prelude.{None, Ok, Err}
use Rattle.rules.specs.Lists.{tabulate, padded}
use Rattle.rules.specs.Positions.{idle, each, passed, ended, restarted, next, live_position, legal, start}
use Rattle.rules.specs.Hyper.{hyper}
use Rattle.rules.specs.Choices.{live_from}
use Rattle.rules.specs.Records.{TaskRecord, task_in, no_record, or_else, used, record_refusal}
use Rattle.rules.specs.Jobs.{finished}
use Rattle.rules.specs.Player.{fresh}
use Rattle.rules.specs.States.{blank_job, blank_task, tidy_task, tidied, as_record, is_schedule, start_refusal, started_or, start_reply}
use Rattle.rules.proofs.Laws.{T_true, true-T, each-length}
use Rattle.tasks.specs.declared.Task.{Task}
use Rattle.tasks.specs.declared.TaskSet.{TaskSet}
use Rattle.tasks.specs.declared.refusal.Refusal.{Refusal}
use Rattle.tasks.specs.declared.refusal.Refusal.TheVariants.{BadTable}
use Rattle.tasks.specs.Refusals.{number_of}
use Rattle.tasks.specs.Views.{no_entry, entry_of, record_of, task_of, set_of, progress_of, position_of, array_of}
use Rattle.tasks.proofs.OneTask.{pattern-short}
use Rattle.tasks.proofs.Positions.{set-fits, progress-length, progress-array}
use Rattle.tasks.proofs.Refusals.{number-some}
use Rattle.player.specs.declared.Job.{Job}
use Rattle.player.specs.declared.State.{State}
use Rattle.player.specs.Answers.{StartAnswer, start_answer, started_of}
use Rattle.player.specs.Views.{job_of, no_job, eight, jobs_of, state_of}
use Rattle.player.proofs.Arrays.{Made, made-start, made-step, made-end, padded-length, padded-same}
use Rattle.player.proofs.Views.{listed, jobs-map, map-replicate}

-- ── the set tidied ──────────────────────────────────────────────────────────

-- a list written over the first of m copies
written-over : {A : Type 0} (m : ℕ) (x : A) (xs : List A) → xs ++ drop (length xs) (replicate m x) ≡ padded m x xs
unfolding padded
written-over m x xs = ap (λ l. xs ++ l) (drop-replicate (length xs) m x)

pub tidy-units : (t : Task) (xs : List ℕ) → xs ≡ (task_of t).pattern
    → entry_of (record { period = t.period; deadline = t.deadline; steps = t.steps; pattern = xs ++ drop (length xs) (replicate 7 0) }) ≡ tidy_task (entry_of t)
unfolding entry_of tidy_task task_of task_in
tidy-units t xs e =
    let s = pattern-short t in
    ap (λ us. record { period = t.period; deadline = t.deadline; steps = t.steps; units = us })
    (ap (λ l. tabulate (λ i. get_or l i 0) 0 7) (written-over 7 0 xs ∙ ap (padded 7 0) e) ∙ listed (padded 7 0 (task_of t).pattern) 7 (padded-length 0 7 (task_of t).pattern s))

module _ (ts : List Task) where
  abbrev tidy : List TaskRecord
  tidy = map tidy_task (map entry_of ts)

  tidy-length : length tidy ≡ length ts
  tidy-length = length-map (map entry_of ts) tidy_task ∙ length-map ts entry_of

  tidy-at : (i : ℕ) (d : Task) → i < length ts → get_or tidy i blank_task ≡ tidy_task (entry_of (get_or ts i d))
  tidy-at i d h = let l = length-map ts entry_of in get_or-map tidy_task (map entry_of ts) i no_record blank_task (omega arith) ∙ ap tidy_task (get_or-map entry_of ts i d no_record h)

  -- the entries before place i are tidy, and blank ones follow
  pub record Tidied (i : ℕ) (out : List Task) : Type 0 where
    pub made : Made 8 entry_of no_entry blank_task tidy i out

  pub tidied-start : (t : Task) → entry_of t ≡ blank_task → Tidied 0 (replicate 8 t)
  tidied-start t e = record { made = made-start 8 entry_of no_entry blank_task tidy t e }

  pub tidied-step : (i : ℕ) (out : List Task) (t d : Task) → Tidied i out → i < length ts → length ts ≤ 8 → entry_of t ≡ tidy_task (entry_of (get_or ts i d)) → Tidied (i + 1) (set out i t)
  tidied-step i out t d m h k e = record { made = made-step 8 entry_of no_entry blank_task tidy i out t m.made (omega arith) (e ∙ sym (tidy-at i d h)) }

  pub tidied-end : (s : TaskSet) (i : ℕ) (out : List Task) → map entry_of ts ≡ used (record_of s) → Tidied i out → length ts ≤ i → length ts ≤ 8 → record_of (record { count = s.count; tasks = out }) ≡ tidied (record_of s)
  unfolding record_of tidied
  tidied-end s i out e m h k =
      let l = tidy-length in
      ap (λ es. record { count = s.count; entries = es }) (made-end 8 entry_of no_entry blank_task tidy i out m.made (omega arith) (omega arith) ∙ ap (λ es. padded 8 blank_task (map tidy_task es)) e)

-- ── the fresh state ─────────────────────────────────────────────────────────

-- n jobs written over the first of eight
pub fresh-jobs : (j d : Job) (n : ℕ) (fs : List Job) → n ≤ 8 → length fs ≡ n → ((k : ℕ) → k < n → get_or fs k no_job ≡ d) → job_of j ≡ blank_job → job_of d ≡ finished
    → jobs_of (fs ++ drop n (replicate 8 j)) ≡ padded 8 blank_job (replicate n finished)
unfolding padded
fresh-jobs j d n fs few long all ej ed =
    let l = length-replicate n d in
    let r : fs ≡ replicate n d = ext_get_or no_job fs (replicate n d) (omega arith) (λ k h. all k (omega arith) ∙ sym (get_or-replicate n k d no_job (omega arith))) in
    let e : 8 - n ≡ 8 - length (replicate n finished) = ap (λ m. 8 - m) (sym (length-replicate n finished)) in
    let t = length-append (replicate n d) (replicate (8 - n) j) in
    let m = length-replicate (8 - n) j in
    rw (r, drop-replicate n 8 j) (jobs-map (replicate n d ++ replicate (8 - n) j) (omega arith) ∙ map-append job_of (replicate n d) (replicate (8 - n) j) ∙ rw (map-replicate job_of n d, map-replicate job_of (8 - n) j, ej, ed, e) refl)

pub fresh-is : (s t : TaskSet) (js : List Job) (n : ℕ) → record_of t ≡ tidied (record_of s) → n ≡ length (set_of s) → jobs_of js ≡ padded 8 blank_job (replicate n finished)
    → state_of (record { set = t; slot = 0; planned = replicate 8 0; jobs = js; last = None }) ≡ as_record (tidied (record_of s)) (fresh (set_of s))
unfolding state_of as_record fresh eight tabulate idle
fresh-is s t js n e q f = rw (e, f, q, padded-same {A = ℕ} 0 8 (length (set_of s)) (set-fits s).1)

-- ── the table followed ──────────────────────────────────────────────────────

-- the first n of m zeros
zeros : (m n : ℕ) → n ≤ m → take n (replicate {A = ℕ} m 0) ≡ replicate n 0
zeros m n h =
    let k = length-replicate {A = ℕ} m 0 in
    let l = length-take-le n (replicate {A = ℕ} m 0) (omega arith) in
    let r = length-replicate {A = ℕ} n 0 in
    ext_get_or 0 (take n (replicate m 0)) (replicate n 0) (omega arith) (λ i j. get_or-take n (replicate m 0) i 0 (omega arith) ∙ get_or-replicate m i 0 0 (omega arith) ∙ sym (get_or-replicate n i 0 0 (omega arith)))

pub starts-there : (s : TaskSet) → position_of s 0 (replicate 8 0) ≡ start (set_of s)
unfolding position_of progress_of start
starts-there s = ap (λ p. record { slot = 0; progress = p }) (zeros 8 (length (set_of s)) (set-fits s).1)

module _ (s : TaskSet) (t : ℕ) (p : List ℕ) (c : ℕ) (e : length p ≡ 8) where
  next-length : length (next (set_of s) (position_of s t p) c).progress ≡ length (set_of s)
  unfolding next ended position_of
  next-length = each-length (restarted (suc t)) 0 (set_of s) (each (passed c) 0 (set_of s) (progress_of s p)) (each-length (passed c) 0 (set_of s) (progress_of s p) (progress-length s p e))

  pub onward-length : (q : List ℕ) → q ≡ array_of (next (set_of s) (position_of s t p) c).progress → length q ≡ 8
  unfolding array_of
  onward-length q f = let l = next-length in let k = set-fits s in ap length f ∙ padded-length 0 8 (next (set_of s) (position_of s t p) c).progress (omega arith)

  there : (q : List ℕ) → progress_of s q ≡ (next (set_of s) (position_of s t p) c).progress → position_of s (suc t) q ≡ next (set_of s) (position_of s t p) c
  unfolding position_of next
  there q g = ap (λ p. record { slot = suc t; progress = p }) g

  pub onward-is : (q : List ℕ) → q ≡ array_of (next (set_of s) (position_of s t p) c).progress → position_of s (t + 1) q ≡ next (set_of s) (position_of s t p) c
  onward-is q f = rw (f, add-one) (there (array_of (next (set_of s) (position_of s t p) c).progress) (progress-array s (next (set_of s) (position_of s t p) c).progress next-length))

module _ (s : TaskSet) (table : List ℕ) where
  -- the table from slot i on tells of all
  pub record Followed (slot i : ℕ) (p : List ℕ) : Type 0 where
    pub begun : T (live_position (set_of s) (start (set_of s)))
    pub same : slot ≡ i
    pub long : length p ≡ 8
    pub rest : live_from (set_of s) (start (set_of s)) table ≡ live_from (set_of s) (position_of s slot p) (drop i table)

  abbrev pub whole : Bool
  whole = live_position (set_of s) (start (set_of s)) && live_from (set_of s) (start (set_of s)) table

  pub no_start : (b : Bool) → b ≡ live_position (set_of s) (position_of s 0 (replicate 8 0)) → b ≡ false → false ≡ whole
  no_start b e h = rw (← starts-there s, ← e, h)

  pub followed-start : (b : Bool) → b ≡ live_position (set_of s) (position_of s 0 (replicate 8 0)) → b ≡ true → Followed 0 0 (replicate 8 0)
  followed-start b e h = record { begun = true-T (live_position (set_of s) (start (set_of s))) (rw (← starts-there s, ← e) h); same = refl; long = refl; rest = rw (starts-there s) }

  module _ (slot i : ℕ) (p : List ℕ) (b : Bool) (f : Followed slot i p) (l : i < length table) (e : b ≡ legal (set_of s) (position_of s slot p) (get_or table i 0)) where
    opened : live_from (set_of s) (position_of s slot p) (drop i table) ≡ legal (set_of s) (position_of s slot p) (get_or table i 0) && live_from (set_of s) (next (set_of s) (position_of s slot p) (get_or table i 0)) (drop (i + 1) table)
    unfolding live_from
    opened = rw (add-one, drop-cons table i 0 l)

    pub followed-fail : b ≡ false → false ≡ whole
    followed-fail h = rw (T_true (live_position (set_of s) (start (set_of s))) f.begun) (sym (f.rest ∙ opened ∙ rw (← e, h) refl))

    pub followed-step : (q : List ℕ) → b ≡ true → q ≡ array_of (next (set_of s) (position_of s slot p) (get_or table i 0)).progress → Followed (slot + 1) (i + 1) q
    followed-step q h g = let d = f.same in record {
      begun = f.begun;
      same = omega arith;
      long = onward-length s slot p (get_or table i 0) f.long q g;
      rest = f.rest ∙ opened ∙ rw (← e, h, onward-is s slot p (get_or table i 0) f.long q g) refl;
    }

  pub followed-end : (slot i : ℕ) (p : List ℕ) → Followed slot i p → length table ≤ i → true ≡ whole
  unfolding live_from
  followed-end slot i p f l = rw (T_true (live_position (set_of s) (start (set_of s))) f.begun) (sym (f.rest ∙ rw (drop_of_length-le table l) refl))

pub ruleset follow_laws = (no_start, followed-start, followed-fail, followed-step, followed-end)

-- ── the reply ───────────────────────────────────────────────────────────────

module _ (s : TaskSet) (table : List ℕ) where
  abbrev asked : StartAnswer
  asked = start_answer (start_reply (record_of s) table true)

  refused : (r : Refusal) (n : ℕ) → number_of r ≡ n → start_refusal (record_of s) table true ≡ n → (n ≡ 0 → ⊥) → started_of (Err r) ≡ asked
  unfolding started_of start_answer start_reply started_or
  refused r zero k e z = absurd (z refl)
  refused r (suc n) k e z = rw (e, k)

  pub refused-set : (r : Refusal) → record_refusal (record_of s) ≡ number_of r → started_of (Err r) ≡ asked
  unfolding start_refusal or_else
  refused-set r e = refused r (number_of r) refl (first (number_of r) e (number-some r)) (number-some r)
    where
      first : (m : ℕ) → record_refusal (record_of s) ≡ m → (m ≡ 0 → ⊥) → start_refusal (record_of s) table true ≡ m
      first zero e z = absurd (z refl)
      first (suc m) e z = rw e

  module _ (fine : record_refusal (record_of s) ≡ 0) (h : ℕ) (eh : h ≡ hyper (set_of s)) where
    unlisted : is_schedule (set_of s) table ≡ false → started_of (Err BadTable) ≡ asked
    unfolding start_refusal set_of or_else
    unlisted e = refused BadTable 12 refl (rw (fine, e)) (λ z. omega arith)

    pub refused-length : (length table ≡ h → ⊥) → started_of (Err BadTable) ≡ asked
    unfolding is_schedule
    refused-length e = unlisted (rw (ne_eqb (length table) (hyper (set_of s)) (λ q. e (q ∙ sym eh))))

    pub refused-table : length table ≡ h → (b : Bool) → b ≡ whole s table → b ≡ false → started_of (Err BadTable) ≡ asked
    unfolding is_schedule
    refused-table e b g q = unlisted (rw (eq-eqb (length table) (hyper (set_of s)) (e ∙ eh), ← g) q)

    pub accepted : length table ≡ h → (b : Bool) → b ≡ whole s table → b ≡ true → (w : State) → state_of w ≡ as_record (tidied (record_of s)) (fresh (set_of s)) → started_of (Ok w) ≡ asked
    unfolding start_reply started_or start_answer started_of start_refusal is_schedule set_of or_else
    accepted e b g q w x = rw (fine, eq-eqb (length table) (hyper (set_of s)) (e ∙ eh), sym g ∙ q, x)
