-- Laws of a start and a tick as they are called from C, from what `start` and `tick` answer.
use mathlib.Core.Path.{◌≡◌, refl, sym, ap, ◌∙◌}
use mathlib.Core.Bool.{Bool, true, false, not, cond, ◌&&◌}
use mathlib.Core.List.{List, ◌++◌}
use Prim.Native.Nat.{ℕ, zero, suc, ◌+◌, ◌*◌, ◌≤◌, ◌<◌}
use native.Mathlib.Omega.{arith}
use lib.Dec.{leb, eqb}
use lib.ListN.{length, get_or, take, drop}
use borrow.Author.Tests.{eq-eqb, ne_eqb, le-leb, lt-leb, eqb-true}
use lib.Seq.{ext_get_or}
use Rattle.std.specs.Prelude.{None, Result, Ok, Err}
use Rattle.rules.specs.Lists.{tabulate, padded}
use Rattle.rules.specs.Positions.{idle}
use Rattle.rules.specs.Records.{SetRecord, or_else, set_in, record_refusal}
use Rattle.rules.specs.Player as rules
use Rattle.rules.specs.States.{StateRecord, in_use, in_use_form, rest_zero, form, tidied, as_record, is_schedule, entry_fits, start_refusal, started_or, start_reply, ticked, tick_refused, tick_refusal, ticked_or, tick_reply}
use Rattle.rules.proofs.Lists.{tabulate-at, tabulate-length, and_parts}
use Rattle.rules.proofs.Set.Tidy.{set-length, padded-take}
use Rattle.tasks.specs.declared.TaskSet.{TaskSet}
use Rattle.tasks.specs.declared.refusal.Refusal.{Refusal}
use Rattle.tasks.specs.Refusals.{number_of}
use Rattle.tasks.specs.Views.{record_of, set_of}
use Rattle.tasks.proofs.Refusals.{number-some}
use Rattle.player.specs.declared.State.{State}
use Rattle.player.specs.declared.Ticked.{Ticked}
use Rattle.player.specs.Views.{fault_number, faults_of, runner_number, state_of}
use Rattle.player.specs.Answers.{StartAnswer, start_answer, started_of, TickAnswer, tick_answer, ticked_of}
use Rattle.player.specs.Bytes.{set_size, state_size, state_bytes, set_at, state_at, readable}
use Rattle.player.specs.Boundary.{start_call, start_number, start_buffer, tick_call, tick_number, tick_buffer, tick_faults}
use Rattle.player.proofs.Codes.{struct-arrays}

-- ── a start ─────────────────────────────────────────────────────────────────

-- the refusals before 8 don't depend on the buffer
module _ (enough : Bool) where
  start_first : (a : ℕ) (b : Bool) (n : ℕ) → or_else a (cond (not b) 12 0) ≡ suc n → or_else a (cond (not b) 12 (cond (not enough) 8 0)) ≡ suc n
  unfolding or_else
  start_first zero true n e = absurd (omega arith)
  start_first zero false n e = e
  start_first (suc a) b n e = e

  start-last : (a : ℕ) (b : Bool) → or_else a (cond (not b) 12 0) ≡ 0 → or_else a (cond (not b) 12 (cond (not enough) 8 0)) ≡ cond (not enough) 8 0
  unfolding or_else
  start-last zero true e = refl
  start-last zero false e = absurd (omega arith)
  start-last (suc a) b e = absurd (omega arith)

  module _ (r : SetRecord) (table : List ℕ) where
    refused-first : (n : ℕ) → start_refusal r table true ≡ suc n → start_refusal r table enough ≡ suc n
    unfolding start_refusal
    refused-first n e = start_first (record_refusal r) (is_schedule (set_in r) table) n e

    refused-last : start_refusal r table true ≡ 0 → start_refusal r table enough ≡ cond (not enough) 8 0
    unfolding start_refusal
    refused-last e = start-last (record_refusal r) (is_schedule (set_in r) table) e

-- the number of an answer
start-answer : (r : SetRecord) (k : ℕ) → (start_answer (started_or r k)).refusal ≡ k
unfolding started_or start_answer
start-answer r zero = refl
start-answer r (suc k) = refl

-- what a call answers, and leaves in the buffer
module _ (bs table o : List ℕ) where
  pub record Starts (n : ℕ) (out : List ℕ) : Type 0 where
    pub number : n ≡ start_number (start_call bs table o)
    pub buffer : out ≡ start_buffer (start_call bs table o) o

  pub start-length : (length bs ≡ 97 → ⊥) → Starts 5 o
  unfolding start_call start_number start_buffer set_size
  start-length h = record { number = rw (ne_eqb (length bs) 97 h); buffer = rw (ne_eqb (length bs) 97 h) }

  -- the set was read, and the player answered
  module _ (sized : length bs ≡ 97) (s : TaskSet) (es : record_of s ≡ set_at bs) (r : Result State Refusal) (er : started_of r ≡ start_answer (start_reply (record_of s) table true)) where
    number-is : (started_of r).refusal ≡ start_refusal (set_at bs) table true
    unfolding start_reply
    number-is = ap (λ (a : StartAnswer). a.refusal) er ∙ start-answer (record_of s) (start_refusal (record_of s) table true) ∙ ap (λ w. start_refusal w table true) es

    called : (k : ℕ) → start_refusal (set_at bs) table (leb 140 (length o)) ≡ k → start_call bs table o ≡ started_or (set_at bs) k
    unfolding start_call start_reply set_size state_size
    called k e = rw (eq-eqb (length bs) 97 sized, e)

    refused-by : (k : ℕ) → k ≡ start_refusal (set_at bs) table true → (k ≡ 0 → ⊥) → Starts k o
    unfolding start_number start_buffer started_or
    refused-by zero e h = absurd (h refl)
    refused-by (suc k) e h = let c = called (suc k) (refused-first (leb 140 (length o)) (set_at bs) table k (sym e)) in record { number = rw c; buffer = rw c }

    pub start-refused : (q : Refusal) → r ≡ Err q → Starts (number_of q) o
    unfolding started_of
    start-refused q e = refused-by (number_of q) (rw e at number-is) (number-some q)

    module _ (w : State) (ok : r ≡ Ok w) where
      left_over : (e : Bool) → leb 140 (length o) ≡ e → start_refusal (set_at bs) table (leb 140 (length o)) ≡ cond (not e) 8 0
      unfolding started_of
      left_over e q = refused-last (leb 140 (length o)) (set_at bs) table (sym (rw ok at number-is)) ∙ ap (λ e. cond (not e) 8 0) q

      fresh : state_of w ≡ as_record (tidied (set_at bs)) (rules.fresh (set_in (set_at bs)))
      unfolding started_of start_reply started_or start_answer
      fresh = ap (λ (a : StartAnswer). a.state) (rw ok at er) ∙ rw (es, sym (rw ok at number-is)) refl

      pub start-short : length o < 140 → Starts 8 o
      unfolding start_number start_buffer started_or
      start-short h = let c = called 8 (left_over false (lt-leb 140 (length o) h)) in record { number = rw c; buffer = rw c }

      pub start-done : (out : List ℕ) → 140 ≤ length o → out ≡ state_bytes (state_of w) ++ drop 140 o → Starts 0 out
      unfolding start_number start_buffer started_or state_size
      start-done out h e = let c = called 0 (left_over true (le-leb 140 (length o) h)) in record { number = rw c; buffer = rw c (e ∙ ap (λ w. state_bytes w ++ drop 140 o) fresh) }

-- ── a tick ──────────────────────────────────────────────────────────────────

-- the refusals of a tick, with n behind them
abbrev tests : Bool → Bool → Bool → ℕ → ℕ
tests a b c n = cond (not a) 10 (cond (not b) 11 (cond (not c) 12 n))

module _ (enough : Bool) where
  tick-first : (a b c : Bool) (n : ℕ) → tests a b c 0 ≡ suc n → tests a b c (cond (not enough) 8 0) ≡ suc n
  tick-first true true true n e = absurd (omega arith)
  tick-first true true false n e = e
  tick-first true false c n e = e
  tick-first false b c n e = e

  tick-last : (a b c : Bool) → tests a b c 0 ≡ 0 → (a ≡ true) × (tests a b c (cond (not enough) 8 0) ≡ cond (not enough) 8 0)
  tick-last true true true e = (refl, refl)
  tick-last true true false e = absurd (omega arith)
  tick-last true false c e = absurd (omega arith)
  tick-last false b c e = absurd (omega arith)

  module _ (w : StateRecord) (table reports : List ℕ) where
    pub ticked-first : (n : ℕ) → tick_refusal w table reports true ≡ suc n → tick_refusal w table reports enough ≡ suc n
    unfolding tick_refusal
    ticked-first n e = tick-first (form w) (eqb (length reports) w.set.count) (entry_fits (set_in w.set) (in_use w) table) n e

    pub ticked-last : tick_refusal w table reports true ≡ 0 → (form w ≡ true) × (tick_refusal w table reports enough ≡ cond (not enough) 8 0)
    unfolding tick_refusal
    ticked-last e = tick-last (form w) (eqb (length reports) w.set.count) (entry_fits (set_in w.set) (in_use w) table) e

-- the number of an answer
tick-answer : (w : StateRecord) (table reports : List ℕ) (k : ℕ) → (tick_answer w (ticked_or w table reports k)).refusal ≡ k
unfolding ticked_or tick_answer
tick-answer w table reports zero = refl
tick-answer w table reports (suc k) = refl

-- an accepted tick has an admissible set
set-admitted : (w : StateRecord) (table reports : List ℕ) → tick_refusal w table reports true ≡ 0 → record_refusal w.set ≡ 0
unfolding form
set-admitted w table reports e = eqb-true (record_refusal w.set) 0 (and_parts (eqb (record_refusal w.set) 0) (in_use_form (set_in w.set) (in_use w) && rest_zero w) (ticked-last true w table reports e).0).0

-- what a call answers, and leaves in the two buffers
module _ (bs table reports o f : List ℕ) where
  pub record Ticks (n : ℕ) (out shown : List ℕ) : Type 0 where
    pub number : n ≡ tick_number (tick_call bs table reports o f)
    pub buffer : out ≡ tick_buffer (tick_call bs table reports o f) o
    pub shows : shown ≡ tick_faults (tick_call bs table reports o f) f

  refuses : (k : ℕ) → tick_call bs table reports o f ≡ tick_refused k → Ticks (256 * k + idle) o f
  unfolding tick_number tick_buffer tick_faults
  refuses k e = record { number = rw e; buffer = rw e; shows = rw e }

  pub tick-unread : (readable bs ≡ true → ⊥) → Ticks (256 * 10 + idle) o f
  unfolding tick_call
  tick-unread h = refuses 10 (go (readable bs) refl)
    where
      go : (b : Bool) → readable bs ≡ b → cond b (tick_reply (state_at bs) table reports (leb state_size (length o) && leb (state_at bs).set.count (length f))) (tick_refused 10) ≡ tick_refused 10
      go true e = absurd (h e)
      go false e = refl

  -- the state was read, and the player answered
  module _ (read : readable bs ≡ true) (st : State) (es : state_of st ≡ state_at bs) (r : Result Ticked Refusal)
      (er : ticked_of (state_of st) r ≡ tick_answer (state_of st) (tick_reply (state_of st) table reports true)) where
    abbrev enough : Bool
    enough = leb 140 (length o) && leb (state_of st).set.count (length f)

    number_is : (ticked_of (state_of st) r).refusal ≡ tick_refusal (state_of st) table reports true
    unfolding tick_reply
    number_is = ap (λ (a : TickAnswer). a.refusal) er ∙ tick-answer (state_of st) table reports (tick_refusal (state_of st) table reports true)

    called-as : (k : ℕ) → tick_refusal (state_of st) table reports enough ≡ k → tick_call bs table reports o f ≡ ticked_or (state_of st) table reports k
    unfolding tick_call tick_reply state_size
    called-as k e = rw (read, ← es, e)

    refused_by : (k : ℕ) → k ≡ tick_refusal (state_of st) table reports true → (k ≡ 0 → ⊥) → Ticks (256 * k + idle) o f
    unfolding ticked_or
    refused_by zero e h = absurd (h refl)
    refused_by (suc k) e h = refuses (suc k) (called-as (suc k) (ticked-first enough (state_of st) table reports k (sym e)))

    pub tick-refused : (q : Refusal) → r ≡ Err q → Ticks (256 * number_of q + idle) o f
    unfolding ticked_of
    tick-refused q e = refused_by (number_of q) (rw e at number_is) (number-some q)

    -- n tasks
    module _ (t : Ticked) (ok : r ≡ Ok t) (n : ℕ) (en : n ≡ length (set_of st.set)) where
      none : tick_refusal (state_of st) table reports true ≡ 0
      unfolding ticked_of
      none = sym (rw ok at number_is)

      counted : n ≡ (state_of st).set.count
      unfolding set_of state_of
      counted = en ∙ set-length (state_of st).set (struct-arrays st).in_set (set-admitted (state_of st) table reports none)

      left-over : (e : Bool) → enough ≡ e → tick_refusal (state_of st) table reports enough ≡ cond (not e) 8 0
      left-over e q = (ticked-last enough (state_of st) table reports none).1 ∙ ap (λ e. cond (not e) 8 0) q

      pub tick-short : length o < 140 → Ticks (256 * 8 + idle) o f
      unfolding ticked_or
      tick-short h = refuses 8 (called-as 8 (left-over false (rw (lt-leb 140 (length o) h))))

      pub tick-narrow : 140 ≤ length o → length f < n → Ticks (256 * 8 + idle) o f
      unfolding ticked_or
      tick-narrow w h = let e = counted in refuses 8 (called-as 8 (left-over false (rw (le-leb 140 (length o) w, lt-leb (state_of st).set.count (length f) (omega arith)))))

      abbrev after : rules.Ticked
      after = rules.tick (set_in (state_of st).set) table (in_use (state_of st)) reports

      answer-is : ticked_of (state_of st) (Ok t) ≡ tick_answer (state_of st) (ticked after.runner after.faults (as_record (state_of st).set after.state))
      unfolding tick_reply ticked_or
      answer-is = rw ok at er ∙ rw none

      -- a fault byte for each task
      faults-many : length after.faults ≡ n
      unfolding rules.tick set_of state_of
      faults-many = tabulate-length (λ i. (rules.turn_of (set_in (state_of st).set) table (in_use (state_of st)) reports i).fault) 0 (length (set_in (state_of st).set)) ∙ sym en

      module _ (bytes : List ℕ) (long : length bytes ≡ 8) (each : (k : ℕ) → k < 8 → get_or bytes k 0 ≡ fault_number (get_or t.faults k None)) where
        bytes-are : bytes ≡ padded 8 0 after.faults
        unfolding ticked_of tick_answer faults_of
        bytes-are =
            let l = tabulate-length (λ i. fault_number (get_or t.faults i None)) 0 8 in
            ext_get_or 0 bytes (tabulate (λ i. fault_number (get_or t.faults i None)) 0 8) (omega arith)
            (λ k h. each k (omega arith) ∙ sym (tabulate-at (λ i. fault_number (get_or t.faults i None)) 0 8 k 0 (omega arith) ∙ ap (λ i. fault_number (get_or t.faults i None)) (omega arith)))
            ∙ ap (λ (a : TickAnswer). a.faults) answer-is

        shown-are : take n bytes ≡ after.faults
        shown-are = ap (take n) bytes-are ∙ padded-take 8 0 after.faults n faults-many

        pub tick-done : (out shown : List ℕ) → 140 ≤ length o → n ≤ length f → out ≡ state_bytes (state_of t.state) ++ drop 140 o → shown ≡ take n bytes ++ drop n f
            → Ticks (runner_number t.runner) out shown
        unfolding tick_number tick_buffer tick_faults ticked_or state_size ticked_of tick_answer
        tick-done out shown w h eo ef =
            let e = counted in
            let c = called-as 0 (left-over true (rw (le-leb 140 (length o) w, le-leb (state_of st).set.count (length f) (omega arith)))) in
            record {
              number = rw c (ap (λ (a : TickAnswer). a.runner) answer-is);
              buffer = rw c (eo ∙ ap (λ w. state_bytes w ++ drop 140 o) (ap (λ (a : TickAnswer). a.state) answer-is));
              shows = rw c (ef ∙ rw (shown-are, sym faults-many) refl);
            }
