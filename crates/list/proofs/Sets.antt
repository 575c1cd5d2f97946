-- The set under construction, after the tasks rs: its record is what the reader accepts after rs.
use mathlib.Core.Bool.{Bool, true, false}
use mathlib.Core.List.{List, [], ◌∷◌, ◌++◌}
use mathlib.Core.Logic.{◌⊎◌, inl, inr}
use mathlib.Core.Path.{◌≡◌, refl, sym, ap, ◌∙◌}
use Prim.Native.Nat.{ℕ, ◌+◌, ◌≤◌, ◌<◌}
use native.Mathlib.Omega.{arith}
use Rattle.std.specs.Prelude.{Ok, is_none}
use Rattle.std.specs.Array.{AllOfLen}
use borrow.Author.Tests.{eqb-true, eqb-false, eq-eqb, ne_eqb, lt-ltb, le-ltb, le-leb, lt-leb}
use lib.Dec.{ltb, eqb}
use lib.ListN.{length, get_or, set, length-append, length-set}
use lib.Seq.{ext_get_or, get_or-set_same, get_or-set_other}
use Rattle.rules.specs.Lists.{is_zero, padded, tabulate}
use Rattle.rules.specs.Hyper.{hyper}
use Rattle.rules.specs.Records.{TaskRecord, SetRecord, tasks_in, used, set_in}
use Rattle.rules.specs.States.{blank_task, blank_set}
use Rattle.rules.proofs.Laws.{le-or-lt}
use Rattle.rules.proofs.Set.Tidy.{padded-take}
use Rattle.tasks.specs.declared.Task.{Task}
use Rattle.tasks.specs.declared.TaskSet.{TaskSet}
use Rattle.tasks.specs.Views.{no_entry, entry_of, record_of, set_of, within}
use Rattle.tasks.proofs.Multiple.{within-few, within-many}
use Rattle.tasks.proofs.Views.{entries-length, entry_at}
use Rattle.list.specs.Reading.{skipped, line_task, line_refusal, refused_whole, accepted, finish, reply_of}
use Rattle.list.specs.Inner.{refusal_after, tasks_after}
use Rattle.list.proofs.Pattern.{padded-more}

-- ── no task ─────────────────────────────────────────────────────────────────

-- what `Task::default()` gives
abbrev Blank : Task → Type 0
Blank t = (t.period ≡ 0) × ((t.deadline ≡ 0) × ((t.steps ≡ 0) × AllOfLen (λ b. b ≡ 0) t.pattern 7))

entry-blank : (t : Task) → Blank t → entry_of t ≡ blank_task
unfolding entry_of blank_task tabulate
entry-blank t h =
    let p = h.1.1.1.at in
    rw (h.0, h.1.0, h.1.1.0, p 0 0 (omega arith), p 1 0 (omega arith), p 2 0 (omega arith), p 3 0 (omega arith), p 4 0 (omega arith), p 5 0 (omega arith), p 6 0 (omega arith))

pub record_blank : (s : TaskSet) → (s.count ≡ 0) × AllOfLen Blank s.tasks 8 → record_of s ≡ blank_set
unfolding record_of blank_set tabulate
record_blank s h =
    let e = λ (i : ℕ) (k : i < 8). entry-blank (get_or s.tasks i no_entry) (h.1.at i no_entry k) in
    rw (h.0, e 0 (omega arith), e 1 (omega arith), e 2 (omega arith), e 3 (omega arith), e 4 (omega arith), e 5 (omega arith), e 6 (omega arith), e 7 (omega arith))

-- ── a task stored ───────────────────────────────────────────────────────────

-- the set with a task stored behind those in use
abbrev pub stored : TaskSet → Task → TaskSet
stored s t = record { count = s.count + 1; tasks = set s.tasks s.count t }

count-stored : (s : TaskSet) (t : Task) → (record_of (stored s t)).count ≡ s.count + 1
unfolding record_of
count-stored s t = refl

same-record : (r : SetRecord) (n : ℕ) (ts : List TaskRecord) → r.count ≡ n → r.entries ≡ ts → r ≡ record { count = n; entries = ts }
same-record r n ts p q = rw (← p, ← q)

stored-entries : (s : TaskSet) (t : Task) → length s.tasks ≡ 8 → s.count < 8 → (record_of (stored s t)).entries ≡ set (record_of s).entries s.count (entry_of t)
stored-entries s t m h =
    ext_get_or blank_task (record_of (stored s t)).entries (set (record_of s).entries s.count (entry_of t))
    (entries-length (stored s t) ∙ sym (length-set (record_of s).entries s.count (entry_of t) ∙ entries-length s))
    (λ i k. go i (let z = entries-length (stored s t) in omega arith) (eqb i s.count) refl)
  where
    go : (i : ℕ) → i < 8 → (b : Bool) → eqb i s.count ≡ b → get_or (record_of (stored s t)).entries i blank_task ≡ get_or (set (record_of s).entries s.count (entry_of t)) i blank_task
    go i k true q =
        let d : i ≡ s.count = eqb-true i s.count q in
        entry_at (stored s t) i blank_task k ∙ rw d (ap entry_of (get_or-set_same s.tasks s.count t no_entry (omega arith)) ∙ sym (get_or-set_same (record_of s).entries s.count (entry_of t) blank_task (omega (arith, entries-length s))))
    go i k false q =
        entry_at (stored s t) i blank_task k ∙ ap entry_of (get_or-set_other s.tasks s.count i t no_entry (eqb-false i s.count q))
        ∙ sym (get_or-set_other (record_of s).entries s.count i (entry_of t) blank_task (eqb-false i s.count q) ∙ entry_at s i blank_task k)

over : (h : ℕ) → ltb 4096 h ≡ is_none (within h)
over h = go (le-or-lt h 4096)
  where
    go : (h ≤ 4096) ⊎ (4096 < h) → ltb 4096 h ≡ is_none (within h)
    go (inl k) = rw (le-ltb 4096 h k, within-few h k)
    go (inr k) = rw (lt-ltb 4096 h k, within-many h k)

-- ── after rs ────────────────────────────────────────────────────────────────

module _ (s : TaskSet) (rs : List TaskRecord) (e : record_of s ≡ (accepted rs).set) where
  pub set_count : s.count ≡ length rs
  unfolding record_of accepted
  set_count = ap (λ (r : SetRecord). r.count) e

  count_of : (record_of s).count ≡ s.count
  unfolding record_of
  count_of = refl

  set-entries : (record_of s).entries ≡ padded 8 blank_task rs
  unfolding accepted
  set-entries = ap (λ (r : SetRecord). r.entries) e

  -- the tasks in use are those read
  set-tasks : set_of s ≡ tasks_in rs
  unfolding set_of set_in used
  set-tasks = ap tasks_in (rw set-entries (padded-take 8 blank_task rs (record_of s).count (sym (count_of ∙ set_count))))

  -- ── one task more ─────────────────────────────────────────────────────────

  pub set_more : (t : Task) (i : ℕ) → i ≡ s.count → length s.tasks ≡ 8 → s.count < 8
      → record_of (record { count = s.count + 1; tasks = set s.tasks i t }) ≡ (accepted (rs ++ entry_of t ∷ [])).set
  unfolding accepted
  set_more t i k m h =
      let l : length (rs ++ entry_of t ∷ []) ≡ s.count + 1 = length-append rs (entry_of t ∷ []) ∙ omega (arith, set_count) in
      rw k (same-record (record_of (stored s t)) (length (rs ++ entry_of t ∷ [])) (padded 8 blank_task (rs ++ entry_of t ∷ [])) (count-stored s t ∙ sym l)
      (stored-entries s t m h ∙ rw set-entries (padded-more 8 blank_task (entry_of t) rs s.count (sym set_count) h)))

  -- ── the end ───────────────────────────────────────────────────────────────

  pub end_none : s.count ≡ 0 → finish rs ≡ refused_whole 5
  unfolding finish is_zero
  end_none h = rw (eq-eqb (length rs) 0 (sym set_count ∙ h))

  module _ (n : s.count ≡ 0 → ⊥) where
    tested : ltb 4096 (hyper (tasks_in rs)) ≡ is_none (within (hyper (set_of s)))
    tested = rw (← set-tasks) (over (hyper (set_of s)))

    pub end_over : is_none (within (hyper (set_of s))) ≡ true → finish rs ≡ refused_whole 6
    unfolding finish is_zero
    end_over h = rw (ne_eqb (length rs) 0 (λ z. n (set_count ∙ z)), tested, h)

    pub end_good : is_none (within (hyper (set_of s))) ≡ false → finish rs ≡ reply_of (Ok s)
    unfolding finish is_zero reply_of accepted
    end_good h = rw (ne_eqb (length rs) 0 (λ z. n (set_count ∙ z)), tested, h, e)

-- ── a line after rs ─────────────────────────────────────────────────────────

module _ (rs : List TaskRecord) (l : List ℕ) where
  pub line_skipped : skipped l ≡ true → refusal_after rs l ≡ 0
  unfolding refusal_after
  line_skipped h = rw h

  pub tasks_kept : skipped l ≡ true → tasks_after rs l ≡ rs
  unfolding tasks_after
  tasks_kept h = rw h

  module _ (h : skipped l ≡ false) where
    pub line_ninth : 8 ≤ length rs → refusal_after rs l ≡ 5
    unfolding refusal_after line_refusal
    line_ninth k = rw (h, le-leb 8 (length rs) k)

    pub line_judged : length rs < 8 → refusal_after rs l ≡ line_refusal 0 l
    unfolding refusal_after line_refusal
    line_judged k = rw (h, lt-leb 8 (length rs) k)

    pub tasks_more : tasks_after rs l ≡ rs ++ line_task l ∷ []
    unfolding tasks_after
    tasks_more = rw h

pub ruleset end_laws = (end_none, end_over, end_good)

pub ruleset set_laws = (set_count, line_skipped, tasks_kept, line_ninth, line_judged, tasks_more)
