-- The reading of a list in the code's terms: what one line does to it, and that the part shown is the refused line.
use mathlib.Core.Bool.{Bool, true, false}
use mathlib.Core.List.{List, [], ◌∷◌}
use mathlib.Core.Logic.{◌⊎◌, inl, inr}
use mathlib.Core.Path.{◌≡◌, refl, sym, ap, ◌∙◌}
use Prim.Native.Nat.{ℕ, zero, suc, ◌+◌, ◌-◌, ◌≤◌, ◌<◌}
use native.Mathlib.Numerals.{add-one}
use native.Mathlib.Omega.{arith}
use Rattle.std.specs.Prelude.{Result, Ok, Err, IfErr}
use Rattle.std.specs.Result.{IsErrAnd}
use borrow.Author.Tests.{lt-ltb, le-ltb}
use lib.ListN.{length, drop, length-drop, drop_of_length-le}
use lib.Seq.{drop-drop}
use Rattle.rules.specs.Lists.{padded}
use Rattle.rules.specs.Records.{TaskRecord}
use Rattle.rules.specs.States.{blank_set}
use Rattle.rules.proofs.Laws.{le-or-lt}
use Rattle.rules.proofs.Lists.{clash}
use Rattle.tasks.specs.declared.TaskSet.{TaskSet}
use Rattle.tasks.specs.declared.refusal.Refusal.{Refusal}
use Rattle.tasks.specs.Refusals.{number_of}
use Rattle.tasks.specs.Views.{record_of}
use Rattle.tasks.proofs.Refusals.{number-some}
use Rattle.list.specs.declared.Refused.{Refused}
use Rattle.list.specs.Text.{lines}
use Rattle.list.specs.Reading.{skipped, line_refusal, ReadReply, refused_whole, refused_line, accepted, finish, go_on, read_from, read_list, shown, reply_of}
use Rattle.list.proofs.Sets.{record_blank}
use Rattle.list.specs.Inner.{IsFirstLine, BlamesNoLine, refusal_after, tasks_after}

-- ── one line ────────────────────────────────────────────────────────────────

go-bad : (n : ℕ) (x y : ReadReply) → (n ≡ 0 → ⊥) → go_on n x y ≡ x
unfolding go_on
go-bad zero x y h = absurd (h refl)
go-bad (suc n) x y h = refl

go-good : (n : ℕ) (x y : ReadReply) → n ≡ 0 → go_on n x y ≡ y
unfolding go_on
go-good zero x y h = refl
go-good (suc n) x y h = clash n h

module _ (i at : ℕ) (rs : List TaskRecord) (l : List ℕ) (ls : List (List ℕ)) where
  line-bad : (refusal_after rs l ≡ 0 → ⊥) → read_from i at rs (l ∷ ls) ≡ refused_line (refusal_after rs l) i at (length l)
  unfolding read_from refusal_after
  line-bad h = go (skipped l) refl
    where
      go : (t : Bool) → skipped l ≡ t → read_from i at rs (l ∷ ls) ≡ refused_line (refusal_after rs l) i at (length l)
      go true e = absurd (h (rw e))
      go false e = rw e (go-bad (line_refusal (length rs) l) _ _ (rw e at h))

  line-good : refusal_after rs l ≡ 0 → read_from i at rs (l ∷ ls) ≡ read_from (suc i) (at + suc (length l)) (tasks_after rs l) ls
  unfolding read_from refusal_after tasks_after
  line-good h = go (skipped l) refl
    where
      go : (t : Bool) → skipped l ≡ t → read_from i at rs (l ∷ ls) ≡ read_from (suc i) (at + suc (length l)) (tasks_after rs l) ls
      go true e = rw e
      go false e = rw e (go-good (line_refusal (length rs) l) _ _ (rw e at h))

nothing : (l : List ℕ) → length l ≤ 0 → l ≡ []
nothing [] h = refl
nothing (b ∷ l) h = absurd (omega arith)

-- where no line is left, number and place count for nothing
none-left : (i at : ℕ) (rs : List TaskRecord) (l : List ℕ) → length l ≡ 0 → read_from i at rs (lines l) ≡ finish rs
unfolding read_from lines
none-left i at rs [] h = refl
none-left i at rs (b ∷ l) h = clash (length l) h

-- ── the list ────────────────────────────────────────────────────────────────

-- how far the reading of s has come at line i, with which `rest` starts: the set has read some tasks, and the rest decides
pub record Progress (s : List ℕ) (set : TaskSet) (i : ℕ) (rest : List ℕ) : Type 0 where
  pub short : length s ≤ 4096
  pub less : length rest ≤ length s
  pub place : rest ≡ drop (length s - length rest) s
  pub few : i + length rest ≤ length s + 1
  pub tasks : List TaskRecord
  pub holds : record_of set ≡ (accepted tasks).set
  pub reads : read_list s ≡ read_from i (length s - length rest) tasks (lines rest)

pub list_long : (s : List ℕ) → 4096 < length s → read_list s ≡ refused_whole 1
unfolding read_list
list_long s h = rw (lt-ltb 4096 (length s) h)

pub list_begins : (s : List ℕ) (set : TaskSet) → length s ≤ 4096 → record_of set ≡ blank_set → Progress s set 1 s
unfolding accepted blank_set padded read_list
list_begins s set h e =
    let z : length s - length s ≡ 0 = omega arith in
    record { short = h; less = omega arith; place = rw z; few = omega arith; tasks = []; holds = e; reads = rw (le-ltb 4096 (length s) h, z) }

module _ (s : List ℕ) (set : TaskSet) (i : ℕ) (rest : List ℕ) (p : Progress s set i rest) where
  pub list_ends : length rest ≡ 0 → read_list s ≡ finish p.tasks
  list_ends h = p.reads ∙ none-left i (length s - length rest) p.tasks rest h

  -- the line, and what is behind it
  module _ (l behind : List ℕ) (f : IsFirstLine rest l behind) (n : 0 < length rest) where
    abbrev at : ℕ
    at = length s - length rest

    behind-long : length behind ≡ length rest - (length l + 1)
    behind-long = ap length f.behind ∙ length-drop (length l + 1) rest

    reads-line : read_list s ≡ read_from i at p.tasks (l ∷ lines behind)
    reads-line = p.reads ∙ ap (read_from i at p.tasks) (f.parts n)

    pub line_stops : (why : Refusal) → refusal_after p.tasks l ≡ number_of why → read_list s ≡ refused_line (number_of why) i at (length l)
    line_stops why e = reads-line ∙ line-bad i at p.tasks l (lines behind) (λ z. number-some why (sym e ∙ z)) ∙ rw e

    pub line_shown : (why : Refusal) → refusal_after p.tasks l ≡ number_of why → l ≡ shown s (read_list s)
    unfolding shown refused_line
    line_shown why e = rw (line_stops why e, ← p.place) f.line

    pub line_passes : (more : TaskSet) → refusal_after p.tasks l ≡ 0 → record_of more ≡ (accepted (tasks_after p.tasks l)).set → Progress s more (i + 1) behind
    line_passes more e g = record {
      short = p.short;
      less = omega (arith, behind-long, p.less);
      place = go (le-or-lt (length behind) 0);
      few = omega (arith, behind-long, p.few);
      tasks = tasks_after p.tasks l;
      holds = g;
      reads = reads-line ∙ line-good i at p.tasks l (lines behind) e ∙ on (le-or-lt (length behind) 0);
    }
      where
        go : (length behind ≤ 0) ⊎ (0 < length behind) → behind ≡ drop (length s - length behind) s
        go (inl k) = nothing behind k ∙ sym (drop_of_length-le s {i = length s - length behind} (omega arith))
        go (inr k) = let m : at + (length l + 1) ≡ length s - length behind = omega (arith, behind-long, p.less) in f.behind ∙ ap (drop (length l + 1)) p.place ∙ drop-drop (length l + 1) at s ∙ rw m

        on : (length behind ≤ 0) ⊎ (0 < length behind) → read_from (suc i) (at + suc (length l)) (tasks_after p.tasks l) (lines behind) ≡ read_from (i + 1) (length s - length behind) (tasks_after p.tasks l) (lines behind)
        on (inl k) = none-left (suc i) (at + suc (length l)) (tasks_after p.tasks l) behind (omega arith) ∙ sym (none-left (i + 1) (length s - length behind) (tasks_after p.tasks l) behind (omega arith))
        on (inr k) = let m : at + suc (length l) ≡ length s - length behind = omega (arith, behind-long, p.less) in rw (add-one, m)

-- ── the reply ───────────────────────────────────────────────────────────────

pub reply_whole : (s : List ℕ) (e : Refused) (why : Refusal) → BlamesNoLine why e → read_list s ≡ refused_whole (number_of why) → reply_of (Err e) ≡ read_list s
unfolding reply_of refused_whole
reply_whole s e why h k = rw (h.same, h.line, h.start, h.text, k)

pub shown_whole : (s : List ℕ) (n : ℕ) → read_list s ≡ refused_whole n → [] ≡ shown s (read_list s)
unfolding shown refused_whole
shown_whole s n k = rw k

-- the same of a refusal that a call passes on
pub reply_passed : (s : List ℕ) (r : Result TaskSet Refused) (why : Refusal) → IsErrAnd r (BlamesNoLine why) → read_list s ≡ refused_whole (number_of why) → reply_of r ≡ read_list s
reply_passed s (Ok set) why h k = absurd h
reply_passed s (Err e) why h k = reply_whole s e why h k

pub text_passed : (s : List ℕ) (r : Result TaskSet Refused) (why : Refusal) → IsErrAnd r (BlamesNoLine why) → read_list s ≡ refused_whole (number_of why) → IfErr r (λ e. e.text.now ≡ shown s (read_list s))
text_passed s (Ok set) why h k = absurd h
text_passed s (Err e) why h k = h.text ∙ shown_whole s (number_of why) k

pub shown_none : (s : List ℕ) (set : TaskSet) → reply_of (Ok set) ≡ read_list s → [] ≡ shown s (read_list s)
unfolding shown reply_of
shown_none s set k = rw (← k)

-- what `read` needs before its loop
pub ruleset list_laws = (list_long, list_begins, record_blank, reply_whole, shown_whole)
