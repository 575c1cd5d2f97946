-- A set's plain text reads back to the set.
use mathlib.Core.Path.{◌≡◌, refl, sym, ap, ◌∙◌}
use mathlib.Core.Bool.{◌&&◌}
use mathlib.Core.List.{List, [], ◌∷◌, ◌++◌, map, append-nil}
use Prim.Native.Nat.{ℕ, zero, suc, ◌+◌, ◌-◌, ◌≤◌, ◌<◌}
use native.Mathlib.Omega.{arith}
use borrow.Author.Tests.{le-ltb}
use lib.ListN.{length, get_or, length-append, length-map}
use lib.Seq.{length-take-le, get_or-take, append_snoc}
use Rattle.rules.specs.Lists.{padded}
use Rattle.rules.specs.Hyper.{hyper}
use Rattle.rules.specs.Records.{TaskRecord, between, all_between, pattern_of, task_refusal, or_else, tasks_refusal, tasks_in, no_record, SetRecord, Arrays, used, set_in, record_refusal}
use Rattle.rules.specs.States.{blank_task, tidy_task, tidied}
use Rattle.rules.proofs.Lists.{clash, and_parts}
use Rattle.rules.proofs.Set.Admitted.{between_le, set-tasks}
use Rattle.rules.proofs.Set.Tidy.{counts, used-length, used-tidied, refusal-tidied}
use Rattle.rules.proofs.Set.Widths.{hyper-small}
use Rattle.list.specs.Reading.{line_refusal, accepted, finish, read_from, read_list}
use Rattle.list.specs.Plain.{plain_text}
use Rattle.list.proofs.Meaning.Lists.{not-zero, unrefused, Each}
use Rattle.list.proofs.Meaning.Plain.{Plain, line_of, plain-stands, plain-task, plain-formed, text-short, text-lines}
use Rattle.list.proofs.Meaning.Reader.{read-good, formed-refusal, list-short}

-- ── the tasks of an admissible set ──────────────────────────────────────────

tasks-unrefused : (u : TaskRecord) (us : List TaskRecord) → tasks_refusal (u ∷ us) ≡ 0 → (task_refusal u ≡ 0) × (tasks_refusal us ≡ 0)
unfolding tasks_refusal or_else
tasks-unrefused u us e = go (task_refusal u) refl e
  where
    go : (n : ℕ) → task_refusal u ≡ n → or_else n (tasks_refusal us) ≡ 0 → (task_refusal u ≡ 0) × (tasks_refusal us ≡ 0)
    go zero q e = (q, e)
    go (suc n) q e = clash n e

task-plain : (u : TaskRecord) → task_refusal u ≡ 0 → length u.units ≡ 7 → Plain u
unfolding task_refusal pattern_of
task-plain u e s =
    let a = unrefused (between 1 4 u.steps) 1 _ e in
    let b = unrefused (between 1 4096 u.period && (between 1 4096 u.deadline && all_between 1 255 (pattern_of u))) 2 _ a.1 in
    let c = and_parts (between 1 4096 u.period) _ b.0 in
    let d = and_parts (between 1 4096 u.deadline) _ c.1 in
    let m = between_le 1 4 u.steps a.0 in
    record { few = m.1; some = m.0; period = c.0; deadline = d.0; units = d.1; whole = length-take-le (u.steps + u.steps - 1) u.units (omega arith) }

tasks-plain : (us : List TaskRecord) → tasks_refusal us ≡ 0 → ((j : ℕ) → j < length us → length (get_or us j no_record).units ≡ 7) → Each Plain us
tasks-plain [] e s = tt
tasks-plain (u ∷ us) e s = let a = tasks-unrefused u us e in (task-plain u a.0 (s 0 (omega arith)), tasks-plain us a.1 (λ j h. s (suc j) (omega arith)))

module _ (r : SetRecord) (A : Arrays r) (ok : record_refusal r ≡ 0) where
  set-plain : Each Plain (used r)
  unfolding used
  set-plain = tasks-plain (used r) (set-tasks (used r) (counts r ok).fine).1
      (λ j h. let l = used-length r A ok in let c = (counts r ok).high in
      ap (λ x. length x.units) (get_or-take r.count r.entries j no_record (omega arith)) ∙ A.seven j (omega arith))

  pub text-within : length (plain_text r) ≤ 304
  unfolding plain_text
  text-within = let l = used-length r A ok in let c = (counts r ok).high in let t = text-short (used r) set-plain in omega arith

-- ── line by line ────────────────────────────────────────────────────────────

line-good : (k : ℕ) (u : TaskRecord) → k < 8 → Plain u → task_refusal (tidy_task u) ≡ 0 → line_refusal k (line_of u) ≡ 0
line-good k u h p e = formed-refusal k (line_of u) h (plain-formed u p) ∙ ap task_refusal (plain-task u p) ∙ e

back : (us rs : List TaskRecord) (i at : ℕ) → Each Plain us → tasks_refusal (map tidy_task us) ≡ 0 → length rs + length us ≤ 8
    → read_from i at rs (map line_of us) ≡ finish (rs ++ map tidy_task us)
unfolding read_from
back [] rs i at p e h = ap finish (sym (append-nil rs))
back (u ∷ us) rs i at p e h =
    let a = tasks-unrefused (tidy_task u) (map tidy_task us) e in
    let l : length (rs ++ tidy_task u ∷ []) ≡ length rs + 1 = length-append rs (tidy_task u ∷ []) in
    read-good i at rs (line_of u) (map line_of us) (plain-stands u p.0) (line-good (length rs) u (omega arith) p.0 a.0)
    ∙ ap (λ t. read_from (suc i) (at + suc (length (line_of u))) (rs ++ t ∷ []) (map line_of us)) (plain-task u p.0)
    ∙ back us (rs ++ tidy_task u ∷ []) (suc i) (at + suc (length (line_of u))) p.1 a.1 (omega arith)
    ∙ ap finish (append_snoc rs (tidy_task u) (map tidy_task us))

-- tasks enough, and a hyper-period within its bound
finish-accepted : (rs : List TaskRecord) → 1 ≤ length rs → hyper (tasks_in rs) ≤ 4096 → finish rs ≡ accepted rs
unfolding finish
finish-accepted rs h k = rw (not-zero (length rs) h, le-ltb 4096 (hyper (tasks_in rs)) k) refl

module _ (r : SetRecord) (A : Arrays r) (ok : record_refusal r ≡ 0) where
  tidy-length : length (map tidy_task (used r)) ≡ r.count
  tidy-length = length-map (used r) tidy_task ∙ used-length r A ok

  tidy-refusal : tasks_refusal (map tidy_task (used r)) ≡ 0
  tidy-refusal = (set-tasks (map tidy_task (used r)) (rw (used-tidied r A ok) at (counts (tidied r) (refusal-tidied r A ok)).fine)).1

  tidy-hyper : hyper (tasks_in (map tidy_task (used r))) ≤ 4096
  unfolding set_in
  tidy-hyper = rw (used-tidied r A ok) at (hyper-small (tidied r) (refusal-tidied r A ok))

  pub reads-back : read_list (plain_text r) ≡ record { refusal = 0; line = 0; start = 0; size = 0; set = tidied r }
  unfolding plain_text accepted tidied
  reads-back =
      let t = text-within r A ok in let l = tidy-length in let u = used-length r A ok in let c = (counts r ok).high in let d = (counts r ok).low in
      list-short (plain_text r) (omega arith)
      ∙ ap (λ ls. read_from 1 0 [] ls) (text-lines (used r))
      ∙ back (used r) [] 1 0 (set-plain r A ok) tidy-refusal (omega arith)
      ∙ finish-accepted (map tidy_task (used r)) (omega arith) tidy-hyper
      ∙ ap (λ n. record { refusal = 0; line = 0; start = 0; size = 0; set = record { count = n; entries = padded 8 blank_task (map tidy_task (used r)) } }) l
