-- What is read is admissible, with zeros in the parts not in use.
use mathlib.Core.Path.{◌≡◌, refl, ap, ap₂, ◌∙◌}
use mathlib.Core.Logic.{◌⊎◌, inl, inr, ⊎_elim}
use mathlib.Core.Bool.{Bool, true, false, not, cond, ◌||◌}
use mathlib.Core.List.{List, [], ◌∷◌, ◌++◌, map}
use Prim.Native.Nat.{ℕ, zero, suc, ◌+◌, ◌-◌, ◌/◌, ◌≤◌, ◌<◌}
use native.Mathlib.Omega.{arith}
use borrow.Author.Tests.{leb-false, ltb-false, le-leb, le-ltb, eqb-true, eqb-false}
use lib.Dec.{leb, ltb, eqb}
use lib.ListN.{length, get_or, drop, replicate, length-append, length-drop, length-map, length-replicate}
use Rattle.rules.specs.Lists.{all_of, is_zero, padded}
use Rattle.rules.specs.Hyper.{hyper}
use Rattle.rules.specs.Records.{TaskRecord, between, pattern_of, task_refusal, or_else, tasks_refusal, tasks_in, set_refusal, no_record, Arrays, used, record_refusal}
use Rattle.rules.specs.States.{blank_task, tidy_task, tidied}
use Rattle.rules.proofs.Lists.{clash, and_parts}
use Rattle.rules.proofs.Set.Tidy.{padded-take}
use Rattle.list.specs.Text.{lines, words}
use Rattle.list.specs.Reading.{ReadReply, is_field, number, right_count, task_from, line_task, well_formed, line_refusal, refused_whole, refused_line, accepted, finish, read_from, read_list}
use Rattle.list.specs.Replies.{Admissible}
use Rattle.list.proofs.Meaning.Lists.{both, Each, each_at, each_append}
use Rattle.list.proofs.Meaning.Reader.{read_step, list-step}

-- ── a task that is read ─────────────────────────────────────────────────────

record Kept (t : TaskRecord) : Type 0 where
  fine : task_refusal t ≡ 0
  seven : length t.units ≡ 7
  tidy : tidy_task t ≡ t

or_parts : (a b : Bool) → (a || b) ≡ true → (a ≡ true) ⊎ (b ≡ true)
or_parts true b e = inl refl
or_parts false b e = inr e

-- the pattern has an odd number of entries, at most seven
right-odd : (n : ℕ) → right_count n ≡ true → (n - 2 ≤ 7) × ((n - 1) / 2 + (n - 1) / 2 - 1 ≡ n - 2)
unfolding right_count
right-odd n e = ⊎_elim (λ a. let h = eqb-true n 3 a in omega arith)
    (λ r. ⊎_elim (λ a. let h = eqb-true n 5 a in omega arith)
    (λ s. ⊎_elim (λ a. let h = eqb-true n 7 a in omega arith) (λ a. let h = eqb-true n 9 a in omega arith) (or_parts (eqb n 7) (eqb n 9) s))
    (or_parts (eqb n 5) _ r))
    (or_parts (eqb n 3) _ e)

padded-length : {A : Type 0} (n : ℕ) (x : A) (xs : List A) → length xs ≤ n → length (padded n x xs) ≡ n
unfolding padded
padded-length n x xs h = let a = length-append xs (replicate (n - length xs) x) in let b = length-replicate (n - length xs) x in omega arith

numbers-kept : (ns : List ℕ) → right_count (length ns) ≡ true → (length (task_from ns).units ≡ 7) × (tidy_task (task_from ns) ≡ task_from ns)
unfolding task_from tidy_task pattern_of
numbers-kept ns e =
    let o = right-odd (length ns) e in
    let d = length-drop 2 ns in (
      padded-length 7 0 (drop 2 ns) (omega arith),
      ap (λ p. record { period = get_or ns 0 0; deadline = get_or ns 1 0; steps = (length ns - 1) / 2; units = padded 7 0 p })
          (padded-take 7 0 (drop 2 ns) ((length ns - 1) / 2 + (length ns - 1) / 2 - 1) (omega arith)),
    )

pub line-formed : (k : ℕ) (l : List ℕ) → line_refusal k l ≡ 0 → (k < 8) × (well_formed l ≡ true) × (task_refusal (line_task l) ≡ 0)
unfolding line_refusal
line-formed k l e = go (leb 8 k) refl (well_formed l) refl e
  where
    go : (a : Bool) → leb 8 k ≡ a → (b : Bool) → well_formed l ≡ b → cond a 5 (cond b (task_refusal (line_task l)) 2) ≡ 0 → (k < 8) × (well_formed l ≡ true) × (task_refusal (line_task l) ≡ 0)
    go true q b r e = clash 4 e
    go false q true r e = (leb-false 8 k q, r, e)
    go false q false r e = clash 1 e

line_kept : (k : ℕ) (l : List ℕ) → line_refusal k l ≡ 0 → (k < 8) × Kept (line_task l)
unfolding line_task well_formed
line_kept k l e =
    let a = line-formed k l e in
    let c = (and_parts (all_of is_field (words l)) _ a.1).1 in
    let n = numbers-kept (map number (words l)) (rw (length-map (words l) number) c) in
    (a.0, record { fine = a.2; seven = n.0; tidy = n.1 })

-- ── the set that is read ────────────────────────────────────────────────────

kept-refusal : (rs : List TaskRecord) → Each Kept rs → tasks_refusal rs ≡ 0
unfolding tasks_refusal or_else
kept-refusal [] e = refl
kept-refusal (r ∷ rs) e = rw e.0.fine (kept-refusal rs e.1)

kept-tidy : (rs : List TaskRecord) → Each Kept rs → map tidy_task rs ≡ rs
kept-tidy [] e = refl
kept-tidy (r ∷ rs) e = ap₂ {C = List TaskRecord} (λ x xs. x ∷ xs) e.0.tidy (kept-tidy rs e.1)

Seven : TaskRecord → Type 0
Seven t = length t.units ≡ 7

kept-sevens : (rs : List TaskRecord) → Each Kept rs → Each Seven rs
unfolding Seven
kept-sevens [] e = tt
kept-sevens (r ∷ rs) e = (e.0.seven, kept-sevens rs e.1)

blank-sevens : (n : ℕ) → Each Seven (replicate n blank_task)
unfolding Seven blank_task
blank-sevens zero = tt
blank-sevens (suc n) = (refl, blank-sevens n)

module _ (rs : List TaskRecord) (K : Each Kept rs) (some : 1 ≤ length rs) (few : length rs ≤ 8) (h : hyper (tasks_in rs) ≤ 4096) where
  accepted-used : used (accepted rs).set ≡ rs
  unfolding used accepted
  accepted-used = padded-take 8 blank_task rs (length rs) refl

  fine-between : between 1 8 (length rs) ≡ true
  unfolding between
  fine-between = both (leb 1 (length rs)) _ (le-leb 1 (length rs) some) (le-leb (length rs) 8 few)

  fine-set : set_refusal rs ≡ 0
  unfolding set_refusal or_else
  fine-set = rw (fine-between, kept-refusal rs K, le-ltb 4096 (hyper (tasks_in rs)) h) refl

  accepted-fine : record_refusal (accepted rs).set ≡ 0
  unfolding record_refusal accepted
  accepted-fine = ap (λ n. cond (not (between 1 8 (length rs))) 5 n) (ap set_refusal accepted-used ∙ fine-set) ∙ ap (λ b. cond (not b) 5 0) fine-between

  accepted-arrays : Arrays (accepted rs).set
  unfolding accepted Seven padded
  accepted-arrays = record {
    eight = padded-length 8 blank_task rs few;
    seven = λ j k. each_at Seven (rs ++ replicate (8 - length rs) blank_task) no_record (each_append Seven rs _ (kept-sevens rs K) (blank-sevens (8 - length rs))) j (let l = padded-length 8 blank_task rs few in omega arith);
  }

  accepted-tidy : tidied (accepted rs).set ≡ (accepted rs).set
  unfolding tidied accepted
  accepted-tidy = ap (λ us. record { count = length rs; entries = padded 8 blank_task us }) (ap (map tidy_task) accepted-used ∙ kept-tidy rs K)

  accepted-admissible : Admissible (accepted rs).set
  accepted-admissible = record { fine = accepted-fine; arrays = accepted-arrays; tidy = accepted-tidy }

-- ── the reader ──────────────────────────────────────────────────────────────

finish-admissible : (rs : List TaskRecord) → Each Kept rs → length rs ≤ 8 → (finish rs).refusal ≡ 0 → Admissible (finish rs).set
unfolding finish refused_whole is_zero
finish-admissible rs K few e = go (is_zero (length rs)) refl (ltb 4096 (hyper (tasks_in rs))) refl e
  where
    go : (a : Bool) → is_zero (length rs) ≡ a → (b : Bool) → ltb 4096 (hyper (tasks_in rs)) ≡ b → (cond a (refused_whole 5) (cond b (refused_whole 6) (accepted rs))).refusal ≡ 0
        → Admissible (cond a (refused_whole 5) (cond b (refused_whole 6) (accepted rs))).set
    go true q b r e = clash 4 e
    go false q true r e = clash 5 e
    go false q false r e = let n = eqb-false (length rs) 0 q in accepted-admissible rs K (omega arith) few (ltb-false 4096 (hyper (tasks_in rs)) r)

Sound : ReadReply → Type 0
Sound x = x.refusal ≡ 0 → Admissible x.set

from-sound : (ls : List (List ℕ)) (rs : List TaskRecord) (i at : ℕ) → Each Kept rs → length rs ≤ 8 → Sound (read_from i at rs ls)
unfolding read_from Sound refused_line
from-sound [] rs i at K few = finish-admissible rs K few
from-sound (l ∷ ls) rs i at K few = read_step i at rs l ls Sound
    (λ _. from-sound ls rs (suc i) (at + suc (length l)) K few)
    (λ _ g. let a = line_kept (length rs) l g in let n = length-append rs (line_task l ∷ []) in
    from-sound ls (rs ++ line_task l ∷ []) (suc i) (at + suc (length l)) (each_append Kept rs _ K (a.1, tt)) (omega arith))
    (λ n _ _ e. clash n e)

pub reads-admissible : (bs : List ℕ) → (read_list bs).refusal ≡ 0 → Admissible (read_list bs).set
unfolding Sound refused_whole
reads-admissible bs = list-step Sound bs (λ _ e. clash 0 e) (λ _. from-sound (lines bs) [] 1 0 tt (omega arith))
