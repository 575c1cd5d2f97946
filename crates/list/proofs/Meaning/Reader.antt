-- The reader, line by line: what a line that is skipped, good or bad does to the reply.
use mathlib.Core.Path.{◌≡◌, refl, sym, subst}
use mathlib.Core.Logic.{⊎_elim}
use mathlib.Core.Bool.{true, false}
use mathlib.Core.List.{List, [], ◌∷◌, ◌++◌}
use Prim.Native.Nat.{ℕ, zero, suc, ◌+◌, ◌≤◌, ◌<◌}
use borrow.Author.Tests.{lt-leb, le-ltb, lt-ltb}
use lib.ListN.{length}
use Rattle.rules.specs.Records.{TaskRecord, task_refusal}
use Rattle.rules.proofs.Laws.{le-or-lt}
use Rattle.list.specs.Text.{lines}
use Rattle.list.specs.Reading.{ReadReply, skipped, line_task, well_formed, line_refusal, refused_whole, refused_line, go_on, read_from, read_list}
use Rattle.list.proofs.Meaning.Lists.{decide}

module _ (i at : ℕ) (rs : List TaskRecord) (l : List ℕ) (ls : List (List ℕ)) where
  read-skip : skipped l ≡ true → read_from i at rs (l ∷ ls) ≡ read_from (suc i) (at + suc (length l)) rs ls
  unfolding read_from
  read-skip e = rw e refl

  pub read-good : skipped l ≡ false → line_refusal (length rs) l ≡ 0 → read_from i at rs (l ∷ ls) ≡ read_from (suc i) (at + suc (length l)) (rs ++ line_task l ∷ []) ls
  unfolding read_from go_on
  read-good e g = rw (e, g) refl

  read-bad : (n : ℕ) → skipped l ≡ false → line_refusal (length rs) l ≡ suc n → read_from i at rs (l ∷ ls) ≡ refused_line (suc n) i at (length l)
  unfolding read_from go_on
  read-bad n e g = rw (e, g) refl

  -- what holds of a reply, by the three cases of its first line
  pub read_step : (P : ReadReply → Type 0)
      → (skipped l ≡ true → P (read_from (suc i) (at + suc (length l)) rs ls))
      → (skipped l ≡ false → line_refusal (length rs) l ≡ 0 → P (read_from (suc i) (at + suc (length l)) (rs ++ line_task l ∷ []) ls))
      → ((n : ℕ) → skipped l ≡ false → line_refusal (length rs) l ≡ suc n → P (refused_line (suc n) i at (length l)))
      → P (read_from i at rs (l ∷ ls))
  read_step P skip good bad = ⊎_elim (λ e. subst P (sym (read-skip e)) (skip e)) (λ e. go (line_refusal (length rs) l) refl e) (decide (skipped l))
    where
      go : (n : ℕ) → line_refusal (length rs) l ≡ n → skipped l ≡ false → P (read_from i at rs (l ∷ ls))
      go zero g e = subst P (sym (read-good e g)) (good e g)
      go (suc n) g e = subst P (sym (read-bad n e g)) (bad n e g)

-- a line with room for its task and of the right form is judged by its numbers
pub formed-refusal : (k : ℕ) (l : List ℕ) → k < 8 → well_formed l ≡ true → line_refusal k l ≡ task_refusal (line_task l)
unfolding line_refusal
formed-refusal k l h e = rw (lt-leb 8 k h, e) refl

pub list-short : (bs : List ℕ) → length bs ≤ 4096 → read_list bs ≡ read_from 1 0 [] (lines bs)
unfolding read_list
list-short bs h = rw (le-ltb 4096 (length bs) h) refl

list-long : (bs : List ℕ) → 4096 < length bs → read_list bs ≡ refused_whole 1
unfolding read_list
list-long bs h = rw (lt-ltb 4096 (length bs) h) refl

pub list-step : (P : ReadReply → Type 0) (bs : List ℕ) → (4096 < length bs → P (refused_whole 1)) → (length bs ≤ 4096 → P (read_from 1 0 [] (lines bs))) → P (read_list bs)
list-step P bs long short = ⊎_elim (λ h. subst P (sym (list-short bs h)) (short h)) (λ h. subst P (sym (list-long bs h)) (long h)) (le-or-lt (length bs) 4096)
