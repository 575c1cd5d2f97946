-- The reply but for line number and place comes from the content alone.
use mathlib.Core.Path.{◌≡◌, refl, sym, ap, ap₂, ◌∙◌}
use mathlib.Core.Logic.{⊎_elim}
use mathlib.Core.Bool.{Bool, true, false, cond, ◌&&◌}
use mathlib.Core.List.{List, [], ◌∷◌, ◌++◌, map}
use mathlib.Core.Option.{Option, some, none}
use Prim.Native.Nat.{ℕ, suc, ◌+◌, ◌≤◌}
use lib.Dec.{leb}
use lib.ListN.{length, length-map}
use Rattle.rules.specs.Lists.{all_of}
use Rattle.rules.specs.Records.{TaskRecord, task_refusal}
use Rattle.rules.proofs.Lists.{and_parts}
use Rattle.list.specs.Text.{lines, words}
use Rattle.list.specs.Reading.{ReadReply, is_field, number, right_count, task_from, line_task, well_formed, line_refusal, skipped, refused_whole, refused_line, go_on, finish, read_from, read_list}
use Rattle.list.specs.Content.{told, content_of, content}
use Rattle.list.specs.Replies.{Agree}
use Rattle.list.proofs.Meaning.Lists.{decide}
use Rattle.list.proofs.Meaning.Reader.{read_step, list-short}
use Rattle.list.proofs.Meaning.Admissible.{line-formed}

-- ── a line by its content ───────────────────────────────────────────────────

unfoldable is_told : Option ℕ → Bool
is_told none = false
is_told (some n) = true

unfoldable value_of : Option ℕ → ℕ
value_of none = 0
value_of (some n) = n

unfoldable task_told : List (Option ℕ) → TaskRecord
task_told c = task_from (map value_of c)

unfoldable told_refusal : ℕ → List (Option ℕ) → ℕ
told_refusal k c = cond (leb 8 k) 5 (cond (all_of is_told c && right_count (length c)) (task_refusal (task_told c)) 2)

told-field : (w : List ℕ) → is_told (told w) ≡ is_field w
unfolding told is_told
told-field w = ⊎_elim (λ e. rw e refl) (λ e. rw e refl) (decide (is_field w))

told-value : (w : List ℕ) → is_field w ≡ true → value_of (told w) ≡ number w
unfolding told value_of
told-value w e = rw e refl

told-all : (ws : List (List ℕ)) → all_of is_told (map told ws) ≡ all_of is_field ws
unfolding all_of
told-all [] = refl
told-all (w ∷ ws) = ap₂ (λ a b. a && b) (told-field w) (told-all ws)

told-values : (ws : List (List ℕ)) → all_of is_field ws ≡ true → map value_of (map told ws) ≡ map number ws
unfolding all_of
told-values [] e = refl
told-values (w ∷ ws) e = let a = and_parts (is_field w) _ e in ap₂ {C = List ℕ} (λ x xs. x ∷ xs) (told-value w a.0) (told-values ws a.1)

line-told : (l : List ℕ) → all_of is_field (words l) ≡ true → line_task l ≡ task_told (map told (words l))
unfolding line_task task_told
line-told l e = ap task_from (sym (told-values (words l) e))

refusal-told : (k : ℕ) (l : List ℕ) → line_refusal k l ≡ told_refusal k (map told (words l))
unfolding line_refusal told_refusal well_formed
refusal-told k l = rw (told-all (words l), length-map (words l) told)
    (⊎_elim (λ e. rw (line-told l e) refl) (λ e. rw e refl) (decide (all_of is_field (words l))))

-- ── the reader by content ───────────────────────────────────────────────────

unfoldable read_told : List TaskRecord → List (List (Option ℕ)) → ReadReply
read_told rs [] = finish rs
read_told rs (c ∷ cs) = go_on (told_refusal (length rs) c) (refused_whole (told_refusal (length rs) c)) (read_told (rs ++ task_told c ∷ []) cs)

told-good : (rs : List TaskRecord) (c : List (Option ℕ)) (cs : List (List (Option ℕ))) → told_refusal (length rs) c ≡ 0 → read_told rs (c ∷ cs) ≡ read_told (rs ++ task_told c ∷ []) cs
unfolding read_told go_on
told-good rs c cs e = rw e refl

told-bad : (rs : List TaskRecord) (c : List (Option ℕ)) (cs : List (List (Option ℕ))) (n : ℕ) → told_refusal (length rs) c ≡ suc n → read_told rs (c ∷ cs) ≡ refused_whole (suc n)
unfolding read_told go_on
told-bad rs c cs n e = rw e refl

pub content-skip : (l : List ℕ) (ls : List (List ℕ)) → skipped l ≡ true → content_of (l ∷ ls) ≡ content_of ls
unfolding content_of
content-skip l ls e = rw e refl

pub content-keep : (l : List ℕ) (ls : List (List ℕ)) → skipped l ≡ false → content_of (l ∷ ls) ≡ map told (words l) ∷ content_of ls
unfolding content_of
content-keep l ls e = rw e refl

from-content : (ls : List (List ℕ)) (rs : List TaskRecord) (i at : ℕ) → Agree (read_from i at rs ls) (read_told rs (content_of ls))
unfolding read_from read_told well_formed content_of refused_whole refused_line
from-content [] rs i at = record { refusal = refl; set = refl }
from-content (l ∷ ls) rs i at = read_step i at rs l ls (λ x. Agree x (read_told rs (content_of (l ∷ ls))))
    (λ e. rw (content-skip l ls e) (from-content ls rs (suc i) (at + suc (length l))))
    (λ e g. rw (
      content-keep l ls e,
      told-good rs (map told (words l)) (content_of ls) (sym (refusal-told (length rs) l) ∙ g),
      ← line-told l (and_parts (all_of is_field (words l)) _ (line-formed (length rs) l g).1).0,
    )
    (from-content ls (rs ++ line_task l ∷ []) (suc i) (at + suc (length l))))
    (λ n e g. rw (content-keep l ls e, told-bad rs (map told (words l)) (content_of ls) n (sym (refusal-told (length rs) l) ∙ g)) (record { refusal = refl; set = refl }))

pub agrees : (a b : List ℕ) → length a ≤ 4096 → length b ≤ 4096 → content a ≡ content b → Agree (read_list a) (read_list b)
unfolding content
agrees a b h k e =
    let x = from-content (lines a) [] 1 0 in
    let y = from-content (lines b) [] 1 0 in
    rw (list-short a h, list-short b k) (record { refusal = x.refusal ∙ ap (λ c. (read_told [] c).refusal) e ∙ sym y.refusal; set = x.set ∙ ap (λ c. (read_told [] c).set) e ∙ sym y.set })
