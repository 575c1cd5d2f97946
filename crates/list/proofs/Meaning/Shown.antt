-- A refused line is shown as it stands.
use mathlib.Core.Path.{◌≡◌, refl, sym, ap, ◌∙◌}
use mathlib.Core.Logic.{⊎_elim}
use mathlib.Core.Bool.{Bool, true, false, cond}
use mathlib.Core.List.{List, [], ◌∷◌, ◌++◌}
use Prim.Native.Nat.{ℕ, suc, ◌+◌, ◌<◌}
use native.Mathlib.Omega.{arith}
use native.Mathlib.Numerals.{add-one}
use lib.Dec.{ltb}
use lib.ListN.{length, get_or, take, drop, length-append, drop_of_length-le}
use lib.Seq.{take-suc, drop-drop, get_or-drop}
use Rattle.rules.specs.Lists.{is_zero}
use Rattle.rules.specs.Hyper.{hyper}
use Rattle.rules.specs.Records.{TaskRecord, tasks_in}
use Rattle.rules.proofs.Lists.{clash, clash-bool}
use Rattle.rules.proofs.Laws.{le-or-lt}
use Rattle.list.specs.Text.{lines}
use Rattle.list.specs.Reading.{ReadReply, skipped, line_task, line_refusal, refused_whole, refused_line, accepted, finish, read_from, read_list, shown}
use Rattle.list.specs.Content.{content_of}
use Rattle.list.specs.Replies.{refusal_at, ShowsLine}
use Rattle.list.proofs.Meaning.Lists.{decide}
use Rattle.list.proofs.Meaning.Text.{lines_split}
use Rattle.list.proofs.Meaning.Reader.{read_step, list-step}
use Rattle.list.proofs.Meaning.Content.{content-skip, content-keep}

-- ── the end of the list shows nothing ───────────────────────────────────────

finish-place : (rs : List TaskRecord) → ((finish rs).line ≡ 0) × ((finish rs).start ≡ 0) × ((finish rs).size ≡ 0)
unfolding finish refused_whole accepted
finish-place rs = go (is_zero (length rs)) (ltb 4096 (hyper (tasks_in rs)))
  where
    reply : Bool → Bool → ReadReply
    reply a b = cond a (refused_whole 5) (cond b (refused_whole 6) (accepted rs))

    go : (a b : Bool) → ((reply a b).line ≡ 0) × ((reply a b).start ≡ 0) × ((reply a b).size ≡ 0)
    go true b = (refl, refl, refl)
    go false true = (refl, refl, refl)
    go false false = (refl, refl, refl)

-- ── one line more ───────────────────────────────────────────────────────────

content-append : (ls ks : List (List ℕ)) → length (content_of (ls ++ ks)) ≡ length (content_of ls) + length (content_of ks)
unfolding content_of
content-append [] ks = omega arith
content-append (l ∷ ls) ks = ⊎_elim
    (λ e. rw e (content-append ls ks))
    (λ e. rw e (let ih = content-append ls ks in omega arith))
    (decide (skipped l))

-- what comes first behind n lines is line n
module _ (L : List (List ℕ)) (n : ℕ) (l : List ℕ) (ls : List (List ℕ)) (D : drop n L ≡ l ∷ ls) where
  next-within : n < length L
  next-within = ⊎_elim (λ h. clash (length ls) (sym (ap length D) ∙ ap length (drop_of_length-le L h))) (λ h. h) (le-or-lt (length L) n)

  next-is : get_or L n [] ≡ l
  next-is = ap (λ i. get_or L i []) (omega arith) ∙ sym (get_or-drop n L 0 []) ∙ ap (λ x. get_or x 0 []) D

  next-rest : drop (suc n) L ≡ ls
  next-rest = ap (λ i. drop i L) (sym (add-one n)) ∙ sym (drop-drop 1 n L) ∙ ap (drop 1) D

  next-take : take (suc n) L ≡ take n L ++ l ∷ []
  next-take = take-suc L n [] next-within ∙ ap (λ x. take n L ++ x ∷ []) next-is

  next-count : length (content_of (take (suc n) L)) ≡ length (content_of (take n L)) + length (content_of (l ∷ []))
  next-count = ap (λ x. length (content_of x)) next-take ∙ content-append (take n L) (l ∷ [])

-- ── line by line ────────────────────────────────────────────────────────────

-- before line n: what is left of the lines and of the text, the tasks so far, and no bad line
record Before (bs : List ℕ) (n at : ℕ) (rs : List TaskRecord) (ls : List (List ℕ)) : Type 0 where
  left : drop n (lines bs) ≡ ls
  place : lines (drop at bs) ≡ ls
  tasks : length rs ≡ length (content_of (take n (lines bs)))
  good : (j : ℕ) → j < n → skipped (get_or (lines bs) j []) ≡ false → refusal_at (lines bs) j ≡ 0

Shows : List ℕ → ReadReply → Type 0
Shows bs x = (k : ℕ) → x.line ≡ suc k → ShowsLine bs k x

module _ (bs : List ℕ) (n at : ℕ) (rs : List TaskRecord) (l : List ℕ) (ls : List (List ℕ)) (B : Before bs n at rs (l ∷ ls)) where
  here : get_or (lines bs) n [] ≡ l
  here = next-is (lines bs) n l ls B.left

  refusal-here : refusal_at (lines bs) n ≡ line_refusal (length rs) l
  unfolding refusal_at
  refusal-here = rw (here, ← B.tasks) refl

  onward : (ts : List TaskRecord) → length ts ≡ length rs + length (content_of (l ∷ [])) → (skipped l ≡ false → line_refusal (length rs) l ≡ 0) → Before bs (suc n) (at + suc (length l)) ts ls
  onward ts e g = record {
    left = next-rest (lines bs) n l ls B.left;
    place = ap lines (sym (drop-drop (suc (length l)) at bs)) ∙ (lines_split (drop at bs) l ls B.place).1;
    tasks = let c = next-count (lines bs) n l ls B.left in let t = B.tasks in omega arith;
    good = λ j h s. ⊎_elim (λ k. B.good j k s) (λ k. let q : j ≡ n = omega arith in rw q (refusal-here ∙ g (rw (q, here) at s))) (le-or-lt (suc j) n);
  }

  shows-here : (m : ℕ) → skipped l ≡ false → line_refusal (length rs) l ≡ suc m → ShowsLine bs n (refused_line (suc m) (suc n) at (length l))
  unfolding shown refused_line
  shows-here m s e = record {
    within = next-within (lines bs) n l ls B.left;
    part = (lines_split (drop at bs) l ls B.place).0 ∙ sym here;
    stands = rw here s;
    reported = refusal-here ∙ e;
    refused = omega arith;
    earlier = B.good;
  }

from-shows : (bs : List ℕ) (ls : List (List ℕ)) (n at : ℕ) (rs : List TaskRecord) → Before bs n at rs ls → Shows bs (read_from (suc n) at rs ls)
unfolding read_from Shows refused_line content_of
from-shows bs [] n at rs B = λ k e. clash k (sym e ∙ (finish-place rs).0)
from-shows bs (l ∷ ls) n at rs B = read_step (suc n) at rs l ls (Shows bs)
    (λ s. from-shows bs ls (suc n) (at + suc (length l)) rs (onward bs n at rs l ls B rs (rw (content-skip l [] s) (omega arith)) (λ q. clash-bool (sym q ∙ s))))
    (λ s g. from-shows bs ls (suc n) (at + suc (length l)) (rs ++ line_task l ∷ []) (onward bs n at rs l ls B (rs ++ line_task l ∷ []) (rw (content-keep l [] s) (length-append rs (line_task l ∷ []))) (λ _. g)))
    (λ m s e k q. let p : n ≡ k = omega arith in rw (← p) (shows-here bs n at rs l ls B m s e))

from_start : (bs : List ℕ) → Before bs 0 0 [] (lines bs)
unfolding content_of
from_start bs = record { left = refl; place = refl; tasks = refl; good = λ j h. let z : ⊥ = omega arith in absurd z }

pub shows-line : (bs : List ℕ) (i : ℕ) → (read_list bs).line ≡ suc i → ShowsLine bs i (read_list bs)
unfolding Shows refused_whole
shows-line bs = list-step (Shows bs) bs (λ _ k e. clash k (sym e)) (λ _. from-shows bs (lines bs) 0 0 [] (from_start bs))

-- ── no line ─────────────────────────────────────────────────────────────────

Bare : ReadReply → Type 0
Bare x = x.line ≡ 0 → (x.start ≡ 0) × (x.size ≡ 0)

from-bare : (ls : List (List ℕ)) (n at : ℕ) (rs : List TaskRecord) → Bare (read_from (suc n) at rs ls)
unfolding read_from Bare refused_line
from-bare [] n at rs = λ _. ((finish-place rs).1, (finish-place rs).2)
from-bare (l ∷ ls) n at rs = read_step (suc n) at rs l ls Bare (λ _. from-bare ls (suc n) _ rs) (λ _ _. from-bare ls (suc n) _ _) (λ m _ _ e. clash n e)

pub shows-none : (bs : List ℕ) → (read_list bs).line ≡ 0 → ((read_list bs).start ≡ 0) × ((read_list bs).size ≡ 0) × (shown bs (read_list bs) ≡ [])
unfolding Bare shown refused_whole
shows-none bs e =
    let p = list-step Bare bs (λ _ _. (refl, refl)) (λ _. from-bare (lines bs) 0 0 []) e in
    (p.0, p.1, ap (λ n. take n (drop (read_list bs).start bs)) p.1)
