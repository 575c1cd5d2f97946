-- What is said of a refused list.
use mathlib.Core.Path.{◌≡◌, refl}
use mathlib.Core.Logic.{◌↔◌}
use mathlib.Core.Bool.{Bool, true, false, cond}
use mathlib.Core.List.{List, [], ◌∷◌, ◌++◌}
use Prim.Native.Nat.{ℕ, ◌+◌, ◌≤◌}
use native.Mathlib.Omega.{arith}
use borrow.Author.Tests.{eq-eqb, ne_eqb, eqb-true}
use lib.Dec.{eqb}
use lib.ListN.{length, take, drop, length-append, length-take, length-drop}
use Rattle.std.specs.Prelude.{Ok, Err}
use Rattle.rules.specs.Lists.{is_zero}
use Rattle.tasks.specs.declared.TaskSet.{TaskSet}
use Rattle.tasks.specs.Refusals.{number_of}
use Rattle.tasks.proofs.Refusals.{number-some}
use Rattle.list.specs.Reading.{read_list, reply_of, shown}
use Rattle.list.specs.declared.Refused.{Refused}
use Rattle.report.specs.Texts.{decimal}
use Rattle.report.specs.Put.{PutCut}
use Rattle.report.specs.Adds.{Adds}
use Rattle.report.specs.declared.write.Text.{Text}
use Rattle.report.specs.Help.{too_long, misformed, out_of_range, late, miscounted, too_high, sentence, place, explained, explanation}
use Rattle.report.proofs.Put.{cut-more, cut-none}
use Rattle.report.proofs.Adds.{adds-more}
use Rattle.report.proofs.Numbers.{decimal-length}

-- ── the line ────────────────────────────────────────────────────────────────

pub place-text : {a b c d e f : Text} (n : ℕ) (line : List ℕ) → Adds a (76 ∷ 105 ∷ 110 ∷ 101 ∷ 32 ∷ []) b → Adds b (decimal n) c → Adds c (58 ∷ 32 ∷ []) d → Adds d line e → Adds e (10 ∷ []) f
    → Adds a (place n line) f
unfolding place
place-text n line A B C D E = adds-more _ _ (adds-more _ _ (adds-more _ _ (adds-more _ _ A B) C) D) E

-- ── the whole ───────────────────────────────────────────────────────────────

pub explain-none : (bs : List ℕ) (set : TaskSet) (o : List ℕ) → reply_of (Ok set) ≡ read_list bs → PutCut o 0 (explanation bs) 0 o
unfolding explanation explained is_zero reply_of
explain-none bs set o e = rw (← e) (cut-none o 0 (omega arith))

module _ (bs : List ℕ) (x : Refused) (e : reply_of (Err x) ≡ read_list bs) {o : List ℕ} {r : ℕ} {p : List ℕ} (P : PutCut o 0 (sentence (number_of x.why)) r p) where
  pub explain-whole : x.line ≡ 0 → PutCut o 0 (explanation bs) r p
  unfolding explanation explained is_zero reply_of
  explain-whole l = rw (← e, ne_eqb (number_of x.why) 0 (number-some x.why), eq-eqb x.line 0 l) P

  pub explain-line : {s : ℕ} {q : List ℕ} → (x.line ≡ 0 → ⊥) → x.text.now ≡ shown bs (read_list bs) → PutCut p r (place x.line x.text.now) s q → PutCut o 0 (explanation bs) s q
  unfolding explanation explained is_zero reply_of
  explain-line l k Q = rw (← k) (rw (← e, ne_eqb (number_of x.why) 0 (number-some x.why), ne_eqb x.line 0 l) (cut-more _ _ P Q))

-- ── nothing is said exactly if the list is accepted ─────────────────────────

sentence-some : (n : ℕ) → 1 ≤ length (sentence n)
unfolding sentence too_long misformed out_of_range late miscounted too_high
sentence-some n = go (eqb n 1) (eqb n 2) (eqb n 3) (eqb n 4) (eqb n 5)
  where
    go : (a b c d e : Bool) → 1 ≤ length (cond a too_long (cond b misformed (cond c out_of_range (cond d late (cond e miscounted too_high)))))
    go true b c d e = omega arith
    go false true c d e = omega arith
    go false false true d e = omega arith
    go false false false true e = omega arith
    go false false false false true = omega arith
    go false false false false false = omega arith

pub silent : (bs : List ℕ) → (length (explanation bs) ≡ 0) ↔ ((read_list bs).refusal ≡ 0)
unfolding explanation explained is_zero
silent bs = (λ h. quiet (eqb (read_list bs).refusal 0) refl (eqb (read_list bs).line 0) h, λ h. rw (eq-eqb (read_list bs).refusal 0 h) refl)
  where
    quiet : (b : Bool) → eqb (read_list bs).refusal 0 ≡ b → (c : Bool)
        → length (cond b [] (cond c (sentence (read_list bs).refusal) (sentence (read_list bs).refusal ++ place (read_list bs).line (shown bs (read_list bs))))) ≡ 0 → (read_list bs).refusal ≡ 0
    quiet true e c h = eqb-true (read_list bs).refusal 0 e
    quiet false e true h = let s = sentence-some (read_list bs).refusal in absurd (omega arith)
    quiet false e false h =
        let s = sentence-some (read_list bs).refusal in
        let l = length-append (sentence (read_list bs).refusal) (place (read_list bs).line (shown bs (read_list bs))) in
        absurd (omega arith)

-- ── how long it is ──────────────────────────────────────────────────────────

sentence-few : (n : ℕ) → length (sentence n) ≤ 131
unfolding sentence too_long misformed out_of_range late miscounted too_high
sentence-few n = go (eqb n 1) (eqb n 2) (eqb n 3) (eqb n 4) (eqb n 5)
  where
    go : (a b c d e : Bool) → length (cond a too_long (cond b misformed (cond c out_of_range (cond d late (cond e miscounted too_high))))) ≤ 131
    go true b c d e = omega arith
    go false true c d e = omega arith
    go false false true d e = omega arith
    go false false false true e = omega arith
    go false false false false true = omega arith
    go false false false false false = omega arith

place-few : (n : ℕ) (line : List ℕ) → length (place n line) ≤ length line + 28
unfolding place
place-few n line =
    let d = decimal-length n in
    let a = length-append ((76 ∷ 105 ∷ 110 ∷ 101 ∷ 32 ∷ []) ++ decimal n ++ (58 ∷ 32 ∷ []) ++ line) (10 ∷ []) in
    let b = length-append ((76 ∷ 105 ∷ 110 ∷ 101 ∷ 32 ∷ []) ++ decimal n ++ (58 ∷ 32 ∷ [])) line in
    let c = length-append ((76 ∷ 105 ∷ 110 ∷ 101 ∷ 32 ∷ []) ++ decimal n) (58 ∷ 32 ∷ []) in
    let e = length-append (76 ∷ 105 ∷ 110 ∷ 101 ∷ 32 ∷ []) (decimal n) in
    omega arith

pub explanation-length : (bs : List ℕ) → length bs ≤ 4097 → length (explanation bs) ≤ 4300
unfolding explanation explained shown
explanation-length bs h = go (is_zero (read_list bs).refusal) (is_zero (read_list bs).line)
  where
    go : (b c : Bool) → length (cond b [] (cond c (sentence (read_list bs).refusal) (sentence (read_list bs).refusal ++ place (read_list bs).line (take (read_list bs).size (drop (read_list bs).start bs))))) ≤ 4300
    go true c = omega arith
    go false true = let s = sentence-few (read_list bs).refusal in omega arith
    go false false =
        let s = sentence-few (read_list bs).refusal in
        let p = place-few (read_list bs).line (take (read_list bs).size (drop (read_list bs).start bs)) in
        let t = length-take {A = ℕ} (read_list bs).size (drop (read_list bs).start bs) in
        let d = length-drop (read_list bs).start bs in
        let l = length-append (sentence (read_list bs).refusal) (place (read_list bs).line (take (read_list bs).size (drop (read_list bs).start bs))) in
        omega arith
