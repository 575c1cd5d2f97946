-- The lines of a text by the place of its first line feed.
use mathlib.Core.Bool.{true, false, not, cond}
use mathlib.Core.List.{List, [], ◌∷◌}
use mathlib.Core.Path.{◌≡◌, refl, sym, ap, ◌∙◌}
use Prim.Native.Nat.{ℕ, suc, ◌+◌, ◌-◌, ◌<◌}
use native.Mathlib.Numerals.{unary_clauses, add-one}
use native.Mathlib.Omega.{arith}
use Rattle.std.specs.Prelude.{Some, None, position}
use Rattle.std.specs.List.{position_or_len}
use Rattle.std.proofs.lemmas.List.{take_rest}
use lib.ListN.{length, take, drop, drop_of_length-le}
use lib.Seq.{take_all, take-length, length-take-le}
use Rattle.list.proofs.Tests.{position-at, position-none}
use Rattle.list.specs.Text.{ends_line, onto, lines}
use Rattle.list.specs.Inner.{IsFirstLine}

lines_first : (s : List ℕ) → 0 < length s → lines s ≡ take (position_or_len ends_line s) s ∷ lines (drop (position_or_len ends_line s + 1) s)
unfolding lines onto
lines_first [] h = absurd (omega arith)
lines_first (b ∷ []) h = elim (ends_line b) as (λ t. let n = cond (not t) (1 + 0) 0 in
    cond t ([] ∷ []) ((b ∷ []) ∷ []) ≡ take n (b ∷ []) ∷ lines (drop (n + 1) (b ∷ []))) [ true ↦ refl | false ↦ refl ]
lines_first (b ∷ (a ∷ bs)) h =
    let e = lines_first (a ∷ bs) (omega arith) in
    let k : 1 + position_or_len ends_line (a ∷ bs) ≡ suc (position_or_len ends_line (a ∷ bs)) = omega arith in
    elim (ends_line b) as (λ t. let n = cond (not t) (1 + position_or_len ends_line (a ∷ bs)) 0 in
    cond t ([] ∷ lines (a ∷ bs)) (onto b (lines (a ∷ bs))) ≡ take n (b ∷ (a ∷ bs)) ∷ lines (drop (n + 1) (b ∷ (a ∷ bs)))) [ true ↦ refl | false ↦ rw k (simp unary_clauses (rw add-one at (ap (onto b) e))) ]

pub line_cut : (s : List ℕ) (i : ℕ) → position ends_line s ≡ Some i → IsFirstLine s (take i s) (take (length s - (i + 1)) (drop (i + 1) s))
line_cut s i e =
    let f = position-at ends_line s i e in
    let n : length (take i s) ≡ i = length-take-le i s (omega arith) in
    record { parts = λ h. rw (take_rest s (i + 1), f.0) (lines_first s h); line = rw n; behind = rw n (take_rest s (i + 1)) }

pub line_whole : (s : List ℕ) → position ends_line s ≡ None → IsFirstLine s s []
line_whole s e =
    let f = position-none ends_line s e in
    let z : drop (length s + 1) s ≡ [] = drop_of_length-le s (omega arith) in
    record {
      parts = λ h. lines_first s h ∙ rw (take_all (position_or_len ends_line s) s f, drop_of_length-le s {i = position_or_len ends_line s + 1} (omega arith));
      line = sym (take-length s);
      behind = sym z;
    }
