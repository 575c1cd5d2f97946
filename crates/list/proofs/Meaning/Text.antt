-- Laws of lines and words.
use mathlib.Core.Path.{◌≡◌, refl, sym, ap, ◌∙◌}
use mathlib.Core.Logic.{⊎_elim}
use mathlib.Core.Bool.{Bool, true, false, not, ◌&&◌}
use mathlib.Core.List.{List, [], ◌∷◌, ◌++◌, append-nil}
use Prim.Native.Nat.{ℕ, suc, ◌≤◌}
use native.Mathlib.Omega.{arith}
use borrow.Author.Tests.{not-true, leb-true}
use lib.Dec.{leb}
use lib.ListN.{length, take, drop}
use Rattle.rules.specs.Lists.{all_of}
use Rattle.rules.proofs.Lists.{clash, and_parts}
use Rattle.list.specs.Text.{ends_line, parts_fields, onto, lines, at_gap, words}
use Rattle.list.specs.Plain.{spaced}
use Rattle.list.specs.Content.{in_line}
use Rattle.list.proofs.Meaning.Lists.{decide}

-- ── lines ───────────────────────────────────────────────────────────────────

-- a line up to its line feed comes first
pub lines-first : (l rest : List ℕ) → all_of in_line l ≡ true → lines (l ++ 10 ∷ rest) ≡ l ∷ lines rest
unfolding lines all_of ends_line onto in_line
lines-first [] rest e = refl
lines-first (b ∷ l) rest e =
    let a = and_parts (in_line b) (all_of in_line l) e in
    rw (not-true (ends_line b) a.0, lines-first l rest a.1) refl

-- only the empty text has no line
lines_none : (bs : List ℕ) → lines bs ≡ [] → bs ≡ []
unfolding lines onto
lines_none [] e = refl
lines_none (b ∷ bs) e = ⊎_elim (λ t. cons-clash _ _ (rw t at e)) (λ t. onto-clash b (lines bs) (rw t at e)) (decide (ends_line b))
  where
    cons-clash : {A : Type 0} {C : Type 0} (x : A) (xs : List A) → x ∷ xs ≡ [] → C
    cons-clash x xs e = clash (length xs) (ap length e)

    onto-clash : {C : Type 0} (b : ℕ) (ls : List (List ℕ)) → onto b ls ≡ [] → C
    onto-clash b [] e = clash 0 (ap length e)
    onto-clash b (l ∷ ls) e = clash (length ls) (ap length e)

-- the first line stands at the text's start, and the other lines are those of what follows its line feed
pub lines_split : (bs l : List ℕ) (ls : List (List ℕ)) → lines bs ≡ l ∷ ls → (take (length l) bs ≡ l) × (lines (drop (suc (length l)) bs) ≡ ls)
unfolding lines onto
lines_split [] l ls e = clash (length ls) (sym (ap length e))
lines_split (b ∷ bs) l ls e = ⊎_elim (λ t. feed (rw t at e)) (λ t. more (lines bs) refl (rw t at e) (lines_split bs)) (decide (ends_line b))
  where
    feed : [] ∷ lines bs ≡ l ∷ ls → (take (length l) (b ∷ bs) ≡ l) × (lines (drop (suc (length l)) (b ∷ bs)) ≡ ls)
    feed e = let p : [] ≡ l = cc in let q : lines bs ≡ ls = cc in rw (← p) (refl, q)

    more : (ks : List (List ℕ)) → lines bs ≡ ks → onto b ks ≡ l ∷ ls
        → ((l : List ℕ) (ls : List (List ℕ)) → lines bs ≡ l ∷ ls → (take (length l) bs ≡ l) × (lines (drop (suc (length l)) bs) ≡ ls))
        → (take (length l) (b ∷ bs) ≡ l) × (lines (drop (suc (length l)) (b ∷ bs)) ≡ ls)
    more [] k e ih = let p : b ∷ [] ≡ l = cc in let q : [] ≡ ls = cc in let n = lines_none bs k in rw (← p, ← q, n) (refl, refl)
    more (k ∷ ks) f e ih = let p : b ∷ k ≡ l = cc in let q : ks ≡ ls = cc in let r = ih k ks f in rw (← p, ← q) (ap (λ x. b ∷ x) r.0, r.1)

-- ── words ───────────────────────────────────────────────────────────────────

-- a byte within a word
unfoldable pub in_word : ℕ → Bool
in_word b = not (parts_fields b)

pub words-gap : (b : ℕ) (l : List ℕ) → parts_fields b ≡ true → words (b ∷ l) ≡ words l
unfolding words
words-gap b l e = rw e refl

pub words-end : (b : ℕ) (l : List ℕ) → parts_fields b ≡ false → at_gap l ≡ true → words (b ∷ l) ≡ (b ∷ []) ∷ words l
unfolding words
words-end b l e g = rw (e, g) refl

pub words-on : (b : ℕ) (l : List ℕ) → parts_fields b ≡ false → at_gap l ≡ false → words (b ∷ l) ≡ onto b (words l)
unfolding words
words-on b l e g = rw (e, g) refl

-- bytes that no space parts are one word, up to a gap
pub words-first : (w rest : List ℕ) → 1 ≤ length w → all_of in_word w ≡ true → at_gap rest ≡ true → words (w ++ rest) ≡ w ∷ words rest
unfolding at_gap all_of in_word onto
words-first [] rest h e g = let z : ⊥ = omega arith in absurd z
words-first (b ∷ []) rest h e g = let a = and_parts (in_word b) _ e in words-end b rest (not-true (parts_fields b) a.0) g
words-first (b ∷ (c ∷ w)) rest h e g =
    let a = and_parts (in_word b) _ e in
    let d = and_parts (in_word c) _ a.1 in
    words-on b (c ∷ (w ++ rest)) (not-true (parts_fields b) a.0) (not-true (parts_fields c) d.0) ∙ ap (onto b) (words-first (c ∷ w) rest (omega arith) a.1 g)

-- a word: some bytes, none a space
unfoldable pub is_word : List ℕ → Bool
is_word w = leb 1 (length w) && all_of in_word w

word_first : (w rest : List ℕ) → is_word w ≡ true → at_gap rest ≡ true → words (w ++ rest) ≡ w ∷ words rest
unfolding is_word
word_first w rest e g = let a = and_parts (leb 1 (length w)) _ e in words-first w rest (leb-true 1 (length w) a.0) a.1 g

pub words-spaced : (ws : List (List ℕ)) → all_of is_word ws ≡ true → words (spaced ws) ≡ ws
unfolding spaced all_of words at_gap parts_fields
words-spaced [] e = refl
words-spaced (w ∷ []) e = ap words (sym (append-nil w)) ∙ word_first w [] (and_parts (is_word w) _ e).0 refl
words-spaced (w ∷ (v ∷ ws)) e =
    let a = and_parts (is_word w) _ e in
    word_first w (32 ∷ spaced (v ∷ ws)) a.0 refl ∙ ap (λ x. w ∷ x) (words-spaced (v ∷ ws) a.1)
