-- The words of a line in the code's terms: what a byte between fields does, and the word that some digits begin.
use mathlib.Core.Bool.{Bool, true, false, not, cond, ◌&&◌, ◌||◌, and-true, and-false}
use mathlib.Core.List.{List, [], ◌∷◌, ◌++◌}
use mathlib.Core.Path.{◌≡◌, refl, sym, ap, ◌∙◌}
use mathlib.Core.Logic.{◌⊎◌}
use Prim.Native.Nat.{ℕ, suc, ◌+◌, ◌-◌, ◌*◌, ◌≤◌, ◌<◌}
use native.Mathlib.Numerals.{add-one}
use native.Mathlib.Omega.{arith}
use borrow.Author.Tests.{not-true, ne_eqb, leb-true, leb-false, le-leb, lt-leb}
use lib.Dec.{leb}
use lib.ListN.{length, get_or, drop, drop_of_length-le, length-append}
use lib.Seq.{drop-cons}
use Rattle.rules.specs.Lists.{all_of, is_zero}
use Rattle.std.specs.Prelude.{Option, Some, None, position, is_none}
use Rattle.std.specs.List.{position_or_len}
use Rattle.std.proofs.lemmas.List.Quantifiers.{position-Some}
use Rattle.rules.proofs.Lists.{and_parts}
use Rattle.list.proofs.Tests.{all_append, position-at, position-none}
use Rattle.list.specs.declared.numbers.Digits.{Digits}
use Rattle.list.specs.Inner.{Begun}
use Rattle.std.proofs.lemmas.Bool.Decides.{nat_tests}
use Rattle.list.specs.Text.{parts_fields, at_gap, onto, words}
use Rattle.list.specs.Reading.{is_digit, is_field, number_from, number, is_comment, skipped}

-- ── a word and what is behind it ────────────────────────────────────────────

-- the bytes up to what parts fields
unfoldable pub front : List ℕ → List ℕ
front [] = []
front (b ∷ bs) = cond (parts_fields b) [] (b ∷ front bs)

-- the words behind those bytes
unfoldable pub behind : List ℕ → List (List ℕ)
behind [] = []
behind (b ∷ bs) = cond (parts_fields b) (words bs) (behind bs)

-- a byte that doesn't part fields begins a word
pub word_at : (b : ℕ) (bs : List ℕ) → parts_fields b ≡ false → words (b ∷ bs) ≡ (b ∷ front bs) ∷ behind bs
unfolding words at_gap front behind onto
word_at b [] e = rw e
word_at b (a ∷ bs) e = rw e (go (parts_fields a) refl (λ h. word_at a bs h))
  where
    go : (t : Bool) → parts_fields a ≡ t → (parts_fields a ≡ false → words (a ∷ bs) ≡ (a ∷ front bs) ∷ behind bs)
        → cond (parts_fields a) ((b ∷ []) ∷ words (a ∷ bs)) (onto b (words (a ∷ bs))) ≡ (b ∷ cond (parts_fields a) [] (a ∷ front bs)) ∷ cond (parts_fields a) (words bs) (behind bs)
    go true h f = rw h
    go false h f = rw (f h) (rw h)

-- ── gaps ────────────────────────────────────────────────────────────────────

-- a byte with which a field may begin
abbrev pub begins_field : ℕ → Bool
begins_field b = not (parts_fields b)

gap_over : (s : List ℕ) → words s ≡ words (drop (position_or_len begins_field s) s)
unfolding words
gap_over [] = refl
gap_over (b ∷ bs) = go (parts_fields b) refl (gap_over bs)
  where
    go : (t : Bool) → parts_fields b ≡ t → words bs ≡ words (drop (position_or_len begins_field bs) bs)
        → words (b ∷ bs) ≡ words (drop (position_or_len begins_field (b ∷ bs)) (b ∷ bs))
    go true e h = let k : 1 + position_or_len begins_field bs ≡ suc (position_or_len begins_field bs) = omega arith in rw (e, k) h
    go false e h = rw (e, e)

-- no field starts
pub field_none : (s : List ℕ) → position begins_field s ≡ None → words s ≡ []
unfolding words
field_none s e = gap_over s ∙ rw (drop_of_length-le s {i = position_or_len begins_field s} (position-none begins_field s e))

-- a field starts at a place, and no word before it
pub field_at : (s : List ℕ) (i : ℕ) → position begins_field s ≡ Some i → words s ≡ words (get_or s i 0 ∷ drop (i + 1) s)
field_at s i e =
    let p = position-at begins_field s i e in
    gap_over s ∙ rw (← p.0, drop-cons s i 0 p.1, add-one)

pub field_starts : (s : List ℕ) (i : ℕ) → position begins_field s ≡ Some i → parts_fields (get_or s i 0) ≡ false
field_starts s i e = not-true _ (position-Some begins_field s i 0 e).1

-- ── digits ──────────────────────────────────────────────────────────────────

-- a digit parts no fields
digit-inside : (b : ℕ) → is_digit b ≡ true → parts_fields b ≡ false
unfolding is_digit parts_fields
digit-inside b e = let h = leb-true 48 b (and_parts (leb 48 b) (leb b 57) e).0 in ne_eqb b 32 (omega arith)

-- digits before a text join its first word
front-digits : (p bs : List ℕ) → all_of is_digit p ≡ true → front (p ++ bs) ≡ p ++ front bs
unfolding front all_of
front-digits [] bs e = refl
front-digits (b ∷ p) bs e =
    rw (digit-inside b (and_parts (is_digit b) (all_of is_digit p) e).0, front-digits p bs (and_parts (is_digit b) (all_of is_digit p) e).1)

behind-digits : (p bs : List ℕ) → all_of is_digit p ≡ true → behind (p ++ bs) ≡ behind bs
unfolding behind all_of
behind-digits [] bs e = refl
behind-digits (b ∷ p) bs e =
    rw (digit-inside b (and_parts (is_digit b) (all_of is_digit p) e).0) (behind-digits p bs (and_parts (is_digit b) (all_of is_digit p) e).1)

-- the word that some digits begin
pub digits_word : (p bs : List ℕ) → 0 < length p → all_of is_digit p ≡ true → words (p ++ bs) ≡ (p ++ front bs) ∷ behind bs
unfolding all_of
digits_word [] bs n e = absurd (omega arith)
digits_word (b ∷ p) bs n e =
    let h : is_digit b ≡ true = (and_parts (is_digit b) (all_of is_digit p) e).0 in
    let k : all_of is_digit p ≡ true = (and_parts (is_digit b) (all_of is_digit p) e).1 in
    word_at b (p ++ bs) (digit-inside b h) ∙ rw (front-digits p bs k, behind-digits p bs k)

number_more : (v : ℕ) (p : List ℕ) (b : ℕ) → number_from v (p ++ b ∷ []) ≡ number_from v p * 10 + (b - 48)
unfolding number_from
number_more v [] b = refl
number_more v (a ∷ p) b = number_more (v * 10 + (a - 48)) p b

-- ── a field's beginning ─────────────────────────────────────────────────────

pub begun_none : (d : Digits) → d.count ≡ 0 → d.value ≡ 0 → Begun [] d
unfolding is_field all_of number number_from
begun_none d c v = record { field = refl; many = sym c; worth = sym v }

field-more : (p : List ℕ) (b : ℕ) → is_field (p ++ b ∷ []) ≡ ((all_of is_digit p && is_digit b) && leb (length p + 1) 4)
unfolding is_field all_of
field-more p b = rw (all_append is_digit p (b ∷ []), length-append p (b ∷ []), and-true)

module _ (p : List ℕ) (d : Digits) (b : ℕ) (h : Begun p d) where
  pub begun_digits : all_of is_digit p ≡ true
  unfolding is_field
  begun_digits = (and_parts (all_of is_digit p) (leb (length p) 4) h.field).0

  pub digit_other : (b < 48) ⊎ (57 < b) → is_field (p ++ b ∷ []) ≡ false
  unfolding is_digit
  digit_other k = field-more p b ∙ grind (arith, nat_tests)

  pub digit_fifth : d.count ≡ 4 → is_field (p ++ b ∷ []) ≡ false
  digit_fifth k = field-more p b ∙ rw (lt-leb (length p + 1) 4 (omega (arith, h.many)), and-false)

  pub digit_more : (e : Digits) → 48 ≤ b → b ≤ 57 → d.count < 4 → e.count ≡ d.count + 1 → e.value ≡ d.value * 10 + (b - 48) → Begun (p ++ b ∷ []) e
  unfolding is_digit number
  digit_more e low high few n v = record {
    field = field-more p b ∙ rw (begun_digits, le-leb 48 b low, le-leb b 57 high) (le-leb (length p + 1) 4 (omega (arith, h.many)));
    many = length-append p (b ∷ []) ∙ omega (arith, h.many);
    worth = number_more 0 p b ∙ rw h.worth (sym v);
  }

-- a word goes on as it begins
pub field_longer : (p bs : List ℕ) (b : ℕ) → is_field (p ++ b ∷ []) ≡ false → is_field (p ++ b ∷ bs) ≡ false
unfolding is_field all_of
field_longer p bs b e = rw (all_append is_digit p (b ∷ bs), length-append p (b ∷ bs)) (go (all_of is_digit p) (is_digit b) (rw (field-more p b) at e))
  where
    go : (t u : Bool) → ((t && u) && leb (length p + 1) 4) ≡ false → ((t && (u && all_of is_digit bs)) && leb (length p + suc (length bs)) 4) ≡ false
    go false u h = refl
    go true false h = refl
    go true true h = let k = leb-false (length p + 1) 4 h in rw (lt-leb (length p + suc (length bs)) 4 (omega arith), and-false)

-- ── skipped lines ───────────────────────────────────────────────────────────

pub skipped_tells : (l : List ℕ) → skipped l ≡ (is_comment l || is_none (position begins_field l))
unfolding skipped is_zero
skipped_tells l = ap (λ (t : Bool). is_comment l || t) (go (position begins_field l) refl)
  where
    go : (o : Option ℕ) → position begins_field l ≡ o → is_zero (length (words l)) ≡ is_none (position begins_field l)
    go None e = rw (e, field_none l e)
    go (Some i) e = rw (e, field_at l i e, word_at (get_or l i 0) (drop (i + 1) l) (field_starts l i e)) (ne_eqb (suc (length (behind (drop (i + 1) l)))) 0 (omega arith))
