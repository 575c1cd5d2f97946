-- What the content of a text leaves out.
use mathlib.Core.Path.{◌≡◌, refl, sym, ap, ap₂, ◌∙◌}
use mathlib.Core.Logic.{⊎_elim}
use mathlib.Core.Bool.{Bool, true, false, cond, ◌&&◌, ◌||◌}
use mathlib.Core.List.{List, [], ◌∷◌, ◌++◌, map, append-nil}
use mathlib.Core.Option.{Option}
use Prim.Native.Nat.{ℕ, suc, ◌≤◌}
use native.Mathlib.Omega.{arith}
use borrow.Author.Tests.{not-true, ne_eqb, le-leb, eqb-true}
use lib.Dec.{eqb}
use lib.ListN.{length, length-map}
use Rattle.rules.specs.Lists.{all_of, is_zero}
use Rattle.rules.proofs.Lists.{clash-bool, and_parts}
use Rattle.list.specs.Text.{ends_line, parts_fields, onto, lines, at_gap, words}
use Rattle.list.specs.Reading.{is_digit, is_field, number_from, number, is_comment, skipped}
use Rattle.list.specs.Content.{told, content_of, content, in_line, last_or, starts_line, starts_word, ends_word}
use Rattle.list.proofs.Meaning.Lists.{decide, all-weaken}
use Rattle.list.proofs.Meaning.Text.{in_word, lines-first, words-gap, words-end, words-on, words-first}
use Rattle.list.proofs.Meaning.Plain.{digit-in_line, digit-in_word, no_hash, digit-no_hash}
use Rattle.list.proofs.Meaning.Content.{content-skip}

-- ── the first of some parts ─────────────────────────────────────────────────

unfoldable first_of : List (List ℕ) → List ℕ
first_of [] = []
first_of (l ∷ ls) = l

unfoldable rest_of : List (List ℕ) → List (List ℕ)
rest_of [] = []
rest_of (l ∷ ls) = ls

onto-split : (b : ℕ) (ls : List (List ℕ)) → onto b ls ≡ (b ∷ first_of ls) ∷ rest_of ls
unfolding onto first_of rest_of
onto-split b [] = refl
onto-split b (l ∷ ls) = refl

-- ── lines alike ─────────────────────────────────────────────────────────────

skipped-told : (l : List ℕ) → skipped l ≡ (is_comment l || is_zero (length (map told (words l))))
unfolding skipped
skipped-told l = rw (length-map (words l) told) refl

line-content : (l k : List ℕ) (ls ks : List (List ℕ)) → is_comment l ≡ is_comment k → map told (words l) ≡ map told (words k) → content_of ls ≡ content_of ks → content_of (l ∷ ls) ≡ content_of (k ∷ ks)
unfolding content_of
line-content l k ls ks c e r = rw (skipped-told l, skipped-told k, c, e, r) refl

-- two lines that say the same, whatever is put before both
record Alike (f g : List ℕ) : Type 0 where
  gap : at_gap f ≡ at_gap g
  comment : is_comment f ≡ is_comment g
  same : map told (words f) ≡ map told (words g)
  head : at_gap f ≡ false → first_of (words f) ≡ first_of (words g)
  tail : at_gap f ≡ false → map told (rest_of (words f)) ≡ map told (rest_of (words g))

alike_self : (f : List ℕ) → Alike f f
alike_self f = record { gap = refl; comment = refl; same = refl; head = λ _. refl; tail = λ _. refl }

words-joined : (b : ℕ) (f : List ℕ) → parts_fields b ≡ false → at_gap f ≡ false → words (b ∷ f) ≡ (b ∷ first_of (words f)) ∷ rest_of (words f)
words-joined b f e g = words-on b f e g ∙ onto-split b (words f)

-- behind a space, or anything else that ends a word, only the words count
alike-gap : (b : ℕ) (f g : List ℕ) → parts_fields b ≡ true → map told (words f) ≡ map told (words g) → Alike (b ∷ f) (b ∷ g)
unfolding at_gap is_comment
alike-gap b f g p e = record {
  gap = refl;
  comment = refl;
  same = rw (words-gap b f p, words-gap b g p) e;
  head = λ q. clash-bool (sym q ∙ p);
  tail = λ q. clash-bool (sym q ∙ p);
}

alike-on : (b : ℕ) (f g : List ℕ) → Alike f g → Alike (b ∷ f) (b ∷ g)
unfolding at_gap is_comment first_of rest_of
alike-on b f g a = ⊎_elim (λ p. alike-gap b f g p a.same) (λ p. ⊎_elim (λ q. end p q) (λ q. on p q) (decide (at_gap f))) (decide (parts_fields b))
  where
    end : parts_fields b ≡ false → at_gap f ≡ true → Alike (b ∷ f) (b ∷ g)
    end p q = let r : at_gap g ≡ true = sym a.gap ∙ q in record {
      gap = refl;
      comment = refl;
      same = rw (words-end b f p q, words-end b g p r) (ap (λ x. told (b ∷ []) ∷ x) a.same);
      head = λ _. rw (words-end b f p q, words-end b g p r) refl;
      tail = λ _. rw (words-end b f p q, words-end b g p r) a.same;
    }

    on : parts_fields b ≡ false → at_gap f ≡ false → Alike (b ∷ f) (b ∷ g)
    on p q = let r : at_gap g ≡ false = sym a.gap ∙ q in record {
      gap = refl;
      comment = refl;
      same = rw (words-joined b f p q, words-joined b g p r) (ap₂ {C = List (Option ℕ)} (λ w x. told (b ∷ w) ∷ x) (a.head q) (a.tail q));
      head = λ _. rw (words-joined b f p q, words-joined b g p r) (ap (λ w. b ∷ w) (a.head q));
      tail = λ _. rw (words-joined b f p q, words-joined b g p r) (a.tail q);
    }

-- ── texts alike ─────────────────────────────────────────────────────────────

record AlikeTexts (x y : List ℕ) : Type 0 where
  first : Alike (first_of (lines x)) (first_of (lines y))
  rest : content_of (rest_of (lines x)) ≡ content_of (rest_of (lines y))

content-first : (ls : List (List ℕ)) → content_of ls ≡ content_of (first_of ls ∷ rest_of ls)
unfolding content_of first_of rest_of skipped is_comment words is_zero
content-first [] = refl
content-first (l ∷ ls) = refl

-- texts whose first lines say the same
record SameWords (x y : List ℕ) : Type 0 where
  comment : is_comment (first_of (lines x)) ≡ is_comment (first_of (lines y))
  same : map told (words (first_of (lines x))) ≡ map told (words (first_of (lines y)))
  rest : content_of (rest_of (lines x)) ≡ content_of (rest_of (lines y))

words-content : (x y : List ℕ) → SameWords x y → content x ≡ content y
unfolding content
words-content x y s = content-first (lines x) ∙ line-content (first_of (lines x)) (first_of (lines y)) (rest_of (lines x)) (rest_of (lines y)) s.comment s.same s.rest ∙ sym (content-first (lines y))

alike-content : (x y : List ℕ) → AlikeTexts x y → content x ≡ content y
alike-content x y a = words-content x y (record { comment = a.first.comment; same = a.first.same; rest = a.rest })

lines-on : (b : ℕ) (x : List ℕ) → ends_line b ≡ false → lines (b ∷ x) ≡ (b ∷ first_of (lines x)) ∷ rest_of (lines x)
unfolding lines
lines-on b x e = rw e (onto-split b (lines x))

lines-feed : (b : ℕ) (x : List ℕ) → ends_line b ≡ true → lines (b ∷ x) ≡ [] ∷ lines x
unfolding lines
lines-feed b x e = rw e refl

-- behind a line feed only the content counts
texts-feed : (b : ℕ) (x y : List ℕ) → ends_line b ≡ true → content x ≡ content y → AlikeTexts (b ∷ x) (b ∷ y)
unfolding content first_of rest_of
texts-feed b x y e c = record { first = rw (lines-feed b x e, lines-feed b y e) (alike_self []); rest = rw (lines-feed b x e, lines-feed b y e) c }

texts-on : (b : ℕ) (x y : List ℕ) → AlikeTexts x y → AlikeTexts (b ∷ x) (b ∷ y)
unfolding first_of rest_of
texts-on b x y a = ⊎_elim (λ e. texts-feed b x y e (alike-content x y a))
    (λ e. record { first = rw (lines-on b x e, lines-on b y e) (alike-on b _ _ a.first); rest = rw (lines-on b x e, lines-on b y e) a.rest })
    (decide (ends_line b))

texts-behind : (a x y : List ℕ) → AlikeTexts x y → AlikeTexts (a ++ x) (a ++ y)
texts-behind [] x y e = e
texts-behind (b ∷ a) x y e = texts-on b (a ++ x) (a ++ y) (texts-behind a x y e)

behind : (a x y : List ℕ) → AlikeTexts x y → content (a ++ x) ≡ content (a ++ y)
behind a x y e = alike-content (a ++ x) (a ++ y) (texts-behind a x y e)

-- texts alike behind every byte that passes a test have one content behind every text that ends in such a byte
texts-last : (x y : List ℕ) (f : ℕ → Bool) → ((b : ℕ) → f b ≡ true → AlikeTexts (b ∷ x) (b ∷ y)) → (b : ℕ) (a : List ℕ) → f (last_or b a) ≡ true → AlikeTexts (b ∷ (a ++ x)) (b ∷ (a ++ y))
unfolding last_or
texts-last x y f h b [] e = h b e
texts-last x y f h b (c ∷ a) e = texts-on b (c ∷ (a ++ x)) (c ∷ (a ++ y)) (texts-last x y f h c a e)

behind-last : (x y : List ℕ) (f : ℕ → Bool) → ((b : ℕ) → f b ≡ true → AlikeTexts (b ∷ x) (b ∷ y)) → content x ≡ content y → (a : List ℕ) → f (last_or 10 a) ≡ true → content (a ++ x) ≡ content (a ++ y)
unfolding last_or
behind-last x y f h c [] e = c
behind-last x y f h c (b ∷ a) e = alike-content (b ∷ (a ++ x)) (b ∷ (a ++ y)) (texts-last x y f h b a e)

-- ── a line that is skipped ──────────────────────────────────────────────────

pub skipped-ignored : (a l b : List ℕ) → starts_line a ≡ true → all_of in_line l ≡ true → skipped l ≡ true → content (a ++ (l ++ 10 ∷ b)) ≡ content (a ++ b)
unfolding content starts_line
skipped-ignored a l b s i e =
    let c : content (l ++ 10 ∷ b) ≡ content b = ap content_of (lines-first l b i) ∙ content-skip l (lines b) e in
    behind-last (l ++ 10 ∷ b) b ends_line (λ d f. texts-feed d (l ++ 10 ∷ b) b f c) c a s

-- ── where a word starts ─────────────────────────────────────────────────────

texts-gap : (x y : List ℕ) → SameWords x y → (b : ℕ) → (ends_line b || parts_fields b) ≡ true → AlikeTexts (b ∷ x) (b ∷ y)
unfolding first_of rest_of
texts-gap x y s b e = ⊎_elim (λ f. texts-feed b x y f (words-content x y s))
    (λ f. record { first = rw (lines-on b x f, lines-on b y f) (alike-gap b _ _ (rw f at e) s.same); rest = rw (lines-on b x f, lines-on b y f) s.rest })
    (decide (ends_line b))

at-word : (a x y : List ℕ) → starts_word a ≡ true → SameWords x y → content (a ++ x) ≡ content (a ++ y)
unfolding starts_word
at-word a x y e s = behind-last x y (λ b. ends_line b || parts_fields b) (texts-gap x y s) (words-content x y s) a e

-- ── spaces ──────────────────────────────────────────────────────────────────

first-comment : (y : List ℕ) → is_comment y ≡ false → is_comment (first_of (lines y)) ≡ false
unfolding is_comment first_of lines
first-comment [] e = refl
first-comment (b ∷ y) e = ⊎_elim (λ f. rw (lines-feed b y f) refl) (λ f. rw (lines-on b y f) e) (decide (ends_line b))

space-same : (y : List ℕ) → is_comment y ≡ false → SameWords (32 ∷ y) y
unfolding is_comment first_of rest_of ends_line parts_fields
space-same y e = record {
  comment = rw (lines-on 32 y refl) (sym (first-comment y e));
  same = rw (lines-on 32 y refl, words-gap 32 (first_of (lines y)) refl) refl;
  rest = rw (lines-on 32 y refl) refl;
}

pub space-before : (a y : List ℕ) → starts_word a ≡ true → is_comment y ≡ false → content (a ++ 32 ∷ y) ≡ content (a ++ y)
space-before a y s e = at-word a (32 ∷ y) y s (space-same y e)

-- a line before whose start a word ends starts at a gap
gap-first : (y : List ℕ) → ends_word y ≡ true → at_gap (first_of (lines y)) ≡ true
unfolding ends_word at_gap first_of lines
gap-first [] e = refl
gap-first (b ∷ y) e = ⊎_elim (λ f. rw (lines-feed b y f) refl) (λ f. rw (lines-on b y f) (rw f at e)) (decide (ends_line b))

gap-comment : (f : List ℕ) → at_gap f ≡ true → is_comment f ≡ false
unfolding at_gap is_comment parts_fields
gap-comment [] e = refl
gap-comment (b ∷ f) e = let h = eqb-true b 32 e in ne_eqb b 35 (omega arith)

space-alike : (f : List ℕ) → at_gap f ≡ true → Alike (32 ∷ f) f
unfolding at_gap is_comment parts_fields
space-alike f e = record {
  gap = sym e;
  comment = sym (gap-comment f e);
  same = rw (words-gap 32 f refl) refl;
  head = λ q. clash-bool (sym q);
  tail = λ q. clash-bool (sym q);
}

space-texts : (y : List ℕ) → ends_word y ≡ true → AlikeTexts (32 ∷ y) y
unfolding first_of rest_of ends_line
space-texts y e = record { first = rw (lines-on 32 y refl) (space-alike (first_of (lines y)) (gap-first y e)); rest = rw (lines-on 32 y refl) refl }

pub space-after : (a y : List ℕ) → ends_word y ≡ true → content (a ++ 32 ∷ y) ≡ content (a ++ y)
space-after a y e = behind a (32 ∷ y) y (space-texts y e)

-- ── leading zeros ───────────────────────────────────────────────────────────

pub zero_number : (w : List ℕ) → number (48 ∷ w) ≡ number w
unfolding number number_from
zero_number w = refl

zero_field : (w : List ℕ) → length w ≤ 3 → is_field (48 ∷ w) ≡ is_field w
unfolding is_field all_of is_digit
zero_field w h = ap (λ b. all_of is_digit w && b) (le-leb (suc (length w)) 4 (omega arith) ∙ sym (le-leb (length w) 4 (omega arith)))

zero-told : (w : List ℕ) → length w ≤ 3 → told (48 ∷ w) ≡ told w
unfolding told
zero-told w h = rw (zero_field w h, zero_number w) refl

-- a word in front of a text stands in front of its first line
lines-word : (w b : List ℕ) → 1 ≤ length w → all_of in_line w ≡ true → lines (w ++ b) ≡ (w ++ first_of (lines b)) ∷ rest_of (lines b)
unfolding all_of in_line first_of rest_of
lines-word [] b h e = let z : ⊥ = omega arith in absurd z
lines-word (c ∷ []) b h e = lines-on c b (not-true (ends_line c) (and_parts (in_line c) _ e).0)
lines-word (c ∷ (d ∷ w)) b h e =
    let p = and_parts (in_line c) _ e in
    lines-on c (d ∷ (w ++ b)) (not-true (ends_line c) p.0) ∙ ap (λ ls. (c ∷ first_of ls) ∷ rest_of ls) (lines-word (d ∷ w) b (omega arith) p.1)

module _ (w b : List ℕ) (some : 1 ≤ length w) (digits : all_of is_digit w ≡ true) (end : ends_word b ≡ true) where
  digits-line : lines (w ++ b) ≡ (w ++ first_of (lines b)) ∷ rest_of (lines b)
  digits-line = lines-word w b some (all-weaken is_digit in_line digit-in_line w digits)

  digits-first : words (w ++ first_of (lines b)) ≡ w ∷ words (first_of (lines b))
  digits-first = words-first w (first_of (lines b)) some (all-weaken is_digit in_word digit-in_word w digits) (gap-first b end)

digits-comment : (w f : List ℕ) → 1 ≤ length w → all_of is_digit w ≡ true → is_comment (w ++ f) ≡ false
unfolding is_comment all_of no_hash
digits-comment [] f h e = let z : ⊥ = omega arith in absurd z
digits-comment (b ∷ w) f h e = not-true (eqb b 35) (digit-no_hash b (and_parts (is_digit b) _ e).0)

zero-digits : (w : List ℕ) → all_of is_digit w ≡ true → all_of is_digit (48 ∷ w) ≡ true
unfolding all_of is_digit
zero-digits w e = e

zero_same : (w b : List ℕ) → 1 ≤ length w → length w ≤ 3 → all_of is_digit w ≡ true → ends_word b ≡ true → SameWords (48 ∷ (w ++ b)) (w ++ b)
unfolding first_of rest_of
zero_same w b h k e n =
    let z : all_of is_digit (48 ∷ w) ≡ true = zero-digits w e in
    let x = digits-line (48 ∷ w) b (omega arith) z n in
    let y = digits-line w b h e n in
    record {
      comment = rw (x, y) (digits-comment (48 ∷ w) (first_of (lines b)) (omega arith) z ∙ sym (digits-comment w (first_of (lines b)) h e));
      same = rw (x, y, digits-first (48 ∷ w) b (omega arith) z n, digits-first w b h e n) (ap (λ t. t ∷ map told (words (first_of (lines b)))) (zero-told w k));
      rest = rw (x, y) refl;
    }

pub zero-ignored : (a w b : List ℕ) → starts_word a ≡ true → 1 ≤ length w → length w ≤ 3 → all_of is_digit w ≡ true → ends_word b ≡ true → content (a ++ 48 ∷ (w ++ b)) ≡ content (a ++ (w ++ b))
zero-ignored a w b s h k e n = at-word a (48 ∷ (w ++ b)) (w ++ b) s (zero_same w b h k e n)

-- ── the last line feed ──────────────────────────────────────────────────────

last-lines-on : (b : ℕ) (bs : List ℕ) → ends_line (last_or b bs) ≡ false → lines (b ∷ (bs ++ 10 ∷ [])) ≡ lines (b ∷ bs)
unfolding lines last_or ends_line onto
last-lines-on b [] e = rw e refl
last-lines-on b (c ∷ bs) e = ap (λ ls. cond (ends_line b) ([] ∷ ls) (onto b ls)) (last-lines-on c bs e)

pub last-lines : (bs : List ℕ) → starts_line bs ≡ false → lines (bs ++ 10 ∷ []) ≡ lines bs
unfolding starts_line last_or ends_line
last-lines [] e = clash-bool (sym e)
last-lines (b ∷ bs) e = last-lines-on b bs e

last-texts : AlikeTexts (10 ∷ []) []
unfolding first_of rest_of lines ends_line
last-texts = record { first = alike_self []; rest = refl }

pub last-ignored : (a : List ℕ) → content (a ++ 10 ∷ []) ≡ content a
last-ignored a = behind a (10 ∷ []) [] last-texts ∙ ap content (append-nil a)
