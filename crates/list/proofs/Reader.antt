-- What a byte does to the fields of a line: the first byte is get_or l 0 0 and the rest take (length l - 1) (drop 1 l).
use mathlib.Core.Bool.{Bool, true, false, ◌&&◌, and-false}
use mathlib.Core.List.{List, [], ◌∷◌, ◌++◌, append-nil, append_assoc, map, map-append}
use mathlib.Core.Path.{◌≡◌, refl, sym, ap, ◌∙◌}
use Prim.Native.Nat.{ℕ, suc, ◌+◌, ◌-◌, ◌≤◌, ◌<◌}
use native.Mathlib.Omega.{arith}
use Rattle.std.proofs.lemmas.Bool.Decides.{nat_tests}
use Rattle.std.proofs.lemmas.List.{take_rest}
use Rattle.std.specs.Prelude.{Option, Some, None, position}
use borrow.Author.Tests.{leb-true, lt-leb}
use lib.Dec.{leb}
use lib.ListN.{length, get_or, take, drop, length-append, length-map}
use lib.Seq.{take-length, append_snoc}
use Rattle.rules.specs.Lists.{all_of}
use Rattle.rules.proofs.Lists.{and_parts}
use Rattle.list.specs.declared.numbers.Digits.{Digits}
use Rattle.list.specs.Text.{parts_fields, words}
use Rattle.list.specs.Reading.{is_field, number}
use Rattle.list.specs.Inner.{Begun, fields_of, one_more}
use Rattle.list.proofs.Tests.{all_append}
use Rattle.list.proofs.Words.{front, behind, word_at, begins_field, field_none, field_at, field_starts, digits_word, begun_digits, field_longer}

-- ── some words ──────────────────────────────────────────────────────────────

-- some words are fields, nine at most, with these numbers
pub record Held (ns : List ℕ) (ws : List (List ℕ)) : Type 0 where
  pub all : all_of is_field ws ≡ true
  pub few : length ws ≤ 9
  pub numbers : ns ≡ map number ws

pub held : (ns : List ℕ) (ws : List (List ℕ)) → Some ns ≡ fields_of ws → Held ns ws
unfolding fields_of
held ns ws e = go (all_of is_field ws && leb (length ws) 9) refl
  where
    go : (t : Bool) → (all_of is_field ws && leb (length ws) 9) ≡ t → Held ns ws
    go true g =
        let k : ◌≡◌ {A = Option (List ℕ)} (Some ns) (Some (map number ws)) = e ∙ rw g in
        let p = and_parts (all_of is_field ws) (leb (length ws) 9) g in
        record { all = p.0; few = leb-true (length ws) 9 p.1; numbers = cc }
    go false g = let k : ◌≡◌ {A = Option (List ℕ)} (Some ns) None = e ∙ rw g in absurd cc

module _ (ns : List ℕ) (ws : List (List ℕ)) (e : Some ns ≡ fields_of ws) where
  long : length ns ≡ length ws
  long = ap length (held ns ws e).numbers ∙ length-map ws number

  -- a field more
  word-more : (w : List ℕ) → is_field w ≡ true → one_more ns (number w) ≡ fields_of (ws ++ w ∷ [])
  unfolding fields_of all_of
  word-more w g =
      let u = held ns ws e in
      rw (all_append is_field ws (w ∷ []), u.all, g, length-append ws (w ∷ []), map-append number ws (w ∷ []), ← u.numbers) (grind (arith, nat_tests, long))

  -- a tenth word
  word_tenth : (n : ℕ) (w : List ℕ) (vs : List (List ℕ)) → one_more ns n ≡ None → None ≡ fields_of (ws ++ w ∷ vs)
  unfolding fields_of
  word_tenth n w vs k =
      let m : 9 ≤ length ns = grind (arith, nat_tests) in
      rw (lt-leb (length (ws ++ w ∷ vs)) 9 (omega (arith, long, length-append ws (w ∷ vs))), and-false)

-- a word that is no field
word-bad : (ws vs : List (List ℕ)) (w : List ℕ) → is_field w ≡ false → None ≡ fields_of (ws ++ w ∷ vs)
unfolding fields_of all_of
word-bad ws vs w e = rw (all_append is_field ws (w ∷ vs), e, and-false)

-- ── a byte ──────────────────────────────────────────────────────────────────

-- what is left after the first byte
abbrev pub rest : List ℕ → List ℕ
rest l = take (length l - 1) (drop 1 l)

whole : (l : List ℕ) → 1 ≤ length l → l ≡ get_or l 0 0 ∷ rest l
whole [] n = absurd (omega arith)
whole (b ∷ l) n = let e : suc (length l) - 1 ≡ length l = omega arith in rw (e, take-length l)

nothing : (l : List ℕ) → length l < 1 → l ≡ []
nothing [] e = refl
nothing (b ∷ l) e = absurd (omega arith)

module _ (l : List ℕ) (n : 1 ≤ length l) where
  front-parted : parts_fields (get_or l 0 0) ≡ true → front l ≡ []
  unfolding front
  front-parted h = ap front (whole l n) ∙ rw h

  front-on : parts_fields (get_or l 0 0) ≡ false → front l ≡ get_or l 0 0 ∷ front (rest l)
  unfolding front
  front-on h = ap front (whole l n) ∙ rw h

  behind-parted : parts_fields (get_or l 0 0) ≡ true → behind l ≡ words (rest l)
  unfolding behind
  behind-parted h = ap behind (whole l n) ∙ rw h

-- ── in a field ──────────────────────────────────────────────────────────────

module _ (ns : List ℕ) (ws : List (List ℕ)) (p : List ℕ) (d : Digits) (e : Some ns ≡ fields_of ws) (b : Begun p d) (s : 0 < length p) (l : List ℕ) where
  here : words (p ++ l) ≡ (p ++ front l) ∷ behind l
  here = digits_word p l s (begun_digits p d 0 b)

  -- the field ends
  pub field_put : one_more ns d.value ≡ fields_of (ws ++ p ∷ [])
  field_put = rw (← b.worth) (word-more ns ws e p b.field)

  pub field_end : length l < 1 → one_more ns d.value ≡ fields_of (ws ++ words (p ++ l))
  unfolding front behind
  field_end z = rw (here, nothing l z, append-nil) field_put

  pub field_full : one_more ns d.value ≡ None → None ≡ fields_of (ws ++ words (p ++ l))
  field_full k = rw here (word_tenth ns ws e d.value (p ++ front l) (behind l) k)

  pub field_parted : 1 ≤ length l → parts_fields (get_or l 0 0) ≡ true → fields_of ((ws ++ p ∷ []) ++ words (rest l)) ≡ fields_of (ws ++ words (p ++ l))
  field_parted n h = rw (here, front-parted l n h, behind-parted l n h, append-nil, append_assoc)

  pub field_bad : 1 ≤ length l → parts_fields (get_or l 0 0) ≡ false → is_field (p ++ get_or l 0 0 ∷ []) ≡ false → None ≡ fields_of (ws ++ words (p ++ l))
  field_bad n h g = rw (here, front-on l n h) (word-bad ws (behind l) (p ++ get_or l 0 0 ∷ front (rest l)) (field_longer p (front (rest l)) (get_or l 0 0) g))

pub field_on : (ws : List (List ℕ)) (p l : List ℕ) → 1 ≤ length l → fields_of (ws ++ words ((p ++ get_or l 0 0 ∷ []) ++ rest l)) ≡ fields_of (ws ++ words (p ++ l))
field_on ws p l n = ap (λ (m : List ℕ). fields_of (ws ++ words m)) (append_snoc p (get_or l 0 0) (rest l) ∙ ap (λ (m : List ℕ). p ++ m) (sym (whole l n)))

-- ── between fields ──────────────────────────────────────────────────────────

pub gap_end : (ws : List (List ℕ)) (l : List ℕ) → position begins_field l ≡ None → fields_of ws ≡ fields_of (ws ++ words l)
gap_end ws l e = rw (field_none l e, append-nil)

module _ (ws : List (List ℕ)) (l : List ℕ) (i : ℕ) (e : position begins_field l ≡ Some i) where
  pub gap_bad : is_field (get_or l i 0 ∷ []) ≡ false → None ≡ fields_of (ws ++ words l)
  gap_bad h = rw (field_at l i e, word_at (get_or l i 0) (drop (i + 1) l) (field_starts l i e))
      (word-bad ws (behind (drop (i + 1) l)) (get_or l i 0 ∷ front (drop (i + 1) l)) (field_longer [] (front (drop (i + 1) l)) (get_or l i 0) h))

  pub gap_on : fields_of (ws ++ words (get_or l i 0 ∷ take (length l - (i + 1)) (drop (i + 1) l))) ≡ fields_of (ws ++ words l)
  gap_on = rw (field_at l i e, take_rest l (i + 1))

-- what a field and a gap give at their ends
pub ruleset end_laws = (field_end, field_full, gap_end, gap_bad)
