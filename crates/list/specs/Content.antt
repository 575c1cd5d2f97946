-- The content of a text: what its lines say, without their numbers and places.
use Rattle.std.specs.Prelude.{Bool, true, not, cond, ◌||◌, List, [], ◌∷◌, map, ℕ}
use Rattle.std.proofs.Math.Option.{Option, some, none}
use Rattle.list.specs.Text.{ends_line, parts_fields, lines, words}
use Rattle.list.specs.Reading.{is_field, number, skipped}

-- a word: the number that it writes, if it is a field
unfoldable pub told : List ℕ → Option ℕ
told w = cond (is_field w) (some (number w)) none

-- the words of each line that is not skipped
unfoldable pub content_of : List (List ℕ) → List (List (Option ℕ))
content_of [] = []
content_of (l ∷ ls) = cond (skipped l) (content_of ls) (map told (words l) ∷ content_of ls)

unfoldable pub content : List ℕ → List (List (Option ℕ))
content bs = content_of (lines bs)

-- ── where a part of a text stands ───────────────────────────────────────────

-- a byte within a line
unfoldable pub in_line : ℕ → Bool
in_line b = not (ends_line b)

-- the byte before what follows a text: b if the text is empty
unfoldable pub last_or : ℕ → List ℕ → ℕ
last_or b [] = b
last_or b (c ∷ cs) = last_or c cs

-- a line starts behind this text
unfoldable pub starts_line : List ℕ → Bool
starts_line a = ends_line (last_or 10 a)

-- a word may start behind this text
unfoldable pub starts_word : List ℕ → Bool
starts_word a = ends_line (last_or 10 a) || parts_fields (last_or 10 a)

-- a word ends before this text
unfoldable pub ends_word : List ℕ → Bool
ends_word [] = true
ends_word (b ∷ bs) = ends_line b || parts_fields b
