-- Document 01, "The list": the lines of a text and the words of a line. A text is a list of bytes.
use Rattle.std.specs.Prelude.{Bool, true, cond, List, [], ◌∷◌, ℕ, eqb}

-- what ends a line: a line feed
unfoldable pub ends_line : ℕ → Bool
ends_line b = eqb b 10

-- what parts fields: a space
unfoldable pub parts_fields : ℕ → Bool
parts_fields b = eqb b 32

-- a byte before the first of some parts, which it joins
unfoldable pub onto : ℕ → List (List ℕ) → List (List ℕ)
onto b [] = (b ∷ []) ∷ []
onto b (l ∷ ls) = (b ∷ l) ∷ ls

-- "Lines end at a line feed; the last may lack one."
unfoldable pub lines : List ℕ → List (List ℕ)
lines [] = []
lines (b ∷ bs) = cond (ends_line b) ([] ∷ lines bs) (onto b (lines bs))

-- no field goes on here: the line's end, or what parts fields
unfoldable pub at_gap : List ℕ → Bool
at_gap [] = true
at_gap (b ∷ bs) = parts_fields b

-- "a line holds fields parted by spaces; leading and trailing spaces are allowed"
unfoldable pub words : List ℕ → List (List ℕ)
words [] = []
words (b ∷ bs) = cond (parts_fields b) (words bs) (cond (at_gap bs) ((b ∷ []) ∷ words bs) (onto b (words bs)))

-- all of the above, for proofs that compute
unfoldable pub open_text : Type 0
unfolding ends_line parts_fields onto lines at_gap words
open_text = Unit {0}
