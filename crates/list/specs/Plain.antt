-- The plain text of a set: lines of fields without leading zeros, one space between, each line ended by a line feed.
use Rattle.std.specs.Prelude.{cond, List, [], ◌∷◌, ◌++◌, map, ℕ, zero, suc, ◌+◌, ◌%◌, ◌/◌}
use Rattle.rules.specs.Lists.{is_zero}
use Rattle.rules.specs.Records.{TaskRecord, SetRecord, pattern_of, used}

-- the decimal digits of a number, at most k of them, with no leading zero
unfoldable pub digits_in : ℕ → ℕ → List ℕ
digits_in zero n = []
digits_in (suc k) n = cond (is_zero n) [] (digits_in k (n / 10) ++ (48 + n % 10) ∷ [])

-- four digits write every number that a set has
unfoldable pub digits : ℕ → List ℕ
digits n = digits_in 4 n

-- fields with one space between
unfoldable pub spaced : List (List ℕ) → List ℕ
spaced [] = []
spaced (w ∷ []) = w
spaced (w ∷ (v ∷ ws)) = w ++ 32 ∷ spaced (v ∷ ws)

unfoldable pub plain_line : TaskRecord → List ℕ
plain_line r = spaced (map digits (r.period ∷ r.deadline ∷ pattern_of r)) ++ 10 ∷ []

unfoldable pub plain_lines : List TaskRecord → List ℕ
plain_lines [] = []
plain_lines (r ∷ rs) = plain_line r ++ plain_lines rs

unfoldable pub plain_text : SetRecord → List ℕ
plain_text r = plain_lines (used r)
