-- What `explain` says of a refused list, for a person who typed it.
use Rattle.std.specs.Prelude.{cond, List, [], ◌∷◌, ◌++◌, ℕ, eqb}
use Rattle.rules.specs.Lists.{is_zero}
use Rattle.list.specs.Reading.{ReadReply, read_list, shown}
use Rattle.report.specs.Texts.{decimal}

-- 1: The list is longer than 4096 bytes.
unfoldable pub too_long : List ℕ
too_long = 84 ∷ 104 ∷ 101 ∷ 32 ∷ 108 ∷ 105 ∷ 115 ∷ 116 ∷ 32 ∷ 105 ∷ 115 ∷ 32 ∷ 108 ∷ 111 ∷ 110 ∷ 103 ∷ 101 ∷ 114 ∷ 32 ∷ 116 ∷ 104 ∷ 97 ∷ 110 ∷ 32 ∷ 52 ∷ 48 ∷ 57 ∷ 54 ∷ 32 ∷ 98 ∷ 121 ∷ 116 ∷ 101 ∷ 115 ∷ 46 ∷ 10 ∷ []

-- 2: A line must hold 3, 5, 7 or 9 numbers of 1 to 4 digits with only spaces between: period, deadline, then steps and waits in turn.
unfoldable pub misformed : List ℕ
misformed = 65 ∷ 32 ∷ 108 ∷ 105 ∷ 110 ∷ 101 ∷ 32 ∷ 109 ∷ 117 ∷ 115 ∷ 116 ∷ 32 ∷ 104 ∷ 111 ∷ 108 ∷ 100 ∷ 32 ∷ 51 ∷ 44 ∷ 32 ∷ 53 ∷ 44 ∷ 32 ∷ 55 ∷ 32 ∷ 111 ∷ 114 ∷ 32 ∷ 57 ∷ 32 ∷ 110 ∷ 117 ∷ 109 ∷ 98 ∷ 101 ∷ 114 ∷ 115 ∷ 32 ∷ 111 ∷ 102 ∷ 32 ∷ 49 ∷ 32 ∷ 116 ∷ 111 ∷ 32 ∷ 52 ∷ 32 ∷ 100 ∷ 105 ∷ 103 ∷ 105 ∷ 116 ∷ 115 ∷ 32 ∷ 119 ∷ 105 ∷ 116 ∷ 104 ∷ 32 ∷ 111 ∷ 110 ∷ 108 ∷ 121 ∷ 32 ∷ 115 ∷ 112 ∷ 97 ∷ 99 ∷ 101 ∷ 115 ∷ 32 ∷ 98 ∷ 101 ∷ 116 ∷ 119 ∷ 101 ∷ 101 ∷ 110 ∷ 58 ∷ 32 ∷ 112 ∷ 101 ∷ 114 ∷ 105 ∷ 111 ∷ 100 ∷ 44 ∷ 32 ∷ 100 ∷ 101 ∷ 97 ∷ 100 ∷ 108 ∷ 105 ∷ 110 ∷ 101 ∷ 44 ∷ 32 ∷ 116 ∷ 104 ∷ 101 ∷ 110 ∷ 32 ∷ 115 ∷ 116 ∷ 101 ∷ 112 ∷ 115 ∷ 32 ∷ 97 ∷ 110 ∷ 100 ∷ 32 ∷ 119 ∷ 97 ∷ 105 ∷ 116 ∷ 115 ∷ 32 ∷ 105 ∷ 110 ∷ 32 ∷ 116 ∷ 117 ∷ 114 ∷ 110 ∷ 46 ∷ 10 ∷ []

-- 3: A number is out of range: period and deadline must be 1 to 4096, each step and wait 1 to 255.
unfoldable pub out_of_range : List ℕ
out_of_range = 65 ∷ 32 ∷ 110 ∷ 117 ∷ 109 ∷ 98 ∷ 101 ∷ 114 ∷ 32 ∷ 105 ∷ 115 ∷ 32 ∷ 111 ∷ 117 ∷ 116 ∷ 32 ∷ 111 ∷ 102 ∷ 32 ∷ 114 ∷ 97 ∷ 110 ∷ 103 ∷ 101 ∷ 58 ∷ 32 ∷ 112 ∷ 101 ∷ 114 ∷ 105 ∷ 111 ∷ 100 ∷ 32 ∷ 97 ∷ 110 ∷ 100 ∷ 32 ∷ 100 ∷ 101 ∷ 97 ∷ 100 ∷ 108 ∷ 105 ∷ 110 ∷ 101 ∷ 32 ∷ 109 ∷ 117 ∷ 115 ∷ 116 ∷ 32 ∷ 98 ∷ 101 ∷ 32 ∷ 49 ∷ 32 ∷ 116 ∷ 111 ∷ 32 ∷ 52 ∷ 48 ∷ 57 ∷ 54 ∷ 44 ∷ 32 ∷ 101 ∷ 97 ∷ 99 ∷ 104 ∷ 32 ∷ 115 ∷ 116 ∷ 101 ∷ 112 ∷ 32 ∷ 97 ∷ 110 ∷ 100 ∷ 32 ∷ 119 ∷ 97 ∷ 105 ∷ 116 ∷ 32 ∷ 49 ∷ 32 ∷ 116 ∷ 111 ∷ 32 ∷ 50 ∷ 53 ∷ 53 ∷ 46 ∷ 10 ∷ []

-- 4: The deadline must not be greater than the period.
unfoldable pub late : List ℕ
late = 84 ∷ 104 ∷ 101 ∷ 32 ∷ 100 ∷ 101 ∷ 97 ∷ 100 ∷ 108 ∷ 105 ∷ 110 ∷ 101 ∷ 32 ∷ 109 ∷ 117 ∷ 115 ∷ 116 ∷ 32 ∷ 110 ∷ 111 ∷ 116 ∷ 32 ∷ 98 ∷ 101 ∷ 32 ∷ 103 ∷ 114 ∷ 101 ∷ 97 ∷ 116 ∷ 101 ∷ 114 ∷ 32 ∷ 116 ∷ 104 ∷ 97 ∷ 110 ∷ 32 ∷ 116 ∷ 104 ∷ 101 ∷ 32 ∷ 112 ∷ 101 ∷ 114 ∷ 105 ∷ 111 ∷ 100 ∷ 46 ∷ 10 ∷ []

-- 5: A list must have 1 to 8 tasks: there is none, or the line shown is a ninth.
unfoldable pub miscounted : List ℕ
miscounted = 65 ∷ 32 ∷ 108 ∷ 105 ∷ 115 ∷ 116 ∷ 32 ∷ 109 ∷ 117 ∷ 115 ∷ 116 ∷ 32 ∷ 104 ∷ 97 ∷ 118 ∷ 101 ∷ 32 ∷ 49 ∷ 32 ∷ 116 ∷ 111 ∷ 32 ∷ 56 ∷ 32 ∷ 116 ∷ 97 ∷ 115 ∷ 107 ∷ 115 ∷ 58 ∷ 32 ∷ 116 ∷ 104 ∷ 101 ∷ 114 ∷ 101 ∷ 32 ∷ 105 ∷ 115 ∷ 32 ∷ 110 ∷ 111 ∷ 110 ∷ 101 ∷ 44 ∷ 32 ∷ 111 ∷ 114 ∷ 32 ∷ 116 ∷ 104 ∷ 101 ∷ 32 ∷ 108 ∷ 105 ∷ 110 ∷ 101 ∷ 32 ∷ 115 ∷ 104 ∷ 111 ∷ 119 ∷ 110 ∷ 32 ∷ 105 ∷ 115 ∷ 32 ∷ 97 ∷ 32 ∷ 110 ∷ 105 ∷ 110 ∷ 116 ∷ 104 ∷ 46 ∷ 10 ∷ []

-- 6: The least common multiple of the periods must be at most 4096.
unfoldable pub too_high : List ℕ
too_high = 84 ∷ 104 ∷ 101 ∷ 32 ∷ 108 ∷ 101 ∷ 97 ∷ 115 ∷ 116 ∷ 32 ∷ 99 ∷ 111 ∷ 109 ∷ 109 ∷ 111 ∷ 110 ∷ 32 ∷ 109 ∷ 117 ∷ 108 ∷ 116 ∷ 105 ∷ 112 ∷ 108 ∷ 101 ∷ 32 ∷ 111 ∷ 102 ∷ 32 ∷ 116 ∷ 104 ∷ 101 ∷ 32 ∷ 112 ∷ 101 ∷ 114 ∷ 105 ∷ 111 ∷ 100 ∷ 115 ∷ 32 ∷ 109 ∷ 117 ∷ 115 ∷ 116 ∷ 32 ∷ 98 ∷ 101 ∷ 32 ∷ 97 ∷ 116 ∷ 32 ∷ 109 ∷ 111 ∷ 115 ∷ 116 ∷ 32 ∷ 52 ∷ 48 ∷ 57 ∷ 54 ∷ 46 ∷ 10 ∷ []

-- a sentence for each refusal of a list
unfoldable pub sentence : ℕ → List ℕ
sentence n = cond (eqb n 1) too_long (cond (eqb n 2) misformed (cond (eqb n 3) out_of_range (cond (eqb n 4) late (cond (eqb n 5) miscounted too_high))))

-- `Line `, the number, `: ` and the line as it stands
unfoldable pub place : ℕ → List ℕ → List ℕ
place n line = (76 ∷ 105 ∷ 110 ∷ 101 ∷ 32 ∷ []) ++ decimal n ++ (58 ∷ 32 ∷ []) ++ line ++ 10 ∷ []

-- nothing if the list is accepted; else the sentence, and the refused line if one is shown
unfoldable pub explained : List ℕ → ReadReply → List ℕ
explained bs r = cond (is_zero r.refusal) [] (cond (is_zero r.line) (sentence r.refusal) (sentence r.refusal ++ place r.line (shown bs r)))

unfoldable pub explanation : List ℕ → List ℕ
explanation bs = explained bs (read_list bs)
