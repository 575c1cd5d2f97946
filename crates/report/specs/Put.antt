-- Bytes put into a lent buffer.
use Rattle.std.specs.Prelude.{◌≡◌, ◌⊎◌, List, [], ◌∷◌, ◌++◌, ℕ, ◌+◌, ◌-◌, ◌≤◌, ◌<◌, length, take, drop}
use Rattle.rules.specs.Positions.{idle}
use Rattle.report.specs.Texts.{decimal}

-- the bytes stand from index `at` up to r, and every other byte is as it was
pub record Put (before : List ℕ) (at : ℕ) (bytes : List ℕ) (r : ℕ) (after : List ℕ) : Type 0 where
  pub text : after ≡ take at before ++ bytes ++ drop (at + length bytes) before
  pub behind : r ≡ at + length bytes
  pub within : r ≤ length before

-- as many of the bytes as there is room for
pub record PutCut (before : List ℕ) (at : ℕ) (bytes : List ℕ) (r : ℕ) (after : List ℕ) : Type 0 where
  pub put : Put before at (take (length before - at) bytes) r after

-- the number of a slot that can be shown: idle, or one of at most eight tasks
abbrev pub Choice : ℕ → Type 0
Choice c = (c ≡ idle) ⊎ (c < 8)

-- numbers, each after a space
unfoldable pub fields : List ℕ → List ℕ
fields [] = []
fields (n ∷ ns) = (32 ∷ decimal n) ++ fields ns
