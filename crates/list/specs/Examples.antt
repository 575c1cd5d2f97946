-- The settled examples of document 01 that are lists, in one table.
use Rattle.std.specs.Prelude.{List, [], ◌∷◌, map, ℕ}
use Rattle.rules.specs.Hyper.{hyper}
use Rattle.rules.specs.Records.{tasks_in}
use Rattle.list.specs.Text.{lines}
use Rattle.list.specs.Reading.{line_task, read_list}

-- a list, its refusal or 0, the refused line's number, and the least common multiple of its periods
pub record Row : Type 0 where
  pub text : List ℕ
  pub refusal : ℕ
  pub line : ℕ
  pub multiple : ℕ

unfoldable pub settled_as : Row → List ℕ
settled_as r = r.refusal ∷ r.line ∷ r.multiple ∷ []

unfoldable pub read_as : Row → List ℕ
read_as r = (read_list r.text).refusal ∷ (read_list r.text).line ∷ hyper (tasks_in (map line_task (lines r.text))) ∷ []

unfoldable pub examples : List Row
examples =
    -- `4096 1 1`
    record { text = 52 ∷ 48 ∷ 57 ∷ 54 ∷ 32 ∷ 49 ∷ 32 ∷ 49 ∷ 10 ∷ []; refusal = 0; line = 0; multiple = 4096 }
    -- `4097 4 1`
    ∷ record { text = 52 ∷ 48 ∷ 57 ∷ 55 ∷ 32 ∷ 52 ∷ 32 ∷ 49 ∷ 10 ∷ []; refusal = 3; line = 1; multiple = 4097 }
    -- `7 8 1`
    ∷ record { text = 55 ∷ 32 ∷ 56 ∷ 32 ∷ 49 ∷ 10 ∷ []; refusal = 4; line = 1; multiple = 7 }
    -- `7 8 0`
    ∷ record { text = 55 ∷ 32 ∷ 56 ∷ 32 ∷ 48 ∷ 10 ∷ []; refusal = 3; line = 1; multiple = 7 }
    -- `7 7 1 4`
    ∷ record { text = 55 ∷ 32 ∷ 55 ∷ 32 ∷ 49 ∷ 32 ∷ 52 ∷ 10 ∷ []; refusal = 2; line = 1; multiple = 7 }
    -- `64 1 1` / `63 1 1`
    ∷ record { text = 54 ∷ 52 ∷ 32 ∷ 49 ∷ 32 ∷ 49 ∷ 10 ∷ 54 ∷ 51 ∷ 32 ∷ 49 ∷ 32 ∷ 49 ∷ 10 ∷ []; refusal = 0; line = 0; multiple = 4032 }
    -- `65 1 1` / `64 1 1`
    ∷ record { text = 54 ∷ 53 ∷ 32 ∷ 49 ∷ 32 ∷ 49 ∷ 10 ∷ 54 ∷ 52 ∷ 32 ∷ 49 ∷ 32 ∷ 49 ∷ 10 ∷ []; refusal = 6; line = 0; multiple = 4160 }
    ∷ []

-- all of the above, for proofs that compute
unfoldable pub open_examples : Type 0
unfolding settled_as read_as examples
open_examples = Unit {0}
