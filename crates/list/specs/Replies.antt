-- What the promises say of a reply.
use Rattle.std.specs.Prelude.{◌≡◌, false, List, [], ℕ, ◌≤◌, ◌<◌, length, get_or, take}
use Rattle.rules.specs.Records.{SetRecord, Arrays, record_refusal}
use Rattle.rules.specs.States.{tidied}
use Rattle.list.specs.Text.{lines}
use Rattle.list.specs.Reading.{ReadReply, skipped, line_refusal, shown}
use Rattle.list.specs.Content.{content_of}

-- an admissible set, with arrays of their lengths and zeros in the parts not in use
pub record Admissible (s : SetRecord) : Type 0 where
  pub fine : record_refusal s ≡ 0
  pub arrays : Arrays s
  pub tidy : tidied s ≡ s

-- the same but for line number and place
pub record Agree (x y : ReadReply) : Type 0 where
  pub refusal : x.refusal ≡ y.refusal
  pub set : x.set ≡ y.set

-- the refusal of line i (from 0) of some lines: the lines before it that are not skipped are its earlier tasks
unfoldable pub refusal_at : List (List ℕ) → ℕ → ℕ
refusal_at ls i = line_refusal (length (content_of (take i ls))) (get_or ls i [])

-- the reply x to the text bs shows its line i (from 0): the first that is neither skipped nor good
pub record ShowsLine (bs : List ℕ) (i : ℕ) (x : ReadReply) : Type 0 where
  pub within : i < length (lines bs)
  pub part : shown bs x ≡ get_or (lines bs) i []
  pub stands : skipped (get_or (lines bs) i []) ≡ false
  pub reported : refusal_at (lines bs) i ≡ x.refusal
  pub refused : 1 ≤ x.refusal
  pub earlier : (j : ℕ) → j < i → skipped (get_or (lines bs) j []) ≡ false → refusal_at (lines bs) j ≡ 0
