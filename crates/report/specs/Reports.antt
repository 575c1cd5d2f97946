-- What `report` does with the buffers that are lent to it.
use Rattle.std.specs.Prelude.{◌≡◌, ◌⊎◌, List, [], ℕ, suc, ◌≤◌, ◌<◌, length, get_or, take}
use Rattle.rules.specs.Planner.{Word, schedule, Answer, refused, answered, PlanReply}
use Rattle.list.specs.Reading.{read_list}
use Rattle.report.specs.Texts.{word_text, Writes}
use Rattle.report.specs.Put.{Put, Choice}

-- the text for an answer, with h slots of the table
unfoldable pub answer_text : ℕ → Answer → List ℕ → List ℕ
answer_text h (refused n) table = []
answer_text h (answered w n) table = word_text h w n (take h table)

-- slots that can be shown if there is a schedule
pub record Tellable (h : ℕ) (a : Answer) (table : List ℕ) : Type 0 where
  pub few : h ≤ 4096
  pub slots : h ≤ length table
  pub choices : (n : ℕ) → a ≡ answered schedule n → (k : ℕ) → k < h → Choice (get_or table k 0)

-- the program's text at the start of `out`, the rest of it kept; table and area as the planner leaves them, and untouched if the list is refused
pub record Told (list table area out : List ℕ) (r : ℕ) (table_after area_after out_after : List ℕ) : Type 0 where
  pub text : List ℕ
  pub writes : Writes list area text
  pub put : Put out 0 text r out_after
  pub refuses : (n : ℕ) → (read_list list).refusal ≡ suc n → (table_after ≡ table) × (area_after ≡ area)
  pub plans : (read_list list).refusal ≡ 0 → (w : Word) × (n : ℕ) × PlanReply (read_list list).set table area (answered w n) table_after area_after

-- nothing written and nothing changed
pub record Untouched (table area out : List ℕ) (r : ℕ) (table_after area_after out_after : List ℕ) : Type 0 where
  pub none : r ≡ 0
  pub table_kept : table_after ≡ table
  pub area_kept : area_after ≡ area
  pub out_kept : out_after ≡ out

-- a table of 4,096 bytes holds every schedule, and 4,300 bytes hold every text: with less, nothing is done
pub record Reported (list table area out : List ℕ) (r : ℕ) (table_after area_after out_after : List ℕ) : Type 0 where
  pub short : (length table < 4096) ⊎ (length out < 4300) → Untouched table area out r table_after area_after out_after
  pub told : 4096 ≤ length table → 4300 ≤ length out → Told list table area out r table_after area_after out_after
