-- Condition 2 of the mission, as one statement about any reply.
use Rattle.std.specs.Prelude.{◌≡◌, ◌↔◌, ◌≢◌, List, ℕ, ◌<◌, T, length}
use Rattle.rules.specs.Tasks.{Task}
use Rattle.rules.specs.Hyper.{hyper}
use Rattle.rules.specs.Positions.{Position}
use Rattle.rules.specs.Choices.{before, First}
use Rattle.rules.specs.Endless.{Endless, beginning, repeated}
use Rattle.rules.specs.Planner.{room, Word, schedule, infeasible, out_of_room}

-- "For an admissible list and a table long enough, one of three replies comes": `slots` are the first H bytes of the table afterwards, and
-- `dead` any list of the dead positions that precede the reply, each once
pub record Condition2 (s : List Task) (dead : List Position) (area : List ℕ) (w : Word) (count : ℕ) (slots : List ℕ) : Type 0 where
  -- "A schedule is given only if an endless schedule exists that misses no deadline": the one given, over and over, is such
  pub endless : w ≡ schedule → Endless s (repeated slots)
  -- "and it is the first such in the stated order, one hyper-period long"
  pub long : length slots ≡ hyper s
  pub least : w ≡ schedule → (c : ℕ → ℕ) → Endless s c → ¬ T (before (beginning c 0 (hyper s)) slots)
  pub is_first : w ≡ schedule → First s slots
  -- "'infeasible' only if none exists"
  pub none_exists : w ≡ infeasible → (c : ℕ → ℕ) → ¬ Endless s c
  -- "'Out of room' comes exactly when the dead positions that precede the reply outnumber the records the lent area holds"
  pub out_of_room_iff : (w ≡ out_of_room) ↔ (room s area < length dead)
  -- "The reported count is their number, save at out of room, where it is the number of records"
  pub counted : w ≢ out_of_room → count ≡ length dead
  pub room_counted : w ≡ out_of_room → count ≡ room s area
