-- A list read, a set's slots and a plan as they are called from C: the number that is returned, and every lent byte afterwards, from the bytes before.
use Rattle.std.specs.Prelude.{◌≡◌, cond, ◌&&◌, List, ◌++◌, ℕ, ◌+◌, ◌*◌, leb, eqb, length, drop}
use Rattle.rules.specs.Hyper.{hyper}
use Rattle.rules.specs.Records.{or_else, set_in, record_refusal}
use Rattle.rules.specs.Planner.{Word, schedule, infeasible, out_of_room, Answer, refused, answered, PlanReply}
use Rattle.list.specs.Reading.{ReadReply, read_list}
use Rattle.player.specs.Bytes.{set_size, set_bytes, set_at}

-- ── a list ──────────────────────────────────────────────────────────────────

-- the list's own refusal, then 8: no set fits the buffer; 0 if accepted
unfoldable pub read_number : List ℕ → List ℕ → ℕ
read_number list set = or_else (read_list list).refusal (cond (leb set_size (length set)) 0 8)

-- the set is written at the start of the buffer, and the rest kept; a refusal changes no byte
unfoldable pub read_buffer : List ℕ → List ℕ → List ℕ
read_buffer list set = cond (eqb (read_number list set) 0) (set_bytes (read_list list).set ++ drop set_size set) set

-- where the refused line stands: its number from bit 32 on, its start from bit 16 on, and its size; 0 where no line is refused
unfoldable pub place_number : ReadReply → ℕ
place_number r = r.line * 4294967296 + r.start * 65536 + r.size

-- ── a set ───────────────────────────────────────────────────────────────────

-- the hyper-period: so many slots has a table; 0 for a string of another length, and for a set that is refused
unfoldable pub slots_number : List ℕ → ℕ
slots_number set = cond (eqb (length set) set_size && eqb (record_refusal (set_at set)) 0) (hyper (set_in (set_at set))) 0

-- ── a plan ──────────────────────────────────────────────────────────────────

unfoldable pub word_number : Word → ℕ
word_number schedule = 100
word_number infeasible = 101
word_number out_of_room = 102

unfoldable pub plan_number : Answer → ℕ
plan_number (refused n) = n
plan_number (answered w n) = word_number w

-- the count of an answer; a refusal keeps the number that was there
unfoldable pub plan_count : Answer → ℕ → ℕ
plan_count (refused n) count = count
plan_count (answered w n) count = n

-- what is returned, and what the table, the area and the count hold afterwards: a string of another length holds no set, 5 and no change;
-- else as the rules say
pub data PlanCall (set table area : List ℕ) (count : ℕ) : ℕ → List ℕ → List ℕ → ℕ → Type 0 where
  no_set : (length set ≡ set_size → ⊥) → PlanCall set table area count 5 table area count
  replied : {a : Answer} {table' area' : List ℕ} → length set ≡ set_size → PlanReply (set_at set) table area a table' area' → PlanCall set table area count (plan_number a) table' area' (plan_count a count)
