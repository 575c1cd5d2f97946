-- Document 01, "The list": what a line says, and the reply to a list.
use Rattle.std.specs.Prelude.{Bool, false, cond, ◌&&◌, ◌||◌, List, [], ◌∷◌, ◌++◌, map, ℕ, zero, suc, ◌+◌, ◌-◌, ◌*◌, ◌/◌, leb, ltb, eqb, length, get_or, take, drop, Result, Ok, Err}
use Rattle.rules.specs.Lists.{all_of, is_zero, padded}
use Rattle.rules.specs.Hyper.{hyper}
use Rattle.rules.specs.Records.{TaskRecord, SetRecord, task_refusal, tasks_in}
use Rattle.rules.specs.States.{blank_task, blank_set}
use Rattle.tasks.specs.declared.TaskSet.{TaskSet}
use Rattle.tasks.specs.Refusals.{number_of}
use Rattle.tasks.specs.Views.{record_of}
use Rattle.list.specs.Text.{lines, words}
use Rattle.list.specs.declared.Refused.{Refused}

-- ── a field ─────────────────────────────────────────────────────────────────

unfoldable pub is_digit : ℕ → Bool
is_digit b = leb 48 b && leb b 57

-- "a field is 1 to 4 decimal digits, leading zeros allowed" (no word is empty)
unfoldable pub is_field : List ℕ → Bool
is_field w = all_of is_digit w && leb (length w) 4

-- the number that digits write, behind v
unfoldable pub number_from : ℕ → List ℕ → ℕ
number_from v [] = v
number_from v (b ∷ bs) = number_from (v * 10 + (b - 48)) bs

unfoldable pub number : List ℕ → ℕ
number w = number_from 0 w

-- ── a line ──────────────────────────────────────────────────────────────────

-- "A line whose first byte is # is skipped, whatever follows in it."
unfoldable pub is_comment : List ℕ → Bool
is_comment [] = false
is_comment (b ∷ bs) = eqb b 35

-- "A line empty or of spaces alone is skipped."
unfoldable pub skipped : List ℕ → Bool
skipped l = is_comment l || is_zero (length (words l))

-- "3, 5, 7 or 9 fields"
unfoldable pub right_count : ℕ → Bool
right_count n = eqb n 3 || (eqb n 5 || (eqb n 7 || eqb n 9))

-- "The fields are T, D, then the whole pattern C E C .."
unfoldable pub task_from : List ℕ → TaskRecord
task_from ns = record { period = get_or ns 0 0; deadline = get_or ns 1 0; steps = (length ns - 1) / 2; units = padded 7 0 (drop 2 ns) }

unfoldable pub line_task : List ℕ → TaskRecord
line_task l = task_from (map number (words l))

-- 2: "another byte, a field of 5 or more digits, or another number of fields"
unfoldable pub well_formed : List ℕ → Bool
well_formed l = all_of is_field (words l) && right_count (length (words l))

-- a line after k tasks: "5 (ninth task), 2, 3, 4"; 0 if it is good
unfoldable pub line_refusal : ℕ → List ℕ → ℕ
line_refusal k l = cond (leb 8 k) 5 (cond (well_formed l) (task_refusal (line_task l)) 2)

-- ── a list ──────────────────────────────────────────────────────────────────

-- the reply: the refusal or 0, the refused line's number, where it starts and how long it is, and the set
pub record ReadReply : Type 0 where
  pub refusal : ℕ
  pub line : ℕ
  pub start : ℕ
  pub size : ℕ
  pub set : SetRecord

-- a refusal gives a set of no task, zeros throughout; "Refusals 1, 6 and none show an empty part at the list's start and line 0."
unfoldable pub refused_whole : ℕ → ReadReply
refused_whole n = record { refusal = n; line = 0; start = 0; size = 0; set = blank_set }

-- "A refused line is shown as it stands in the list, without its line feed, with its number counted from 1 over all lines."
unfoldable pub refused_line : ℕ → ℕ → ℕ → ℕ → ReadReply
refused_line n i at size = record { refusal = n; line = i; start = at; size = size; set = blank_set }

unfoldable pub accepted : List TaskRecord → ReadReply
accepted rs = record { refusal = 0; line = 0; start = 0; size = 0; set = record { count = length rs; entries = padded 8 blank_task rs } }

-- "then 5 (none), then 6"
unfoldable pub finish : List TaskRecord → ReadReply
finish rs = cond (is_zero (length rs)) (refused_whole 5) (cond (ltb 4096 (hyper (tasks_in rs))) (refused_whole 6) (accepted rs))

unfoldable pub go_on : ℕ → ReadReply → ReadReply → ReadReply
go_on zero bad good = good
go_on (suc n) bad good = bad

-- "line by line, the first bad line deciding": line i starts at byte `at`, and rs are the tasks read before it
unfoldable pub read_from : ℕ → ℕ → List TaskRecord → List (List ℕ) → ReadReply
read_from i at rs [] = finish rs
read_from i at rs (l ∷ ls) =
    cond (skipped l) (read_from (suc i) (at + suc (length l)) rs ls)
    (go_on (line_refusal (length rs) l) (refused_line (line_refusal (length rs) l) i at (length l)) (read_from (suc i) (at + suc (length l)) (rs ++ line_task l ∷ []) ls))

-- "Order for a list: 1; then line by line"
unfoldable pub read_list : List ℕ → ReadReply
read_list bs = cond (ltb 4096 (length bs)) (refused_whole 1) (read_from 1 0 [] (lines bs))

-- the part of the list that a reply shows
unfoldable pub shown : List ℕ → ReadReply → List ℕ
shown bs r = take r.size (drop r.start bs)

-- what the code's result stands for
unfoldable pub reply_of : Result TaskSet Refused → ReadReply
reply_of (Ok set) = record { refusal = 0; line = 0; start = 0; size = 0; set = record_of set }
reply_of (Err e) = record { refusal = number_of e.why; line = e.line; start = e.start; size = length e.text.now; set = blank_set }

-- all of the above, for proofs that compute
unfoldable pub open_reading : Type 0
unfolding is_digit is_field number_from number is_comment skipped right_count task_from line_task well_formed line_refusal refused_whole refused_line accepted finish go_on read_from read_list shown reply_of
open_reading = Unit {0}
