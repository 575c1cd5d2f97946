-- What the planner's structs and enums stand for in the rules and in the search.
use Rattle.std.specs.Prelude.{◌≡◌, true, cond, ◌⊎◌, List, ℕ, suc, ◌*◌, ◌≤◌, ◌<◌, min, length, take, Option, Some, None, Result, Ok, Err}
use Rattle.rules.specs.Lists.{is_zero}
use Rattle.rules.specs.Tasks as model_task
use Rattle.rules.specs.Tasks.{Fit}
use Rattle.rules.specs.Hyper.{hyper}
use Rattle.rules.specs.Positions.{live_position, start}
use Rattle.rules.specs.Planner as model
use Rattle.planner.specs.declared.rows.Rows.{Rows}
use Rattle.planner.specs.Rows.{row_tasks}
use Rattle.planner.specs.Machine as machine
use Rattle.planner.specs.Machine.{Machine, giving, emptied, backed, Took, Reaches}
use Rattle.tasks.specs.declared.refusal.Refusal.{Refusal}
use Rattle.tasks.specs.Refusals as refusals
use Rattle.planner.specs.declared.Word.{Word}
use Rattle.planner.specs.declared.Word.TheVariants.{Schedule, Infeasible, OutOfRoom}
use Rattle.planner.specs.declared.Answer.{Answer}
use Rattle.planner.specs.declared.search.Choice.{Choice}
use Rattle.planner.specs.declared.search.Choice.TheVariants.{Task, Idle}
use Rattle.planner.specs.declared.search.Search.{Search}

unfoldable pub word_of : Word → model.Word
word_of Schedule = model.schedule
word_of Infeasible = model.infeasible
word_of OutOfRoom = model.out_of_room

unfoldable pub answer_of : Result Answer Refusal → model.Answer
answer_of (Err r) = model.refused (refusals.number_of r)
answer_of (Ok a) = model.answered (word_of a.word) a.dead

-- the number of a choice in the rules; the code's is a byte, so none is above idle
abbrev pub number_of : Choice → ℕ
number_of (Task c) = min c 255
number_of Idle = 255

-- the number of the choice to try, one above idle where all are tried
abbrev pub number_in : Option Choice → ℕ
number_in None = 256
number_in (Some c) = number_of c

-- the search in the code, of n tasks, with the lent buffers is a machine
unfoldable pub machine_of : ℕ → Search → List ℕ → List ℕ → Machine
machine_of n at table area = record { slot = at.slot; progress = take n at.progress; choice = number_in at.choice; recorded = at.recorded; table = table; area = area }

-- the word for the end of a run
unfoldable pub end_of : Word → machine.Status
end_of Schedule = machine.found
end_of Infeasible = machine.failed
end_of OutOfRoom = machine.no_room

-- the machine ended as an answer says, and left the lent buffers so
pub record Ends (a : Answer) (table area : List ℕ) (r : machine.Stepped) : Type 0 where
  pub word_is : r.status ≡ end_of a.word
  pub counted : r.machine.recorded ≡ a.dead
  pub table_is : r.machine.table ≡ table
  pub area_is : r.machine.area ≡ area

-- what a step gives in the code, the search with or without an answer that ends it, is what the machine's gives
unfoldable pub Gives : ℕ → Search → Option Answer → List ℕ → List ℕ → machine.Stepped → Type 0
Gives n at None table area r = r ≡ giving machine.going (machine_of n at table area)
Gives n at (Some a) table area r = Ends a table area r

-- a step with no choice left to try
unfoldable pub shut : List model_task.Task → Machine → machine.Stepped
shut s m = cond (is_zero m.slot) (giving machine.failed (emptied s m)) (giving machine.going (backed s m))

-- what a step of the code does to a machine
pub record Stepping (s : List model_task.Task) (K : ℕ) (m : Machine) (n : ℕ) (at : Search) (did : Option Answer) (table area : List ℕ) : Type 0 where
  pub reached : machine.Stepped
  pub took : Took s K m reached.status reached.machine
  pub given : Gives n at did table area reached

-- a choice to try, a slot of the table for its mark, and an area that holds the records
pub record Trying (rows : Rows) (at : Search) (choice : Choice) (table area : List ℕ) : Type 0 where
  pub slots : at.slot < length table
  pub few : at.slot < 4096
  pub tries : at.choice ≡ Some choice
  pub choices : (number_of choice < rows.count) ⊎ (number_of choice ≡ 255)
  pub records : at.recorded * suc rows.count ≤ length area

-- room for one more record, and the marks of the slots passed
pub record Recording (rows : Rows) (at : Search) (table area : List ℕ) : Type 0 where
  pub slots : at.slot ≤ length table
  pub more : suc at.recorded * suc rows.count ≤ length area

-- what every step keeps: the numbers fit the buffers
pub record Fits (rows : Rows) (h room : ℕ) (at : Search) (table area : List ℕ) : Type 0 where
  pub period : h ≡ hyper (row_tasks rows)
  pub few : h ≤ 4096
  pub slots : at.slot ≤ h
  pub long : h ≤ length table
  pub choices : (c : Choice) → at.choice ≡ Some c → (number_of c < rows.count) ⊎ (number_of c ≡ 255)
  pub records : at.recorded ≤ room
  pub holds : room * suc rows.count ≤ length area

-- what a run begins with: rows of tasks, a live start, a table that is long enough, and the room of the area
pub record Opening (rows : Rows) (h room : ℕ) (table area : List ℕ) : Type 0 where
  pub some : 0 < rows.count
  pub fit : Fit (row_tasks rows)
  pub period : h ≡ hyper (row_tasks rows)
  pub few : h ≤ 4096
  pub long : h ≤ length table
  pub begun : live_position (row_tasks rows) (start (row_tasks rows)) ≡ true
  pub room_is : room ≡ model.room (row_tasks rows) area

-- a run of steps from a machine ended with this status, number of records, table and area
pub record Ran (s : List model_task.Task) (K : ℕ) (m : Machine) (t : machine.Status) (recorded : ℕ) (table area : List ℕ) : Type 0 where
  pub last : Machine
  pub reaches : Reaches s K m t last
  pub counted : last.recorded ≡ recorded
  pub table_is : last.table ≡ table
  pub area_is : last.area ≡ area
