-- The settled examples of document 01 marked P, planner and player, in one table under one statement.
use Rattle.std.specs.Prelude.{◌≡◌, List, [], ◌∷◌, ◌++◌, ℕ, T, length, drop}
use Rattle.rules.specs.Tasks.{Task}
use Rattle.rules.specs.Hyper.{hyper}
use Rattle.rules.specs.Planner.{Word, schedule, infeasible, out_of_room, Reply, Planned}
use Rattle.rules.specs.Player.{State, fresh, tick}

-- a set, the numbers of the lent area, and the reply: word, count and the first H bytes of the table
pub record Row : Type 0 where
  pub set : List Task
  pub numbers : ℕ
  pub word : Word
  pub count : ℕ
  pub slots : List ℕ

-- whatever table and area of that length are lent, the rules give this reply
unfoldable pub Holds : Row → Type 0
Holds r = (table area : List ℕ) → length area ≡ r.numbers
    → (a : Reply) × Planned r.set table area a × (a.word ≡ r.word) × (a.count ≡ r.count) × (a.table ≡ r.slots ++ drop (hyper r.set) table)

-- a set, a table, the reports of each tick from a fresh start, and what each tick gives: the runner, then the faults
pub record Play : Type 0 where
  pub set : List Task
  pub table : List ℕ
  pub reports : List (List ℕ)
  pub shown : List (List ℕ)

-- what the ticks give, each the runner and then the faults
unfoldable pub ticks : List Task → List ℕ → State → List (List ℕ) → List (List ℕ)
ticks s table st [] = []
ticks s table st (r ∷ rs) = ((tick s table st r).runner ∷ (tick s table st r).faults) ∷ ticks s table (tick s table st r).state rs

-- a row is of the planner or of the player
pub data Example : Type 0 where
  plan : Row → Example
  play : Play → Example

-- what a row says of the rules' own statements
unfoldable pub Settled : Example → Type 0
Settled (plan r) = Holds r
Settled (play p) = ticks p.set p.table (fresh p.set) p.reports ≡ p.shown

-- T, D and the pattern, as in a list
unfoldable pub task : ℕ → ℕ → List ℕ → Task
task T D p = record { period = T; deadline = D; pattern = p }

-- "Those marked P", in the order of document 01, and Example 1 of document 001
unfoldable pub examples : List Example
unfolding task
examples =
    plan (record { set = task 1 1 (1 ∷ []) ∷ []; numbers = 0; word = schedule; count = 0; slots = 0 ∷ [] })
    ∷ plan (record { set = task 1 1 (1 ∷ []) ∷ task 1 1 (1 ∷ []) ∷ []; numbers = 3; word = infeasible; count = 1; slots = 255 ∷ [] })
    ∷ plan (record { set = task 1 1 (1 ∷ []) ∷ task 1 1 (1 ∷ []) ∷ []; numbers = 2; word = out_of_room; count = 0; slots = 255 ∷ [] })
    ∷ plan (record { set = task 3 2 (1 ∷ 1 ∷ 1 ∷ []) ∷ []; numbers = 0; word = infeasible; count = 0; slots = 255 ∷ 255 ∷ 255 ∷ [] })
    ∷ plan (record { set = task 3 3 (1 ∷ 1 ∷ 1 ∷ []) ∷ []; numbers = 0; word = schedule; count = 0; slots = 0 ∷ 255 ∷ 0 ∷ [] })
    ∷ plan (record { set = task 4 4 (1 ∷ 1 ∷ 1 ∷ []) ∷ []; numbers = 0; word = schedule; count = 0; slots = 0 ∷ 255 ∷ 0 ∷ 255 ∷ [] })
    ∷ plan (record { set = task 4 4 (2 ∷ []) ∷ task 4 2 (1 ∷ []) ∷ []; numbers = 0; word = schedule; count = 0; slots = 0 ∷ 1 ∷ 0 ∷ 255 ∷ [] })
    ∷ plan (record { set = task 4 4 (1 ∷ []) ∷ task 4 2 (1 ∷ []) ∷ task 4 2 (1 ∷ []) ∷ []; numbers = 7; word = schedule; count = 1; slots = 1 ∷ 2 ∷ 0 ∷ 255 ∷ [] })
    ∷ plan (record { set = task 4 4 (1 ∷ []) ∷ task 4 2 (1 ∷ []) ∷ task 4 2 (1 ∷ []) ∷ []; numbers = 3; word = out_of_room; count = 0; slots = 255 ∷ 255 ∷ 255 ∷ 255 ∷ [] })
    ∷ plan (record {
      set = task 7 7 (1 ∷ 4 ∷ 1 ∷ []) ∷ task 6 6 (1 ∷ 3 ∷ 1 ∷ []) ∷ [];
      numbers = 0;
      word = schedule;
      count = 0;
      slots = 0 ∷ 1 ∷ 255 ∷ 255 ∷ 255 ∷ 1 ∷ 0 ∷ 1 ∷ 0 ∷ 255 ∷ 255 ∷ 1 ∷ 1 ∷ 0 ∷ 0 ∷ 255 ∷ 1 ∷ 255 ∷ 1 ∷ 0 ∷ 255 ∷ 0 ∷ 1 ∷ 255 ∷ 1 ∷ 255 ∷ 0 ∷ 255 ∷ 0 ∷ 1 ∷ 1 ∷ 255 ∷ 255 ∷ 0 ∷ 1 ∷ 0 ∷ 1 ∷ 255 ∷ 255 ∷ 255 ∷ 0 ∷ 1 ∷ [];
    })
    ∷ play (record { set = task 3 3 (1 ∷ 1 ∷ 1 ∷ []) ∷ []; table = 0 ∷ 255 ∷ 0 ∷ []; reports = (0 ∷ []) ∷ (1 ∷ []) ∷ (2 ∷ []) ∷ (1 ∷ []) ∷ []; shown = (0 ∷ 0 ∷ []) ∷ (255 ∷ 0 ∷ []) ∷ (0 ∷ 0 ∷ []) ∷ (0 ∷ 0 ∷ []) ∷ [] })
    ∷ play (record { set = task 3 3 (1 ∷ 1 ∷ 1 ∷ []) ∷ []; table = 0 ∷ 255 ∷ 0 ∷ []; reports = (0 ∷ []) ∷ (0 ∷ []) ∷ (0 ∷ []) ∷ (0 ∷ []) ∷ []; shown = (0 ∷ 0 ∷ []) ∷ (255 ∷ 1 ∷ []) ∷ (255 ∷ 0 ∷ []) ∷ (0 ∷ 0 ∷ []) ∷ [] })
    ∷ play (record { set = task 3 3 (1 ∷ 1 ∷ 1 ∷ []) ∷ []; table = 0 ∷ 255 ∷ 0 ∷ []; reports = (0 ∷ []) ∷ (1 ∷ []) ∷ (0 ∷ []) ∷ (0 ∷ []) ∷ []; shown = (0 ∷ 0 ∷ []) ∷ (255 ∷ 0 ∷ []) ∷ (255 ∷ 2 ∷ []) ∷ (0 ∷ 0 ∷ []) ∷ [] })
    ∷ []

-- every row of a table
abbrev pub All : (Example → Type 0) → List Example → Type 0
All P [] = Unit {0}
All P (r ∷ rs) = P r × All P rs

-- all of the above, for proofs that compute
unfoldable pub open_examples : Type 0
unfolding Holds ticks Settled task examples
open_examples = Unit {0}
