-- The search as a machine: each step adds or takes back one choice of the list under trial, or records one dead position.
use Rattle.std.specs.Prelude.{Bool, true, false, not, cond, ◌&&◌, List, ◌∷◌, ◌++◌, ◌≡◌, ℕ, suc, ◌-◌, ◌*◌, ◌≤◌, ◌<◌, ltb, eqb, length, get_or, take, drop, set, replicate}
use Rattle.rules.specs.Lists.{is_zero}
use Rattle.rules.specs.Tasks.{Task}
use Rattle.rules.specs.Hyper.{hyper}
use Rattle.rules.specs.Positions.{Position, idle, each, ended, next, legal}
use Rattle.planner.specs.Marks.{mark, lowered, unstarted, chosen}
use Rattle.planner.specs.Area.{among}

-- the position that the list under trial leads to, the choice to try behind it (above idle: all are tried), the number of records,
-- and the lent buffers: the marks of the list's slots in the table, the records in the area
pub record Machine : Type 0 where
  pub slot : ℕ
  pub progress : List ℕ
  pub choice : ℕ
  pub recorded : ℕ
  pub table : List ℕ
  pub area : List ℕ

pub data Status : Type 0 where
  going found failed no_room : Status

unfoldable pub is_going : Status → Bool
is_going going = true
is_going found = false
is_going failed = false
is_going no_room = false

-- what a step gives
pub record Stepped : Type 0 where
  pub status : Status
  pub machine : Machine

-- the choice to try behind c: the tasks in their order, then idle, then none
unfoldable pub following : ℕ → ℕ → ℕ
following n c = cond (ltb (suc c) n) (suc c) (cond (ltb c idle) idle (suc idle))

unfoldable pub here : Machine → Position
here m = record { slot = m.slot; progress = m.progress }

-- the choice to try leads to a live position that is not recorded
unfoldable pub leads_on : List Task → Machine → Bool
leads_on s m = legal s (here m) m.choice && not (among (suc (length s)) m.area (suc m.slot ∷ (next s (here m) m.choice).progress) m.recorded)

-- the choice is added to the list, and its slot's mark to the table
unfoldable pub pushed : List Task → Machine → Machine
pushed s m = record {
  slot = suc m.slot;
  progress = (next s (here m) m.choice).progress;
  choice = 0;
  recorded = m.recorded;
  table = set m.table m.slot (mark m.progress (ended s m.progress m.choice));
  area = m.area;
}

-- the choice is passed over
unfoldable pub passed_over : List Task → Machine → Machine
passed_over s m = record {
  slot = m.slot;
  progress = m.progress;
  choice = following (length s) m.choice;
  recorded = m.recorded;
  table = m.table;
  area = m.area;
}

-- the area with the position behind the other records
unfoldable pub noted : List Task → Machine → List ℕ
noted s m = take (m.recorded * suc (length s)) m.area ++ ((m.slot ∷ m.progress) ++ drop (suc m.recorded * suc (length s)) m.area)

-- the mark of the last slot, the progress before it, and its choice
unfoldable pub last_mark : Machine → ℕ
last_mark m = get_or m.table (m.slot - 1) 0

unfoldable pub earlier : List Task → Machine → List ℕ
earlier s m = lowered (last_mark m) (each (unstarted m.slot) 0 s m.progress)

unfoldable pub last_choice : List Task → Machine → ℕ
last_choice s m = chosen 0 (last_mark m) s (earlier s m)

-- the position is recorded, and the last choice taken back
unfoldable pub backed : List Task → Machine → Machine
backed s m = record {
  slot = m.slot - 1;
  progress = earlier s m;
  choice = following (length s) (last_choice s m);
  recorded = suc m.recorded;
  table = m.table;
  area = noted s m;
}

-- the position is recorded: the start, from which nothing leads on
unfoldable pub emptied : List Task → Machine → Machine
emptied s m = record {
  slot = m.slot;
  progress = m.progress;
  choice = m.choice;
  recorded = suc m.recorded;
  table = m.table;
  area = noted s m;
}

unfoldable pub giving : Status → Machine → Stepped
giving t m = record { status = t; machine = m }

-- one step, for room K
unfoldable pub step_of : List Task → ℕ → Machine → Stepped
step_of s K m =
    cond (eqb m.slot (hyper s)) (giving found m)
    (cond (ltb idle m.choice)
    (cond (eqb m.recorded K) (giving no_room m) (cond (is_zero m.slot) (giving failed (emptied s m)) (giving going (backed s m))))
    (giving going (cond (leads_on s m) (pushed s m) (passed_over s m))))

-- choices tried one behind the other: those that do not lead on are passed over, up to one that is added or to the end
pub data Tries (s : List Task) : Machine → Machine → Type 0 where
  adds : {m : Machine} → m.choice ≤ idle → leads_on s m ≡ true → Tries s m (pushed s m)
  passes : {m n : Machine} → m.choice ≤ idle → leads_on s m ≡ false → Tries s (passed_over s m) n → Tries s m n
  spent : {m : Machine} → idle < m.choice → Tries s m m

-- what a step of the code does: choices tried where some are left, or one step
pub data Took (s : List Task) (K : ℕ) : Machine → Status → Machine → Type 0 where
  once : {m n : Machine} {t : Status} → step_of s K m ≡ giving t n → Took s K m t n
  tries : {m n : Machine} → eqb m.slot (hyper s) ≡ false → m.choice ≤ idle → Tries s m n → Took s K m going n

-- a run of steps from a machine, up to the first that does not go on
pub data Reaches (s : List Task) (K : ℕ) : Machine → Status → Machine → Type 0 where
  ends : {m n : Machine} {t : Status} → step_of s K m ≡ giving t n → is_going t ≡ false → Reaches s K m t n
  steps : {m n o : Machine} {t : Status} → step_of s K m ≡ giving going n → Reaches s K n t o → Reaches s K m t o

-- the search before its first step
unfoldable pub opened : List Task → List ℕ → List ℕ → Machine
opened s table area = record { slot = 0; progress = replicate (length s) 0; choice = 0; recorded = 0; table = table; area = area }
