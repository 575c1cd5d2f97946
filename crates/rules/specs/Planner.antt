-- The planner's reply, as a relation over set, table and area: document 01, "The planner's reply".
use Rattle.std.specs.Prelude.{◌≡◌, List, [], ◌∷◌, ◌++◌, ℕ, suc, ◌*◌, ◌≤◌, ◌<◌, ◌/◌, length, drop, replicate, cond, ltb}
use Rattle.rules.specs.Lists.{In, Distinct}
use Rattle.rules.specs.Tasks.{Task}
use Rattle.rules.specs.Hyper.{hyper}
use Rattle.rules.specs.Positions.{Position, idle}
use Rattle.rules.specs.Choices.{Schedule, First, Counted}
use Rattle.rules.specs.Records.{or_else, SetRecord, Arrays, set_in, record_refusal}

-- A record is n + 1 numbers: the slot, then each task's progress in task order.
unfoldable pub records : List Position → List ℕ
records [] = []
records (x ∷ xs) = x.slot ∷ x.progress ++ records xs

-- Room K is the length of the lent area divided by n + 1, rounded down.
unfoldable pub room : List Task → List ℕ → ℕ
room s area = length area / suc (length s)

-- the dead positions that precede the reply, each once
pub record Precede (s : List Task) (ds : List Position) : Type 0 where
  pub distinct : Distinct ds
  pub only : (x : Position) → In x ds → Counted s x
  pub all : (x : Position) → Counted s x → In x ds

-- the three words
pub data Word : Type 0 where
  schedule infeasible out_of_room : Word

-- the word, the count and the first H bytes of the table, for room K and B dead positions that precede the reply
pub data Verdict (s : List Task) (K B : ℕ) : Word → ℕ → List ℕ → Type 0 where
  no_room : K < B → Verdict s K B out_of_room K (replicate (hyper s) idle)
  found : {f : List ℕ} → B ≤ K → First s f → Verdict s K B schedule B f
  failed : B ≤ K → ((cs : List ℕ) → ¬ Schedule s cs) → Verdict s K B infeasible B (replicate (hyper s) idle)

-- a reply that is no refusal, with what the table and the area hold then
pub record Reply : Type 0 where
  pub word : Word
  pub count : ℕ
  pub table : List ℕ
  pub area : List ℕ

-- the reply to an admissible set and a table long enough
pub record Planned (s : List Task) (table area : List ℕ) (r : Reply) : Type 0 where
  pub dead : List Position
  pub precede : Precede s dead
  pub front : List ℕ
  pub verdict : Verdict s (room s area) (length dead) r.word r.count front
  -- the first H bytes are the reply's, bytes beyond H are kept
  pub table_is : r.table ≡ front ++ drop (hyper s) table
  -- the first B (or K) records are distinct positions of those counted, the rest is kept
  pub kept : List Position
  pub kept_distinct : Distinct kept
  pub kept_only : (x : Position) → In x kept → Counted s x
  pub kept_many : length kept ≡ r.count
  pub area_is : r.area ≡ records kept ++ drop (r.count * suc (length s)) area

-- "The planner tests that, then 7": lent table shorter than H
unfoldable pub plan_refusal : SetRecord → List ℕ → ℕ
plan_refusal r table = or_else (record_refusal r) (cond (ltb (length table) (hyper (set_in r))) 7 0)

-- what the planner returns: a refusal's number alone, or one of three words with a count
pub data Answer : Type 0 where
  refused : ℕ → Answer
  answered : Word → ℕ → Answer

-- the whole reply: what is returned, and what the lent table and area hold afterwards. "none changes a buffer"
pub data PlanReply (r : SetRecord) (table area : List ℕ) : Answer → List ℕ → List ℕ → Type 0 where
  refuses : {n : ℕ} → plan_refusal r table ≡ suc n → PlanReply r table area (refused (suc n)) table area
  plans : {q : Reply} → plan_refusal r table ≡ 0 → Planned (set_in r) table area q → PlanReply r table area (answered q.word q.count) q.table q.area

-- what any planner gives to a call
pub record Outcome : Type 0 where
  pub answer : Answer
  pub table : List ℕ
  pub area : List ℕ

-- any planner: a set, a table and an area go in
abbrev pub AnyPlanner : Type 0
AnyPlanner = SetRecord → List ℕ → List ℕ → Outcome

-- a planner whose every call is as the rules say
unfoldable pub Right : AnyPlanner → Type 0
Right P = (r : SetRecord) (table area : List ℕ) → Arrays r → PlanReply r table area (P r table area).answer (P r table area).table (P r table area).area

-- all of the above, for proofs that compute
unfoldable pub open_planner : Type 0
unfolding records room plan_refusal Right
open_planner = Unit {0}
