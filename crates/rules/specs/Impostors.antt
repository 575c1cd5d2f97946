-- Players and planners that do not do their work: document 01, "Strength of the statements".
use Rattle.std.specs.Prelude.{cond, List, [], ◌∷◌, ℕ, suc, ◌%◌, ltb, eqb, length, get_or, replicate}
use Rattle.rules.specs.Tasks.{Task, no_task}
use Rattle.rules.specs.Hyper.{hyper}
use Rattle.rules.specs.Positions.{idle}
use Rattle.rules.specs.Records.{SetRecord}
use Rattle.rules.specs.Planner.{Answer, refused, answered, AnyPlanner}
use Rattle.rules.specs.Player.{State, fresh, tick}
use Rattle.rules.specs.States.{task_entry, handed}
use Rattle.rules.specs.Condition3.{AnyPlayer}

-- one that always idles
abbrev pub idler : List Task → AnyPlayer
idler s = record {
  State = Unit {0};
  begin = tt;
  out = λ st reports. record { runner = idle; faults = replicate (length s) 0 };
  onward = λ st reports. st;
}

-- one that returns its state untouched
abbrev pub untouched : List Task → List ℕ → AnyPlayer
untouched s table = record {
  State = State;
  begin = fresh s;
  out = λ st reports. record { runner = (tick s table st reports).runner; faults = (tick s table st reports).faults };
  onward = λ st reports. st;
}

-- the runner while its first job lasts
unfoldable pub while_first : List Task → ℕ → ℕ → ℕ
while_first s t r = cond (ltb t (get_or s r no_task).period) r idle

-- "a player that serves the first job of each task and then only advances the slot"
abbrev pub first_jobs_only : List Task → List ℕ → AnyPlayer
first_jobs_only s table = record {
  State = ℕ × State;
  begin = (0, fresh s);
  out = λ st reports. record { runner = while_first s st.0 (tick s table st.1 reports).runner; faults = (tick s table st.1 reports).faults };
  onward = λ st reports. (suc st.0, (tick s table st.1 reports).state);
}

-- one that always runs the table's owner, whatever is reported
abbrev pub blind : List Task → List ℕ → AnyPlayer
blind s table = record {
  State = ℕ;
  begin = 0;
  out = λ t reports. record { runner = get_or table (t % hyper s) idle; faults = replicate (length s) 0 };
  onward = λ t reports. suc t;
}

-- the first task where nobody runs
unfoldable pub not_idle : ℕ → ℕ
not_idle r = cond (eqb r idle) 0 r

-- one that gives a slot in which nobody runs to the first task
abbrev pub generous : List Task → List ℕ → AnyPlayer
generous s table = record {
  State = State;
  begin = fresh s;
  out = λ st reports. record { runner = not_idle (tick s table st reports).runner; faults = (tick s table st reports).faults };
  onward = λ st reports. (tick s table st reports).state;
}

-- idle for the task that ran last
unfoldable pub unless_again : ℕ → ℕ → ℕ
unless_again last r = cond (eqb last r) idle r

-- one that takes a step for finished after its first slot, and gives no task two slots on end
abbrev pub hasty : List Task → List ℕ → AnyPlayer
hasty s table = record {
  State = ℕ × State;
  begin = (idle, fresh s);
  out = λ st reports. record { runner = unless_again st.0 (tick s table st.1 reports).runner; faults = (tick s table st.1 reports).faults };
  onward = λ st reports. (unless_again st.0 (tick s table st.1 reports).runner, (tick s table st.1 reports).state);
}

-- reports of nothing
unfoldable pub nothing : List Task → ℕ → List ℕ
nothing s t = replicate (length s) 0

-- 3 3 1 1 1 and its table 1.1
unfoldable pub single : List Task
single = record { period = 3; deadline = 3; pattern = 1 ∷ 1 ∷ 1 ∷ [] } ∷ []

-- the table 1.1
unfoldable pub parted : List ℕ
parted = 0 ∷ 255 ∷ 0 ∷ []

-- 2 2 2 and its table 11
unfoldable pub long : List Task
long = record { period = 2; deadline = 2; pattern = 2 ∷ [] } ∷ []

-- the table 11
unfoldable pub both : List ℕ
both = 0 ∷ 0 ∷ []

-- 1 1 1
unfoldable pub one : SetRecord
one = handed (task_entry 1 1 1 (1 ∷ []) ∷ [])

-- the same line twice
unfoldable pub twice : SetRecord
twice = handed (task_entry 1 1 1 (1 ∷ []) ∷ task_entry 1 1 1 (1 ∷ []) ∷ [])

-- 2 2 1 and 2 2 2
unfoldable pub half : SetRecord
half = handed (task_entry 2 2 1 (1 ∷ []) ∷ [])

-- 2 2 2
unfoldable pub busy : SetRecord
busy = handed (task_entry 2 2 1 (2 ∷ []) ∷ [])

-- a count that is off by one
unfoldable pub one_more : Answer → Answer
one_more (refused n) = refused n
one_more (answered w n) = answered w (suc n)

-- a planner whose counts are one too high
unfoldable pub off_by_one : AnyPlanner → AnyPlanner
off_by_one P r table area = record { answer = one_more (P r table area).answer; table = (P r table area).table; area = (P r table area).area }

-- all of the above, for proofs that compute
unfoldable pub open_impostors : Type 0
unfolding while_first not_idle unless_again nothing single parted long both one twice half busy one_more off_by_one
open_impostors = Unit {0}
