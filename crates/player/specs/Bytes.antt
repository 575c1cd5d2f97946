-- The byte strings in which a task set and a player state travel: docs/STATE.md. Numbers of 16 bits have their low byte first.
use Rattle.std.specs.Prelude.{Bool, ◌&&◌, List, [], ◌∷◌, ◌++◌, ℕ, zero, suc, ◌+◌, ◌*◌, ◌%◌, ◌/◌, leb, eqb, length, get_or}
use Rattle.rules.specs.Lists.{tabulate, all_of}
use Rattle.rules.specs.Records.{TaskRecord, SetRecord}
use Rattle.rules.specs.Jobs.{overrun, late, untrue, Stand, Ready, Waiting, Done, Stopped, Job}
use Rattle.rules.specs.States.{StateRecord}

-- ── sizes ───────────────────────────────────────────────────────────────────

-- a task: T, D, m, and seven units; a set: its count and eight tasks; a job: standing, step, slots given
unfoldable pub task_size : ℕ
task_size = 12

unfoldable pub set_size : ℕ
set_size = 97

unfoldable pub state_size : ℕ
state_size = 140

-- ── writing ─────────────────────────────────────────────────────────────────

unfoldable pub low : ℕ → ℕ
low n = n % 256

unfoldable pub high : ℕ → ℕ
high n = n / 256

unfoldable pub pair : ℕ → List ℕ
pair n = low n ∷ high n ∷ []

unfoldable pub joined : {A : Type 0} → (A → List ℕ) → List A → List ℕ
joined f [] = []
joined f (x ∷ xs) = f x ++ joined f xs

unfoldable pub task_bytes : TaskRecord → List ℕ
task_bytes r = pair r.period ++ (pair r.deadline ++ (r.steps ∷ r.units))

unfoldable pub set_bytes : SetRecord → List ℕ
set_bytes r = r.count ∷ joined task_bytes r.entries

-- 0 ready, 1 waiting, 2 done, 3 stopped by overrun, 4 as late, 5 by a false report
unfoldable pub stand_byte : Stand → ℕ
stand_byte Ready = 0
stand_byte Waiting = 1
stand_byte Done = 2
stand_byte (Stopped overrun) = 3
stand_byte (Stopped late) = 4
stand_byte (Stopped untrue) = 5

unfoldable pub job_bytes : Job → List ℕ
job_bytes j = stand_byte j.stand ∷ j.step ∷ j.given ∷ []

-- the set, the slot, the planned progress, the jobs, and who ran last
unfoldable pub state_bytes : StateRecord → List ℕ
state_bytes w = set_bytes w.set ++ (pair w.slot ++ (joined pair w.planned ++ (joined job_bytes w.jobs ++ w.last ∷ [])))

-- ── reading ─────────────────────────────────────────────────────────────────

-- the number of 16 bits at a place
unfoldable pub pair_at : List ℕ → ℕ → ℕ
pair_at bs i = get_or bs i 0 + 256 * get_or bs (suc i) 0

unfoldable pub task_at : List ℕ → ℕ → TaskRecord
task_at bs i = record { period = pair_at bs i; deadline = pair_at bs (2 + i); steps = get_or bs (4 + i) 0; units = tabulate (λ k. get_or bs (5 + i + k) 0) 0 7 }

unfoldable pub set_at : List ℕ → SetRecord
set_at bs = record { count = get_or bs 0 0; entries = tabulate (λ k. task_at bs (1 + k * 12)) 0 8 }

-- a byte above 5 stands for no standing
unfoldable pub stand_of_byte : ℕ → Stand
stand_of_byte zero = Ready
stand_of_byte (suc zero) = Waiting
stand_of_byte (suc (suc zero)) = Done
stand_of_byte (suc (suc (suc zero))) = Stopped overrun
stand_of_byte (suc (suc (suc (suc zero)))) = Stopped late
stand_of_byte (suc (suc (suc (suc (suc n))))) = Stopped untrue

unfoldable pub job_at : List ℕ → ℕ → Job
job_at bs i = record { step = get_or bs (1 + i) 0; given = get_or bs (2 + i) 0; stand = stand_of_byte (get_or bs i 0) }

unfoldable pub state_at : List ℕ → StateRecord
state_at bs = record {
  set = set_at bs;
  slot = pair_at bs 97;
  planned = tabulate (λ k. pair_at bs (99 + k * 2)) 0 8;
  jobs = tabulate (λ k. job_at bs (115 + k * 3)) 0 8;
  last = get_or bs 139 0;
}

-- the string has a state's length, and its eight standing bytes stand for something
unfoldable pub readable : List ℕ → Bool
readable bs = eqb (length bs) state_size && all_of (λ b. leb b 5) (tabulate (λ k. get_or bs (115 + k * 3) 0) 0 8)
