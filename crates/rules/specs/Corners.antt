-- Corners of the refusals, the form of a state and the tick, each with the reply that document 01 gives it.
use Rattle.std.specs.Prelude.{Bool, true, false, List, [], ◌∷◌, ℕ, eqb, replicate}
use Rattle.rules.specs.Lists.{same_lists, padded}
use Rattle.rules.specs.Records.{SetRecord, record_refusal}
use Rattle.rules.specs.Jobs.{late, Stand, Ready, Waiting, Done, Stopped, Job}
use Rattle.rules.specs.States.{StateRecord, blank_job, blank_task, StartReply, start_refused, started, start_refusal, start_reply, tick_refused, ticked, tick_refusal, tick_reply, task_entry, handed}

-- a call and the refusal it gets (0: none), or a run from a start and what each tick gives: the runner, then the faults
pub data Corner : Type 0 where
  of_set : SetRecord → ℕ → Corner
  of_start : SetRecord → List ℕ → Bool → ℕ → Corner
  of_tick : StateRecord → List ℕ → List ℕ → Bool → ℕ → Corner
  of_run : SetRecord → List ℕ → List (List ℕ) → List (List ℕ) → Corner

-- what the ticks of a run give; a refusal is its number alone, and leaves the state as it was
unfoldable pub shown_by : List ℕ → StateRecord → List (List ℕ) → List (List ℕ)
shown_by table w [] = []
shown_by table w (r ∷ rs) = elim (tick_reply w table r true) [ tick_refused n ↦ (n ∷ []) ∷ shown_by table w rs | ticked a f v ↦ (a ∷ f) ∷ shown_by table v rs ]

-- from the reply to a start; a refused start is its number alone
unfoldable pub shown_from : List ℕ → StartReply → List (List ℕ) → List (List ℕ)
shown_from table (start_refused n) rs = (n ∷ []) ∷ []
shown_from table (started w) rs = shown_by table w rs

-- the definitions give the row its reply
unfoldable pub agrees : Corner → Bool
agrees (of_set s n) = eqb (record_refusal s) n
agrees (of_start s table enough n) = eqb (start_refusal s table enough) n
agrees (of_tick w table reports enough n) = eqb (tick_refusal w table reports enough) n
agrees (of_run s table reports shown) = same_lists (shown_from table (start_reply s table true) reports) shown

-- a job and a state written by hand, zeros in the parts not in use
unfoldable pub job : Stand → ℕ → ℕ → Job
job st k g = record { step = k; given = g; stand = st }

unfoldable pub state : SetRecord → ℕ → List ℕ → List Job → ℕ → StateRecord
state r t ps js l = record { set = r; slot = t; planned = padded 8 0 ps; jobs = padded 8 blank_job js; last = l }

-- the rows, each with what it tries
unfoldable pub corners : List Corner
corners =
    of_set (handed (task_entry 3 3 2 (1 ∷ 1 ∷ 1 ∷ []) ∷ task_entry 6 6 1 (1 ∷ []) ∷ [])) 0  -- as it is
    ∷ of_set (record { count = 0; entries = padded 8 blank_task (task_entry 3 3 2 (1 ∷ 1 ∷ 1 ∷ []) ∷ task_entry 6 6 1 (1 ∷ []) ∷ []) }) 5  -- no task
    ∷ of_set (record { count = 9; entries = padded 8 blank_task (task_entry 3 3 2 (1 ∷ 1 ∷ 1 ∷ []) ∷ task_entry 6 6 1 (1 ∷ []) ∷ []) }) 5  -- nine tasks
    ∷ of_set (record { count = 9; entries = padded 8 blank_task (task_entry 3 3 0 (1 ∷ 1 ∷ 1 ∷ []) ∷ task_entry 6 6 1 (1 ∷ []) ∷ []) }) 5  -- nine tasks before a bad task
    ∷ of_set (record { count = 200; entries = padded 8 blank_task (task_entry 3 3 2 (1 ∷ 1 ∷ 1 ∷ []) ∷ task_entry 6 6 1 (1 ∷ []) ∷ []) }) 5  -- two hundred tasks
    ∷ of_set (handed (task_entry 3 3 0 (1 ∷ 1 ∷ 1 ∷ []) ∷ task_entry 6 6 1 (1 ∷ []) ∷ [])) 2  -- m = 0
    ∷ of_set (handed (task_entry 3 3 5 (1 ∷ 1 ∷ 1 ∷ []) ∷ task_entry 6 6 1 (1 ∷ []) ∷ [])) 2  -- m = 5
    ∷ of_set (handed (task_entry 0 3 5 (1 ∷ 1 ∷ 1 ∷ []) ∷ task_entry 6 6 1 (1 ∷ []) ∷ [])) 2  -- 2 before 3 within a task
    ∷ of_set (handed (task_entry 3 4 2 (1 ∷ 1 ∷ 1 ∷ []) ∷ task_entry 6 6 0 (1 ∷ []) ∷ [])) 4  -- task by task: 4 in task 1 before 2 in task 2
    ∷ of_set (handed (task_entry 3 4 2 (1 ∷ 1 ∷ 0 ∷ []) ∷ task_entry 6 6 1 (1 ∷ []) ∷ [])) 3  -- 3 before 4
    ∷ of_set (handed (task_entry 3 3 2 (1 ∷ 1 ∷ 1 ∷ 0 ∷ 999 ∷ []) ∷ task_entry 6 6 1 (1 ∷ []) ∷ [])) 0  -- a step beyond m is ignored
    ∷ of_set (handed (task_entry 4095 3 2 (1 ∷ 1 ∷ 1 ∷ []) ∷ task_entry 4096 4097 1 (1 ∷ []) ∷ [])) 3  -- 3 before 6
    ∷ of_set (handed (task_entry 4096 3 2 (1 ∷ 1 ∷ 1 ∷ []) ∷ task_entry 4095 4096 1 (1 ∷ []) ∷ [])) 4  -- 4 before 6
    ∷ of_set (handed (task_entry 4095 3 2 (1 ∷ 1 ∷ 1 ∷ []) ∷ task_entry 4096 6 1 (1 ∷ []) ∷ [])) 6  -- 6
    ∷ of_set (handed (task_entry 4096 1 1 (1 ∷ []) ∷ [])) 0  -- 4096 1 1
    ∷ of_set (handed (task_entry 4097 4 1 (1 ∷ []) ∷ [])) 3  -- 4097 4 1
    ∷ of_set (handed (task_entry 7 8 1 (1 ∷ []) ∷ [])) 4  -- 7 8 1
    ∷ of_set (handed (task_entry 7 8 1 (0 ∷ []) ∷ [])) 3  -- 7 8 0
    ∷ of_set (handed (task_entry 7 7 1 (256 ∷ []) ∷ [])) 3  -- a unit of 256
    ∷ of_set (handed (task_entry 64 64 1 (1 ∷ []) ∷ task_entry 63 63 1 (1 ∷ []) ∷ [])) 0  -- 64 and 63
    ∷ of_set (handed (task_entry 65 65 1 (1 ∷ []) ∷ task_entry 64 64 1 (1 ∷ []) ∷ [])) 6  -- 65 and 64
    ∷ of_start (handed (task_entry 4 4 2 (1 ∷ 1 ∷ 1 ∷ []) ∷ [])) (255 ∷ 0 ∷ 255 ∷ 0 ∷ []) true 0  -- a schedule that is not the first
    ∷ of_start (handed (task_entry 4 4 2 (1 ∷ 1 ∷ 1 ∷ []) ∷ [])) (255 ∷ 255 ∷ 255 ∷ 255 ∷ []) true 12  -- not a schedule
    ∷ of_start (handed (task_entry 4 4 2 (1 ∷ 1 ∷ 1 ∷ []) ∷ [])) (0 ∷ 0 ∷ 255 ∷ 255 ∷ []) true 12  -- starts its second step too early
    ∷ of_start (handed (task_entry 4 4 2 (1 ∷ 1 ∷ 1 ∷ []) ∷ [])) (0 ∷ 255 ∷ 0 ∷ []) true 12  -- short table
    ∷ of_start (handed (task_entry 4 4 2 (1 ∷ 1 ∷ 1 ∷ []) ∷ [])) (0 ∷ 255 ∷ 0 ∷ 255 ∷ 255 ∷ []) true 12  -- long table
    ∷ of_start (handed (task_entry 4 4 2 (1 ∷ 1 ∷ 1 ∷ []) ∷ [])) (0 ∷ 255 ∷ 0 ∷ 1 ∷ []) true 12  -- absent task
    ∷ of_start (handed (task_entry 3 2 2 (1 ∷ 1 ∷ 1 ∷ []) ∷ [])) (0 ∷ 255 ∷ 0 ∷ []) true 12  -- L > D: no table is a schedule
    ∷ of_start (handed (task_entry 4 4 2 (1 ∷ 1 ∷ 1 ∷ []) ∷ [])) (255 ∷ 255 ∷ 255 ∷ 255 ∷ []) false 12  -- 12 before 8
    ∷ of_start (handed (task_entry 4 4 2 (1 ∷ 1 ∷ 1 ∷ []) ∷ [])) (0 ∷ 255 ∷ 0 ∷ 255 ∷ []) false 8  -- 8 at a start
    ∷ of_start (handed (task_entry 4 5 2 (1 ∷ 1 ∷ 1 ∷ []) ∷ [])) (255 ∷ 255 ∷ 255 ∷ 255 ∷ []) false 4  -- set first
    ∷ of_run (handed (task_entry 4 4 2 (1 ∷ 1 ∷ 1 ∷ []) ∷ [])) (255 ∷ 0 ∷ 255 ∷ 0 ∷ []) ((0 ∷ []) ∷ (0 ∷ []) ∷ (1 ∷ []) ∷ (2 ∷ []) ∷ (1 ∷ []) ∷ []) ((255 ∷ 0 ∷ []) ∷ (0 ∷ 0 ∷ []) ∷ (255 ∷ 0 ∷ []) ∷ (0 ∷ 0 ∷ []) ∷ (255 ∷ 0 ∷ []) ∷ [])  -- not the first schedule
    ∷ of_run (handed (task_entry 3 3 2 (1 ∷ 1 ∷ 1 ∷ []) ∷ [])) (0 ∷ 255 ∷ 0 ∷ []) ((1 ∷ []) ∷ (1 ∷ []) ∷ (2 ∷ []) ∷ []) ((0 ∷ 3 ∷ []) ∷ (255 ∷ 0 ∷ []) ∷ (0 ∷ 0 ∷ []) ∷ [])  -- false report at the first tick: fault 3, and the new job runs
    ∷ of_run (handed (task_entry 3 3 2 (1 ∷ 1 ∷ 1 ∷ []) ∷ [])) (0 ∷ 255 ∷ 0 ∷ []) ((0 ∷ []) ∷ (3 ∷ []) ∷ (2 ∷ []) ∷ (0 ∷ []) ∷ []) ((0 ∷ 0 ∷ []) ∷ (255 ∷ 3 ∷ []) ∷ (255 ∷ 0 ∷ []) ∷ (0 ∷ 0 ∷ []) ∷ [])  -- a 3 from the runner
    ∷ of_run (handed (task_entry 3 3 2 (1 ∷ 1 ∷ 1 ∷ []) ∷ [])) (0 ∷ 255 ∷ 0 ∷ []) ((0 ∷ []) ∷ (2 ∷ []) ∷ (9 ∷ []) ∷ (9 ∷ []) ∷ []) ((0 ∷ 0 ∷ []) ∷ (255 ∷ 3 ∷ []) ∷ (255 ∷ 0 ∷ []) ∷ (0 ∷ 0 ∷ []) ∷ [])  -- a 2 from the runner
    ∷ of_run (handed (task_entry 3 3 2 (1 ∷ 1 ∷ 1 ∷ []) ∷ [])) (0 ∷ 255 ∷ 0 ∷ []) ((0 ∷ []) ∷ (1 ∷ []) ∷ (1 ∷ []) ∷ (0 ∷ []) ∷ []) ((0 ∷ 0 ∷ []) ∷ (255 ∷ 0 ∷ []) ∷ (255 ∷ 3 ∷ []) ∷ (0 ∷ 0 ∷ []) ∷ [])  -- a 1 from a waiting task
    ∷ of_run (handed (task_entry 4 4 2 (1 ∷ 1 ∷ 1 ∷ []) ∷ [])) (0 ∷ 255 ∷ 0 ∷ 255 ∷ []) ((0 ∷ []) ∷ (1 ∷ []) ∷ (2 ∷ []) ∷ (1 ∷ []) ∷ (255 ∷ []) ∷ (1 ∷ []) ∷ []) ((0 ∷ 0 ∷ []) ∷ (255 ∷ 0 ∷ []) ∷ (0 ∷ 0 ∷ []) ∷ (255 ∷ 0 ∷ []) ∷ (0 ∷ 3 ∷ []) ∷ (255 ∷ 0 ∷ []) ∷ [])  -- a 255 from a done task
    ∷ of_run (handed (task_entry 2 2 1 (1 ∷ []) ∷ task_entry 2 2 1 (1 ∷ []) ∷ [])) (0 ∷ 1 ∷ []) ((0 ∷ 0 ∷ []) ∷ (1 ∷ 1 ∷ []) ∷ []) ((0 ∷ 0 ∷ 0 ∷ []) ∷ (255 ∷ 0 ∷ 3 ∷ []) ∷ [])  -- a 1 from a ready task that did not run
    ∷ of_run (handed (task_entry 1 1 1 (1 ∷ []) ∷ [])) (0 ∷ []) ((0 ∷ []) ∷ (0 ∷ []) ∷ (0 ∷ []) ∷ []) ((0 ∷ 0 ∷ []) ∷ (0 ∷ 1 ∷ []) ∷ (0 ∷ 1 ∷ []) ∷ [])  -- overrun at the last slot, new job in the same tick
    ∷ of_run (handed (task_entry 1 1 1 (1 ∷ []) ∷ [])) (0 ∷ []) ((0 ∷ []) ∷ (1 ∷ []) ∷ (1 ∷ []) ∷ []) ((0 ∷ 0 ∷ []) ∷ (0 ∷ 0 ∷ []) ∷ (0 ∷ 0 ∷ []) ∷ [])  -- finish at the last slot
    ∷ of_run (handed (task_entry 1 1 1 (1 ∷ []) ∷ [])) (0 ∷ []) ((0 ∷ []) ∷ (2 ∷ []) ∷ (1 ∷ []) ∷ []) ((0 ∷ 0 ∷ []) ∷ (0 ∷ 3 ∷ []) ∷ (0 ∷ 0 ∷ []) ∷ [])  -- false at the last slot, new job in the same tick
    ∷ of_run (handed (task_entry 6 6 2 (1 ∷ 1 ∷ 2 ∷ []) ∷ [])) (0 ∷ 255 ∷ 0 ∷ 0 ∷ 255 ∷ 255 ∷ []) ((0 ∷ []) ∷ (1 ∷ []) ∷ (0 ∷ []) ∷ (2 ∷ []) ∷ (1 ∷ []) ∷ (3 ∷ []) ∷ (7 ∷ []) ∷ []) ((0 ∷ 0 ∷ []) ∷ (255 ∷ 0 ∷ []) ∷ (255 ∷ 2 ∷ []) ∷ (255 ∷ 0 ∷ []) ∷ (255 ∷ 0 ∷ []) ∷ (255 ∷ 0 ∷ []) ∷ (0 ∷ 0 ∷ []) ∷ [])  -- late is stopped once; a stopped job ignores reports
    ∷ of_run (handed (task_entry 6 6 2 (2 ∷ 1 ∷ 2 ∷ []) ∷ [])) (0 ∷ 0 ∷ 255 ∷ 0 ∷ 0 ∷ 255 ∷ []) ((0 ∷ []) ∷ (1 ∷ []) ∷ (2 ∷ []) ∷ (0 ∷ []) ∷ (1 ∷ []) ∷ (0 ∷ []) ∷ []) ((0 ∷ 0 ∷ []) ∷ (255 ∷ 0 ∷ []) ∷ (255 ∷ 0 ∷ []) ∷ (0 ∷ 0 ∷ []) ∷ (255 ∷ 0 ∷ []) ∷ (255 ∷ 0 ∷ []) ∷ [])  -- early finish: the slot idles
    ∷ of_run (handed (task_entry 6 6 2 (1 ∷ 3 ∷ 1 ∷ []) ∷ [])) (0 ∷ 255 ∷ 255 ∷ 255 ∷ 0 ∷ 255 ∷ []) ((0 ∷ []) ∷ (1 ∷ []) ∷ (2 ∷ []) ∷ (0 ∷ []) ∷ (0 ∷ []) ∷ (1 ∷ []) ∷ []) ((0 ∷ 0 ∷ []) ∷ (255 ∷ 0 ∷ []) ∷ (255 ∷ 0 ∷ []) ∷ (255 ∷ 0 ∷ []) ∷ (0 ∷ 0 ∷ []) ∷ (255 ∷ 0 ∷ []) ∷ [])  -- wait ended early: the next step runs only at its planned slot
    ∷ of_run (handed (task_entry 6 6 2 (1 ∷ 3 ∷ 1 ∷ []) ∷ [])) (0 ∷ 255 ∷ 255 ∷ 255 ∷ 0 ∷ 255 ∷ []) ((0 ∷ []) ∷ (1 ∷ []) ∷ (0 ∷ []) ∷ (0 ∷ []) ∷ (2 ∷ []) ∷ (1 ∷ []) ∷ []) ((0 ∷ 0 ∷ []) ∷ (255 ∷ 0 ∷ []) ∷ (255 ∷ 0 ∷ []) ∷ (255 ∷ 0 ∷ []) ∷ (0 ∷ 0 ∷ []) ∷ (255 ∷ 0 ∷ []) ∷ [])  -- wait ends in the very slot planned for the next step
    ∷ of_run (handed (task_entry 6 6 2 (1 ∷ 1 ∷ 1 ∷ []) ∷ [])) (0 ∷ 255 ∷ 255 ∷ 255 ∷ 0 ∷ 255 ∷ []) ((0 ∷ []) ∷ (1 ∷ []) ∷ (0 ∷ []) ∷ (0 ∷ []) ∷ (2 ∷ []) ∷ (1 ∷ []) ∷ []) ((0 ∷ 0 ∷ []) ∷ (255 ∷ 0 ∷ []) ∷ (255 ∷ 0 ∷ []) ∷ (255 ∷ 0 ∷ []) ∷ (0 ∷ 0 ∷ []) ∷ (255 ∷ 0 ∷ []) ∷ [])  -- wait too long but before its planned slot: no fault
    ∷ of_run (handed (task_entry 6 6 2 (2 ∷ 1 ∷ 1 ∷ []) ∷ task_entry 6 6 1 (1 ∷ []) ∷ [])) (0 ∷ 0 ∷ 1 ∷ 0 ∷ 255 ∷ 255 ∷ []) ((0 ∷ 0 ∷ []) ∷ (0 ∷ 0 ∷ []) ∷ (1 ∷ 0 ∷ []) ∷ (0 ∷ 1 ∷ []) ∷ []) ((0 ∷ 0 ∷ 0 ∷ []) ∷ (0 ∷ 0 ∷ 0 ∷ []) ∷ (1 ∷ 0 ∷ 0 ∷ []) ∷ (255 ∷ 2 ∷ 0 ∷ []) ∷ [])  -- still in an earlier step at the planned slot: late
    ∷ of_tick (state (handed (task_entry 3 3 2 (1 ∷ 1 ∷ 1 ∷ []) ∷ [])) 0 (0 ∷ []) (job Done 0 0 ∷ []) 255) (0 ∷ 255 ∷ 0 ∷ []) ([]) true 11  -- 11: none
    ∷ of_tick (state (handed (task_entry 3 3 2 (1 ∷ 1 ∷ 1 ∷ []) ∷ [])) 0 (0 ∷ []) (job Done 0 0 ∷ []) 255) (0 ∷ 255 ∷ 0 ∷ []) (0 ∷ 0 ∷ []) true 11  -- 11: two
    ∷ of_tick (state (handed (task_entry 3 3 2 (1 ∷ 1 ∷ 1 ∷ []) ∷ [])) 3 (0 ∷ []) (job Done 0 0 ∷ []) 255) (0 ∷ 255 ∷ 0 ∷ []) ([]) true 10  -- 10 before 11 and 12
    ∷ of_tick (state (handed (task_entry 4 4 2 (1 ∷ 1 ∷ 1 ∷ []) ∷ [])) 0 (0 ∷ []) (job Done 0 0 ∷ []) 255) (0 ∷ []) ([]) true 11  -- 11 before 12
    ∷ of_tick (state (handed (task_entry 4 4 2 (1 ∷ 1 ∷ 1 ∷ []) ∷ [])) 0 (0 ∷ []) (job Done 0 0 ∷ []) 255) (0 ∷ 255 ∷ 0 ∷ []) (0 ∷ []) true 12  -- table short at a tick
    ∷ of_tick (state (handed (task_entry 4 4 2 (1 ∷ 1 ∷ 1 ∷ []) ∷ [])) 0 (0 ∷ []) (job Done 0 0 ∷ []) 255) (0 ∷ 255 ∷ 0 ∷ 255 ∷ 255 ∷ []) (0 ∷ []) true 12  -- table long at a tick
    ∷ of_tick (state (handed (task_entry 4 4 2 (1 ∷ 1 ∷ 1 ∷ []) ∷ [])) 0 (0 ∷ []) (job Done 0 0 ∷ []) 255) (0 ∷ 255 ∷ 0 ∷ []) (0 ∷ []) false 12  -- 12 before 8
    ∷ of_tick (state (handed (task_entry 4 4 2 (1 ∷ 1 ∷ 1 ∷ []) ∷ [])) 0 (0 ∷ []) (job Done 0 0 ∷ []) 255) (0 ∷ 255 ∷ 0 ∷ 255 ∷ []) (0 ∷ []) false 8  -- 8 at a tick
    ∷ of_tick (state (handed (task_entry 4 4 2 (1 ∷ 1 ∷ 1 ∷ []) ∷ [])) 0 (0 ∷ []) (job Done 0 0 ∷ []) 255) (0 ∷ 7 ∷ 7 ∷ 7 ∷ []) (0 ∷ []) true 0  -- only this slot's entry is tested
    ∷ of_tick (state (handed (task_entry 4 4 2 (1 ∷ 1 ∷ 1 ∷ []) ∷ [])) 0 (0 ∷ []) (job Done 0 0 ∷ []) 255) (255 ∷ 7 ∷ 7 ∷ 7 ∷ []) (0 ∷ []) true 0  -- another allowed choice to a live position
    ∷ of_tick (state (handed (task_entry 4 4 2 (1 ∷ 1 ∷ 1 ∷ []) ∷ [])) 0 (0 ∷ []) (job Done 0 0 ∷ []) 255) (1 ∷ 255 ∷ 255 ∷ 255 ∷ []) (0 ∷ []) true 12  -- absent task
    ∷ of_tick (state (handed (task_entry 3 3 2 (1 ∷ 1 ∷ 1 ∷ []) ∷ [])) 2 (2 ∷ []) (job Ready 1 0 ∷ []) 255) (0 ∷ 255 ∷ 0 ∷ []) (0 ∷ []) true 0  -- the last step in time
    ∷ of_tick (state (handed (task_entry 3 3 2 (1 ∷ 1 ∷ 1 ∷ []) ∷ [])) 0 (0 ∷ []) (job Done 0 0 ∷ []) 255) (255 ∷ 255 ∷ 255 ∷ []) (0 ∷ []) true 12  -- idle to a position that is not live
    ∷ of_tick (state (handed (task_entry 3 3 2 (1 ∷ 1 ∷ 1 ∷ []) ∷ [])) 1 (1 ∷ []) (job Done 0 0 ∷ []) 255) (255 ∷ 0 ∷ 255 ∷ []) (0 ∷ []) true 12  -- the owner waits in the plan
    ∷ of_tick (state (handed (task_entry 3 2 2 (1 ∷ 1 ∷ 1 ∷ []) ∷ [])) 2 (3 ∷ []) (job Done 0 0 ∷ []) 255) (255 ∷ 255 ∷ 255 ∷ []) (0 ∷ []) true 12  -- restart to a position that is not live
    ∷ of_tick (state (handed (task_entry 6 6 2 (2 ∷ 1 ∷ 2 ∷ []) ∷ [])) 0 (0 ∷ []) (job Done 0 0 ∷ []) 255) (0 ∷ 0 ∷ 255 ∷ 0 ∷ 0 ∷ 255 ∷ []) (0 ∷ []) true 0  -- fresh
    ∷ of_tick (state (handed (task_entry 6 7 2 (2 ∷ 1 ∷ 2 ∷ []) ∷ [])) 0 (0 ∷ []) (job Done 0 0 ∷ []) 255) (0 ∷ 0 ∷ 255 ∷ 0 ∷ 0 ∷ 255 ∷ []) (0 ∷ []) true 10  -- set refused
    ∷ of_tick (state (handed (task_entry 6 6 2 (2 ∷ 1 ∷ 2 ∷ []) ∷ [])) 6 (0 ∷ []) (job Done 0 0 ∷ []) 255) (0 ∷ 0 ∷ 255 ∷ 0 ∷ 0 ∷ 255 ∷ []) (0 ∷ []) true 10  -- slot = H
    ∷ of_tick (state (handed (task_entry 6 6 2 (2 ∷ 1 ∷ 2 ∷ []) ∷ [])) 0 (1 ∷ []) (job Done 0 0 ∷ []) 255) (0 ∷ 0 ∷ 255 ∷ 0 ∷ 0 ∷ 255 ∷ []) (0 ∷ []) true 10  -- progress above 0 where the period divides the slot
    ∷ of_tick (state (handed (task_entry 6 6 2 (2 ∷ 1 ∷ 2 ∷ []) ∷ [])) 5 (6 ∷ []) (job Done 0 0 ∷ []) 255) (0 ∷ 0 ∷ 255 ∷ 0 ∷ 0 ∷ 255 ∷ []) (0 ∷ []) true 10  -- progress above L
    ∷ of_tick (state (handed (task_entry 6 6 2 (2 ∷ 1 ∷ 2 ∷ []) ∷ [])) 5 (5 ∷ []) (job Done 0 0 ∷ []) 255) (0 ∷ 0 ∷ 255 ∷ 0 ∷ 0 ∷ 255 ∷ []) (0 ∷ []) true 0  -- progress = L
    ∷ of_tick (state (handed (task_entry 6 6 2 (2 ∷ 1 ∷ 2 ∷ []) ∷ [])) 3 (0 ∷ []) (job Done 0 0 ∷ []) 255) (0 ∷ 0 ∷ 255 ∷ 0 ∷ 0 ∷ 255 ∷ []) (0 ∷ []) true 10  -- planned position not live
    ∷ of_tick (state (handed (task_entry 6 6 2 (2 ∷ 1 ∷ 2 ∷ []) ∷ [])) 1 (3 ∷ []) (job Done 0 0 ∷ []) 255) (0 ∷ 0 ∷ 255 ∷ 0 ∷ 0 ∷ 255 ∷ []) (0 ∷ []) true 0  -- progress ahead of time is still a position
    ∷ of_tick (state (handed (task_entry 6 6 2 (2 ∷ 1 ∷ 2 ∷ []) ∷ [])) 0 (0 ∷ []) (job Ready 2 0 ∷ []) 255) (0 ∷ 0 ∷ 255 ∷ 0 ∷ 0 ∷ 255 ∷ []) (0 ∷ []) true 10  -- ready, step 3 of 2
    ∷ of_tick (state (handed (task_entry 6 6 2 (2 ∷ 1 ∷ 2 ∷ []) ∷ [])) 0 (0 ∷ []) (job Ready 0 2 ∷ []) 255) (0 ∷ 0 ∷ 255 ∷ 0 ∷ 0 ∷ 255 ∷ []) (0 ∷ []) true 10  -- ready, all slots given, did not run last
    ∷ of_tick (state (handed (task_entry 6 6 2 (2 ∷ 1 ∷ 2 ∷ []) ∷ [])) 0 (0 ∷ []) (job Ready 0 2 ∷ []) 0) (0 ∷ 0 ∷ 255 ∷ 0 ∷ 0 ∷ 255 ∷ []) (0 ∷ []) true 0  -- ready, all slots given, ran last
    ∷ of_tick (state (handed (task_entry 6 6 2 (2 ∷ 1 ∷ 2 ∷ []) ∷ [])) 0 (0 ∷ []) (job Ready 0 3 ∷ []) 0) (0 ∷ 0 ∷ 255 ∷ 0 ∷ 0 ∷ 255 ∷ []) (0 ∷ []) true 10  -- ready, more than C given
    ∷ of_tick (state (handed (task_entry 6 6 2 (2 ∷ 1 ∷ 2 ∷ []) ∷ [])) 0 (0 ∷ []) (job Ready 0 0 ∷ []) 0) (0 ∷ 0 ∷ 255 ∷ 0 ∷ 0 ∷ 255 ∷ []) (0 ∷ []) true 10  -- last runner without a slot given
    ∷ of_tick (state (handed (task_entry 6 6 2 (2 ∷ 1 ∷ 2 ∷ []) ∷ [])) 0 (0 ∷ []) (job Done 0 0 ∷ []) 0) (0 ∷ 0 ∷ 255 ∷ 0 ∷ 0 ∷ 255 ∷ []) (0 ∷ []) true 10  -- last runner done
    ∷ of_tick (state (handed (task_entry 6 6 2 (2 ∷ 1 ∷ 2 ∷ []) ∷ [])) 0 (0 ∷ []) (job Done 0 0 ∷ []) 1) (0 ∷ 0 ∷ 255 ∷ 0 ∷ 0 ∷ 255 ∷ []) (0 ∷ []) true 10  -- last runner absent
    ∷ of_tick (state (handed (task_entry 6 6 2 (2 ∷ 1 ∷ 2 ∷ []) ∷ [])) 0 (0 ∷ []) (job Waiting 0 0 ∷ []) 255) (0 ∷ 0 ∷ 255 ∷ 0 ∷ 0 ∷ 255 ∷ []) (0 ∷ []) true 0  -- waiting after step 1
    ∷ of_tick (state (handed (task_entry 6 6 2 (2 ∷ 1 ∷ 2 ∷ []) ∷ [])) 0 (0 ∷ []) (job Waiting 1 0 ∷ []) 255) (0 ∷ 0 ∷ 255 ∷ 0 ∷ 0 ∷ 255 ∷ []) (0 ∷ []) true 10  -- waiting after the last step
    ∷ of_tick (state (handed (task_entry 6 6 2 (2 ∷ 1 ∷ 2 ∷ []) ∷ [])) 0 (0 ∷ []) (job Waiting 0 1 ∷ []) 255) (0 ∷ 0 ∷ 255 ∷ 0 ∷ 0 ∷ 255 ∷ []) (0 ∷ []) true 10  -- waiting with slots given
    ∷ of_tick (state (handed (task_entry 6 6 2 (2 ∷ 1 ∷ 2 ∷ []) ∷ [])) 0 (0 ∷ []) (job Done 1 0 ∷ []) 255) (0 ∷ 0 ∷ 255 ∷ 0 ∷ 0 ∷ 255 ∷ []) (0 ∷ []) true 10  -- done with a step
    ∷ of_tick (state (handed (task_entry 6 6 2 (2 ∷ 1 ∷ 2 ∷ []) ∷ [])) 0 (0 ∷ []) (job (Stopped late) 0 1 ∷ []) 255) (0 ∷ 0 ∷ 255 ∷ 0 ∷ 0 ∷ 255 ∷ []) (0 ∷ []) true 10  -- stopped with slots given
    ∷ of_tick (state (handed (task_entry 6 6 2 (2 ∷ 1 ∷ 2 ∷ []) ∷ [])) 0 (0 ∷ []) (job (Stopped late) 0 0 ∷ []) 255) (0 ∷ 0 ∷ 255 ∷ 0 ∷ 0 ∷ 255 ∷ []) (0 ∷ []) true 0  -- stopped
    ∷ of_tick (state (handed (task_entry 6 6 2 (2 ∷ 1 ∷ 2 ∷ []) ∷ [])) 0 (0 ∷ 1 ∷ []) (job Done 0 0 ∷ []) 255) (0 ∷ 0 ∷ 255 ∷ 0 ∷ 0 ∷ 255 ∷ []) (0 ∷ []) true 10  -- unused planned progress
    ∷ of_tick (state (handed (task_entry 6 6 2 (2 ∷ 1 ∷ 2 ∷ []) ∷ [])) 0 (0 ∷ []) (job Done 0 0 ∷ blank_job ∷ blank_job ∷ blank_job ∷ blank_job ∷ blank_job ∷ blank_job ∷ job Ready 1 0 ∷ []) 255) (0 ∷ 0 ∷ 255 ∷ 0 ∷ 0 ∷ 255 ∷ []) (0 ∷ []) true 10  -- unused job
    ∷ of_tick (state (record { count = 1; entries = padded 8 blank_task (task_entry 6 6 2 (2 ∷ 1 ∷ 2 ∷ []) ∷ record { period = 1; deadline = 0; steps = 0; units = replicate 7 0 } ∷ []) }) 0 (0 ∷ []) (job Done 0 0 ∷ []) 255) (0 ∷ 0 ∷ 255 ∷ 0 ∷ 0 ∷ 255 ∷ []) (0 ∷ []) true 10  -- unused task in the set
    ∷ of_tick (state (handed (task_entry 6 6 2 (2 ∷ 1 ∷ 2 ∷ 1 ∷ []) ∷ [])) 0 (0 ∷ []) (job Done 0 0 ∷ []) 255) (0 ∷ 0 ∷ 255 ∷ 0 ∷ 0 ∷ 255 ∷ []) (0 ∷ []) true 10  -- unused pattern entry in the set
    ∷ of_tick (state (handed (task_entry 6 6 2 (2 ∷ 1 ∷ 2 ∷ []) ∷ [])) 0 (0 ∷ []) (job Ready 1 1 ∷ []) 255) (0 ∷ 0 ∷ 255 ∷ 0 ∷ 0 ∷ 255 ∷ []) (0 ∷ []) true 0  -- ready in a step the plan has not reached is of the form
    ∷ []

-- all of the above, for proofs that compute
unfoldable pub open_corners : Type 0
unfolding job state shown_by shown_from agrees corners
open_corners = Unit {0}
