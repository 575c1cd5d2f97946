-- A start and a tick as they are called from C: the number that is returned, and every lent byte afterwards, from the bytes before.
use Rattle.std.specs.Prelude.{cond, ◌&&◌, List, ◌++◌, ℕ, ◌+◌, ◌*◌, leb, eqb, length, drop, Option, Result, Ok, Err}
use Rattle.rules.specs.Positions.{idle}
use Rattle.rules.specs.States.{StartReply, start_refused, started, start_reply, TickReply, tick_refused, ticked, tick_reply}
use Rattle.tasks.specs.declared.refusal.Refusal.{Refusal}
use Rattle.tasks.specs.Refusals.{number_of}
use Rattle.player.specs.Views.{runner_number}
use Rattle.player.specs.Bytes.{set_size, state_size, state_bytes, set_at, state_at, readable}

-- ── a start ─────────────────────────────────────────────────────────────────

-- a string of another length holds no task set: 5. The buffer is long enough if a state fits
unfoldable pub start_call : List ℕ → List ℕ → List ℕ → StartReply
start_call set table state = cond (eqb (length set) set_size) (start_reply (set_at set) table (leb state_size (length state))) (start_refused 5)

-- the refusal, 0 if accepted
unfoldable pub start_number : StartReply → ℕ
start_number (start_refused n) = n
start_number (started w) = 0

-- the number of what the code answers
abbrev pub start_told : {A : Type 0} → Result A Refusal → ℕ
start_told (Ok x) = 0
start_told (Err r) = number_of r

-- the state is written at the start of the buffer, and the rest kept; a refusal changes no byte
unfoldable pub start_buffer : StartReply → List ℕ → List ℕ
start_buffer (start_refused n) state = state
start_buffer (started w) state = state_bytes w ++ drop state_size state

-- ── a tick ──────────────────────────────────────────────────────────────────

-- a string that can't be read is no state: 10. The buffers are long enough if a state fits, and a fault byte for each task
unfoldable pub tick_call : List ℕ → List ℕ → List ℕ → List ℕ → List ℕ → TickReply
tick_call state table reports next faults =
    cond (readable state) (tick_reply (state_at state) table reports (leb state_size (length next) && leb (state_at state).set.count (length faults))) (tick_refused 10)

-- the refusal in the high byte, the runner in the low byte: 255 for nobody, and on a refusal
unfoldable pub tick_number : TickReply → ℕ
tick_number (tick_refused n) = 256 * n + idle
tick_number (ticked runner shown w) = runner

-- the number of what the code answers
abbrev pub tick_told : Result (Option ℕ) Refusal → ℕ
tick_told (Ok runner) = runner_number runner
tick_told (Err r) = 256 * number_of r + idle

-- the new state is written at the start of its buffer, and the rest kept; a refusal changes no byte
unfoldable pub tick_buffer : TickReply → List ℕ → List ℕ
tick_buffer (tick_refused n) next = next
tick_buffer (ticked runner shown w) next = state_bytes w ++ drop state_size next

-- and so are the fault bytes
unfoldable pub tick_faults : TickReply → List ℕ → List ℕ
tick_faults (tick_refused n) faults = faults
tick_faults (ticked runner shown w) faults = shown ++ drop (length shown) faults
