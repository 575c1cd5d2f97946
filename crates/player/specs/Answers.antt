-- The replies of a start and a tick as the results hold them: a refusal is its number alone, and the rest of an answer is then fixed too.
use Rattle.std.specs.Prelude.{ℕ, List, Result, Ok, Err, replicate}
use Rattle.rules.specs.Lists.{padded}
use Rattle.rules.specs.Positions.{idle}
use Rattle.rules.specs.States.{StateRecord, blank_state, StartReply, start_refused, started, TickReply, tick_refused, ticked}
use Rattle.tasks.specs.declared.refusal.Refusal.{Refusal}
use Rattle.tasks.specs.Refusals.{number_of}
use Rattle.player.specs.declared.State.{State}
use Rattle.player.specs.declared.Ticked.{Ticked}
use Rattle.player.specs.declared.Told.{Told}
use Rattle.player.specs.Views.{state_of, faults_of, runner_number}

pub record StartAnswer : Type 0 where
  pub refusal : ℕ
  pub state : StateRecord

-- a refused start: a blank state
unfoldable pub start_answer : StartReply → StartAnswer
start_answer (start_refused n) = record { refusal = n; state = blank_state }
start_answer (started w) = record { refusal = 0; state = w }

unfoldable pub started_of : Result State Refusal → StartAnswer
started_of (Err r) = record { refusal = number_of r; state = blank_state }
started_of (Ok st) = record { refusal = 0; state = state_of st }

pub record TickAnswer : Type 0 where
  pub refusal : ℕ
  pub runner : ℕ
  pub faults : List ℕ
  pub state : StateRecord

-- a refused tick: nobody runs, no fault, and the state that was handed in
unfoldable pub tick_answer : StateRecord → TickReply → TickAnswer
tick_answer w (tick_refused n) = record { refusal = n; runner = idle; faults = replicate 8 0; state = w }
tick_answer w (ticked runner faults v) = record { refusal = 0; runner = runner; faults = padded 8 0 faults; state = v }

-- what a tick told, with the state that it left
abbrev pub with_state : State → Result Told Refusal → Result Ticked Refusal
with_state st (Ok t) = Ok (record { runner = t.runner; faults = t.faults; state = st })
with_state st (Err r) = Err r

unfoldable pub ticked_of : StateRecord → Result Ticked Refusal → TickAnswer
ticked_of w (Err r) = record { refusal = number_of r; runner = idle; faults = replicate 8 0; state = w }
ticked_of w (Ok t) = record { refusal = 0; runner = runner_number t.runner; faults = faults_of t.faults; state = state_of t.state }
