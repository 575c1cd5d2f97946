-- What is told of a task about the slot just ended, as a number.
use Rattle.std.specs.Prelude.{ℕ}
use Rattle.player.specs.declared.turn.Report.{Report}
use Rattle.player.specs.declared.turn.Report.TheVariants.{Nothing, StepDone, WaitEnded, Other}

-- any number other than 0, 1 and 2 is as good as 3
abbrev pub report_number : Report → ℕ
report_number Nothing = 0
report_number StepDone = 1
report_number WaitEnded = 2
report_number Other = 3
