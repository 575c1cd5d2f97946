-- A waiting job of the form has a step behind it.
use native.Mathlib.Omega.{arith}
use Rattle.player.proofs.Turns.{wait-room}
use Rattle.player.proofs.turn.TaskTurn.reported.Goals as goal

pub overflow_add-result : goal.overflow_add-result
overflow_add-result c = let x = c.args.self.now in let h = wait-room x.task x.ran x.job x.formed c.in-Waiting-WaitEnded.is-0 in omega arith
