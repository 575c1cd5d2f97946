-- The owner has been given fewer than 255 slots in its step, and a late one has no other fault.
use Prim.Native.Nat.{ℕ}
use borrow.Author.Rules.{rules}
use lib.ListN.{get_or}
use mir.Syntax.{w8}
use mir.Val.{Fits}
use Rattle.player.proofs.Turns.{run_room, late_fault}
use Rattle.player.proofs.turn.TaskTurn.take.Goals as goal

pub owned-requires : goal.owned-requires
owned-requires c =
    let fits : (i : ℕ) → Fits w8 (get_or c.args.self.task.pattern i 0) = λ i. search rules in
    search run_room

pub returns-then-late-clause-fault : goal.returns-then-late-clause-fault
returns-then-late-clause-fault c = search late_fault
