use Rattle.std.proofs.Common.{rules, arith}
use Rattle.player.proofs.Places.{got-step, got-end}
use Rattle.player.proofs.Codes.{set-read}
use Rattle.player.proofs.Pieces.{task_read}
use Rattle.player.proofs.codec.set_from_bytes.Goals as goal

pub loop-i-preserved : goal.loop-i-preserved
loop-i-preserved c = got-step _ _ _ _ c.loop-i.i c.loop-i.tasks _ c.loop-i.invariant (search rules) (task_read c.args.bytes.now 1 96 _ c.loop-i.i _ _ c.as_chunks.ensures.front (search rules) (omega arith) c.task_from_bytes.ensures)

pub returns : goal.returns
returns c = set-read _ _ (got-end _ _ _ _ _ _ c.loop-i.invariant (search rules))
