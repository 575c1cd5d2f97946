use Rattle.std.proofs.Common.{rules, arith}
use Rattle.player.specs.Views.{eight}
use Rattle.player.specs.Bytes.{state_at}
use Rattle.player.proofs.Places.{got-step, got-end}
use Rattle.player.proofs.Pieces.{number_read}
use Rattle.player.proofs.codec.planned_in.Goals as goal

pub loop-i-preserved : goal.loop-i-preserved
loop-i-preserved c = got-step _ _ _ _ c.loop-i.i c.loop-i.planned _ c.loop-i.invariant (search rules) (number_read c.args.bytes.now 99 16 _ c.loop-i.i _ _ c.as_chunks.ensures.front (search rules) (omega arith) c.from_le_bytes.ensures)

pub returns : goal.returns
unfolding eight state_at
returns c = got-end _ _ _ _ _ _ c.loop-i.invariant (search rules)
