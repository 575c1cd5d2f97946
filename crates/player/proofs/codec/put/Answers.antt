use Rattle.std.proofs.Common.{arith}
use Rattle.player.proofs.Codes.{placed}
use Rattle.player.proofs.codec.put.Goals as goal

pub returns : goal.returns
returns c = rw c.copy_from_slice.ensures.after (placed c.args.out.now c.args.part.now c.args.at _ (omega arith) (omega arith))
