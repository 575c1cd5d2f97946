use Rattle.std.proofs.Common.{arith}
use Rattle.player.proofs.Codes.{state-read}
use Rattle.player.proofs.State.from_bytes.Goals as goal

pub returns-clause-value : goal.returns-clause-value
returns-clause-value c = state-read c.args.bytes.now _ _ _ _ _ (c.set_in.ensures.held (omega arith)) c.from_le_bytes.ensures c.planned_in.ensures c.in_ok-jobs_in.ensures.value c.last_from.ensures.number
