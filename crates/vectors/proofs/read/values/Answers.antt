-- All values stand in the buffer.
use native.Mathlib.Omega.{arith}
use Rattle.vectors.proofs.Buffers.{values_all}
use Rattle.vectors.proofs.read.values.Goals as goal

pub returns : goal.returns
returns c = values_all _ c.min.result _ _ _ (omega arith) c.loop-i.invariant.values c.loop-i.auto.i-end c.loop-i-test.false
