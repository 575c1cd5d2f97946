-- What is added stands behind the rest, as far as there is space.
use native.Mathlib.Omega.{arith}
use Rattle.std.proofs.Common.{◌-◌}
use Rattle.vectors.proofs.Buffers.{put_times}
use Rattle.vectors.proofs.bytes.Bytes.add.Goals as goal

pub returns : goal.returns
returns c =
    let few = c.args.self.now.few in
    put_times c.args.self.now.count (c.min-end.result - c.args.self.now.count) c.args.times c.args.byte (omega arith) (omega arith) _ (omega arith) _ _ (omega arith) (omega arith) (omega arith) (c.fill.ensures.after (λ y e. e))
