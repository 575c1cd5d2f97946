-- The buffer has room for all that is said.
use native.Mathlib.Omega.{arith}
use Prim.Native.Nat.{ℕ}
use lib.ListN.{length-replicate}
use Rattle.report.proofs.Promises.{explain-text}
use Rattle.plan.proofs.write_explanation.Goals as goal

pub returns : goal.returns
returns g c = rw (explain-text _ _ c.explain-size.ensures c.requires (let l = length-replicate {A = ℕ} 4300 0 in omega arith)) at c.write_all.ensures.bytes
