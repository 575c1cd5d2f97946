-- The buffer has room for any text.
use native.Mathlib.Omega.{arith}
use Prim.Native.Nat.{ℕ}
use lib.ListN.{length-replicate}
use Rattle.report.proofs.Promises.{report-text}
use Rattle.plan.proofs.Told.{told-plan}
use Rattle.plan.proofs.write_plan.Goals as goal

pub returns : goal.returns
returns g c =
    let t = length-replicate {A = ℕ} 4096 0 in let o = length-replicate {A = ℕ} 4300 0 in
    told-plan c.write_all.result _ _ (report-text _ _ _ _ c.report-size.ensures (omega arith) (omega arith)) c.write_all.ensures.bytes
