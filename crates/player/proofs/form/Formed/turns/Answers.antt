-- The turns are taken one by one, and only the slot's owner can run.
use mathlib.Core.Path.{◌≡◌, ap, ◌∙◌}
use Prim.Native.Nat.{◌≤◌, ◌<◌}
use native.Mathlib.Omega.{arith}
use lib.ListN.{length, get_or}
use Rattle.rules.specs.States.{blank_job}
use Rattle.std.specs.Prelude.{min}
use Rattle.player.specs.Reports.{report_number}
use Rattle.player.specs.Turns.{turn_in, turn_for}
use Rattle.player.specs.Views.{stand_of, job_of}
use Rattle.player.proofs.InForm.{few, slot-below}
use Rattle.player.proofs.Rounds.{turn-capped, taken-start, taken-runs, taken-rests, all-jobs, all-faults, all-runner}
use Rattle.player.proofs.form.Formed.turns.Goals.{then-taken, else-taken}
use Rattle.player.proofs.form.Formed.turns.Goals as goal

pub bounds-table-from : goal.bounds-table-from
bounds-table-from c = let x = c.args.self.now in let l = slot-below x.state.now x.formed x.hyper x.period in omega arith

pub loop-i-init : goal.loop-i-init
unfolding job_of stand_of blank_job
loop-i-init c =
    let x = c.args.self.now in
    let n : length c.args.reports.now ≤ 8 = let f = few x.state.now x.formed in omega arith in
    (n, taken-start _ _ _ c.default-jobs.result (grind arith))

pub loop-i-preserved : goal.loop-i-preserved
loop-i-preserved c =
    let i = c.loop-i.i in
    let st = c.args.self.now.state.now in
    let entry = get_or c.args.table.now c.from.result 0 in
    let byte = get_or c.args.reports.now i 0 in
    let told = report_number c.from-in-loop-i.result in
    let heard : told ≡ min byte 3 = c.from-in-loop-i.ensures in
    let taken = c.take-taken.result in
    let same : turn_in c.turn.result told ≡ turn_for st entry i byte = c.turn.ensures told ∙ ap (turn_for st entry i) heard ∙ turn-capped st entry i byte in (
      c.loop-i.invariant.0,
      elim c.if-taken.branch [
        | then-taken w ↦ rw (w.runner-is) (search taken-runs)
        | else-taken w ↦ rw (w.runner-is) (search taken-rests)
      ],
    )

pub returns : goal.returns
returns c =
    let x = c.args.self.now in
    let l : x.state.now.slot < length c.args.table.now = let b = slot-below x.state.now x.formed x.hyper x.period in omega arith in
    let i : c.loop-i.i ≡ length c.args.reports.now = omega arith in
    let e : get_or c.args.table.now c.from.result 0 ≡ get_or c.args.table.now x.state.now.slot 0 = ap (λ at. get_or c.args.table.now at 0) c.from.ensures in
    record { jobs = search all-jobs; faults = search all-faults; runner = search all-runner; task = c.loop-i.invariant.1.task }
