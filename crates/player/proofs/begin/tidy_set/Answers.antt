-- Each task is made tidy in its turn.
use Prim.Native.Nat.{◌≤◌}
use native.Mathlib.Omega.{arith}
use lib.ListN.{length}
use Rattle.rules.specs.Lists.{tabulate}
use Rattle.rules.specs.States.{blank_task}
use Rattle.tasks.specs.Views.{no_entry, entry_of}
use Rattle.tasks.proofs.Positions.{set-fits, in_use-length}
use Rattle.player.proofs.Starts.{tidied-start, tidied-step, tidied-end}
use Rattle.player.proofs.begin.tidy_set.Goals as goal

pub loop-i-init : goal.loop-i-init
unfolding entry_of blank_task tabulate
loop-i-init c =
    let few : length c.used-task-items.result.now ≤ 8 = let l = in_use-length _ _ c.used-task-items.ensures.tasks in let f = set-fits c.args.set.now in omega arith in
    (few, tidied-start _ c.default-tasks.result (grind arith))

pub loop-i-preserved : goal.loop-i-preserved
loop-i-preserved c = (c.loop-i.invariant.0, tidied-step _ _ _ _ no_entry c.loop-i.invariant.1 c.loop-i-test.true c.loop-i.invariant.0 c.tidy_task.ensures)

pub returns : goal.returns
returns c = tidied-end _ _ _ _ c.used-task-items.ensures.entries c.loop-i.invariant.1 c.loop-i-test.false c.loop-i.invariant.0
