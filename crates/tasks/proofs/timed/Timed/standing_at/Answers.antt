-- `tasks::timed::standing_at` is how progress stands, by the entry that it stands in. Assumes nothing.
use borrow.Author.Rules.{rules}
use native.Mathlib.Omega.{arith}
use Rattle.tasks.specs.Timed.{timed_task}
use Rattle.tasks.specs.Views.{standing_of}
use Rattle.tasks.proofs.OneTask.{place_laws, walked-ready, walked-waiting, walked-done}
use Rattle.tasks.proofs.timed.Timed.standing_at.Goals as goal

pub returns-then-place-eq0 : goal.returns-then-place-eq0
unfolding standing_of timed_task
returns-then-place-eq0 c = walked-ready (timed_task c.args.self.now) _ _ _ c.loop-place.invariant c.loop-place-test.true (search rules) c.if-place-eq0.true

pub returns-else-place-eq0 : goal.returns-else-place-eq0
unfolding standing_of timed_task
returns-else-place-eq0 c = walked-waiting (timed_task c.args.self.now) _ _ _ c.loop-place.invariant c.loop-place-test.true (search rules) (omega (arith, c.if-place-eq0.false))

pub loop-place-preserved : goal.loop-place-preserved
loop-place-preserved c = search (rules, place_laws)

pub returns : goal.returns
unfolding standing_of timed_task
returns c = walked-done (timed_task c.args.self.now) _ _ _ c.loop-place.invariant c.loop-place-test.false
