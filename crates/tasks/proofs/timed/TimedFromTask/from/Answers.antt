-- `tasks::timed::from` is the task with its length and its entries counted. Assumes nothing.
use borrow.Author.Rules.{rules}
use native.Mathlib.Omega.{arith}
use mathlib.Core.Path.{sym}
use Rattle.rules.specs.Records.{task_in}
use Rattle.tasks.specs.Views.{entry_of, task_of}
use Rattle.tasks.specs.Timed.{timed_task}
use Rattle.tasks.proofs.OneTask.{span_small, pattern-take}
use Rattle.tasks.proofs.Timing.{entries-few, entries-sum}
use Rattle.tasks.proofs.timed.TimedFromTask.from.Goals as goal

pub invariant_of-result : goal.invariant_of-result
invariant_of-result c = record {
  few = entries-few c.args.task _ (search rules) c.fields.ensures;
  whole = entries-sum c.args.task _ (search rules) c.fields.ensures _ c.length.ensures;
  small = let k = span_small c.args.task (λ i. search rules) in let e = c.length.ensures in omega arith;
}

pub returns : goal.returns
unfolding timed_task task_of task_in entry_of
returns c = rw (sym (pattern-take c.args.task c.fields.result (search rules) c.fields.ensures))
