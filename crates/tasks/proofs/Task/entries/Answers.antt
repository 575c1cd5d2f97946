use mathlib.Core.Path.{sym}
use native.Mathlib.Omega.{arith}
use borrow.Author.Rules.{rules}
use Rattle.tasks.proofs.OneTask.{pattern-short, pattern-take}
use Rattle.tasks.proofs.Task.entries.Goals as goal

pub shared_ref_as_front-result : goal.shared_ref_as_front-result
shared_ref_as_front-result c = let k = pattern-short c.args.self.now in omega arith

pub returns-clause-pattern : goal.returns-clause-pattern
returns-clause-pattern c = sym (pattern-take c.args.self.now c.fields.result (search rules) c.fields.ensures)
