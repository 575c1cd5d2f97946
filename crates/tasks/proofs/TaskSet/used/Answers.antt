use borrow.Author.Rules.{rules}
use Rattle.tasks.proofs.Views.{slice-tasks, slice-entries}
use Rattle.tasks.proofs.TaskSet.used.Goals as goal

pub returns-clause-tasks : goal.returns-clause-tasks
returns-clause-tasks c = rw (c.min.ensures, c.from.ensures) (slice-tasks c.args.self.now (search rules))

pub returns-clause-entries : goal.returns-clause-entries
returns-clause-entries c = rw (c.min.ensures, c.from.ensures) (slice-entries c.args.self.now (search rules))
