-- The refusal, or the planner's answer, of an admissible set and a table long enough.
use borrow.Author.Rules.{rules}
use native.Mathlib.Omega.{arith}
use mathlib.Core.Path.{ap}
use Rattle.planner.specs.Views.{answer_of}
use Rattle.report.specs.Texts.{refused_word}
use Rattle.report.proofs.Told.{refused-told, never-none, never-refused, planned-tellable, planned-told}
use Rattle.report.proofs.report.Goals as goal

pub returns-in-Err : goal.returns-in-Err
unfolding refused_word
returns-in-Err c =
    let P = rw (c.from-in-Err.ensures, c.from.ensures) at c.line.ensures.put in
    refused-told _ _ _ _ (omega arith) (omega arith) c.in-Err.e c.in-Err.ensures.reply (search rules)

pub returns-in_default : goal.returns-in_default
returns-in_default c = absurd (never-none c.args.list.now c.args.table.now c.args.area.now c.args.out.now (omega arith) (omega arith) c.in-Ok.set c.in-Ok.ensures.reply (rw c.in_default.is at c.hyper_period.ensures))

pub returns-in_default-plan : goal.returns-in_default-plan
unfolding answer_of
returns-in_default-plan c =
    absurd (never-refused c.args.list.now c.args.table.now c.args.area.now c.args.out.now (omega arith) (omega arith) c.in-Ok.set c.in-Ok.ensures.reply c.plan.ensures _ (ap answer_of c.in_default-plan.is))

pub put_answer-requires : goal.put_answer-requires
put_answer-requires c =
    planned-tellable c.args.list.now c.args.table.now c.args.area.now c.args.out.now (omega arith) (omega arith) c.in-Ok.set c.in-Ok.ensures.reply _ c.in-Some.ensures c.in-Ok-plan.ensures

pub returns : goal.returns
returns c =
    planned-told _ _ _ _ (omega arith) (omega arith) c.in-Ok.set c.in-Ok.ensures.reply _ c.in-Some.ensures c.in-Ok-plan.ensures (search rules)
