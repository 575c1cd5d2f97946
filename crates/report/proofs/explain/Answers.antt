-- Nothing for an accepted list, the sentence alone, or the sentence and the line.
use borrow.Author.Rules.{rules}
use Rattle.report.proofs.Said.{explain-none, explain-whole, explain-line}
use Rattle.report.proofs.explain.Goals as goal

pub returns-in_default : goal.returns-in_default
returns-in_default c = explain-none _ c.in_default.field-0 _ c.in_default.ensures.reply

pub returns-then-e-eq0 : goal.returns-then-e-eq0
returns-then-e-eq0 c =
    let P = rw (c.sentence.ensures) at c.word.ensures.put in
    explain-whole _ c.in-Err.e c.in-Err.ensures.reply (search rules) c.if-e-eq0.true

pub returns : goal.returns
returns c =
    let P = rw (c.sentence.ensures, c.new-text.ensures.kept, c.new-text.ensures.start) at c.word.ensures.put in
    explain-line _ c.in-Err.e c.in-Err.ensures.reply P c.if-e-eq0.false c.in-Err.ensures.text (search rules)
