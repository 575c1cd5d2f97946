-- The word, then each number after a space, then the line's end.
use borrow.Author.Rules.{rules}
use Rattle.report.proofs.Numbers.{fields-more, fields-all}
use Rattle.report.proofs.write.Text.line.Goals as goal

pub loop-n-preserved : goal.loop-n-preserved
loop-n-preserved c = search (rules, fields-more)

pub returns : goal.returns
returns c = search (rules, fields-all)
