-- The last digit behind the others.
use borrow.Author.Rules.{rules}
use Rattle.report.proofs.Numbers.{digits_more}
use Rattle.report.proofs.write.Text.+digits.Goals as goal

pub returns : goal.returns
returns t c = search (rules, digits_more)
