-- The parts one after the other.
use borrow.Author.Rules.{rules}
use Rattle.report.proofs.Said.{place-text}
use Rattle.report.proofs.help.put_place.Goals as goal

pub returns : goal.returns
returns c = search (rules, place-text)
