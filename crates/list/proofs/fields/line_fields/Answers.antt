-- `list::fields::line_fields` holds the fields of the line's words. Assumes nothing.
use Rattle.std.proofs.Common.{[]}
use Rattle.rules.specs.Lists.{all_of}
use Rattle.list.specs.Inner.{fields_of}
use Rattle.list.proofs.fields.line_fields.Goals as goal

pub returns-in_err-gap : goal.returns-in_err-gap
unfolding fields_of all_of
returns-in_err-gap c = rw c.from_residual.ensures (c.in_err-gap.ensures [] (rw c.new-numbers.ensures))

pub returns : goal.returns
unfolding fields_of all_of
returns c = c.in_ok-gap.ensures [] (rw c.new-numbers.ensures)
