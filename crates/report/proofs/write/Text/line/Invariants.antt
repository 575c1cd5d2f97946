-- The numbers so far stand behind the word.
use Rattle.std.proofs.Common.{take}
use Rattle.report.specs.Put.{fields}
use Rattle.report.specs.Adds.{Adds}
use Rattle.report.proofs.write.Text.line.Given as goal

abbrev pub invariant-loop-n : goal.invariant-loop-n
invariant-loop-n l = Adds l.initial.self (fields (take l.n-index l.numbers)) l.self
