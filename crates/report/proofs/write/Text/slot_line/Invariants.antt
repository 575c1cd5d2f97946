-- The slots so far stand in the line.
use Rattle.std.proofs.Common.{take}
use Rattle.std.specs.Prelude.{map}
use Rattle.report.specs.Texts.{slot_byte}
use Rattle.report.specs.Adds.{Adds}
use Rattle.report.proofs.write.Text.slot_line.Given as goal

abbrev pub invariant-loop-choice : goal.invariant-loop-choice
invariant-loop-choice l = Adds l.initial.self (map slot_byte (take l.choice-index l.choices)) l.self
