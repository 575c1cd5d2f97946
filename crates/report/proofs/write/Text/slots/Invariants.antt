-- What stands and the lines of the slots that are left are all lines.
use Rattle.std.proofs.Common.{◌≡◌, ◌++◌, List, ℕ}
use Rattle.std.specs.Prelude.{All}
use Rattle.report.specs.Texts.{slot_lines}
use Rattle.report.specs.Put.{Choice}
use Rattle.report.specs.Adds.{Adds}
use Rattle.report.proofs.write.Text.slots.Given as goal

abbrev pub invariant-loop-line : goal.invariant-loop-line
invariant-loop-line l = record {
  size : l.line-iterator.size ≡ 64;
  choices : All Choice l.line-iterator.rest.now;
  done : List ℕ;
  adds : Adds l.initial.self done l.self;
  rest : slot_lines 0 l.slots ≡ done ++ slot_lines 0 l.line-iterator.rest.now;
}
