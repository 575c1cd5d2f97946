-- What is left ends the line. The measure is how long that is.
use Rattle.std.proofs.Common.{◌≡◌, ◌-◌, ◌≤◌, drop, length}
use Rattle.vectors.proofs.read.unescape.Given as goal

abbrev pub invariant-loop-piece : goal.invariant-loop-piece
invariant-loop-piece l = record {
  shorter : length l.rest ≤ length l.fn.line;
  rest : l.rest ≡ drop (length l.fn.line - length l.rest) l.fn.line;
}

abbrev pub decreases-loop-piece : goal.decreases-loop-piece
decreases-loop-piece l = length l.rest
