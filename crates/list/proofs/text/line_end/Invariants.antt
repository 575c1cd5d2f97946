-- `list::text::line_end` is the place of the first line feed. The invariant: none stands before place i. Assumes nothing.
use Rattle.std.proofs.Common.{◌≡◌, ◌<◌, ℕ, false, get_or}
use Rattle.list.specs.Text.{ends_line}
use Rattle.list.proofs.text.line_end.Given as goal

abbrev pub invariant-loop-i : goal.invariant-loop-i
invariant-loop-i l = (k : ℕ) → k < l.i → ends_line (get_or l.text k 0) ≡ false
