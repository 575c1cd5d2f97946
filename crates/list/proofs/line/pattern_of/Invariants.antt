-- `list::line::pattern_of` is the units as bytes. The invariant: those before place i are bytes and stored. Assumes nothing.
use Rattle.std.proofs.Common.{◌≡◌, ◌≤◌, ◌<◌, ℕ, get_or, take}
use Rattle.rules.specs.Lists.{padded}
use Rattle.list.proofs.line.pattern_of.Given as goal

abbrev pub invariant-loop-i : goal.invariant-loop-i
invariant-loop-i l = record { bytes : (k : ℕ) → k < l.i → get_or l.units k 0 ≤ 255; stored : l.pattern ≡ padded 7 0 (take l.i l.units) }
