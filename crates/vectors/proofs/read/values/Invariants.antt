-- The values so far stand in the buffer.
use Rattle.std.proofs.Common.{◌≡◌, ◌-◌, if◌then◌else◌, nat_lt, length, map, take}
use Rattle.vectors.proofs.read.values.Given as goal

abbrev pub invariant-loop-i : goal.invariant-loop-i
invariant-loop-i l = record {
  long : length l.found.held ≡ 8192;
  values : take l.i l.found.held ≡ map (λ sign. if nat_lt sign l.zero then 255 else sign - l.zero) (take l.i l.word);
}
