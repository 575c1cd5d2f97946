-- `planner::area::seen`: none of the newer records is the one that is looked for.
use Rattle.std.proofs.Common.{◌≡◌, ◌∷◌, ◌+◌, take}
use Rattle.planner.specs.Area.{among}
use Rattle.planner.proofs.area.seen.Given as goal

abbrev pub invariant-loop-k : goal.invariant-loop-k
invariant-loop-k l = among (l.n + 1) l.area (l.slot ∷ take l.n l.progress) l.recorded ≡ among (l.n + 1) l.area (l.slot ∷ take l.n l.progress) l.k
