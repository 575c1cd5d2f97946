use mathlib.Core.Path.{◌≡◌}
use Prim.Native.Nat.{◌+◌}
use lib.ListN.{drop}
use Rattle.rules.specs.Tasks.{place_of}
use Rattle.tasks.proofs.pattern.place_in.Given as goal

-- the entries passed, and the place of what is left in the rest
abbrev pub invariant-loop-place : goal.invariant-loop-place
invariant-loop-place l = place_of l.entries l.progress ≡ l.place + place_of (drop l.place l.entries) l.left
