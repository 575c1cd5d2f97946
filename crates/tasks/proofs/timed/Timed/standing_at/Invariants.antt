use mathlib.Core.Path.{◌≡◌}
use Prim.Native.Nat.{◌+◌}
use lib.ListN.{take, drop}
use Rattle.rules.specs.Tasks.{place_of}
use Rattle.tasks.proofs.timed.Timed.standing_at.Given as goal

-- the entries passed, and the place of what is left in the rest
abbrev pub invariant-loop-place : goal.invariant-loop-place
invariant-loop-place l = place_of (take l.self.entries l.self.pattern) l.progress ≡ l.place + place_of (drop l.place (take l.self.entries l.self.pattern)) l.left
