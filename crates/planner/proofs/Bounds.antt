-- What the records of the search fit: the lent area.
use mathlib.Core.Path.{◌≡◌, ap, ◌∙◌}
use mathlib.Core.List.{List}
use Prim.Native.Nat.{ℕ, suc, ◌*◌, ◌≤◌}
use native.Mathlib.Omega.{arith}
use native.Mathlib.Nat.{mul-le-mul_right, div-mul-le_self}
use lib.ListN.{length, drop, length-append, length-drop}
use Rattle.rules.specs.Tasks.{Task}
use Rattle.rules.specs.Planner.{records, room}
use Rattle.planner.specs.Machine.{Machine}
use Rattle.planner.proofs.Searching.{Setting, Searching, records-fill}

-- the area holds K records
pub room-holds : (s : List Task) (area : List ℕ) → room s area * suc (length s) ≤ length area
unfolding room
room-holds s area = div-mul-le_self (length area) (suc (length s))

-- the area stays as long as it was lent
pub area-length : (s : List Task) (K : ℕ) (table area : List ℕ) (S : Setting s K table area) (m : Machine) (G : Searching s K table area m) → length m.area ≡ length area
area-length s K table area S m G =
    let r = S.room_is in
    let g = G.roomy in
    let h : m.recorded * suc (length s) ≤ length area = omega (arith, room-holds s area, mul-le-mul_right {m = m.recorded} {n = room s area} (suc (length s)) (omega arith)) in
    ap length G.area_is ∙ omega (arith, length-append (records G.kept) (drop (m.recorded * suc (length s)) area), records-fill s K table area S m G, length-drop (m.recorded * suc (length s)) area)
