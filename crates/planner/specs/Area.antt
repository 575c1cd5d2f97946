-- Records in the lent area: each is w numbers, one behind the other.
use Rattle.std.specs.Prelude.{Bool, false, ◌||◌, List, ℕ, zero, suc, ◌*◌, take, drop}
use Rattle.rules.specs.Lists.{same_list}

-- record i of the area
unfoldable pub record_at : ℕ → List ℕ → ℕ → List ℕ
record_at w area i = take w (drop (i * w) area)

-- the record is among the first k of the area
unfoldable pub among : ℕ → List ℕ → List ℕ → ℕ → Bool
among w area x zero = false
among w area x (suc k) = same_list x (record_at w area k) || among w area x k
