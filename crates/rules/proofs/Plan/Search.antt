-- The rules decided by exhaustive search.
use mathlib.Core.Bool.{Bool, true, false}
use mathlib.Core.List.{List, [], ◌∷◌, ◌++◌}
use mathlib.Core.Option.{Option, none, some}
use Prim.Native.Nat.{ℕ, zero, suc}
use lib.ListN.{length}
use Rattle.rules.specs.Tasks.{Task}
use Rattle.rules.specs.Positions.{Position, idle, legal, next}

-- n choices from i on, then idle
unfoldable pub up_from : ℕ → ℕ → List ℕ
up_from i zero = idle ∷ []
up_from i (suc n) = i ∷ up_from (suc i) n

-- the first of the choices at which f gives a list, with that list behind it
unfoldable pub first_among : (ℕ → Option (List ℕ)) → List ℕ → Option (List ℕ)
first_among f [] = none
first_among f (c ∷ cs) = elim (f c) [ none ↦ first_among f cs | some l ↦ some (c ∷ l) ]

-- what f gives behind a choice that is legal
unfoldable pub attempt : List Task → (Position → Option (List ℕ)) → Position → ℕ → Option (List ℕ)
attempt s f x c = elim (legal s x c) [ true ↦ f (next s x c) | false ↦ none ]

-- the first live list of k choices from x
unfoldable pub first : List Task → ℕ → Position → Option (List ℕ)
first s zero x = some []
first s (suc k) x = first_among (attempt s (λ y. first s k y) x) (up_from 0 (length s))

unfoldable pub is_none : Option (List ℕ) → Bool
is_none none = true
is_none (some l) = false

-- what g gives at the choices, up to the first at which f gives a list
unfoldable pub up_to_first : (ℕ → Option (List ℕ)) → (ℕ → List Position) → List ℕ → List Position
up_to_first f g [] = []
up_to_first f g (c ∷ cs) = elim (f c) [ none ↦ g c ++ up_to_first f g cs | some l ↦ g c ]

unfoldable pub behind : List Task → (Position → List Position) → Position → ℕ → List Position
behind s g x c = elim (legal s x c) [ true ↦ g (next s x c) | false ↦ [] ]

unfoldable pub head_if : Bool → Position → List Position → List Position
head_if true x ys = x ∷ ys
head_if false x ys = ys

-- the dead positions, x among them, that are passed over before the first live list of k choices from x; with repetitions
unfoldable pub passed_over : List Task → ℕ → Position → List Position
passed_over s zero x = []
passed_over s (suc k) x = head_if (is_none (first s (suc k) x)) x
    (up_to_first (attempt s (λ y. first s k y) x) (behind s (λ y. passed_over s k y) x) (up_from 0 (length s)))

-- all of the above, for proofs that compute
unfoldable pub open_search : Type 0
unfolding up_from first_among attempt first is_none up_to_first behind head_if passed_over
open_search = Unit {0}
