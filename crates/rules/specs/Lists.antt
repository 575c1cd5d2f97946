-- Words about lists that the rules use.
use Rattle.std.specs.Prelude.{◌≡◌, ◌⊎◌, List, [], ◌∷◌, ◌++◌, Bool, true, false, ◌&&◌, ℕ, zero, suc, ◌-◌, eqb, length, replicate}

-- y stands in the list
abbrev pub In : {A : Type 0} → A → List A → Type 0
In y [] = ⊥
In y (x ∷ xs) = (y ≡ x) ⊎ In y xs

-- no element stands twice
abbrev pub Distinct : {A : Type 0} → List A → Type 0
Distinct [] = Unit {0}
Distinct (x ∷ xs) = (¬ In x xs) × Distinct xs

-- f at 0, 1, .. n - 1, from i on
unfoldable pub tabulate : {A : Type 0} → (ℕ → A) → ℕ → ℕ → List A
tabulate f i zero = []
tabulate f i (suc n) = f i ∷ tabulate f (suc i) n

-- the test passes at every element
unfoldable pub all_of : {A : Type 0} → (A → Bool) → List A → Bool
all_of f [] = true
all_of f (x ∷ xs) = f x && all_of f xs

-- the number is 0
unfoldable pub is_zero : ℕ → Bool
is_zero n = eqb n 0

-- xs, and x up to n entries
unfoldable pub padded : {A : Type 0} → ℕ → A → List A → List A
padded n x xs = xs ++ replicate (n - length xs) x

-- the lists are equal, number by number
unfoldable pub same_list : List ℕ → List ℕ → Bool
same_list [] [] = true
same_list [] (y ∷ ys) = false
same_list (x ∷ xs) [] = false
same_list (x ∷ xs) (y ∷ ys) = eqb x y && same_list xs ys

-- the lists of lists are equal
unfoldable pub same_lists : List (List ℕ) → List (List ℕ) → Bool
same_lists [] [] = true
same_lists [] (y ∷ ys) = false
same_lists (x ∷ xs) [] = false
same_lists (x ∷ xs) (y ∷ ys) = same_list x y && same_lists xs ys

-- all of the above, for proofs that compute
unfoldable pub open_lists : Type 0
unfolding tabulate all_of is_zero padded same_list same_lists
open_lists = Unit {0}
