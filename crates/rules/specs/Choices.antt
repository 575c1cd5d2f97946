-- Document 01, "Positions and choices": lists of choices, their order, schedules and dead positions.
use Rattle.std.specs.Prelude.{◌≡◌, Bool, true, false, ◌&&◌, ◌||◌, List, [], ◌∷◌, ℕ, ◌+◌, ◌<◌, T, ltb, eqb, length, take}
use Rattle.rules.specs.Tasks.{Task}
use Rattle.rules.specs.Hyper.{hyper}
use Rattle.rules.specs.Positions.{Position, next, live_position, legal, start}

-- the position that a list of choices leads to
unfoldable pub run : List Task → Position → List ℕ → Position
run s x [] = x
run s x (c ∷ cs) = run s (next s x c) cs

-- every choice of the list is allowed and leads to a live position
unfoldable pub live_from : List Task → Position → List ℕ → Bool
live_from s x [] = true
live_from s x (c ∷ cs) = legal s x c && live_from s (next s x c) cs

-- A list of choices is live if all its positions are, the start included.
pub record Live (s : List Task) (cs : List ℕ) : Type 0 where
  pub at_start : T (live_position s (start s))
  pub after : T (live_from s (start s) cs)

-- A schedule is a live list of H choices.
pub record Schedule (s : List Task) (cs : List ℕ) : Type 0 where
  pub live : Live s cs
  pub long : length cs ≡ hyper s

-- Order: compare at the first slot that differs, lower task number first, idle last.
unfoldable pub before : List ℕ → List ℕ → Bool
before [] ds = false
before (c ∷ cs) [] = false
before (c ∷ cs) (d ∷ ds) = ltb c d || (eqb c d && before cs ds)

-- the first schedule: no schedule comes before it
pub record First (s : List Task) (cs : List ℕ) : Type 0 where
  pub schedule : Schedule s cs
  pub least : (ds : List ℕ) → Schedule s ds → ¬ T (before ds cs)

-- A position below slot H is dead if it is live and no live list leads from it to H.
pub record Dead (s : List Task) (x : Position) : Type 0 where
  pub below : x.slot < hyper s
  pub live : T (live_position s x)
  pub blocked : (cs : List ℕ) → T (live_from s x cs) → x.slot + length cs ≡ hyper s → ⊥

-- The dead positions that precede the reply: if a schedule exists, those reached by a live list that comes before the
-- first schedule's beginning of the same length; if none exists, all dead positions reached by live lists.
pub record Counted (s : List Task) (x : Position) : Type 0 where
  pub dead : Dead s x
  pub by : List ℕ
  pub by_live : Live s by
  pub reached : run s (start s) by ≡ x
  pub early : (f : List ℕ) → First s f → T (before by (take (length by) f))

-- all of the above, for proofs that compute
unfoldable pub open_choices : Type 0
unfolding run live_from before
open_choices = Unit {0}
