-- What a slot does to each task, chosen and not. Every choice of the slot is judged from it.
use Rattle.std.specs.Prelude.{◌≡◌, Bool, true, false, not, cond, ◌&&◌, ◌||◌, List, [], ◌∷◌, ℕ, suc, ◌-◌, ◌≤◌, ◌<◌, eqb, length, get_or, take, set, Option, Some, None}
use Rattle.rules.specs.Tasks.{Task, no_task, standing, is_ready}
use Rattle.rules.specs.Positions.{idle, moved, ended}
use Rattle.tasks.specs.Slots.{onward, well_after}
use Rattle.planner.specs.Marks.{mark}
use Rattle.planner.specs.Area.{among}
use Rattle.planner.specs.declared.ahead.Urgent.{Urgent}
use Rattle.planner.specs.declared.ahead.Urgent.TheVariants.{Nobody, Only, Several}

-- one more than a progress, 0 where there is none
abbrev pub one_more : Option ℕ → ℕ
one_more None = 0
one_more (Some p) = suc p

-- the task that has to be chosen, by its number less 1: 256 for none, 257 for more than one
abbrev pub urgent_of : Urgent → ℕ
urgent_of Nobody = 256
urgent_of (Only i) = i
urgent_of Several = 257

-- the same, from how many have to be chosen and the first of them
unfoldable pub urgent_in : ℕ → ℕ → ℕ
urgent_in late first = cond (eqb late 0) 256 (cond (eqb late 1) first 257)

-- a task's progress at the end of a slot in which it is not chosen
unfoldable pub stayed : Task → ℕ → ℕ
stayed τ p = moved (standing τ p) false p

-- where a task is ready, and chosen ends the slot well: one more than its progress in the next slot; else 0
unfoldable pub gone : ℕ → Task → ℕ → ℕ
gone t τ p = cond (is_ready (standing τ p) && well_after t τ (suc p)) (suc (onward t τ (suc p))) 0

-- what slot t does to a task of progress p: whether its progress rises unchosen, whether it ends the slot well unchosen, its progress in the next
-- slot unchosen, and one more than that chosen
pub record IsWay (t : ℕ) (τ : Task) (p : ℕ) (rises well : Bool) (stay go : ℕ) : Type 0 where
  pub rising : rises ≡ not (eqb p (stayed τ p))
  pub ending : well ≡ well_after t τ (stayed τ p)
  pub staying : stay ≡ onward t τ (stayed τ p)
  pub going : go ≡ gone t τ p

-- one more task, of number i + 1, that ends the slot well unchosen or not
unfoldable pub claim : ℕ → Bool → ℕ → ℕ
claim u well i = cond well u (cond (eqb u 256) i 257)

-- the task, by its number less 1, that has to be chosen in slot t: 256 for none, 257 for more than one; i is the first task's number less 1
unfoldable pub claimed : ℕ → ℕ → List Task → List ℕ → ℕ
claimed t i [] ps = 256
claimed t i (τ ∷ s) [] = 256
claimed t i (τ ∷ s) (p ∷ ps) = claim (claimed t (suc i) s ps) (well_after t τ (stayed τ p)) i

-- task c + 1 may be chosen, and every task ends the slot well
unfoldable pub leads_by : ℕ → ℕ → ℕ → Bool
leads_by u go c = not (eqb go 0) && (eqb u 256 || eqb u c)

-- a look ahead from slot t and progress ps: the mark of the tasks that rise unchosen, the task that has to be chosen, and for each task its
-- progress in the next slot, unchosen and chosen
pub record Ahead (s : List Task) (t : ℕ) (ps : List ℕ) (waits urgent : ℕ) (stay go : List ℕ) : Type 0 where
  pub rising : waits ≡ mark ps (ended s ps idle)
  pub claims : urgent ≡ claimed t 0 s ps
  pub staying : (j : ℕ) → j < length s → get_or stay j 0 ≡ onward t (get_or s j no_task) (stayed (get_or s j no_task) (get_or ps j 0))
  pub going : (j : ℕ) → j < length s → get_or go j 0 ≡ gone t (get_or s j no_task) (get_or ps j 0)

-- task c + 1 leads to a position that is not recorded; the slot is the next one
unfoldable pub leads_task : ℕ → ℕ → ℕ → ℕ → List ℕ → List ℕ → List ℕ → ℕ → Bool
leads_task n urgent slot recorded go stay area c = leads_by urgent (get_or go c 0) c && not (among (suc n) area (slot ∷ take n (set stay c (get_or go c 0 - 1))) recorded)

-- the first number from `from` on, below n, that passes a test, or none
pub data First (test : ℕ → Bool) (n from : ℕ) : Option ℕ → Type 0 where
  hit : {c : ℕ} → from ≤ c → c < n → test c ≡ true → ((d : ℕ) → from ≤ d → d < c → test d ≡ false) → First test n from (Some c)
  none : ((d : ℕ) → from ≤ d → d < n → test d ≡ false) → First test n from None

-- the progress in the next slot once a task is chosen, or none is
unfoldable pub led_to : Option ℕ → List ℕ → List ℕ → List ℕ
led_to (Some c) go stay = set stay c (get_or go c 0 - 1)
led_to None go stay = stay
