-- The byte that a slot leaves behind during the search: a bit for each task, set where its progress rose in the slot.
-- With it a choice is taken back, and a list of choices is spelled out at the end.
use Rattle.std.specs.Prelude.{◌≡◌, cond, ◌&&◌, List, [], ◌∷◌, ℕ, suc, ◌+◌, ◌-◌, ◌*◌, ◌%◌, ◌/◌, T, eqb, length, take}
use Rattle.rules.specs.Tasks.{Task, span, standing, is_ready}
use Rattle.rules.specs.Positions.{Position, idle, starts, ended, next, start}
use Rattle.rules.specs.Choices.{live_from}

-- the lowest bit is the first task's; ps are the progress before the slot and qs at its end
unfoldable pub mark : List ℕ → List ℕ → ℕ
mark [] qs = 0
mark (p ∷ ps) [] = 0
mark (p ∷ ps) (q ∷ qs) = cond (eqb p q) 0 1 + 2 * mark ps qs

-- the progress before the slot, from the mark and the progress at its end
unfoldable pub lowered : ℕ → List ℕ → List ℕ
lowered b [] = []
lowered b (q ∷ qs) = (q - b % 2) ∷ lowered (b / 2) qs

-- the progress at the end of the slot, from the mark and the progress before it
unfoldable pub raised : ℕ → List ℕ → List ℕ
raised b [] = []
raised b (p ∷ ps) = (p + b % 2) ∷ raised (b / 2) ps

-- the progress at the end of the slot before t, from that at the start of slot t: a task that starts again was done
unfoldable pub unstarted : ℕ → ℕ → Task → ℕ → ℕ
unstarted t i τ p = cond (starts t τ) (span τ) p

-- the choice of a slot, from its mark: the ready task that rose, or idle; i is the first task's number less 1
unfoldable pub chosen : ℕ → ℕ → List Task → List ℕ → ℕ
chosen i b [] ps = idle
chosen i b (τ ∷ τs) [] = idle
chosen i b (τ ∷ τs) (p ∷ ps) = cond (eqb (b % 2) 1 && is_ready (standing τ p)) i (chosen (suc i) (b / 2) τs ps)

-- the marks of a list of choices from a position
unfoldable pub marks : List Task → Position → List ℕ → List ℕ
marks s x [] = []
marks s x (c ∷ cs) = mark x.progress (ended s x.progress c) ∷ marks s (next s x c) cs

-- the first h bytes of the table are the marks of a live list
pub record Listed (s : List Task) (h : ℕ) (table : List ℕ) : Type 0 where
  pub choices : List ℕ
  pub many : length choices ≡ h
  pub marked : take h table ≡ marks s (start s) choices
  pub live : T (live_from s (start s) choices)

-- the choices of a list of marks from a position
unfoldable pub spelled : List Task → Position → List ℕ → List ℕ
spelled s x [] = []
spelled s x (b ∷ bs) = chosen 0 b s x.progress ∷ spelled s (next s x (chosen 0 b s x.progress)) bs
