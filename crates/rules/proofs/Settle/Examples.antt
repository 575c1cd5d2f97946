-- The settled examples hold, by computing.
use mathlib.Core.Path.{◌≡◌, refl, ap₂}
use mathlib.Core.Bool.{Bool, true, false, ◌&&◌}
use mathlib.Core.List.{List, [], ◌∷◌}
use Prim.Native.Nat.{ℕ, zero, suc, ◌≤◌, ◌<◌, ◌/◌}
use native.Mathlib.Omega.{arith}
use lib.Dec.{T, leb, ltb, eqb, eqb→eq, leb→le, ltb→lt}
use lib.ListN.{length, get_or}
use Rattle.rules.specs.Lists.{same_list, same_lists, open_lists}
use Rattle.rules.specs.Tasks.{Fit, Task, no_task, open_tasks}
use Rattle.rules.specs.Hyper.{open_hyper}
use Rattle.rules.specs.Positions.{idle, open_positions}
use Rattle.rules.specs.Planner.{room, Word, schedule, infeasible, out_of_room}
use Rattle.rules.specs.Jobs.{open_jobs}
use Rattle.rules.specs.Player.{fresh, open_player}
use Rattle.rules.specs.Examples.{Row, Holds, ticks, Example, play, plan, Settled, examples, All, open_examples}
use Rattle.rules.proofs.Laws.{T_and}
use Rattle.rules.proofs.Plan.Search.{open_search}
use Rattle.rules.proofs.Plan.Answer.{same_list-eq, judged, answer, answer-planned, open_answer}

unfoldable pub same_word : Word → Word → Bool
same_word schedule schedule = true
same_word schedule infeasible = false
same_word schedule out_of_room = false
same_word infeasible schedule = false
same_word infeasible infeasible = true
same_word infeasible out_of_room = false
same_word out_of_room schedule = false
same_word out_of_room infeasible = false
same_word out_of_room out_of_room = true

same_word-eq : (a b : Word) → T (same_word a b) → a ≡ b
unfolding same_word
same_word-eq schedule schedule t = refl
same_word-eq schedule infeasible t = absurd t
same_word-eq schedule out_of_room t = absurd t
same_word-eq infeasible schedule t = absurd t
same_word-eq infeasible infeasible t = refl
same_word-eq infeasible out_of_room t = absurd t
same_word-eq out_of_room schedule t = absurd t
same_word-eq out_of_room infeasible t = absurd t
same_word-eq out_of_room out_of_room t = refl

unfoldable pub fitting : List Task → Bool
fitting [] = true
fitting (τ ∷ s) = (ltb 0 τ.deadline && leb τ.deadline τ.period) && fitting s

fitting-Fit : (s : List Task) → T (fitting s) → Fit s
unfolding fitting
fitting-Fit s t = record { due = due' s t; fits = fits' s t }
  where
    due' : (s : List Task) → T (fitting s) → (j : ℕ) → j < length s → 0 < (get_or s j no_task).deadline
    due' [] t j h = let z : ⊥ = omega arith in absurd z
    due' (τ ∷ s) t zero h = ltb→lt 0 τ.deadline (T_and (ltb 0 τ.deadline) (leb τ.deadline τ.period) (T_and (ltb 0 τ.deadline && leb τ.deadline τ.period) (fitting s) t).0).0
    due' (τ ∷ s) t (suc j) h = due' s (T_and (ltb 0 τ.deadline && leb τ.deadline τ.period) (fitting s) t).1 j (omega arith)

    fits' : (s : List Task) → T (fitting s) → (j : ℕ) → j < length s → (get_or s j no_task).deadline ≤ (get_or s j no_task).period
    fits' [] t j h = let z : ⊥ = omega arith in absurd z
    fits' (τ ∷ s) t zero h = leb→le τ.deadline τ.period (T_and (ltb 0 τ.deadline) (leb τ.deadline τ.period) (T_and (ltb 0 τ.deadline && leb τ.deadline τ.period) (fitting s) t).0).1
    fits' (τ ∷ s) t (suc j) h = fits' s (T_and (ltb 0 τ.deadline && leb τ.deadline τ.period) (fitting s) t).1 j (omega arith)

-- the test of a row
unfoldable pub passes : Row → Bool
passes r = (fitting r.set && leb (length r.set) idle)
    && (same_word (judged r.set (r.numbers / suc (length r.set))).word r.word
    && (eqb (judged r.set (r.numbers / suc (length r.set))).count r.count
    && same_list (judged r.set (r.numbers / suc (length r.set))).front r.slots))

-- a row of the planner, for proofs that compute
unfoldable pub open_row : Type 0
unfolding passes fitting same_word open_answer open_search open_lists open_tasks open_hyper open_positions
open_row = Unit {0}

pub passes-holds : (r : Row) → T (passes r) → Holds r
unfolding passes Holds answer room
passes-holds r t table area e =
    let J = judged r.set (r.numbers / suc (length r.set)) in
    let a = T_and (fitting r.set && leb (length r.set) idle) _ t in
    let b = T_and (fitting r.set) _ a.0 in
    let c = T_and (same_word J.word r.word) _ a.1 in
    let d = T_and (eqb J.count r.count) _ c.1 in (
      answer r.set table area,
      answer-planned r.set (fitting-Fit r.set b.0) (leb→le _ _ b.1) table area,
      rw e (same_word-eq _ _ c.0),
      rw e (eqb→eq _ _ d.0),
      rw (e, same_list-eq _ _ d.1) refl,
    )

-- ── the player's ────────────────────────────────────────────────────────────

same_lists-eq : (xs ys : List (List ℕ)) → T (same_lists xs ys) → xs ≡ ys
unfolding same_lists
same_lists-eq [] [] t = refl
same_lists-eq [] (y ∷ ys) t = absurd t
same_lists-eq (x ∷ xs) [] t = absurd t
same_lists-eq (x ∷ xs) (y ∷ ys) t = ap₂ {C = List (List ℕ)} (λ a l. a ∷ l) (same_list-eq x y (T_and (same_list x y) _ t).0) (same_lists-eq xs ys (T_and (same_list x y) _ t).1)

-- ── the table ───────────────────────────────────────────────────────────────

unfoldable pub test : Example → Bool
test (plan r) = passes r
test (play p) = same_lists (ticks p.set p.table (fresh p.set) p.reports) p.shown

test-settled : (e : Example) → T (test e) → Settled e
unfolding test Settled
test-settled (plan r) t = passes-holds r t
test-settled (play p) t = same_lists-eq (ticks p.set p.table (fresh p.set) p.reports) p.shown t

unfoldable pub all_pass : List Example → Bool
all_pass [] = true
all_pass (r ∷ rs) = test r && all_pass rs

all_pass-All : (rs : List Example) → T (all_pass rs) → All Settled rs
unfolding all_pass
all_pass-All [] t = tt
all_pass-All (r ∷ rs) t = let a = T_and (test r) _ t in (test-settled r a.0, all_pass-All rs a.1)

pub settled : All Settled examples
unfolding all_pass test open_examples open_row open_player open_jobs
settled = all_pass-All examples tt
