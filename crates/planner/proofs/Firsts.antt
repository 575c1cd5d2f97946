-- The first task that leads on: what the loop over the tasks keeps, and what it finds.
use mathlib.Core.Path.{◌≡◌, refl, sym, ap, ◌∙◌}
use mathlib.Core.Logic.{◌⊎◌, inl, inr}
use mathlib.Core.Bool.{Bool, true, false, not, ◌||◌}
use mathlib.Core.List.{List, ◌∷◌, map}
use Prim.Native.Nat.{ℕ, suc, ◌+◌, ◌-◌, ◌≤◌, ◌<◌}
use native.Mathlib.Numerals.{add-one}
use native.Mathlib.Omega.{arith}
use borrow.Author.Tests.{eq-eqb, ne_eqb}
use lib.Dec.{eqb}
use lib.ListN.{get_or, take, set, get_or-map}
use lib.Seq.{set-set, set-get_or}
use Rattle.std.specs.Prelude.{Option, Some, None}
use Rattle.rules.proofs.Lists.{clash-bool}
use Rattle.rules.proofs.Laws.{le-or-lt}
use Rattle.planner.specs.declared.search.Choice.{Choice}
use Rattle.planner.specs.declared.search.Choice.TheVariants.{Task, Idle}
use Rattle.planner.specs.Area.{among}
use Rattle.planner.specs.Ahead.{one_more, leads_by, leads_task, First, hit, none, led_to}
use Rattle.planner.specs.Views.{number_of}

-- a task that leads has a progress to lead to
pub leads-some : (u g c : ℕ) (r : Bool) → r ≡ leads_by u g c → r ≡ true → 1 ≤ g
unfolding leads_by
leads-some u g c r e f = go (le-or-lt 1 g)
  where
    go : (1 ≤ g) ⊎ (g < 1) → 1 ≤ g
    go (inl h) = h
    go (inr h) = let z : g ≡ 0 = omega arith in clash-bool (sym (rw (eq-eqb g 0 z) at e) ∙ f)

-- the progress that a task leads to, where it may be chosen
module _ (going : List (Option ℕ)) (i : ℕ) where
  some_at : (to : ℕ) → get_or going i None ≡ Some to → get_or (map one_more going) i 0 ≡ suc to
  some_at to e = get_or-map one_more going i None ∙ ap one_more e

  none_at : ((to : ℕ) → get_or going i None ≡ Some to → ⊥) → get_or (map one_more going) i 0 ≡ 0
  none_at h = get_or-map one_more going i None ∙ go (get_or going i None) h
    where
      go : (o : Option ℕ) → ((to : ℕ) → o ≡ Some to → ⊥) → one_more o ≡ 0
      go None h = refl
      go (Some to) h = absurd (h to refl)

leads-not : (u c : ℕ) → leads_by u 0 c ≡ false
unfolding leads_by
leads-not u c = refl

leads-if : (u to c : ℕ) → leads_by u (suc to) c ≡ eqb u 256 || eqb u c
unfolding leads_by
leads-if u to c = rw (ne_eqb (suc to) 0 (λ z. let y : ⊥ = omega arith in y))

module _ (n : ℕ) (choice : Choice) (urgent slot recorded : ℕ) (going : List (Option ℕ)) (stay₀ area : List ℕ) where
  abbrev go : List ℕ
  go = map one_more going

  abbrev test : ℕ → Bool
  test = leads_task n urgent slot recorded go stay₀ area

  -- no task from the choice to i leads on, and the list of progress is as it was
  pub record Missed (i : ℕ) (stay : List ℕ) : Type 0 where
    pub behind : number_of choice ≤ i
    pub kept : stay ≡ stay₀
    pub passed : (d : ℕ) → number_of choice ≤ d → d < i → leads_task n urgent slot recorded go stay₀ area d ≡ false

  pub missed-start : (from : ℕ) → choice ≡ Task from → from ≤ 255 → Missed from stay₀
  missed-start from e l =
      let b : number_of choice ≡ from = ap number_of e ∙ omega arith in
      record { behind = omega arith; kept = refl; passed = λ d h k. let z : ⊥ = omega arith in absurd z }

  missed_more : (i : ℕ) (stay stay' : List ℕ) → Missed i stay → stay' ≡ stay → test i ≡ false → Missed (i + 1) stay'
  missed_more i stay stay' v e f = let a = v.behind in record {
    behind = omega arith;
    kept = e ∙ v.kept;
    passed = λ d h k. go d h k (le-or-lt i d);
  }
    where
      go : (d : ℕ) → number_of choice ≤ d → d < i + 1 → (i ≤ d) ⊎ (d < i) → test d ≡ false
      go d h k (inr l) = v.passed d h l
      go d h k (inl l) = let z : d ≡ i = omega arith in rw z f

  -- a task that may not be chosen
  pub missed-none : (i : ℕ) (stay stay' : List ℕ) → Missed i stay → ((to : ℕ) → get_or going i None ≡ Some to → ⊥) → stay' ≡ stay → Missed (i + 1) stay'
  unfolding leads_task
  missed-none i stay stay' v h g = missed_more i stay stay' v g (rw (none_at going i h, leads-not urgent i))

  module _ (i : ℕ) (stay : List ℕ) (to : ℕ) (r : Bool) (v : Missed i stay) (some : get_or going i None ≡ Some to) (e : r ≡ eqb urgent 256 || eqb urgent i) where
    -- one that leaves another task late
    pub missed-step : r ≡ false → (stay' : List ℕ) → stay' ≡ stay → Missed (i + 1) stay'
    unfolding leads_task
    missed-step f stay' g = missed_more i stay stay' v g (rw (some_at going i to some, leads-if urgent to i, ← e, f))

    pub stay-hit : set stay i to ≡ led_to (Some i) go stay₀
    unfolding led_to
    stay-hit = let z : suc to - 1 ≡ to = omega arith in rw (some_at going i to some, z, v.kept)

    module _ (q : Bool) (f : r ≡ true) (g : q ≡ among (n + 1) area (slot ∷ take n (set stay i to)) recorded) where
      test-is : test i ≡ not q
      unfolding leads_task
      test-is = let z : suc to - 1 ≡ to = omega arith in rw (some_at going i to some, leads-if urgent to i, z, ← e, f, g, v.kept, add-one n)

      -- one that leads to a recorded position
      pub missed-again : not q ≡ false → (stay' : List ℕ) → stay' ≡ set (set stay i to) i (get_or stay i 0) → Missed (i + 1) stay'
      missed-again h stay' k = missed_more i stay stay' v (k ∙ set-set stay i to (get_or stay i 0) ∙ set-get_or stay i 0) (test-is ∙ h)

      pub first-hit : i < n → not q ≡ true → First (leads_task n urgent slot recorded go stay₀ area) n (number_of choice) (Some i)
      first-hit h k = hit v.behind h (test-is ∙ k) v.passed

  pub first-none : (i : ℕ) (stay : List ℕ) → Missed i stay → n ≤ i → First (leads_task n urgent slot recorded go stay₀ area) n (number_of choice) None
  first-none i stay v h = none (λ d k l. v.passed d k (omega arith))

  pub stay-none : (i : ℕ) (stay : List ℕ) → Missed i stay → stay ≡ led_to None go stay₀
  unfolding led_to
  stay-none i stay v = v.kept

  -- idle is tried behind the tasks
  pub first-idle : choice ≡ Idle → n ≤ 8 → First (leads_task n urgent slot recorded go stay₀ area) n (number_of choice) None
  first-idle e h = let b : number_of choice ≡ 255 = ap number_of e in none (λ d k l. let z : ⊥ = omega arith in absurd z)

  pub stay-idle : stay₀ ≡ led_to None go stay₀
  unfolding led_to
  stay-idle = refl

pub ruleset first_laws = (missed-start, stay-none, first-idle, stay-idle)
