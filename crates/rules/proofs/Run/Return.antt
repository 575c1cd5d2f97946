-- After a schedule the position is the start again.
use mathlib.Core.Path.{◌≡◌, refl, sym, ap, ◌∙◌}
use mathlib.Core.Bool.{true}
use mathlib.Core.List.{List, [], ◌∷◌, ◌++◌}
use Prim.Native.Nat.{ℕ, suc, ◌-◌, ◌<◌, ◌%◌}
use native.Mathlib.Omega.{arith}
use native.Mathlib.Nat.{mod-eq-zero_of_dvd}
use borrow.Author.Tests.{eq-eqb}
use lib.ListN.{length, get_or, take, get_or-replicate}
use lib.Seq.{length-take-le, take-suc, take_all, ext_get_or}
use Rattle.rules.specs.Tasks.{Task, Fit, no_task}
use Rattle.rules.specs.Hyper.{hyper}
use Rattle.rules.specs.Positions.{idle, starts, start}
use Rattle.rules.specs.Choices.{run, Schedule}
use Rattle.rules.proofs.Set.Multiple.{hyper-dvd, hyper-pos}
use Rattle.rules.proofs.Run.Reach.{run-slot, run_length, start-length, next-at}
use Rattle.rules.proofs.Plan.Trail.{run-append}

module _ (s : List Task) (fit : Fit s) (cs : List ℕ) (S : Schedule s cs) where
  some-slot : 0 < hyper s
  some-slot = hyper-pos s (λ j h. let d = fit.due j h in let f = fit.fits j h in omega arith)

  -- the choices before the last, and where they lead
  front : List ℕ
  front = take (hyper s - 1) cs

  split : front ++ get_or cs (hyper s - 1) idle ∷ [] ≡ cs
  unfolding front
  split =
      let l = S.long in
      let e : suc (hyper s - 1) ≡ hyper s = (let z = some-slot in omega arith) in
      sym (take-suc cs (hyper s - 1) idle (let z = some-slot in omega arith)) ∙ rw e (take_all (hyper s) cs (omega arith))

  starts-again : (j : ℕ) → j < length s → starts (hyper s) (get_or s j no_task) ≡ true
  unfolding starts
  starts-again j h = eq-eqb (hyper s % (get_or s j no_task).period) 0 (mod-eq-zero_of_dvd _ (hyper-dvd s j h))

  -- the last slot ends at H, which every period divides
  ends_at : suc (run s (start s) front).slot ≡ hyper s
  unfolding front start
  ends_at =
      let l = S.long in
      let z = some-slot in
      let e = run-slot s (start s) front in
      let k = length-take-le (hyper s - 1) cs (omega arith) in
      omega arith

  all-zero : (j : ℕ) → j < length s → get_or (run s (start s) cs).progress j 0 ≡ 0
  unfolding run
  all-zero j h =
      let l = run_length s (start s) front (start-length s) in
      ap (λ ds. get_or (run s (start s) ds).progress j 0) (sym split)
      ∙ ap (λ x. get_or x.progress j 0) (run-append s (start s) front (get_or cs (hyper s - 1) idle ∷ []))
      ∙ next-at s (run s (start s) front) (get_or cs (hyper s - 1) idle) j l h
      ∙ rw (ends_at, starts-again j h) refl

  pub schedule-returns : ((run s (start s) cs).slot ≡ hyper s) × ((run s (start s) cs).progress ≡ (start s).progress)
  unfolding start
  schedule-returns =
      let l = run_length s (start s) cs (start-length s) in
      let m = start-length s in (
        (let a = run-slot s (start s) cs in let b = S.long in omega arith),
        ext_get_or 0 (run s (start s) cs).progress (start s).progress (omega arith) (λ j h. all-zero j (omega arith) ∙ sym (get_or-replicate (length s) j 0 0 (omega arith))),
      )
