-- The planner's reply in the code's terms, one law for each branch.
use mathlib.Core.Path.{◌≡◌, refl, sym, ap, ◌∙◌}
use mathlib.Core.Logic.{◌⊎◌, inl, inr}
use mathlib.Core.Bool.{Bool, true, false, not}
use mathlib.Core.List.{List, ◌++◌}
use Prim.Native.Nat.{ℕ, zero, suc, ◌+◌, ◌≤◌, ◌<◌, ◌/◌}
use native.Mathlib.Numerals.{add-one}
use native.Mathlib.Omega.{arith}
use borrow.Author.Tests.{lt-ltb, le-ltb, not-true, not-false}
use lib.ListN.{length, take, drop, replicate}
use Rattle.rules.specs.Hyper.{hyper}
use Rattle.rules.specs.Positions.{Position, start, live_position}
use Rattle.rules.specs.Records.{SetRecord, or_else, set_in, record_refusal}
use Rattle.rules.specs.Planner.{room, plan_refusal, PlanReply, refuses}
use Rattle.rules.specs.Planner as model
use Rattle.rules.proofs.Set.Widths.{hyper-small}
use Rattle.tasks.specs.declared.TaskSet.{TaskSet}
use Rattle.tasks.specs.Views.{record_of, set_of, progress_of, position_of}
use Rattle.tasks.proofs.Views.{arrays}
use Rattle.tasks.proofs.Positions.{set-fits}
use Rattle.planner.specs.declared.Word.{Word}
use Rattle.planner.specs.declared.Word.TheVariants.{Schedule, Infeasible, OutOfRoom}
use Rattle.planner.specs.declared.Answer.{Answer}
use Rattle.planner.specs.declared.rows.Rows.{Rows}
use Rattle.planner.specs.Rows.{row_tasks}
use Rattle.planner.specs.Marks.{spelled, Listed}
use Rattle.planner.specs.Machine.{Reaches, opened}
use Rattle.tasks.specs.declared.refusal.Refusal.{Refusal}
use Rattle.tasks.specs.declared.refusal.Refusal.TheVariants.{ListTooLong, Malformed, OutOfRange, LateDeadline, TaskCount, HyperTooLong, ShortTable, ShortBuffer, BadState, ReportCount, BadTable}
use Rattle.tasks.specs.Refusals.{number_of}
use Rattle.std.specs.Prelude.{Result, Ok, Err, IsErrAnd}
use Rattle.planner.specs.Views.{word_of, answer_of, Opening, end_of, Ran}
use Rattle.planner.proofs.Places.{rows-length, take-replicate}
use Rattle.planner.proofs.Meets.{reaches-listed, reaches-size, plan-setting, plan-found, plan-failed, plan-full, plan-dead}

start-position : (s : TaskSet) → start (set_of s) ≡ position_of s 0 (replicate 8 0)
unfolding start position_of progress_of
start-position s = ap {B = Position} (λ l. record { slot = 0; progress = l }) (sym (take-replicate (length (set_of s)) 8 0 (set-fits s).1))

refused-by : (r : SetRecord) (t a : List ℕ) (x : ℕ) → 0 < x → plan_refusal r t ≡ x → PlanReply r t a (model.refused x) t a
refused-by r t a zero k e = let z : ⊥ = omega arith in absurd z
refused-by r t a (suc x) k e = refuses {n = x} e

number-some : (r : Refusal) → 0 < number_of r
number-some ListTooLong = omega arith
number-some Malformed = omega arith
number-some OutOfRange = omega arith
number-some LateDeadline = omega arith
number-some TaskCount = omega arith
number-some HyperTooLong = omega arith
number-some ShortTable = omega arith
number-some ShortBuffer = omega arith
number-some BadState = omega arith
number-some ReportCount = omega arith
number-some BadTable = omega arith

or-first : (x y : ℕ) → 0 < x → or_else x y ≡ x
unfolding or_else
or-first zero y k = let z : ⊥ = omega arith in absurd z
or-first (suc x) y k = refl

module _ (s : TaskSet) (t a : List ℕ) where
  pub set-refused : (r : Refusal) → record_refusal (record_of s) ≡ number_of r → PlanReply (record_of s) t a (answer_of (Err r)) t a
  unfolding answer_of plan_refusal
  set-refused r e =
      let k = number-some r in
      refused-by (record_of s) t a (number_of r) k (rw e (or-first (number_of r) _ k))

  -- a refusal that is passed on
  pub set-refused-too : (r : Refusal) (q : Result Answer Refusal) → record_refusal (record_of s) ≡ number_of r → IsErrAnd q (λ o. o ≡ r) → PlanReply (record_of s) t a (answer_of q) t a
  set-refused-too r (Ok w) e f = absurd f
  set-refused-too r (Err o) e f = rw f (set-refused r e)

  module _ (h : ℕ) (admitted : record_refusal (record_of s) ≡ 0) (period-is : h ≡ hyper (set_of s)) where
    pub table-short : length t < h → PlanReply (record_of s) t a (answer_of (Err ShortTable)) t a
    unfolding answer_of plan_refusal or_else set_of
    table-short k = let e = admitted in let p = period-is in refuses {n = 6} (rw (e, lt-ltb (length t) (hyper (set_in (record_of s))) (omega arith)))

    module _ (wide : h ≤ length t) where
      no-refusal : plan_refusal (record_of s) t ≡ 0
      unfolding plan_refusal or_else set_of
      no-refusal = let e = admitted in let p = period-is in rw (e, le-ltb (length t) (hyper (set_in (record_of s))) (omega arith))

      module _ (b : Bool) (live : b ≡ live_position (set_of s) (position_of s 0 (replicate 8 0))) where
        at-start : live_position (set_of s) (start (set_of s)) ≡ b
        at-start = ap (live_position (set_of s)) (start-position s) ∙ sym live

        pub never-begun : not b ≡ true → (t' : List ℕ) → t' ≡ replicate h 255 ++ drop h t → PlanReply (record_of s) t a (answer_of (Ok (record { word = Infeasible; dead = 0 }))) t' a
        unfolding answer_of word_of set_of
        never-begun n t' e = plan-dead (record_of s) (arrays s) t a no-refusal (at-start ∙ not-true b n) t' (rw (← period-is) e)

        module _ (go : not b ≡ false) (rows : Rows) (are : row_tasks rows ≡ set_of s) where
          begun : live_position (set_of s) (start (set_of s)) ≡ true
          begun = at-start ∙ not-false b go

          pub opens : Opening rows h (length a / (rows.count + 1)) t a
          unfolding room set_of
          opens =
              let S = plan-setting (record_of s) (arrays s) t a no-refusal begun in
              let x = S.some-task in
              let l = hyper-small (record_of s) admitted in
              let p = period-is in
              let e = are in
              let few : rows.count ≡ length (set_of s) = sym (rows-length rows) ∙ ap length e in
              record {
                some = omega arith;
                fit = rw e S.fit;
                period = rw e p;
                few = omega arith;
                long = wide;
                begun = rw e begun;
                room_is = rw (e, few, add-one);
              }

          module _ (w : Answer) (t₁ a₁ : List ℕ) (R : Ran (row_tasks rows) (length a / (rows.count + 1)) (opened (row_tasks rows) t a) (end_of w.word) w.dead t₁ a₁) where
            reached : (v : Word) → w.word ≡ v → Reaches (set_of s) (room (set_of s) a) (opened (set_of s) t a) (end_of v) R.last
            reached v e = rw (← e, ← are, ← opens.room_is) R.reaches

            pub may-spell : w.word ≡ Schedule → (h ≤ length t₁) × Listed (row_tasks rows) h t₁
            unfolding end_of set_of
            may-spell e =
                let S = plan-setting (record_of s) (arrays s) t a no-refusal begun in
                let r = reached Schedule e in
                let z = reaches-size (set_of s) (room (set_of s) a) t a S _ _ r in
                let q = R.table_is in
                (rw (← q, z) wide, rw (are, period-is, ← q) (reaches-listed (set_of s) (room (set_of s) a) t a S R.last r))

            module _ (t' : List ℕ) where
              pub first_found : w.word ≡ Schedule → t' ≡ spelled (row_tasks rows) (start (row_tasks rows)) (take h t₁) ++ drop h t₁ → PlanReply (record_of s) t a (answer_of (Ok w)) t' a₁
              unfolding answer_of word_of end_of set_of
              first_found e q =
                  rw (e, ← R.counted, ← R.area_is) (plan-found (record_of s) (arrays s) t a no-refusal begun R.last t' (reached Schedule e) (rw (R.table_is, ← period-is) (rw are at q)))

              none-exists : w.word ≡ Infeasible → t' ≡ replicate h 255 ++ drop h t₁ → PlanReply (record_of s) t a (answer_of (Ok w)) t' a₁
              unfolding answer_of word_of end_of set_of
              none-exists e q =
                  rw (e, ← R.counted, ← R.area_is) (plan-failed (record_of s) (arrays s) t a no-refusal begun R.last t' (reached Infeasible e) (rw (R.table_is, ← period-is) q))

              area-full : w.word ≡ OutOfRoom → t' ≡ replicate h 255 ++ drop h t₁ → PlanReply (record_of s) t a (answer_of (Ok w)) t' a₁
              unfolding answer_of word_of end_of set_of
              area-full e q =
                  rw (e, ← R.counted, ← R.area_is) (plan-full (record_of s) (arrays s) t a no-refusal begun R.last t' (reached OutOfRoom e) (rw (R.table_is, ← period-is) q))

              -- without a schedule the first slots are idle
              pub none_found : (w.word ≡ Infeasible) ⊎ (w.word ≡ OutOfRoom) → t' ≡ replicate h 255 ++ drop h t₁ → PlanReply (record_of s) t a (answer_of (Ok w)) t' a₁
              none_found (inl e) q = none-exists e q
              none_found (inr e) q = area-full e q
