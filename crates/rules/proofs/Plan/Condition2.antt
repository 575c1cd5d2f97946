-- Every reply in the relation meets condition 2.
use mathlib.Core.Path.{◌≡◌, refl, sym, ◌∙◌}
use mathlib.Core.List.{List}
use Prim.Native.Nat.{ℕ, suc, ◌<◌}
use native.Mathlib.Omega.{arith}
use lib.ListN.{length, take, drop, length-replicate}
use lib.Seq.{take_at}
use Rattle.rules.specs.Tasks.{Fit, Task}
use Rattle.rules.specs.Hyper.{hyper}
use Rattle.rules.specs.Positions.{Position, idle}
use Rattle.rules.specs.Endless.{beginning}
use Rattle.rules.specs.Records.{SetRecord, Arrays, set_in}
use Rattle.rules.specs.Planner.{room, Precede, Word, Verdict, no_room, found, failed, Reply, Planned, plan_refusal, Answer, answered, PlanReply, refuses, plans}
use Rattle.rules.specs.Condition2.{Condition2}
use Rattle.rules.proofs.Set.Multiple.{hyper-dvd, hyper-pos}
use Rattle.rules.proofs.Set.Tidy.{set-fit}
use Rattle.rules.proofs.Run.Forever.{endless-schedule, schedule-endless}
use Rattle.rules.proofs.Plan.Unique.{precede-size}
use Rattle.rules.proofs.Plan.Replies.{plan-parts}
use Rattle.rules.proofs.Lists.{clash-01}

module _ (s : List Task) (fit : Fit s) (dead : List Position) (area : List ℕ) where
  some-slot : 0 < hyper s
  some-slot = hyper-pos s (λ j h. let d = fit.due j h in let f = fit.fits j h in omega arith)

  verdict-settles : {w : Word} {n : ℕ} {f : List ℕ} → Verdict s (room s area) (length dead) w n f → Condition2 s dead area w n f
  verdict-settles (no_room h) = record {
    endless = λ e. clash-01 (cc);
    long = length-replicate (hyper s) idle;
    least = λ e. clash-01 (cc);
    is_first = λ e. clash-01 (cc);
    none_exists = λ e. clash-01 (cc);
    out_of_room_iff = ((λ e. h), (λ k. refl));
    counted = λ k. absurd (k refl);
    room_counted = λ e. refl;
  }
  verdict-settles (found {f = f} h F) = record {
    endless = λ e. schedule-endless s f fit (hyper-dvd s) some-slot F.schedule;
    long = F.schedule.long;
    least = λ e c E. F.least (beginning c 0 (hyper s)) (endless-schedule s c fit E);
    is_first = λ e. F;
    none_exists = λ e. clash-01 (cc);
    out_of_room_iff = ((λ e. clash-01 (cc)), (λ k. let z : ⊥ = omega arith in absurd z));
    counted = λ k. refl;
    room_counted = λ e. clash-01 (cc);
  }
  verdict-settles (failed h F) = record {
    endless = λ e. clash-01 (cc);
    long = length-replicate (hyper s) idle;
    least = λ e. clash-01 (cc);
    is_first = λ e. clash-01 (cc);
    none_exists = λ e c E. F (beginning c 0 (hyper s)) (endless-schedule s c fit E);
    out_of_room_iff = ((λ e. clash-01 (cc)), (λ k. let z : ⊥ = omega arith in absurd z));
    counted = λ k. refl;
    room_counted = λ e. clash-01 (cc);
  }

pub planned-settles : (s : List Task) → Fit s → (table area : List ℕ) (q : Reply) → Planned s table area q → (dead : List Position) → Precede s dead
    → Condition2 s dead area q.word q.count (take (hyper s) q.table)
planned-settles s fit table area q P dead D =
    let e = precede-size s P.dead dead P.precede D in
    let W : Verdict s (room s area) (length dead) q.word q.count P.front = rw e at P.verdict in
    let C = verdict-settles s fit dead area W in
    rw (P.table_is, take_at P.front (drop (hyper s) table) (hyper s) C.long) C

-- Condition 2: for an admissible list and a table long enough
pub condition2 : (r : SetRecord) → Arrays r → (table area : List ℕ) → plan_refusal r table ≡ 0 → {a : Answer} {t u : List ℕ} → PlanReply r table area a t u
    → (w : Word) × (n : ℕ) × (a ≡ answered w n) × ((dead : List Position) → Precede (set_in r) dead → Condition2 (set_in r) dead area w n (take (hyper (set_in r)) t))
condition2 r A table area e (refuses {n = n} f) = let k : suc n ≡ 0 = sym f ∙ e in let z : ⊥ = omega arith in absurd z
condition2 r A table area e (plans {q = q} f P) = (q.word, q.count, refl, λ dead D. planned-settles (set_in r) (set-fit r A (plan-parts r table e).0) table area q P dead D)
