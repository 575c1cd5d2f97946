-- The promises of the rules, each in one place under one name. The proofs are in the files beside this one.
use mathlib.Core.Path.{◌≡◌, refl, sym, ap₂, ◌∙◌}
use mathlib.Core.Logic.{◌↔◌, ◌≢◌}
use mathlib.Core.Bool.{Bool}
use mathlib.Core.List.{List}
use Prim.Native.Nat.{ℕ, zero, suc, ◌≤◌, ◌<◌, ◌/◌, ◌∣◌}
use native.Mathlib.Omega.{arith}
use native.Mathlib.Nat.{le-div_iff_mul-le, mul-div-le, mul_comm, dvd-zero}
use lib.Dec.{T}
use lib.ListN.{length, get_or, take}
use Rattle.rules.specs.Lists.{all_of}
use Rattle.rules.specs.Tasks.{Task, Fit, no_task}
use Rattle.rules.specs.Hyper.{hyper}
use Rattle.rules.specs.Positions.{Position, start}
use Rattle.rules.specs.Choices.{run, Schedule, Counted}
use Rattle.rules.specs.Endless.{Endless}
use Rattle.rules.specs.Records.{SetRecord, Arrays, set_in}
use Rattle.rules.specs.Planner.{room, Precede, Word, out_of_room, Verdict, no_room, found, failed, Reply, Planned, plan_refusal, Answer, answered, PlanReply, refuses, plans, Outcome, Right}
use Rattle.rules.specs.Condition2.{Condition2}
use Rattle.rules.specs.States.{StateRecord, StateArrays, form, tick_reply, ticked}
use Rattle.rules.specs.Condition3.{Out, report_on, fault_on, gets_slot, Condition3, Reached, Given}
use Rattle.rules.specs.Examples.{Settled, examples, All}
use Rattle.rules.specs.Corners.{agrees, corners}
use Rattle.rules.proofs.Lists.{clash}
use Rattle.rules.proofs.Set.Multiple as multiple
use Rattle.rules.proofs.Run.Forever as forever
use Rattle.rules.proofs.Run.Return as returning
use Rattle.rules.proofs.Plan.Unique as unique
use Rattle.rules.proofs.Plan.Replies as replies
use Rattle.rules.proofs.Plan.Freedom as freedom
use Rattle.rules.proofs.Plan.Condition2 as condition2
use Rattle.rules.proofs.Play.AnyRun as any_run
use Rattle.rules.proofs.Play.Closed as closed
use Rattle.rules.proofs.Settle.Examples as settled_examples
use Rattle.rules.proofs.Settle.Corners as settled_corners

-- ── the hyper-period ────────────────────────────────────────────────────────

-- "The hyper-period is the least common multiple of the periods": every period divides it,
pub hyper-common : (s : List Task) (j : ℕ) → j < length s → (get_or s j no_task).period ∣ hyper s
hyper-common = multiple.hyper-dvd

-- and it divides every number that all periods divide
pub hyper-least : (s : List Task) → ((j : ℕ) → j < length s → 0 < (get_or s j no_task).period) → (m : ℕ) → ((j : ℕ) → j < length s → (get_or s j no_task).period ∣ m) → hyper s ∣ m
hyper-least s p zero d = dvd-zero (hyper s)
hyper-least s p (suc m) d = multiple.hyper-least s (suc m) p (omega arith) d

-- ── endless schedules ───────────────────────────────────────────────────────

-- an endless schedule that misses no deadline exists exactly if a schedule exists
pub endless-iff : (s : List Task) → Fit s → ((c : ℕ → ℕ) × Endless s c) ↔ ((cs : List ℕ) × Schedule s cs)
endless-iff = forever.endless-iff

-- after a schedule the position is the start again, at slot H
pub schedule-returns : (s : List Task) → Fit s → (cs : List ℕ) → Schedule s cs → ((run s (start s) cs).slot ≡ hyper s) × ((run s (start s) cs).progress ≡ (start s).progress)
schedule-returns = returning.schedule-returns

-- ── the planner's relation ──────────────────────────────────────────────────

-- it can be met for every input
pub plan-met : (r : SetRecord) → Arrays r → (table area : List ℕ) → (o : Outcome) × PlanReply r table area o.answer o.table o.area
unfolding Right
plan-met r A table area = (replies.rules_planner r table area, replies.rules_planner-right r table area A)

-- two replies to one call are equal, but for the first records of the area
pub plan-unique : (r : SetRecord) (table area : List ℕ) {a b : Answer} {t u x y : List ℕ} → PlanReply r table area a t x → PlanReply r table area b u y → replies.SameReply r a b t u x y
plan-unique = replies.reply-unique

-- and where it is not out of room, each record of one is a record of the other
pub plan-records : (s : List Task) (table area : List ℕ) (p q : Reply) → Planned s table area p → Planned s table area q → p.word ≢ out_of_room
    → (i : ℕ) → i < p.count → (k : ℕ) × (k < q.count) × (freedom.record_at s p.area i ≡ freedom.record_at s q.area k)
plan-records = freedom.same-records

-- whatever the reply, each record is a counted position
pub plan-counted : (s : List Task) (table area : List ℕ) (q : Reply) → Planned s table area q → (i : ℕ) → i < q.count → (x : Position) × Counted s x × (freedom.record_at s q.area i ≡ freedom.record_of x)
plan-counted = freedom.record-counted

enough : (s : List Task) (K B : ℕ) {w : Word} {n : ℕ} {f : List ℕ} → Verdict s K B w n f → w ≢ out_of_room → B ≤ K
enough s K B (no_room h) n = absurd (n refl)
enough s K B (found h F) n = h
enough s K B (failed h F) n = h

room-more : (s : List Task) (a b : List ℕ) → length a ≤ length b → room s a ≤ room s b
unfolding room
room-more s a b l = (le-div_iff_mul-le {k = suc (length s)} (omega arith)).1 (let h = rw (mul_comm (suc (length s)) (length a / suc (length s))) at (mul-div-le (length a) (suc (length s))) in omega arith)

-- a larger area never changes a schedule or an infeasible
pub room-enough : (r : SetRecord) (table a b : List ℕ) → length a ≤ length b → {w : Word} {n : ℕ} {t x : List ℕ} → PlanReply r table a (answered w n) t x → w ≢ out_of_room
    → {c : Answer} {u y : List ℕ} → PlanReply r table b c u y → (c ≡ answered w n) × (u ≡ t)
room-enough r table a b l (plans {q = p} e P) nw (refuses {n = n} f) = clash n (sym f ∙ e)
room-enough r table a b l (plans {q = p} e P) nw (plans {q = q} f Q) =
    let h = enough (set_in r) (room (set_in r) a) (length P.dead) P.verdict nw in
    let k = room-more (set_in r) a b l in
    let E = unique.room-enough (set_in r) table a b p q P Q h (omega arith) in
    (ap₂ answered (sym E.0) (sym E.1), sym E.2)

-- ── condition 2 ─────────────────────────────────────────────────────────────

-- the reply to an admissible set and a table long enough is a word and a count that meet condition 2
pub condition-2 : (r : SetRecord) → Arrays r → (table area : List ℕ) → plan_refusal r table ≡ 0 → {a : Answer} {t u : List ℕ} → PlanReply r table area a t u
    → (w : Word) × (n : ℕ) × (a ≡ answered w n) × ((dead : List Position) → Precede (set_in r) dead → Condition2 (set_in r) dead area w n (take (hyper (set_in r)) t))
condition-2 = condition2.condition2

-- ── condition 3 ─────────────────────────────────────────────────────────────

-- what comes out of any run of accepted ticks from an accepted start meets condition 3, over any number of ticks
pub condition-3 : (r : SetRecord) → Arrays r → (table : List ℕ) (reports : ℕ → List ℕ) → ((t : ℕ) → length (reports t) ≡ r.count)
    → (outs : ℕ → Out) → ((t : ℕ) → Given r table reports t (outs t)) → Condition3 (set_in r) table reports outs
condition-3 = any_run.run-condition3

-- a task's slots and faults depend on the table and its own reports alone
pub alone : (r : SetRecord) → Arrays r → (table : List ℕ) (a b : ℕ → List ℕ) → ((t : ℕ) → length (a t) ≡ r.count) → ((t : ℕ) → length (b t) ≡ r.count)
    → (outs_a outs_b : ℕ → Out) → ((t : ℕ) → Given r table a t (outs_a t)) → ((t : ℕ) → Given r table b t (outs_b t))
    → (j : ℕ) → j < length (set_in r) → (t : ℕ) → ((u : ℕ) → u ≤ t → report_on a j u ≡ report_on b j u)
    → (gets_slot outs_a j t ≡ gets_slot outs_b j t) × (fault_on outs_a j t ≡ fault_on outs_b j t)
alone = any_run.run_alone

-- no tick of such a run is refused, and every state has the form
pub accepted : (r : SetRecord) → Arrays r → (table : List ℕ) (reports : ℕ → List ℕ) → ((t : ℕ) → length (reports t) ≡ r.count)
    → (t : ℕ) (w : StateRecord) → Reached r table reports t w → any_run.Goes table (reports t) w
accepted = any_run.goes_on

-- a tick's new state has the form, whatever state it came from
pub keeps-form : (w : StateRecord) → StateArrays w → (table reports : List ℕ) (enough : Bool) (runner : ℕ) (faults : List ℕ) (v : StateRecord)
    → tick_reply w table reports enough ≡ ticked runner faults v → T (form v)
keeps-form = closed.tick-closed

-- ── examples ────────────────────────────────────────────────────────────────

-- the rows of document 01 marked P, planner and player, and Example 1 of document 001
pub settled : All Settled examples
settled = settled_examples.settled

-- the corners of the refusals, the form of a state and the tick
pub corners-agree : T (all_of agrees corners)
corners-agree = settled_corners.corners-agree
