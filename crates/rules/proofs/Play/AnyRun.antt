-- Condition 3 and independence of start and tick with their refusals.
use mathlib.Core.Path.{◌≡◌, refl, sym, ap, ap₂, ◌∙◌, subst, fun_ext}
use mathlib.Core.Bool.{Bool, true, false, not, cond, ◌&&◌}
use mathlib.Core.List.{List}
use Prim.Native.Nat.{ℕ, zero, suc, ◌≤◌, ◌<◌}
use native.Mathlib.Omega.{arith}
use borrow.Author.Tests.{eq-eqb}
use lib.Dec.{T, eqb}
use lib.ListN.{length, take, drop}
use Rattle.rules.specs.Lists.{all_of, is_zero, padded}
use Rattle.rules.specs.Choices.{Schedule}
use Rattle.rules.specs.Records.{or_else, SetRecord, Arrays, used, set_in, record_refusal}
use Rattle.rules.specs.Player.{State, fresh, tick}
use Rattle.rules.specs.States.{StateRecord, blank_job, is_blank_job, is_blank_task, units_tidy, rest_zero, in_use, in_use_form, form, tidied, as_record, is_schedule, started, start_refusal, started_or, start_reply, TickReply, ticked, entry_fits, tick_refusal, ticked_or, tick_reply}
use Rattle.rules.specs.Condition3.{Out, report_on, gets_slot, fault_on, Condition3, OneEach, out_at, Reached, from_start, by_tick, Given}
use Rattle.rules.proofs.Laws.{and_T, T_true, true-T}
use Rattle.rules.proofs.Set.Tidy.{padded-take, padded-rest, zero_is, blank-job-is, set-length, set-fit, set-small, set-shape, set_in-tidied, refusal-tidied, rest-tidied}
use Rattle.rules.proofs.Play.Lanes.{states, planned-length}
use Rattle.rules.proofs.Play.Obey.{rules_player, condition3, out-runner, out-faults, obeys}
use Rattle.rules.proofs.Play.Accepted.{schedule-is, core-form, entry-fits, jobs-length}
use Rattle.rules.proofs.Lists.{clash-01}

-- ── what an accepted start says ─────────────────────────────────────────────

pub record Start (r : SetRecord) (table : List ℕ) (w : StateRecord) : Type 0 where
  pub admissible : record_refusal r ≡ 0
  pub schedule : Schedule (set_in r) table
  pub state : w ≡ as_record (tidied r) (fresh (set_in r))

start-parts : (r : SetRecord) (table : List ℕ) → start_refusal r table true ≡ 0 → (record_refusal r ≡ 0) × Schedule (set_in r) table
unfolding start_refusal or_else
start-parts r table e = go (record_refusal r) refl e
  where
    two : (b : Bool) → is_schedule (set_in r) table ≡ b → ◌≡◌ {A = ℕ} (cond (not b) 12 (cond (not true) 8 0)) 0 → Schedule (set_in r) table
    two true q e = schedule-is (set_in r) table (true-T _ q)
    two false q e = let z : ⊥ = omega arith in absurd z

    go : (n : ℕ) → record_refusal r ≡ n → or_else n (cond (not (is_schedule (set_in r) table)) 12 (cond (not true) 8 0)) ≡ 0 → (record_refusal r ≡ 0) × Schedule (set_in r) table
    go zero q e = (q, two (is_schedule (set_in r) table) refl e)
    go (suc n) q e = let z : ⊥ = omega arith in absurd z

pub start_is : (r : SetRecord) (table : List ℕ) (w : StateRecord) → start_reply r table true ≡ started w → Start r table w
unfolding start_reply started_or
start_is r table w e = go (start_refusal r table true) refl e
  where
    go : (n : ℕ) → start_refusal r table true ≡ n → started_or r n ≡ started w → Start r table w
    go zero q e = let p = start-parts r table q in record { admissible = p.0; schedule = p.1; state = whole e }
      where
        whole : started_or r 0 ≡ started w → w ≡ as_record (tidied r) (fresh (set_in r))
        whole e = cc
    go (suc n) q e = clash-01 (cc)

-- ── the states of a run, wrapped ────────────────────────────────────────────

module _ (r : SetRecord) (A : Arrays r) (ok : record_refusal r ≡ 0) (table : List ℕ) (S : Schedule (set_in r) table) (reports : ℕ → List ℕ) (one : (t : ℕ) → length (reports t) ≡ r.count) where
  unfoldable pub state_of : ℕ → State
  state_of t = states (set_in r) table reports t

  unfoldable pub whole_of : ℕ → StateRecord
  whole_of t = as_record (tidied r) (state_of t)

  planned-count : (t : ℕ) → length (state_of t).planned ≡ r.count
  unfolding state_of
  planned-count t = planned-length (set_in r) table (set-fit r A ok) (set-small r A ok) S reports t ∙ set-length r A ok

  jobs-count : (t : ℕ) → length (state_of t).jobs ≡ r.count
  unfolding state_of
  jobs-count t = jobs-length (set_in r) table (set-fit r A ok) (set-small r A ok) (set-shape r A ok) S reports t ∙ set-length r A ok

  core_is : (t : ℕ) → in_use (whole_of t) ≡ state_of t
  unfolding in_use whole_of as_record tidied
  core_is t =
      let p : take r.count (padded 8 0 (state_of t).planned) ≡ (state_of t).planned = padded-take 8 0 (state_of t).planned r.count (planned-count t) in
      let q : take r.count (padded 8 blank_job (state_of t).jobs) ≡ (state_of t).jobs = padded-take 8 blank_job (state_of t).jobs r.count (jobs-count t) in
      λ i. record { slot = (state_of t).slot; planned = p i; jobs = q i; last = (state_of t).last }

  count-is : (tidied r).count ≡ r.count
  unfolding tidied
  count-is = refl

  set_is : (t : ℕ) → set_in (whole_of t).set ≡ set_in r
  unfolding whole_of as_record
  set_is t = set_in-tidied r A ok

  onward : (t : ℕ) → ◌≡◌ {A = TickReply}
      (ticked (tick (set_in r) table (state_of t) (reports t)).runner (tick (set_in r) table (state_of t) (reports t)).faults (as_record (whole_of t).set (tick (set_in r) table (state_of t) (reports t)).state))
      (ticked (tick (set_in r) table (state_of t) (reports t)).runner (tick (set_in r) table (state_of t) (reports t)).faults (whole_of (suc t)))
  unfolding whole_of as_record state_of states
  onward t = refl

  rest-is : (t : ℕ) → T (rest_zero (whole_of t))
  unfolding rest_zero whole_of as_record tidied
  rest-is t = and_T (all_of units_tidy (used (tidied r)) && all_of is_blank_task (drop (tidied r).count (tidied r).entries)) _ (rw count-is (rest-tidied r A ok))
      (and_T (all_of is_zero (drop (tidied r).count (padded 8 0 (state_of t).planned))) _
      (padded-rest is_zero 8 0 (state_of t).planned (tidied r).count (planned-count t ∙ sym count-is) zero_is)
      (padded-rest is_blank_job 8 blank_job (state_of t).jobs (tidied r).count (jobs-count t ∙ sym count-is) blank-job-is))

  set-fine : (t : ℕ) → record_refusal (whole_of t).set ≡ 0
  unfolding whole_of as_record
  set-fine t = refusal-tidied r A ok

  core-fine : (t : ℕ) → T (in_use_form (set_in (whole_of t).set) (in_use (whole_of t)))
  unfolding state_of
  core-fine t = rw (set_is t, core_is t) (core-form (set_in r) table (set-fit r A ok) (set-small r A ok) (set-shape r A ok) S reports t)

  entry-fine : (t : ℕ) → T (entry_fits (set_in (whole_of t).set) (in_use (whole_of t)) table)
  unfolding state_of
  entry-fine t = rw (set_is t, core_is t) (entry-fits (set_in r) table (set-fit r A ok) (set-small r A ok) (set-shape r A ok) S reports t)

  -- every state of the run has the form
  form-is : (t : ℕ) → T (form (whole_of t))
  unfolding form
  form-is t = and_T (eqb (record_refusal (whole_of t).set) 0) _ (true-T _ (eq-eqb (record_refusal (whole_of t).set) 0 (set-fine t)))
      (and_T (in_use_form (set_in (whole_of t).set) (in_use (whole_of t))) _ (core-fine t) (rest-is t))

  reports-fine : (t : ℕ) → eqb (length (reports t)) (whole_of t).set.count ≡ true
  unfolding whole_of as_record
  reports-fine t = eq-eqb (length (reports t)) (tidied r).count (one t ∙ sym count-is)

  -- and no tick of it is refused
  none-refused : (t : ℕ) → tick_refusal (whole_of t) table (reports t) true ≡ 0
  unfolding tick_refusal
  none-refused t = rw (T_true (form (whole_of t)) (form-is t), reports-fine t, T_true (entry_fits (set_in (whole_of t).set) (in_use (whole_of t)) table) (entry-fine t)) refl

  -- it gives what the rules' tick gives
  tick_gives : (t : ℕ) → tick_reply (whole_of t) table (reports t) true
      ≡ ticked (tick (set_in r) table (state_of t) (reports t)).runner (tick (set_in r) table (state_of t) (reports t)).faults (whole_of (suc t))
  unfolding tick_reply ticked_or
  tick_gives t = ap (λ n. ticked_or (whole_of t) table (reports t) n) (none-refused t)
      ∙ ap₂ (λ s st. ticked (tick s table st (reports t)).runner (tick s table st (reports t)).faults (as_record (whole_of t).set (tick s table st (reports t)).state)) (set_is t) (core_is t)
      ∙ onward t

  fresh-is : as_record (tidied r) (fresh (set_in r)) ≡ whole_of 0
  unfolding whole_of state_of states
  fresh-is = refl

  next-is : (t : ℕ) (w v : StateRecord) (runner : ℕ) (faults : List ℕ) → tick_reply w table (reports t) true ≡ ticked runner faults v → w ≡ whole_of t
      → (v ≡ whole_of (suc t)) × (runner ≡ (tick (set_in r) table (state_of t) (reports t)).runner) × (faults ≡ (tick (set_in r) table (state_of t) (reports t)).faults)
  next-is t w v runner faults e q =
      let g : ticked runner faults v ≡ ticked (tick (set_in r) table (state_of t) (reports t)).runner (tick (set_in r) table (state_of t) (reports t)).faults (whole_of (suc t))
      = sym e ∙ ap (λ x. tick_reply x table (reports t) true) q ∙ tick_gives t in
      (cc g, cc g, cc g)

  -- the states of a run are these
  reached-is : (t : ℕ) (w : StateRecord) → Reached r table reports t w → w ≡ whole_of t
  reached-is t w (from_start e) = (start_is r table w e).state ∙ fresh-is
  reached-is t w (by_tick {t = u} {w = v} {runner = a} {faults = b} h e) = (next-is u v w a b e (reached-is u v h)).0

-- ── any run ─────────────────────────────────────────────────────────────────

pub origin : (r : SetRecord) (table : List ℕ) (reports : ℕ → List ℕ) (t : ℕ) (w : StateRecord) → Reached r table reports t w → (record_refusal r ≡ 0) × Schedule (set_in r) table
origin r table reports t w (from_start e) = ((start_is r table w e).admissible, (start_is r table w e).schedule)
origin r table reports t w (by_tick {t = u} {w = v} h e) = origin r table reports u v h

-- a state of a run has the form, and its tick is accepted
pub record Goes (table : List ℕ) (reports : List ℕ) (w : StateRecord) : Type 0 where
  pub formed : T (form w)
  pub unrefused : tick_refusal w table reports true ≡ 0
  pub out : Out
  pub onward : StateRecord
  pub reply : tick_reply w table reports true ≡ ticked out.runner out.faults onward

module _ (r : SetRecord) (A : Arrays r) (table : List ℕ) (reports : ℕ → List ℕ) (one : (t : ℕ) → length (reports t) ≡ r.count) where
  -- Along a run from an accepted start no tick with one report per task is refused, and every state has the form
  pub goes_on : (t : ℕ) (w : StateRecord) → Reached r table reports t w → Goes table (reports t) w
  goes_on t w h =
      let o = origin r table reports t w h in
      let e = reached-is r A o.0 table o.1 reports one t w h in
      rw e (record {
        formed = form-is r A o.0 table o.1 reports one t;
        unrefused = none-refused r A o.0 table o.1 reports one t;
        out = _;
        onward = _;
        reply = tick_gives r A o.0 table o.1 reports one t;
      })

  given_is : (t : ℕ) (out : Out) → Given r table reports t out → out ≡ out_at (rules_player (set_in r) table) reports t
  unfolding state_of
  given_is t out G =
      let o = origin r table reports t G.state G.reached in
      let n = next-is r A o.0 table o.1 reports one t G.state G.next out.runner out.faults G.reply (reached-is r A o.0 table o.1 reports one t G.state G.reached) in
      let p : out.runner ≡ (out_at (rules_player (set_in r) table) reports t).runner = n.1 ∙ sym (out-runner (set_in r) table reports t) in
      let q : out.faults ≡ (out_at (rules_player (set_in r) table) reports t).faults = n.2 ∙ sym (out-faults (set_in r) table reports t) in
      λ i. record { runner = p i; faults = q i }

  -- Condition 3, of what comes out of any run of accepted ticks from an accepted start
  pub run-condition3 : (outs : ℕ → Out) → ((t : ℕ) → Given r table reports t (outs t)) → Condition3 (set_in r) table reports outs
  run-condition3 outs G =
      let o = origin r table reports 0 (G 0).state (G 0).reached in
      subst (λ f. Condition3 (set_in r) table reports f) (sym (fun_ext (λ t. given_is t (outs t) (G t))))
      (condition3 (set_in r) table (set-fit r A o.0) (set-small r A o.0) (set-shape r A o.0) o.1 reports)

-- and two runs of one list and table whose reports on a task agree up to a tick give that task the same slot and fault there
pub run_alone : (r : SetRecord) → Arrays r → (table : List ℕ) (a b : ℕ → List ℕ) (oa : (t : ℕ) → length (a t) ≡ r.count) (ob : (t : ℕ) → length (b t) ≡ r.count)
    (outs_a outs_b : ℕ → Out) → ((t : ℕ) → Given r table a t (outs_a t)) → ((t : ℕ) → Given r table b t (outs_b t))
    → (j : ℕ) → j < length (set_in r) → (t : ℕ) → ((u : ℕ) → u ≤ t → report_on a j u ≡ report_on b j u)
    → (gets_slot outs_a j t ≡ gets_slot outs_b j t) × (fault_on outs_a j t ≡ fault_on outs_b j t)
unfolding OneEach
run_alone r A table a b oa ob outs_a outs_b GA GB j h t e =
    let o = origin r table a 0 (GA 0).state (GA 0).reached in
    let I = (obeys (set_in r) table (set-fit r A o.0) (set-small r A o.0) (set-shape r A o.0) o.1).independent in
    let l = set-length r A o.0 in
    rw (fun_ext (λ t. given_is r A table a oa t (outs_a t) (GA t)), fun_ext (λ t. given_is r A table b ob t (outs_b t) (GB t)))
    (I.slots j h a b (λ t. oa t ∙ sym l) (λ t. ob t ∙ sym l) t e, I.faults j h a b (λ t. oa t ∙ sym l) (λ t. ob t ∙ sym l) t e)
