-- The rules' player obeys condition 3.
use mathlib.Core.Path.{◌≡◌, refl, sym, ap, ap₂, ◌∙◌, subst, fun_ext}
use mathlib.Core.Logic.{◌⊎◌, inl, inr}
use mathlib.Core.Bool.{Bool, true, false, cond, ◌&&◌}
use mathlib.Core.List.{List}
use Prim.Native.Nat.{ℕ, zero, suc, ◌+◌, ◌*◌, ◌-◌, ◌≤◌, ◌<◌, ◌%◌}
use native.Mathlib.Omega.{arith}
use borrow.Author.Tests.{ltb-true}
use lib.Dec.{ltb, eqb}
use lib.ListN.{length, get_or}
use Rattle.rules.specs.Tasks.{Fit, Task, no_task, Shape, written}
use Rattle.rules.specs.Hyper.{hyper}
use Rattle.rules.specs.Positions.{idle}
use Rattle.rules.specs.Choices.{Schedule}
use Rattle.rules.specs.Endless.{repeated, progress_of}
use Rattle.rules.specs.Jobs.{turn}
use Rattle.rules.specs.Player.{State, fresh, turn_of, runner_of, tick}
use Rattle.rules.specs.Observer.{in_step, over, watched}
use Rattle.rules.specs.Condition3.{Out, report_on, fault_on, gets_slot, job_seen, entry, Condition3, AnyPlayer, state_at, out_at, Obeys}
use Rattle.rules.proofs.Play.Keep.{Follows}
use Rattle.rules.proofs.Play.Lanes.{states, lane_of, follows, same, slot_is, fault_of, fault-is}
use Rattle.rules.proofs.Play.Observed.{lane_at, gets, seen, seen-finishes, seen-gets, fault_at, seen-blameless, first-blameless, lane-agree}
use Rattle.rules.proofs.Lists.{tabulate-length}

-- the player of document 01, for one set and table
abbrev pub rules_player : List Task → List ℕ → AnyPlayer
rules_player s table = record {
  State = State;
  begin = fresh s;
  out = λ st reports. record { runner = (tick s table st reports).runner; faults = (tick s table st reports).faults };
  onward = λ st reports. (tick s table st reports).state;
}

pub state-is : (s : List Task) (table : List ℕ) (reports : ℕ → List ℕ) (t : ℕ) → state_at (rules_player s table) reports t ≡ states s table reports t
unfolding state_at states
state-is s table reports zero = refl
state-is s table reports (suc t) = ap (λ st. (tick s table st (reports t)).state) (state-is s table reports t)

-- what comes out, from the states of `Condition`
pub out-runner : (s : List Task) (table : List ℕ) (reports : ℕ → List ℕ) (t : ℕ) → (out_at (rules_player s table) reports t).runner ≡ (tick s table (states s table reports t) (reports t)).runner
unfolding out_at
out-runner s table reports t = ap (λ st. (tick s table st (reports t)).runner) (state-is s table reports t)

pub out-faults : (s : List Task) (table : List ℕ) (reports : ℕ → List ℕ) (t : ℕ) → (out_at (rules_player s table) reports t).faults ≡ (tick s table (states s table reports t) (reports t)).faults
unfolding out_at
out-faults s table reports t = ap (λ st. (tick s table st (reports t)).faults) (state-is s table reports t)

module _ (s : List Task) (cs : List ℕ) (fit : Fit s) (small : length s ≤ idle) (shape : (j : ℕ) → j < length s → Shape (get_or s j no_task).pattern) (S : Schedule s cs) where
  outs : (ℕ → List ℕ) → ℕ → Out
  outs reports = out_at (rules_player s cs) reports

  module _ (reports : ℕ → List ℕ) (j : ℕ) (h : j < length s) where
    own : ℕ → Bool
    own u = eqb (repeated cs u) j

    plan : ℕ → ℕ
    plan u = progress_of s (repeated cs) u j

    rep : ℕ → ℕ
    rep u = get_or (reports u) j 0

    F : Follows (get_or s j no_task) own plan
    unfolding own plan
    F = follows s cs fit S j h

    gets-is : (t : ℕ) → gets_slot (outs reports) j t ≡ gets (get_or s j no_task) (shape j h) own plan rep F t
    unfolding gets_slot outs gets lane_at own plan rep states lane_of tick
    gets-is t = ap (λ r. eqb r j) (out-runner s cs reports t) ∙ (same s cs fit small S reports (suc t) j h).ran

    seen-is : (k n : ℕ) → job_seen s reports (outs reports) j k n ≡ seen (get_or s j no_task) (shape j h) own plan rep F k n
    unfolding job_seen seen report_on rep
    seen-is k n = ap (λ f. watched (get_or s j no_task) (λ u. get_or (reports u) j 0) f (k * (get_or s j no_task).period) n) (fun_ext gets-is)

    fault-as : (t : ℕ) → fault_on (outs reports) j t ≡ fault_at (get_or s j no_task) (shape j h) own plan rep F t
    unfolding fault_on outs fault_at lane_at own plan rep lane_of fault_of
    fault-as t = ap (λ l. get_or l j 0) (out-faults s cs reports t) ∙ fault-is s cs fit small S reports t j h

    period-pos : 0 < (get_or s j no_task).period
    period-pos = let d = fit.due j h in let f = fit.fits j h in omega arith

    finishes' : (k : ℕ) → (job_seen s reports (outs reports) j k (get_or s j no_task).deadline).keeps ≡ true → (job_seen s reports (outs reports) j k (get_or s j no_task).deadline).phase ≡ over
    finishes' k = go ((get_or s j no_task).deadline - 1) (let d = fit.due j h in omega arith)
      where
        go : (n : ℕ) → suc n ≡ (get_or s j no_task).deadline → (job_seen s reports (outs reports) j k (get_or s j no_task).deadline).keeps ≡ true → (job_seen s reports (outs reports) j k (get_or s j no_task).deadline).phase ≡ over
        go n e = subst (λ d. (job_seen s reports (outs reports) j k d).keeps ≡ true → (job_seen s reports (outs reports) j k d).phase ≡ over) e
            (λ q. ap (λ w. w.phase) (seen-is k (suc n)) ∙ seen-finishes (get_or s j no_task) (shape j h) own plan rep F k n e (fit.fits j h) (ap (λ w. w.keeps) (sym (seen-is k (suc n))) ∙ q))

    gets' : (k n : ℕ) → n < (get_or s j no_task).period → gets_slot (outs reports) j (k * (get_or s j no_task).period + n) ≡ true
        → ((job_seen s reports (outs reports) j k n).phase ≡ in_step) × ((job_seen s reports (outs reports) j k n).got < written (get_or s j no_task) (job_seen s reports (outs reports) j k n).step)
    gets' k n l e = rw (seen-is k n) (seen-gets (get_or s j no_task) (shape j h) own plan rep F k n l (sym (gets-is (k * (get_or s j no_task).period + n)) ∙ e))

    no_fault' : (k n : ℕ) → n < (get_or s j no_task).period → (job_seen s reports (outs reports) j k (suc n)).keeps ≡ true → (job_seen s reports (outs reports) j k (suc n)).quiet ≡ true
        → fault_on (outs reports) j (suc (k * (get_or s j no_task).period + n)) ≡ 0
    no_fault' k n l a b = fault-as (suc (k * (get_or s j no_task).period + n))
        ∙ seen-blameless (get_or s j no_task) (shape j h) own plan rep F k n l (ap (λ w. w.keeps) (sym (seen-is k (suc n))) ∙ a) (ap (λ w. w.quiet) (sym (seen-is k (suc n))) ∙ b)

    no_fault_first' : report_on reports j 0 ≡ 0 → fault_on (outs reports) j 0 ≡ 0
    unfolding report_on rep
    no_fault_first' e = fault-as 0 ∙ first-blameless (get_or s j no_task) (shape j h) own plan rep F period-pos e

  own_slots' : (reports : ℕ → List ℕ) (t : ℕ) → ((outs reports t).runner ≡ idle) ⊎ (((outs reports t).runner < length s) × ((outs reports t).runner ≡ entry s cs t))
  unfolding outs tick runner_of entry
  own_slots' reports t = rw (out-runner s cs reports t) (go (states s cs reports t) (slot_is s cs fit small S reports t))
    where
      go : (st : State) → st.slot ≡ t % hyper s → ((tick s cs st (reports t)).runner ≡ idle) ⊎ (((tick s cs st (reports t)).runner < length s) × ((tick s cs st (reports t)).runner ≡ entry s cs t))
      go st e = two (ltb (get_or cs st.slot idle) (length s)) refl (turn_of s cs st (reports t) (get_or cs st.slot idle)).runs
        where
          two : (a : Bool) → ltb (get_or cs st.slot idle) (length s) ≡ a → (b : Bool) → (cond (a && b) (get_or cs st.slot idle) idle ≡ idle) ⊎ ((cond (a && b) (get_or cs st.slot idle) idle < length s) × (cond (a && b) (get_or cs st.slot idle) idle ≡ entry s cs t))
          two true q true = inr (ltb-true (get_or cs st.slot idle) (length s) q, ap (λ n. get_or cs n idle) e)
          two true q false = inl refl
          two false q b = inl refl

  pub condition3 : (reports : ℕ → List ℕ) → Condition3 s cs reports (out_at (rules_player s cs) reports)
  unfolding outs tick
  condition3 reports = record {
    finishes = λ j h k. finishes' reports j h k;
    never_waiting = λ j h k n l e. (gets' reports j h k n l e).0;
    not_more = λ j h k n l e. (gets' reports j h k n l e).1;
    own_slots = own_slots' reports;
    no_fault = λ j h k n l a b. no_fault' reports j h k n l a b;
    no_fault_first = λ j h e. no_fault_first' reports j h e;
    fault_each = λ t. ap length (out-faults s cs reports t) ∙ tabulate-length _ 0 (length s);
  }

  lanes : (a b : ℕ → List ℕ) (j t : ℕ) → ((u : ℕ) → u < t → report_on a j u ≡ report_on b j u) → lane_of s cs a j t ≡ lane_of s cs b j t
  unfolding lane_of report_on
  lanes a b j t e = lane-agree (get_or s j no_task) (λ u. eqb (repeated cs u) j) (λ u. progress_of s (repeated cs) u j) (λ u. get_or (a u) j 0) (λ u. get_or (b u) j 0) t e

  slots-alone : (j : ℕ) → j < length s → (a b : ℕ → List ℕ) (t : ℕ) → ((u : ℕ) → u ≤ t → report_on a j u ≡ report_on b j u) → gets_slot (outs a) j t ≡ gets_slot (outs b) j t
  unfolding gets_slot outs states tick
  slots-alone j h a b t e =
      ap (λ r. eqb r j) (out-runner s cs a t) ∙ (same s cs fit small S a (suc t) j h).ran
      ∙ ap (λ l. l.ran) (lanes a b j (suc t) (λ u l. e u (omega arith)))
      ∙ sym (ap (λ r. eqb r j) (out-runner s cs b t) ∙ (same s cs fit small S b (suc t) j h).ran)

  faults-alone : (j : ℕ) → j < length s → (a b : ℕ → List ℕ) (t : ℕ) → ((u : ℕ) → u ≤ t → report_on a j u ≡ report_on b j u) → fault_on (outs a) j t ≡ fault_on (outs b) j t
  unfolding fault_on outs fault_of report_on
  faults-alone j h a b t e =
      ap (λ l. get_or l j 0) (out-faults s cs a t) ∙ fault-is s cs fit small S a t j h
      ∙ ap₂ (λ l r. (turn (get_or s j no_task) t (progress_of s (repeated cs) t j) (eqb (repeated cs t) j) l.ran l.job r).fault) (lanes a b j t (λ u l. e u (omega arith))) (e t (omega arith))
      ∙ sym (ap (λ l. get_or l j 0) (out-faults s cs b t) ∙ fault-is s cs fit small S b t j h)

  -- Condition 3, of the rules' player
  pub obeys : Obeys s cs (rules_player s cs)
  unfolding outs
  obeys = record {
    condition = λ reports one. condition3 reports;
    independent = record {
      slots = λ j h a b oa ob t e. slots-alone j h a b t e;
      faults = λ j h a b oa ob t e. faults-alone j h a b t e;
    };
  }
