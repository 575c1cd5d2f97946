-- Laws of a tick of a state by value: each refusal, and the reply.
use mathlib.Core.Path.{◌≡◌, refl, sym, ap, ◌∙◌}
use mathlib.Core.Bool.{Bool, true, false}
use mathlib.Core.List.{List}
use Prim.Native.Nat.{ℕ, suc, ◌%◌, ◌<◌}
use native.Mathlib.Omega.{arith}
use lib.Dec.{T}
use lib.ListN.{length, get_or}
use borrow.Author.Tests.{eq-eqb, ne_eqb}
use Rattle.std.specs.Prelude.{Option, Ok, Err}
use Rattle.rules.specs.Lists.{padded}
use Rattle.rules.specs.Hyper.{hyper}
use Rattle.rules.specs.Positions.{idle, next, legal}
use Rattle.rules.specs.Records.{set_in}
use Rattle.rules.specs.Player as rules
use Rattle.rules.specs.Player.{tick}
use Rattle.rules.specs.States.{blank_job, in_use, form, as_record, ticked, entry_fits, tick_refusal, ticked_or, tick_reply}
use Rattle.rules.proofs.Laws.{T_true}
use Rattle.tasks.specs.declared.refusal.Refusal.{Refusal}
use Rattle.tasks.specs.declared.refusal.Refusal.TheVariants.{BadState, ReportCount, BadTable}
use Rattle.tasks.specs.Refusals.{number_of}
use Rattle.tasks.specs.Views.{record_of, set_of, progress_of, position_of, array_of}
use Rattle.player.specs.declared.Cause.{Cause}
use Rattle.player.specs.declared.Job.{Job}
use Rattle.player.specs.declared.State.{State}
use Rattle.player.specs.declared.form.Formed.{Formed}
use Rattle.player.specs.Views.{eight, jobs_of, faults_of, runner_number, state_of}
use Rattle.player.specs.Answers.{TickAnswer, tick_answer, ticked_of}
use Rattle.player.proofs.Views.{eight-same}
use Rattle.player.proofs.Starts.{onward-length}
use Rattle.player.proofs.InForm.{tasks-are, slot-below}

module _ (st : State) (table reports : List ℕ) where
  abbrev asked : TickAnswer
  asked = tick_answer (state_of st) (tick_reply (state_of st) table reports true)

  refused : (r : Refusal) (n : ℕ) → number_of r ≡ suc n → tick_refusal (state_of st) table reports true ≡ suc n → ticked_of (state_of st) (Err r) ≡ asked
  unfolding ticked_of tick_answer tick_reply ticked_or
  refused r n k e = rw (e, k)

  pub refused-form : form (state_of st) ≡ false → ticked_of (state_of st) (Err BadState) ≡ asked
  unfolding tick_refusal
  refused-form e = refused BadState 9 refl (rw e)

  -- the state has the form
  module _ (f : Formed) (ef : f.state.now ≡ st) where
    abbrev h : ℕ
    h = f.hyper

    ok : T (form (state_of st))
    ok = rw ef at f.formed

    good : form (state_of st) ≡ true
    good = T_true (form (state_of st)) ok

    eh : f.hyper ≡ hyper (set_in (state_of st).set)
    eh = rw ef at f.period

    pub slot-in : st.slot < f.hyper
    slot-in = slot-below st ok f.hyper eh

    pub refused-reports : (length reports ≡ st.set.count → ⊥) → ticked_of (state_of st) (Err ReportCount) ≡ asked
    unfolding tick_refusal state_of record_of
    refused-reports n = refused ReportCount 10 refl (rw (good, ne_eqb (length reports) st.set.count n))

    module _ (told : length reports ≡ st.set.count) where
      period : h ≡ hyper (set_of st.set)
      unfolding state_of set_of
      period = eh

      refused-entry_fits : entry_fits (set_of st.set) (in_use (state_of st)) table ≡ false → ticked_of (state_of st) (Err BadTable) ≡ asked
      unfolding tick_refusal state_of record_of set_of
      refused-entry_fits e = refused BadTable 11 refl (rw (good, eq-eqb (length reports) st.set.count told, e))

      pub refused-length : (length table ≡ h → ⊥) → ticked_of (state_of st) (Err BadTable) ≡ asked
      unfolding entry_fits
      refused-length n = refused-entry_fits (rw (ne_eqb (length table) (hyper (set_of st.set)) (λ q. n (q ∙ sym period))))

      module _ (long : length table ≡ h) (eights : length st.planned ≡ 8) where
        place-same : record { slot = st.slot; progress = (in_use (state_of st)).planned } ≡ position_of st.set st.slot st.planned
        unfolding in_use state_of record_of position_of progress_of
        place-same = ap (λ ps. record { slot = st.slot; progress = ps }) (rw (eight-same st.planned eights, tasks-are st ok))

        fits-same : entry_fits (set_of st.set) (in_use (state_of st)) table ≡ legal (set_of st.set) (position_of st.set st.slot st.planned) (get_or table st.slot idle)
        unfolding entry_fits in_use state_of
        fits-same = rw (eq-eqb (length table) (hyper (set_of st.set)) (long ∙ period)) (ap (λ x. legal (set_of st.set) x (get_or table st.slot idle)) place-same)

        module _ (g : Bool) (eg : g ≡ legal (set_of st.set) (position_of st.set st.slot st.planned) (get_or table st.slot idle)) where
          pub refused-entry : g ≡ false → ticked_of (state_of st) (Err BadTable) ≡ asked
          refused-entry q = refused-entry_fits (fits-same ∙ sym eg ∙ q)

          module _ (q : g ≡ true) (ps : List ℕ) (eps : ps ≡ array_of (next (set_of st.set) (position_of st.set st.slot st.planned) (get_or table st.slot idle)).progress) where
            planned-is : eight ps ≡ padded 8 0 (next (set_of st.set) (record { slot = st.slot; progress = (in_use (state_of st)).planned }) (get_or table st.slot idle)).progress
            unfolding array_of
            planned-is =
                eight-same ps (onward-length st.set st.slot st.planned (get_or table st.slot idle) eights ps eps) ∙ eps
                ∙ ap (λ x. padded 8 0 (next (set_of st.set) x (get_or table st.slot idle)).progress) (sym place-same)

            reply-is : tick_reply (state_of st) table reports true
                ≡ ticked (tick (set_of st.set) table (in_use (state_of st)) reports).runner (tick (set_of st.set) table (in_use (state_of st)) reports).faults
                (as_record (record_of st.set) (tick (set_of st.set) table (in_use (state_of st)) reports).state)
            unfolding tick_reply ticked_or tick_refusal state_of record_of set_of
            reply-is = rw (good, eq-eqb (length reports) st.set.count told, fits-same ∙ sym eg ∙ q)

            abbrev rules_tick : State → rules.Ticked
            rules_tick st = tick (set_of st.set) table (in_use (state_of st)) reports

            pub accepted : (slot : ℕ) → slot ≡ suc st.slot % h → (js : List Job) → jobs_of js ≡ padded 8 blank_job (rules_tick f.state.now).state.jobs
                → (fs : List (Option Cause)) → faults_of fs ≡ padded 8 0 (rules_tick f.state.now).faults → (r : Option ℕ) → runner_number r ≡ (rules_tick f.state.now).runner
                → ticked_of (state_of st) (Ok (record { runner = r; faults = fs; state = record { set = st.set; slot = slot; planned = ps; jobs = js; last = r } })) ≡ asked
            unfolding ticked_of tick_answer tick state_of as_record in_use
            accepted slot es js xj fs xf r xr = shown ∙ ap (tick_answer (state_of st)) (sym reply-is)
              where
                ej : jobs_of js ≡ padded 8 blank_job (rules_tick st).state.jobs
                ej = rw ef at xj

                et : faults_of fs ≡ padded 8 0 (rules_tick st).faults
                et = rw ef at xf

                er : runner_number r ≡ (rules_tick st).runner
                er = rw ef at xr

                shown : ticked_of (state_of st) (Ok (record { runner = r; faults = fs; state = record { set = st.set; slot = slot; planned = ps; jobs = js; last = r } }))
                    ≡ tick_answer (state_of st) (ticked (tick (set_of st.set) table (in_use (state_of st)) reports).runner (tick (set_of st.set) table (in_use (state_of st)) reports).faults
                    (as_record (record_of st.set) (tick (set_of st.set) table (in_use (state_of st)) reports).state))
                shown = λ i. record { refusal = 0; runner = er i; faults = et i; state = record { set = record_of st.set; slot = (es ∙ ap (λ h. suc st.slot % h) period) i; planned = planned-is i; jobs = ej i; last = er i } }
