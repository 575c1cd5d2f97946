-- Each refusal is that of the rules, and so is what an accepted tick gives.
use mathlib.Core.Path.{◌≡◌, refl, ◌∙◌, sym}
use native.Mathlib.Omega.{arith}
use borrow.Author.Rules.{rules}
use lib.ListN.{length}
use Rattle.player.proofs.Ticks.{refused-form, slot-in, refused-reports, refused-length, refused-entry, accepted}
use Rattle.player.proofs.Views.{passed_on}
use Rattle.player.proofs.State.follow.Goals as goal

pub returns-in_err-formed : goal.returns-in_err-formed
returns-in_err-formed c = rw (passed_on c.from_residual.result c.in_err-formed.field-0.0 c.from_residual.ensures.1, c.in_err-formed.ensures.0) (record { reply = refused-form _ _ _ c.in_err-formed.ensures.1; kept = refl; task = tt })

pub returns-then-reports-from : goal.returns-then-reports-from
returns-then-reports-from c = record { reply = refused-reports _ _ _ c.in_ok-formed.formed c.in_ok-formed.ensures.0 (λ e. c.if-reports-from.true (e ∙ sym c.from.ensures)); kept = refl; task = tt }

pub returns-then-table-from : goal.returns-then-table-from
returns-then-table-from c = record { reply = refused-length _ _ _ c.in_ok-formed.formed c.in_ok-formed.ensures.0 (c.if-reports-from.false ∙ c.from.ensures) (λ e. c.if-table-from.true (e ∙ sym c.from-2.ensures)); kept = refl; task = tt }

pub returns-then-not-legal : goal.returns-then-not-legal
returns-then-not-legal c =
    let long : length c.args.self.now.planned ≡ 8 = search rules in
    let leads = rw (c.entry_at.ensures) at c.in_ok-formed.ensures.1.leads in
    record { reply = refused-entry _ _ _ c.in_ok-formed.formed c.in_ok-formed.ensures.0 (c.if-reports-from.false ∙ c.from.ensures) (c.if-table-from.false ∙ c.from-2.ensures) long _ leads c.if-not-legal.true; kept = refl; task = tt }

pub slot_after-slot-requires : goal.slot_after-slot-requires
slot_after-slot-requires c = slot-in c.args.self.now c.args.table.now c.args.reports.now c.in_ok-formed.formed c.in_ok-formed.ensures.0

pub returns : goal.returns
returns c =
    let long : length c.args.self.now.planned ≡ 8 = search rules in
    let leads = rw (c.entry_at.ensures) at c.in_ok-formed.ensures.1.leads in
    let lands = rw (c.entry_at.ensures) at c.in_ok-formed.ensures.1.lands in
    record {
      reply = accepted _ _ _ c.in_ok-formed.formed c.in_ok-formed.ensures.0 (c.if-reports-from.false ∙ c.from.ensures) (c.if-table-from.false ∙ c.from-2.ensures) long _ leads c.if-not-legal.false _ lands
          _ c.slot_after-slot.ensures _ c.turns-runner.ensures.jobs _ c.turns-runner.ensures.faults _ c.turns-runner.ensures.runner;
      kept = tt;
      task = (c.turns-runner.ensures.task, refl);
    }
