use Rattle.std.proofs.Common.{rules, ◌≡◌, true, false, sym, refl, ◌∙◌, arith, ◌+◌, ◌&&◌}
use Rattle.rules.specs.Positions.{passed}
use Rattle.tasks.specs.Views.{no_entry}
use Rattle.tasks.proofs.Positions.{in_use-length, in_use-at}
use Rattle.tasks.proofs.Slotwise.{through-start, through-step, through-end}
use Rattle.player.specs.Views.{state_of}
use Rattle.player.specs.Forms.{tasks_fit, Leads}
use Rattle.player.proofs.Forms.{fits}
use Rattle.player.proofs.form.look.Goals as goal
use Rattle.player.proofs.form.look.Goals.{then-legal, else-legal}

pub loop-i-init : goal.loop-i-init
loop-i-init c = (refl, search (rules, through-start))

pub loop-i-preserved : goal.loop-i-preserved
unfolding passed
loop-i-preserved c =
    let l = in_use-length _ _ c.used-task-items.ensures.tasks in
    let same = in_use-at _ _ c.used-task-items.ensures.tasks c.loop-i.i no_entry c.loop-i-test.true in
    let fit : tasks_fit (state_of c.args.state.now) (c.loop-i.i + 1) ≡ tasks_fit (state_of c.args.state.now) c.loop-i.i = search (rules, fits) in
    let a : c.if-legal.legal ≡ c.loop-i.legal && c.pass-passed.result.well = elim c.if-legal.branch [ then-legal w ↦ rw w.if-legal.true w.legal-is | else-legal w ↦ rw w.if-legal.false (w.legal-is ∙ w.if-legal.false) ] in (
      fit ∙ c.loop-i.invariant.0,
      through-step _ _ _ _ _ _ _ _ _ _ c.loop-i.invariant.1 (omega arith) (c.pass-passed.ensures.ending ∙ rw (c.from.ensures, c.from-timed.ensures, same) refl) (c.pass-passed.ensures.on ∙ rw (c.from.ensures, c.from-timed.ensures, same) refl) a,
    )

pub returns-then-not-task_fits : goal.returns-then-not-task_fits
returns-then-not-task_fits c =
    let off : tasks_fit (state_of c.args.state.now) c.loop-i.i ≡ false = search (rules, fits) in
    sym c.loop-i.invariant.0 ∙ off

pub returns : goal.returns
returns c =
    let l = in_use-length _ _ c.used-task-items.ensures.tasks in
    let t = through-end _ _ _ _ _ _ _ c.loop-i.invariant.1 (omega arith) in
    let fit : tasks_fit (state_of c.args.state.now) 0 ≡ true = search (rules, fits) in
    (fit, record { leads = t.0; lands = t.1 })
