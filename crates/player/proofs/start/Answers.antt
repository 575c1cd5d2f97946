-- A refused set is passed on, and a table is a schedule or not.
use mathlib.Core.Path.{◌∙◌, sym}
use Rattle.player.proofs.Starts.{refused-set, refused-length, refused-table, accepted}
use Rattle.player.proofs.Views.{passed_on}
use Rattle.player.proofs.start.Goals as goal
use Rattle.player.proofs.start.Goals.{then-table-from-via-then-table-from, then-table-from-via-else-table-from+then-not-is_live}

pub returns-in_err-hyper : goal.returns-in_err-hyper
returns-in_err-hyper c = rw (passed_on c.from_residual.result c.in_err-hyper.field-0.0 c.from_residual.ensures.1) (record { reply = refused-set c.args.set.now c.args.table.now c.in_err-hyper.field-0.0 c.in_err-hyper.ensures.refused; nobody = tt })

pub returns-then-table-from : goal.returns-then-table-from
returns-then-table-from c =
    let s = c.args.set.now in
    let t = c.args.table.now in
    let k = c.in_ok-hyper.ensures.admitted in
    elim c.then-table-from.branch [
      | then-table-from-via-then-table-from w ↦ record { reply = refused-length s t k.0 c.in_ok-hyper.hyper k.1 (λ e. w.if-table-from.true (e ∙ sym c.from.ensures)); nobody = tt }
      | then-table-from-via-else-table-from+then-not-is_live w ↦ record { reply = refused-table s t k.0 c.in_ok-hyper.hyper k.1 (w.if-table-from.false ∙ c.from.ensures) w.is_live.result w.is_live.ensures w.if-not-is_live.true; nobody = tt }
    ]

pub returns : goal.returns
returns c =
    let k = c.in_ok-hyper.ensures.admitted in
    record { reply = accepted c.args.set.now c.args.table.now k.0 c.in_ok-hyper.hyper k.1 (c.if-table-from.false ∙ c.from.ensures) c.is_live.result c.is_live.ensures c.if-not-is_live.false c.fresh_state.result c.fresh_state.ensures.begun; nobody = c.fresh_state.ensures.nobody }
