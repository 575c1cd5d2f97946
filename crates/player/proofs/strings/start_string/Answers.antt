-- Each answer of a start is that of the rules, and so is the buffer.
use mathlib.Core.Path.{refl, ap, ◌∙◌}
use native.Mathlib.Omega.{arith}
use Rattle.std.specs.Prelude.{Ok, Err}
use Rattle.player.specs.Bytes.{set_at}
use Rattle.player.proofs.Calls.{start-length, start-refused, start-short, start-done}
use Rattle.player.proofs.Views.{passed_on}
use Rattle.player.proofs.strings.start_string.Goals as goal

pub returns-in_default : goal.returns-in_default
returns-in_default c = let x = start-length c.args.set.now c.args.table.now c.args.state.now c.in_default.ensures.1 in record { number = x.number; buffer = x.buffer }

pub returns-in_err-fresh : goal.returns-in_err-fresh
returns-in_err-fresh c =
    let why = c.in_err-fresh.field-0.0 in
    let x = start-refused _ _ c.args.state.now c.in-Ok.ensures.1.long _ (c.set_from_bytes.ensures ∙ ap set_at c.in-Ok.ensures.1.same) (Err why) c.in_err-fresh.ensures.reply why refl in
    record { number = rw (passed_on _ _ c.from_residual.ensures.1) x.number; buffer = x.buffer }

pub returns-then-state-lt-STATE_SIZE : goal.returns-then-state-lt-STATE_SIZE
returns-then-state-lt-STATE_SIZE c =
    let x = start-short _ _ _ c.in-Ok.ensures.1.long _ (c.set_from_bytes.ensures ∙ ap set_at c.in-Ok.ensures.1.same) (Ok c.in_ok-fresh.fresh) c.in_ok-fresh.ensures.reply c.in_ok-fresh.fresh refl (omega arith) in
    record { number = x.number; buffer = x.buffer }

pub returns : goal.returns
returns c =
    let x = start-done _ _ _ c.in-Ok.ensures.1.long _ (c.set_from_bytes.ensures ∙ ap set_at c.in-Ok.ensures.1.same) (Ok c.in_ok-fresh.fresh) c.in_ok-fresh.ensures.reply c.in_ok-fresh.fresh refl _ (omega arith) c.put_state.ensures in
    record { number = x.number; buffer = x.buffer }
