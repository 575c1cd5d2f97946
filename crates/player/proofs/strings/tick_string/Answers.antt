-- Each answer of a tick is that of the rules, and so are the buffers.
use mathlib.Core.Path.{◌≡◌, refl, ap}
use borrow.Author.Rules.{rules}
use mathlib.Core.List.{◌++◌}
use lib.ListN.{length, drop}
use Rattle.std.specs.Prelude.{Ok, Err}
use Rattle.tasks.proofs.Positions.{in_use-length}
use Rattle.player.specs.declared.State.{State}
use Rattle.player.specs.declared.Ticked.{Ticked}
use Rattle.player.specs.declared.Told.{Told}
use Rattle.player.proofs.Calls.{tick-unread, tick-refused, tick-short, tick-narrow, tick-done}
use Rattle.player.proofs.Views.{passed_on}
use Rattle.player.proofs.strings.tick_string.Goals as goal
use Rattle.player.proofs.strings.tick_string.Goals.{then-next-lt-STATE_SIZE-via-then-next-lt-STATE_SIZE, then-next-lt-STATE_SIZE-via-else-next-lt-STATE_SIZE+then-faults-n}

-- what a tick told, with the state that it left
abbrev left : Told → State → Ticked
left told after = record { runner = told.runner; faults = told.faults; state = after }

pub returns-in_default : goal.returns-in_default
returns-in_default c =
    let x = tick-unread c.args.state.now c.args.table.now c.args.reports.now c.args.next.now c.args.faults.now (λ e. absurd (cc (c.in_default.ensures.readable.1 e))) in
    record { number = x.number; buffer = x.buffer; shown = x.shows; task = tt }

pub returns-in_err-told : goal.returns-in_err-told
returns-in_err-told c =
    let why = c.in_err-told.field-0.0 in
    let x = tick-refused _ _ _ c.args.next.now c.args.faults.now (c.in-Some.ensures.readable.0 refl) _ c.in-Some.ensures.value (Err why) c.in_err-told.ensures.reply why refl in
    rw (passed_on _ _ c.from_residual.ensures.1) (record { number = x.number; buffer = x.buffer; shown = x.shows; task = tt })

pub returns-then-next-lt-STATE_SIZE : goal.returns-then-next-lt-STATE_SIZE
returns-then-next-lt-STATE_SIZE c =
    let t = left c.in_ok-told.told c.follow.new.self in
    let read = c.in-Some.ensures.readable.0 refl in
    elim c.then-next-lt-STATE_SIZE.branch [
      | then-next-lt-STATE_SIZE-via-then-next-lt-STATE_SIZE w ↦
          let x = tick-short _ _ _ c.args.next.now c.args.faults.now read _ c.in-Some.ensures.value (Ok t) c.in_ok-told.ensures.reply t refl _ (in_use-length _ _ c.used-n.ensures.tasks) w.if-next-lt-STATE_SIZE.true in
          record { number = x.number; buffer = x.buffer; shown = x.shows; task = tt }
      | then-next-lt-STATE_SIZE-via-else-next-lt-STATE_SIZE+then-faults-n w ↦
          let x = tick-narrow _ _ _ c.args.next.now c.args.faults.now read _ c.in-Some.ensures.value (Ok t) c.in_ok-told.ensures.reply t refl _ (in_use-length _ _ c.used-n.ensures.tasks) w.if-next-lt-STATE_SIZE.false w.if-faults-n.true in
          record { number = x.number; buffer = x.buffer; shown = x.shows; task = tt }
    ]

pub returns : goal.returns
returns c =
    let long : length c.fault_bytes-shown.result ≡ 8 = search rules in
    let n = length c.used-n.result.now in
    let x = tick-done _ _ _ c.args.next.now c.args.faults.now (c.in-Some.ensures.readable.0 refl) _ c.in-Some.ensures.value (Ok (left c.in_ok-told.told c.follow.new.self)) c.in_ok-told.ensures.reply _ refl n (in_use-length _ _ c.used-n.ensures.tasks)
    c.fault_bytes-shown.result long c.fault_bytes-shown.ensures _ _ c.if-next-lt-STATE_SIZE.false c.if-faults-n.false c.put_state.ensures (ap (λ l. l ++ drop n c.args.faults.now) c.copy_from_slice.ensures.after) in
    record { number = x.number; buffer = x.buffer; shown = x.shows; task = c.in_ok-told.ensures.task.0 }
