-- `list::line::pattern_of` is the units as bytes. Assumes nothing.
use Rattle.std.proofs.Common.{◌≤◌, get_or, refl, arith}
use borrow.Author.Count.{below_more}
use Rattle.rules.specs.Lists.{padded}
use Rattle.list.proofs.Pattern.{units_good, units_bad, unit_store, byte_is, byte_not}
use Rattle.list.proofs.line.pattern_of.Goals as goal

pub loop-i-init : goal.loop-i-init
unfolding padded
loop-i-init c = record { bytes = λ k h. absurd (omega arith); stored = refl }

pub returns-in_err-pattern : goal.returns-in_err-pattern
returns-in_err-pattern c =
    rw c.from_residual.ensures (units_bad c.args.units.now c.loop-i.i (omega arith) (byte_not c.try_from.result _ c.try_from.ensures c.in_err-pattern.ensures.value))

pub loop-i-preserved : goal.loop-i-preserved
loop-i-preserved c =
    let e = byte_is c.try_from.result _ c.in_ok-pattern.field-0 c.try_from.ensures c.in_ok-pattern.ensures.value in
    record {
      bytes = below_more (λ k. get_or c.args.units.now k 0 ≤ 255) c.loop-i.i c.loop-i.invariant.bytes (omega arith);
      stored = rw (← e.1) (unit_store c.args.units.now c.loop-i.i c.loop-i.pattern (omega arith) (omega arith) c.loop-i.invariant.stored);
    }

pub returns : goal.returns
returns c = units_good c.args.units.now c.loop-i.i c.loop-i.pattern (omega arith) c.loop-i.invariant.bytes c.loop-i.invariant.stored
