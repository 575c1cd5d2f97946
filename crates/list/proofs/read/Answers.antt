-- `list::read` is the reading of the list. Assumes nothing.
use Rattle.std.proofs.Common.{◌≡◌, ◌<◌, ℕ, Bool, true, false, sym, ◌∙◌, arith}
use Rattle.std.specs.Prelude.{◌==◌}
use Rattle.std.proofs.lemmas.Bool.Decides.{nat_tests}
use Rattle.list.specs.Reading.{reply_of, refused_line}
use Rattle.list.proofs.ByLines.{list_ends, line_stops, line_shown, line_passes, reply_passed, text_passed}
use Rattle.list.proofs.read.Goals as goal

-- what `is_empty` says
some : {b : Bool} {n : ℕ} → b ≡ (n == 0) → b ≡ false → 0 < n
some e h = grind (arith, nat_tests)

none : {b : Bool} {n : ℕ} → b ≡ (n == 0) → b ≡ true → n ≡ 0
none e h = grind (arith, nat_tests)

pub returns-in-Err-clause-reply : goal.returns-in-Err-clause-reply
unfolding reply_of refused_line
returns-in-Err-clause-reply c =
    let p = c.loop-rest.invariant in
    sym (line_stops c.args.list.now c.loop-rest.set c.loop-rest.line c.loop-rest.rest.now p _ _ c.first_line.ensures (some c.is_empty.ensures c.loop-rest-test.true) c.in-Err.why (c.in-Err.ensures.refused p.tasks p.holds))

pub returns-in-Err-clause-text : goal.returns-in-Err-clause-text
returns-in-Err-clause-text c =
    let p = c.loop-rest.invariant in
    line_shown c.args.list.now c.loop-rest.set c.loop-rest.line c.loop-rest.rest.now p _ _ c.first_line.ensures (some c.is_empty.ensures c.loop-rest-test.true) c.in-Err.why (c.in-Err.ensures.refused p.tasks p.holds)

pub loop-rest-preserved : goal.loop-rest-preserved
loop-rest-preserved c =
    let p = c.loop-rest.invariant in
    let g = c.in_default.ensures.good p.tasks p.holds in
    line_passes c.args.list.now c.loop-rest.set c.loop-rest.line c.loop-rest.rest.now p _ _ c.first_line.ensures (some c.is_empty.ensures c.loop-rest-test.true) c.after_line.new.set g.0 g.1

pub returns-in_err-finish-clause-reply : goal.returns-in_err-finish-clause-reply
returns-in_err-finish-clause-reply c =
    let p = c.loop-rest.invariant in
    reply_passed c.args.list.now c.from_residual.result c.in_err-finish.field-0.0 c.from_residual.ensures.1
    (list_ends c.args.list.now c.loop-rest.set c.loop-rest.line c.loop-rest.rest.now p (none c.is_empty.ensures c.loop-rest-test.false) ∙ c.in_err-finish.ensures.refused p.tasks p.holds)

pub returns-in_err-finish-clause-text : goal.returns-in_err-finish-clause-text
returns-in_err-finish-clause-text c =
    let p = c.loop-rest.invariant in
    text_passed c.args.list.now c.from_residual.result c.in_err-finish.field-0.0 c.from_residual.ensures.1
    (list_ends c.args.list.now c.loop-rest.set c.loop-rest.line c.loop-rest.rest.now p (none c.is_empty.ensures c.loop-rest-test.false) ∙ c.in_err-finish.ensures.refused p.tasks p.holds)

pub returns-clause-reply : goal.returns-clause-reply
returns-clause-reply c =
    let p = c.loop-rest.invariant in
    sym (c.in_ok-finish.ensures.good p.tasks p.holds) ∙ sym (list_ends c.args.list.now c.loop-rest.set c.loop-rest.line c.loop-rest.rest.now p (none c.is_empty.ensures c.loop-rest-test.false))
