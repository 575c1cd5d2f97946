-- `kiluvsaat_slots` is the hyper-period of a set on byte strings.
use Rattle.std.proofs.Common.{sym, ap, ◌∙◌}
use Rattle.player.specs.Bytes.{set_at}
use Rattle.kiluvsaat.proofs.Planned.{slots-is}
use Rattle.kiluvsaat.proofs.prepare.kiluvsaat_slots.Goals as goal

pub returns-in-Some : goal.returns-in-Some
returns-in-Some c = c.unwrap_or.ensures ∙ sym (slots-is _ c.in-Some.ensures.cases.long _ (c.set_from_bytes.ensures ∙ ap set_at c.in-Some.ensures.cases.same) _ c.admit.ensures.admitted c.admit.ensures.refused)
