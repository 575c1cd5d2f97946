use Rattle.std.proofs.Common.{rules}
use Rattle.player.proofs.Forms.{has-form, period-is}
use Rattle.player.proofs.form.Formed.test.Goals as goal

pub invariant_of-result : goal.invariant_of-result
invariant_of-result c = search (rules, has-form, period-is)
