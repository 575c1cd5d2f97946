use native.Mathlib.Omega.{arith}
use Rattle.tasks.proofs.Refusals.{units-any}
use mathlib.Core.Path.{ap, ◌∙◌}
use mathlib.Core.Bool.{not}
use Rattle.tasks.proofs.set.all_given.Goals as goal

pub returns : goal.returns
returns c = ap not c.contains.ensures.value ∙ units-any c.args.units.now (λ i. omega (arith, c.type_inv.units i))
