use Rattle.tasks.proofs.Multiple.{joined-kept}
use Rattle.tasks.proofs.set.joined.Goals as goal

pub returns : goal.returns
returns c = joined-kept _ _ _ _ c.in_ok-behind.was c.multiple.ensures
