-- What is read is the input, or so much of it that the rest changes nothing.
use Rattle.plan.proofs.Told.{plan-all, said-all}
use Rattle.plan.proofs.run.Goals as goal

pub returns-clause-plan : goal.returns-clause-plan
returns-clause-plan g c = plan-all c.write_explanation.result _ _ _ _ c.read_full.auto.buffer c.in_ok-n.ensures.read c.in_ok-write_plan.ensures

pub returns-clause-said : goal.returns-clause-said
returns-clause-said g c = said-all c.write_explanation.result _ _ _ _ c.read_full.auto.buffer c.in_ok-n.ensures.read c.write_explanation.ensures
