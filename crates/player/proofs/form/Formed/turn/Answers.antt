-- A state of the form has a job of its form for each task.
use Rattle.player.proofs.InForm.{job-formed, plan-anew, turn-is}
use Rattle.player.proofs.form.Formed.turn.Goals as goal

pub invariant_of-result : goal.invariant_of-result
invariant_of-result c =
    let x = c.args.self.now in
    let i = c.args.i in
    record { formed = rw (c.ran.ensures) (job-formed x.state.now x.formed i c.requires.used); anew = plan-anew x.state.now x.formed i c.requires.used }

pub returns : goal.returns
returns c report =
    let x = c.args.self.now in
    let i = c.args.i in
    rw (c.ran.ensures, c.from.ensures) (turn-is x.state.now x.formed c.args.entry i report c.requires.used)
