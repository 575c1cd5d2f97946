use Rattle.std.proofs.Common.{rules, sym, ◌∙◌}
use Rattle.player.proofs.Forms.{tidy-is}
use Rattle.player.proofs.form.is_tidy.Goals as goal

pub returns : goal.returns
returns c = c.all_are.ensures ∙ sym (tidy-is c.args.task.now (search rules) c.fields.result c.fields.ensures)
