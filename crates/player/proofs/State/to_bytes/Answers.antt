use Rattle.std.proofs.Common.{arith, ap, ◌∙◌, set, replicate}
use Rattle.std.proofs.lemmas.List.Edits.{sets}
use Rattle.player.specs.Views.{state_of}
use Rattle.player.specs.Bytes.{pair, job_bytes}
use Rattle.player.proofs.Codes.{stored, struct-arrays, last_byte}
use Rattle.player.proofs.Pieces.{number_held, flat_pieces}
use Rattle.player.proofs.State.to_bytes.Goals as goal

pub returns : goal.returns
unfolding state_of
returns c =
    let st = c.args.self.now in
    let slot = number_held st.slot _ (omega arith) c.to_le_bytes.ensures in
    let planned = flat_pieces pair _ _ _ c.planned_to_bytes.ensures c.as_flattened.ensures.value in
    let jobs = flat_pieces job_bytes _ _ _ c.jobs_to_bytes.ensures c.as_flattened-2.ensures.value in
    ap (set c.put-4.new.out 139) (c.unwrap_or.ensures ∙ last_byte st.last)
    ∙ stored (replicate 140 0) _ _ _ _ (state_of st) (struct-arrays st) (omega arith) (c.put.ensures ∙ ap (sets (replicate 140 0) 0) c.set_to_bytes.ensures) (c.put-2.ensures ∙ ap (sets _ 97) slot) (c.put-3.ensures ∙ ap (sets _ 99) planned) (c.put-4.ensures ∙ ap (sets _ 115) jobs)
