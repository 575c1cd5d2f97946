use Rattle.std.proofs.Common.{rules, get_or, append-nil, ap, ◌∷◌, ◌∙◌}
use Rattle.tasks.specs.Views.{no_entry, entry_of, record_of}
use Rattle.player.specs.Bytes.{set_bytes, task_bytes}
use Rattle.player.proofs.Pieces.{got_map, flat_pieces}
use Rattle.player.proofs.codec.set_to_bytes.Goals as goal

pub returns : goal.returns
unfolding set_bytes record_of
returns c =
    let s = c.args.set.now in
    ap (λ l. s.count ∷ l) (append-nil _ ∙ c.copy_from_slice.ensures.after ∙ flat_pieces task_bytes _ _ _ (got_map task_bytes (λ k. entry_of (get_or s.tasks k no_entry)) 8 c.loop-i.i c.loop-i.held c.loop-i.invariant (search rules)) c.as_flattened.ensures.value)
