-- What one read more gives stands behind the rest.
use borrow.Author.Rules.{rules}
use Rattle.std.proofs.KnownBytes.{Consumes-trans}
use Rattle.vectors.proofs.Buffers.{take-read}
use Rattle.vectors.proofs.read_full.Goals as goal

pub loop-size-preserved : goal.loop-size-preserved
loop-size-preserved g c =
    let I = c.loop-size.invariant in
    record {
      within = search rules;
      bytes = rw (take-read _ _ _ _ _ I.within c.in_ok-n.ensures.bound.0) (Consumes-trans _ _ _ _ _ I.bytes c.in_ok-n.ensures.bytes.0);
    }
