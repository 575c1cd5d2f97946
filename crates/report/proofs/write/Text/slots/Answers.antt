-- One line more, until no slot is left.
use borrow.Author.Rules.{rules}
use mathlib.Core.Path.{sym, ap, ◌∙◌}
use mathlib.Core.List.{[], ◌∷◌, ◌++◌, append_assoc, append-nil}
use Rattle.std.specs.Prelude.{map}
use Rattle.report.specs.Texts.{slot_byte, slot_lines}
use Rattle.report.proofs.Adds.{adds-more, adds-none}
use Rattle.report.proofs.Slots.{choices-behind, lines-next, lines-none}
use Rattle.report.proofs.write.Text.slots.Goals as goal

pub loop-line-init : goal.loop-line-init
loop-line-init c = rw (c.into_iter-line-iterator.ensures.into_iter_gives) record {
  size = c.chunks-line-items.ensures.size;
  choices = search rules;
  done = [];
  adds = adds-none _;
  rest = ap (slot_lines 0) (sym c.chunks-line-items.ensures.rest);
}

pub loop-line-preserved : goal.loop-line-preserved
loop-line-preserved c =
    let I = c.loop-line.invariant in let s = c.in-Some.ensures.steps in
    record {
      size = s.0 ∙ I.size;
      choices = choices-behind c.in-Some.line.now c.next.new.self.rest.now (rw (s.1.0) at I.choices);
      done = I.done ++ (map slot_byte c.in-Some.line.now ++ 10 ∷ []);
      adds = adds-more _ _ I.adds c.slot_line.ensures;
      rest = I.rest
          ∙ ap (λ l. I.done ++ slot_lines 0 l) s.1.0
          ∙ ap (λ l. I.done ++ l) (lines-next c.in-Some.line.now c.next.new.self.rest.now (rw (I.size, s.1.0) at s.1.1) (rw (s.1.0) at s.1.2))
          ∙ sym (append_assoc I.done (map slot_byte c.in-Some.line.now ++ 10 ∷ []) (slot_lines 0 c.next.new.self.rest.now));
    }

pub returns : goal.returns
returns c =
    let I = c.loop-line.invariant in
    rw (I.rest, lines-none _ c.in-None.ensures.steps.1.0, append-nil I.done) I.adds
