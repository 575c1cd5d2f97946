-- `list::fields::field` and `list::fields::gap` read the fields of the words of what is left of a line. Assumes nothing.
use Rattle.std.proofs.Common.{[], ◌∷◌, ◌++◌, get_or, length-append, sym, ◌∙◌, arith}
use Rattle.list.proofs.Reader.{field_put, field_parted, field_bad, field_on, gap_on}
use Rattle.list.proofs.fields.+field_gap.Goals as goal

pub field-returns-in_ok-push-in-len1-up : goal.field-returns-in_ok-push-in-len1-up
field-returns-in_ok-push-in-len1-up t c = λ ws p e b s.
    let a = c.args in
    c.gap.ensures (ws ++ p ∷ []) (c.in_ok-push-in-len1-up.ensures ∙ field_put _ ws p a.digits e b s a.line.now)
    ∙ field_parted _ ws p a.digits e b s a.line.now c.in-len1-up.len_at_least (sym c.parts_fields.ensures ∙ c.if-parts_fields.true)

pub field-returns-in_err-with-in-len1-up-2 : goal.field-returns-in_err-with-in-len1-up-2
field-returns-in_err-with-in-len1-up-2 t c = λ ws p e b s.
    let a = c.args in
    rw c.from_residual-in_err-with-in-len1-up-2.ensures
    (field_bad _ ws p a.digits e b s a.line.now c.in-len1-up.len_at_least (sym c.parts_fields.ensures ∙ c.if-parts_fields.false) (c.in_err-with-in-len1-up-2.ensures p b))

pub field-returns-in_ok-with-in-len1-up-2 : goal.field-returns-in_ok-with-in-len1-up-2
field-returns-in_ok-with-in-len1-up-2 t c = λ ws p e b s.
    let a = c.args in
    c.field.ensures ws (p ++ get_or a.line.now 0 0 ∷ []) e (c.in_ok-with-in-len1-up-2.ensures p b) (omega (arith, length-append p (get_or a.line.now 0 0 ∷ []))) ∙ field_on ws p a.line.now c.in-len1-up.len_at_least

pub gap-returns : goal.gap-returns
gap-returns t c = λ ws e.
    let l = c.args.line.now in
    c.field.ensures ws (get_or l c.in-Some.at 0 ∷ []) e (c.in_ok-digits.ensures [] c.new.ensures) (omega arith) ∙ gap_on ws l c.in-Some.at (sym c.in-Some.ensures)
